-- The words of the crates below that the clauses of this crate are said in, passed on from one place. Declares nothing.
pub use Rattle.std.specs.Fmt.{decimal}
pub use Rattle.std.specs.List.{AllByRecursion, list_all, list_any, range_with_len}
pub use Rattle.abel_lexer.specs.Kinds.{fault_of, value_of}
pub use Rattle.abel_lexer.specs.Scans.{IsTokensOf, first_place, place_past}
pub use Rattle.abel_lexer.specs.declared.token.TokenKind.{TokenKind}
pub use Rattle.abel_meaning.specs.Designs.{Context}
pub use Rattle.abel_meaning.specs.FormulaBits.{formulas}
pub use Rattle.abel_meaning.specs.Terms.{Known, Read, Read as ReadTerm, known_after, term_named, term_of}
pub use Rattle.abel_tree.specs.Tree.{ABinary, ADevice, AName, ANumber, AUnary, AnAssign, Declaration, Equations, ModuleTree, SomePins, Statement, Tree}
pub use Rattle.abel_tree.specs.Tree.{statements_of}
pub use Rattle.abel_tree.specs.declared.words.Extension.{Extension}
pub use Rattle.bit_expr.specs.Formulas.{Const, Formula, Not, formula_value}
pub use Rattle.bit_expr.specs.declared.node.Leaf.{Leaf}
pub use Rattle.pld_base.specs.DeviceNames.{device_text}
pub use Rattle.pld_base.specs.Points.{Levels}
pub use Rattle.pld_base.specs.declared.place.Place.{Place}
pub use Rattle.pld_device.specs.Laws.{IsDevice}
pub use Rattle.pld_device.specs.Macrocells.{complement_if, data_complements, data_rows, device_logic, or_value, pin_complements}
pub use Rattle.pld_device.specs.Reads.{is_never_true, row_reads}
pub use Rattle.pld_device.specs.Registers.{is_inverted, stores}
pub use Rattle.pld_device.specs.Rows.{carried, row_fuses, row_value}
pub use Rattle.pld_device.specs.Table.{Table, cell_at}
pub use Rattle.pld_device.specs.declared.carry.Carry.{Carry}
pub use Rattle.pld_device.specs.declared.enable.Enable.{Enable}
pub use Rattle.pld_device.specs.declared.enable.Enable.TheVariants.{PinLow, Driven, Released, Row}
pub use Rattle.pld_machine.specs.Comparison.{HasNoDontCare}
