-- The words of the crates below that the clauses of this crate are said in, passed on from one place. Declares nothing.
pub use Rattle.std.specs.List.{AllByRecursion, list_any, range_with_len}
pub use Rattle.abel_meaning.specs.Designs.{design_of}
pub use Rattle.abel_meaning.specs.Models.{model_named}
pub use Rattle.abel_tree.specs.Tree.{ModuleTree}
pub use Rattle.bit_expr.specs.Arena.{formula_at}
unfoldable pub use Rattle.bit_expr.specs.Arena.{arena}
pub use Rattle.bit_expr.specs.Formulas.{And, Const, Formula, Not, Or, Read, Xor}
pub use Rattle.bit_expr.specs.declared.netlist.Netlist.{Netlist}
pub use Rattle.bit_expr.specs.declared.node.Leaf.{Leaf}
pub use Rattle.compile_phases.specs.Fits.{FitsAsWritten, HasRoom}
pub use Rattle.compile_phases.specs.SourceRefusals.{IsAcceptedFor, IsNetlistOf, IsReadFor}
pub use Rattle.decompiled.specs.SourceTrees.{IsSourceTree}
pub use Rattle.decompiled.specs.Sources.{cell_lines, control_products, data_line, decompiled_text, enable_lines, first_register, has_lines, is_complement}
pub use Rattle.decompiled.specs.Sources.{is_register_on, lines_of, named, named_by, names_pin, pin_line, product_names, product_of, register_on, shared_lines}
pub use Rattle.decompiled.specs.Sources.{SparesPowerDown, source_of}
pub use Rattle.decompiled.specs.declared.literal.PinLiteral.{PinLiteral}
pub use Rattle.device_logic.specs.Array.{CarryInRange, is_live}
pub use Rattle.device_logic.specs.CellReads.{cell_reads}
pub use Rattle.device_logic.specs.ResetPaths.{HasNoResetPath}
pub use Rattle.devices.specs.Models.{table_at}
pub use Rattle.module_reader.specs.Texts.{IsRead, SpellsModule}
pub use Rattle.netlist_laws.specs.Takeable.{IsTakeable}
pub use Rattle.placer.specs.Placements.{IsPlacedModule}
pub use Rattle.pld_base.specs.Bits.{is_on, same_level}
pub use Rattle.pld_base.specs.declared.device_name.DeviceName.{DeviceName}
pub use Rattle.pld_base.specs.declared.model.Model.{Model}
pub use Rattle.pld_device.specs.Laws.{IsDevice}
pub use Rattle.pld_device.specs.Macrocells.{data_complements, device_logic, pin_complements}
pub use Rattle.pld_device.specs.Table.{Table, cell_at}
pub use Rattle.pld_order.specs.Graphs.{HasNoLoop}
pub use Rattle.set_expr.specs.declared.contributions.Contributions.{Contributions}
pub use Rattle.sop_lowering.specs.Written.{written}
pub use Rattle.source_sections.specs.SectionAnswers.{AreContributed}
