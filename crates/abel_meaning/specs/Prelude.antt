-- The words of the crates below that the clauses of this crate are said in, passed on from one place. Declares nothing.
pub use Rattle.std.specs.List.{list_all, list_any, range_with_len, slice_split}
pub use Rattle.std.specs.Option.{option_map}
pub use Rattle.abel_tree.specs.Assigned.{Assigned, is_assigned, is_clocked, is_clocked_target, named_of, sections_assign, target_extension, without_extension}
pub use Rattle.abel_tree.specs.Entries.{AConstant, ADeviceName, ANode, APin, Entry, Kind, Words, follows_q, is_signal, is_stored}
pub use Rattle.abel_tree.specs.Extensions.{is_data, is_raw}
pub use Rattle.abel_tree.specs.Ranges.{item_names, numbers_of, range_names}
pub use Rattle.abel_tree.specs.Tree.{ABinary, ABranch, ACase, ADevice, ADiagram, ADontCare, AGoal, AGroup, AName, ANumber, AParen, ASet, ASpecial, ATable}
pub use Rattle.abel_tree.specs.Tree.{AUnary, AWhen, AnAssign, AnElse, AnIf, Branch, Choices, Declaration, Declarations, DontCareFor, DontCareSection, Equations}
pub use Rattle.abel_tree.specs.Tree.{Members, ModuleTree, MoreChoices, MoreMembers, MoreStatements, NoBranch, NoChoice, NoElse, NoMember, NoStatement}
pub use Rattle.abel_tree.specs.Tree.{OneMember, OtherBranch, Otherwise, RowTree, SectionTree, SetMember, SomeAttributes, SomeConstants, SomeNodes, SomeOptions}
pub use Rattle.abel_tree.specs.Tree.{SomePins, SomeVectors, SpanMember, StateTree, Statement, Statements, Tree, statements_of}
pub use Rattle.abel_tree.specs.declared.words.Binary.{Binary}
pub use Rattle.abel_tree.specs.declared.words.Extension.{Extension}
pub use Rattle.abel_tree.specs.declared.words.Unary.{Unary}
pub use Rattle.bit_expr.specs.Arena.{formula_at}
unfoldable pub use Rattle.bit_expr.specs.Arena.{arena}
pub use Rattle.bit_expr.specs.Folding.{Made, free, fresh, ◌>>=◌}
unfoldable pub use Rattle.bit_expr.specs.Folding.{make_and, make_not, make_or, make_xor}
pub use Rattle.bit_expr.specs.Formulas.{Const, Formula, Read, differ, formula_value, leaf_value, names}
pub use Rattle.bit_expr.specs.declared.netlist.CellWanted.{CellWanted}
pub use Rattle.bit_expr.specs.declared.netlist.Control.{Control}
pub use Rattle.bit_expr.specs.declared.netlist.Function.{Function, Function as IdFunction}
pub use Rattle.bit_expr.specs.declared.netlist.Netlist.{Netlist}
pub use Rattle.bit_expr.specs.declared.node.Leaf.{Leaf}
pub use Rattle.pld_base.specs.Bits.{is_on, same_level}
pub use Rattle.pld_base.specs.Logic.{Logic}
pub use Rattle.pld_base.specs.Points.{Levels}
pub use Rattle.pld_device.specs.Macrocells.{complement_if}
pub use Rattle.pld_device.specs.Pins.{IsPairOf, carries_cell, cell_on, is_read_pin, pair_pins}
pub use Rattle.pld_device.specs.Table.{Table, cell_at}
pub use Rattle.pld_device.specs.declared.enable.Enable.{Enable}
pub use Rattle.pld_device.specs.declared.enable.Enable.TheVariants.{PinLow, Driven, Released, Row}
pub use Rattle.pld_device.specs.declared.flip.Flip.TheVariants.{AfterRegister, Always, BeforeRegister}
pub use Rattle.pld_device.specs.declared.kinds.Kinds.{Kinds}
pub use Rattle.pld_device.specs.declared.kinds.Kinds.TheVariants.{Combinational, Either, Registered}
pub use Rattle.pld_machine.specs.Comparison.{NodeValues}
pub use Rattle.pld_order.specs.Graphs.{HasNoLoop, HasNoPath, IsLeastLoop, IsPath}
