-- The words of the crates below that the clauses of this crate are said in, passed on from one place. Declares nothing.
pub use Rattle.std.specs.Int.Bits.{bit_or}
pub use Rattle.std.specs.List.{flat_map, list_any, range_with_len}
pub use Rattle.abel_meaning.specs.Declarations.{GivenName, are_numbered, given_names, is_unnumbered}
pub use Rattle.abel_meaning.specs.Designs.{Design, no_name}
pub use Rattle.abel_meaning.specs.Kinds.{is_buffer_by_default, names_of}
pub use Rattle.abel_tree.specs.Assigned.{Named, meant, named_of, signals_of, signals_of_name, signals_of_names, target_extension, without_extension}
pub use Rattle.abel_tree.specs.Entries.{AConstant, ADeviceName, ANode, APin, Entry, Kind, entries_of, has_bit, is_stored, kind_of, names_any, view_declared}
pub use Rattle.abel_tree.specs.Entries.{view_meaning}
pub use Rattle.abel_tree.specs.Tree.{ADiagram, AName, ANumber, AnAssign, Declaration, Declarations, Equations, ModuleTree, SectionTree, SomeAttributes}
pub use Rattle.abel_tree.specs.Tree.{SomeNodes, SomePins, Statement, Tree}
pub use Rattle.abel_tree.specs.View.{view, view_decl, view_module, view_section, view_stmt}
pub use Rattle.abel_tree.specs.declared.words.Item.{Item}
pub use Rattle.decls.specs.NameRefusals.{name_refusals}
pub use Rattle.abel_meaning.specs.SignalPins.{is_taken, is_signal_pin, has_wrong_kind, has_wrong_kind_on, is_registered_node, has_read_path, has_read_path_on}
pub use Rattle.abel_meaning.specs.Controls.{is_on_pin}
pub use Rattle.decls.specs.Shown.{view_given}
pub use Rattle.name_uses.specs.Parts.{PartRole, PartTree, Read, Registers, Target, Value}
pub use Rattle.name_uses.specs.Viewed.{PartedSection, view_part, view_role, view_section_parts, view_use}
pub use Rattle.pin_matching.specs.Assignments.{IsAssignment, IsKept, IsTaken}
pub use Rattle.pld_base.specs.Bits.{is_on}
unfoldable pub use Rattle.pld_base.specs.Bits.{bits}
pub use Rattle.pld_device.specs.Pins.{cell_on}
pub use Rattle.pld_device.specs.Table.{Table}
pub use Rattle.pld_device.specs.declared.cell.Cell.{Cell}
