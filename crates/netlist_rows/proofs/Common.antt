-- The words that the proofs of this crate are said in, passed on from one place. Declares nothing.
pub use Rattle.std.proofs.lemmas.List.Elements.{All-cons, All-head, All-nil, All-tail}
pub use Rattle.abel_tree.specs.Entries.{AConstant, ADeviceName, ANode, APin, Entry, Kind, entries_of, is_signal}
pub use Rattle.abel_tree.specs.View.{view_module}
pub use Rattle.abel_tree.specs.declared.names.Names.{Names}
pub use Rattle.bit_expr.specs.Arena.{IsLeaf}
unfoldable pub use Rattle.bit_expr.specs.Arena.{arena}
pub use Rattle.design_checks.specs.SignalsRefused.{AreToNames}
pub use Rattle.gathering.specs.Links.{AreLeaves}
pub use Rattle.pld_device.specs.SampleTable.{sample}
pub use Rattle.truth_tables.proofs.NamesInOrder.{sound_in_order}
pub use Rattle.netlist_rows.specs.Leaves.{HasLeaf}
