-- The words of the crates below that the clauses of this crate are said in, passed on from one place. Declares nothing.
pub use Rattle.abel_meaning.specs.Choices.{is_free}
pub use Rattle.abel_meaning.specs.Controls.{control_of, is_control, is_the_control}
pub use Rattle.abel_meaning.specs.Designs.{Context, Design, name_at}
pub use Rattle.abel_meaning.specs.FormulaBits.{formulas}
pub use Rattle.abel_meaning.specs.Functions.{function_of, is_data_in, is_data_to, is_free_elsewhere, is_raw_signal, same_gives}
pub use Rattle.abel_meaning.specs.Netlists.{plain_control, plain_function, plain_netlist, plain_wanted}
pub use Rattle.abel_meaning.specs.SignalReads.{HasNoSignalLoop, HasNoSignalPath, IsSignalLoop, IsSignalPath, function_names, given_formulas, leaf_by}
pub use Rattle.abel_meaning.specs.SignalReads.{names_if_any, settles, signal_names}
pub use Rattle.abel_meaning.specs.SoundIds.{IsCellIn, IsControlIn, IsFunctionIn, no_pair, pair_of_cell, pair_of_pin}
pub use Rattle.abel_tree.specs.Entries.{ANode, APin, Entry, Kind, entries_of, follows_q, is_stored, view_declared, view_meaning}
pub use Rattle.abel_tree.specs.Extensions.{is_data, is_raw}
pub use Rattle.abel_tree.specs.declared.words.Extension.{Extension}
pub use Rattle.bit_expr.specs.Arena.{IsLeaf, formula_at}
unfoldable pub use Rattle.bit_expr.specs.Arena.{arena}
unfoldable pub use Rattle.bit_expr.specs.Folding.{make_not, make_or}
pub use Rattle.bit_expr.specs.Formulas.{Const, Formula}
pub use Rattle.bit_expr.specs.Reading.{AreReads}
pub use Rattle.bit_expr.specs.declared.netlist.CellWanted.{CellWanted}
pub use Rattle.bit_expr.specs.declared.netlist.Control.{Control}
pub use Rattle.bit_expr.specs.declared.node.Leaf.{Leaf}
pub use Rattle.netlist_laws.specs.Gathered.{cell_of, cells_from, gathered_from, nodes_from}
pub use Rattle.pld_base.specs.Bits.{is_on, same_level}
unfoldable pub use Rattle.pld_base.specs.Bits.{bits}
pub use Rattle.pld_base.specs.declared.place.Place.{Place}
pub use Rattle.pld_device.specs.Table.{Table, cell_at}
pub use Rattle.set_expr.specs.Given.{given, view_contribution, view_gives}
pub use Rattle.set_expr.specs.declared.contributions.Contribution.{Contribution}
