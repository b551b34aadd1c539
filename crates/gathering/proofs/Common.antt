-- The words that the proofs of this crate are said in, passed on from one place. Declares nothing.
pub use Rattle.std.proofs.Math.Bool.{and-false, and-true, or-false}
pub use Rattle.std.proofs.lemmas.Bool.{and_parts, cases_Bool, cases_eq, cases_lt, eq-eqb, eqb-true, le-ltb, lt-ltb, ne_eqb, or_cases, or_left, or_right}
pub use Rattle.std.proofs.lemmas.Bool.{true≢false}
pub use Rattle.std.proofs.lemmas.List.{append-nil, drop_all, map-append, take_all, take_more}
pub use Rattle.std.proofs.lemmas.List.Elements.{All-filter, All-head, All-nil, All-push, All-tail, filter-append}
pub use Rattle.std.proofs.lemmas.List.Folds.{list_all-map, list_any_at}
pub use Rattle.std.proofs.lemmas.Option.{get_or_from_slice_get, slice_get-get_or}
pub use Rattle.std.proofs.lemmas.Result.{IfOk-weaker}
pub use Rattle.std.specs.List.{AllByRecursion, list_all, list_any}
unfoldable pub use Rattle.std.specs.List.{IsDistinct}
pub use Rattle.abel_meaning.specs.Controls.{control_by, control_if_stored, control_of, is_control, is_the_control}
pub use Rattle.abel_meaning.specs.Designs.{Context, Design, name_at, no_name}
pub use Rattle.abel_meaning.specs.FormulaBits.{formulas}
pub use Rattle.abel_meaning.specs.Functions.{both_function, function_of, is_both, is_complement, is_data_in, is_data_to, is_free_elsewhere, is_raw_signal}
pub use Rattle.abel_meaning.specs.Functions.{single_function}
pub use Rattle.abel_meaning.specs.SignalReads.{HasNoSignalLoop, HasNoSignalPath, IsSignalLoop, IsSignalPath, function_names, given_formulas, is_one_of}
pub use Rattle.abel_meaning.specs.SignalReads.{is_stored_signal, leaf_by, leaf_of, names_if_any, reset_equation_reads, settles, settles_by, signal_names}
pub use Rattle.abel_meaning.specs.SignalReads.{signal_reads}
pub use Rattle.abel_meaning.specs.SoundIds.{IsCellIn, IsControlIn, IsFunctionIn, no_pair, pair_of_cell, pair_of_pin}
pub use Rattle.abel_tree.specs.Entries.{ANode, APin, Entry, Kind, is_stored, view_declared}
pub use Rattle.abel_tree.specs.declared.words.Extension.{Extension}
pub use Rattle.bit_expr.proofs.ArenaLists.{arena_count, first_formula}
pub use Rattle.bit_expr.specs.Arena.{IsLeaf, formula_at}
unfoldable pub use Rattle.bit_expr.specs.Arena.{arena}
pub use Rattle.bit_expr.specs.Folding.{Made}
unfoldable pub use Rattle.bit_expr.specs.Folding.{make_not, make_or}
pub use Rattle.bit_expr.specs.Formulas.{Const, Formula}
pub use Rattle.bit_expr.specs.Reading.{AreReads}
pub use Rattle.bit_expr.specs.declared.netlist.Control.{Control}
pub use Rattle.bit_expr.specs.declared.node.ExprId.{ExprId}
pub use Rattle.bit_expr.specs.declared.node.Leaf.{Leaf}
pub use Rattle.bit_expr.specs.declared.reads.Reads.{Reads}
pub use Rattle.netlist_laws.specs.Gathered.{and_cell, and_node, by_row, cell_by, cell_of, cells_from, nodes_from, wanted_for}
pub use Rattle.pld_base.proofs.BitLemmas.{is_on-bits, is_on-zero}
pub use Rattle.pld_base.specs.Bits.{is_on}
pub use Rattle.pld_device.specs.Table.{Table, cell_at}
pub use Rattle.pld_order.proofs.Lists.{eqb_same, has_push}
pub use Rattle.pld_order.specs.Graphs.{HasNoLoop, HasNoPath, IsChain, IsLeastLoop, IsLoop, IsOrder, IsPath, has}
pub use Rattle.pld_order.specs.Sets.{reads_of}
pub use Rattle.set_expr.specs.Given.{view_contribution}
pub use Rattle.set_expr.specs.declared.contributions.Contribution.{Contribution}
pub use Rattle.gathering.specs.{AllLieIn, AreGiven, AreLeaves, AreLinks, AreLinksFrom, Asks, AsksBefore, AssignedHaveCells, HasNoChain, HasNoRegisterPath}
pub use Rattle.gathering.specs.{IsControlGiven, IsControlPlaced, IsFirstChain, IsFunctionGiven, IsLinkOf, IsPlaced, IsRegisterPath, Stands, StartsIf}
pub use Rattle.gathering.specs.{Throughout, asked_cell, bit_of, contributions_in, control_by_row, control_if, control_place, first_target, has_if_any, has_leaf}
pub use Rattle.gathering.specs.{is_data_of, is_data_of_polarity, is_for, is_free_one, is_linked, is_node_kind, is_read_by, is_stored_in, is_to, leaf_in}
pub use Rattle.gathering.specs.{link_reads, part_sum, reads_in, reset_names, target_place}
pub use Rattle.gathering.specs.declared.link.Link.{Link}
pub use Rattle.gathering.specs.declared.signal.Totals.{Totals}
