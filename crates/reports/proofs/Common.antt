-- The words that the proofs of this crate are said in, passed on from one place. Declares nothing.
pub use Rattle.std.proofs.lemmas.List.{append-nil, map-id, take_more}
pub use Rattle.std.proofs.lemmas.Option.{get_or_from_slice_get, same_Some}
pub use Rattle.std.specs.List.{count_by, range_with_len, sum_by}
pub use Rattle.std.specs.Option.{option_map, option_to_list}
pub use Rattle.abel_meaning.specs.Netlists.{Wanted, earlier_name, first_with, own_of, plain_control, plain_netlist, plain_wanted, wanted_at}
pub use Rattle.abel_tree.specs.Entries.{entries_of}
pub use Rattle.abel_tree.specs.FirstRefusal.{earlier, first_refusal, sooner}
unfoldable pub use Rattle.abel_tree.specs.FirstRefusal.{is_before}
pub use Rattle.bit_expr.specs.Arena.{formula_at}
unfoldable pub use Rattle.bit_expr.specs.Arena.{arena}
pub use Rattle.bit_expr.specs.declared.netlist.CellWanted.{CellWanted}
pub use Rattle.bit_expr.specs.declared.netlist.Control.{Control}
pub use Rattle.bit_expr.specs.declared.netlist.Netlist.{Netlist}
pub use Rattle.fitter.proofs.WantedIds.{one_is, sound_id_at, wanted_is}
pub use Rattle.fitter.specs.Plans.{bit_or, cell_wanted, enable_bit}
pub use Rattle.fitter.specs.Sharing.{AreNotShared, own_control, own_formula}
pub use Rattle.fitter.specs.declared.shared.SharedControl.{SharedControl}
pub use Rattle.netlist_laws.specs.RowCovers.{is_used}
pub use Rattle.pld_device.specs.Table.{Table, cell_at, no_cell}
pub use Rattle.pld_device.specs.declared.cell.Cell.{Cell}
pub use Rattle.reports.specs.DesignTold.{names_text}
pub use Rattle.reports.specs.Fits.{control_order, first_own, own_controls}
pub use Rattle.reports.specs.Summary.{SummaryCountsTheDesign}
unfoldable pub use Rattle.reports.specs.Summary.{assigned_cells, products_used, rows_used}
