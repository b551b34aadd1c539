-- The words of the crates below that the clauses of this crate are said in, passed on from one place. Declares nothing.
pub use Rattle.std.specs.Fmt.{decimal}
pub use Rattle.std.specs.List.{flat_map, range_with_len}
pub use Rattle.std.specs.Option.{option_map, option_to_list}
pub use Rattle.abel_meaning.specs.Netlists.{PlainNetlist, plain_netlist, wanted_at}
pub use Rattle.abel_tree.specs.Entries.{Entry, entries_of}
pub use Rattle.abel_tree.specs.FirstRefusal.{Ranks, first_refusal}
unfoldable pub use Rattle.abel_tree.specs.FirstRefusal.{is_before}
pub use Rattle.fitter.specs.Plans.{cell_wanted}
pub use Rattle.fitter.specs.Sharing.{own_control}
pub use Rattle.netlist_laws.specs.RowCovers.{is_used}
pub use Rattle.pld_base.specs.declared.place.Place.{Place}
pub use Rattle.pld_device.specs.Table.{Table, cell_at}
