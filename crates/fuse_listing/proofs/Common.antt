-- The words that the proofs of this crate are said in, passed on from one place. Declares nothing.
pub use Rattle.std.proofs.Math.Nat.{le-mul_of_pos_right, mul_comm, zero-add}
pub use Rattle.std.proofs.lemmas.Grind.{flat_map-append}
pub use Rattle.std.proofs.lemmas.List.{drop_all, length-map, length-take, map-append, take_more}
pub use Rattle.std.proofs.lemmas.Option.{get_or_from_slice_get, slice_get-get_or, slice_get-map, slice_get_past, slice_get_within}
pub use Rattle.std.proofs.lemmas.Result.{on_ok_weaker}
pub use Rattle.std.specs.List.{range_with_len}
pub use Rattle.abel_tree.specs.Entries.{Entry, entries_of, view_declared}
pub use Rattle.abel_tree.specs.declared.names.Declared.{Declared}
pub use Rattle.pld_device.specs.Table.{Table, cell_at, no_cell}
pub use Rattle.fuse_listing.specs.Listing.{CarryIsThere, assigned_text, chosen_text, column_literal, enable_text, given_line, given_lines, head_text}
pub use Rattle.abel_meaning.specs.Controls.{is_on_pin}
pub use Rattle.fuse_listing.specs.Listing.{is_opened, kind_text, line_if_used, name_on, pin_text, polarity_text, product_text, use_text}
