-- The words that the proofs of this crate are said in, passed on from one place. Declares nothing.
pub use Rattle.std.proofs.lemmas.List.{length-map, length-take-le, map-append, map_push, take_all, take_more}
pub use Rattle.std.specs.Option.{option_or}
pub use Rattle.abel_meaning.specs.Numbers.{Value, by_position, digits_low_first, number_with, one_bit, zipped}
pub use Rattle.abel_meaning.specs.Values.{binary_value, is_relation, unary_value}
pub use Rattle.abel_tree.proofs.FirstRefusals.{first_append, none_refused}
pub use Rattle.abel_tree.specs.Entries.{Entry, entries_of, find, view_declared}
pub use Rattle.abel_tree.specs.FirstRefusal.{earlier, first_refusal}
pub use Rattle.abel_tree.specs.Ranges.{range_names}
pub use Rattle.abel_tree.specs.Tree.{OneMember, SetMember, SpanMember, members_of}
pub use Rattle.abel_tree.specs.View.{view, view_member}
pub use Rattle.abel_tree.specs.declared.expressions.Expr.{Expr, size-Expr, the_lemmas}
pub use Rattle.abel_tree.specs.declared.expressions.Member.{Member, size-Member}
pub use Rattle.abel_tree.specs.declared.words.Binary.{Binary}
pub use Rattle.name_uses.specs.RangeParts.{name_items}
pub use Rattle.pld_base.specs.declared.place.Place.{Place}
pub use Rattle.set_expr.specs.{AreSummedUp, AreValued, Found, HasShapeIf, IsKnown, IsKnownIf, IsKnownName, IsPlaced, NameFound, SumsUp, Table, all_found}
pub use Rattle.set_expr.specs.{by_bytes, constants_refused, found_after, found_before, found_both, found_entry, found_of, found_refusals, found_set, found_use}
pub use Rattle.set_expr.specs.{large_member, members_refused, members_specials, members_value, members_width, name_found, named, names_found, operands_refused}
pub use Rattle.set_expr.specs.{range_found, section_order, specials_refused, too_wide, under, value_of_both, value_or_none, width_with}
pub use Rattle.set_expr.specs.declared.fault.SectionFault.{SectionFault}
pub use Rattle.set_expr.specs.declared.known_name.KnownName.{KnownName}
