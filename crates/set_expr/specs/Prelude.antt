-- The words of the crates below that the clauses of this crate are said in, passed on from one place. Declares nothing.
pub use Rattle.abel_meaning.specs.Designs.{Context, context_of}
pub use Rattle.abel_meaning.specs.Numbers.{Number, Set, Shape, Single, Value, member_width}
pub use Rattle.abel_meaning.specs.Values.{binary_value, computes_numbers, is_relation, joined_value, no_position, plain_value, unary_number, unary_value}
pub use Rattle.abel_tree.specs.Entries.{AConstant, ADeviceName, ANode, APin, Entry, Kind, entries_of, find, view_meaning}
pub use Rattle.abel_tree.specs.FirstRefusal.{Ranks, first_refusal}
pub use Rattle.abel_tree.specs.Tree.{ABinary, AName, ANumber, AParen, ASet, ASpecial, AUnary, Members, MoreMembers, NoMember, OneMember, SetMember, SpanMember}
pub use Rattle.abel_tree.specs.Tree.{Tree, members_of}
pub use Rattle.abel_tree.specs.View.{view, view_member}
pub use Rattle.abel_tree.specs.declared.names.Names.{Names}
pub use Rattle.bit_expr.specs.Arena.{formula_at}
unfoldable pub use Rattle.bit_expr.specs.Arena.{arena}
pub use Rattle.bit_expr.specs.Formulas.{Const, Formula}
pub use Rattle.pld_base.specs.declared.place.Place.{Place}
pub use Rattle.pld_device.specs.Table.{Table}
