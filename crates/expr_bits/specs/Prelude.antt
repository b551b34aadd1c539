-- The words of the crates below that the clauses of this crate are said in, passed on from one place. Declares nothing.
pub use Rattle.std.specs.Global.{Vec}
pub use Rattle.std.specs.List.{list_any}
pub use Rattle.abel_meaning.specs.BitWords.{Word, difference_bits, each_not, equal_bits, less_bit, less_bits, next_carry, operator_bits, relation_bit, sum_bit}
pub use Rattle.abel_meaning.specs.BitWords.{unary_word}
pub use Rattle.abel_meaning.specs.Designs.{Context, name_at}
pub use Rattle.abel_meaning.specs.FormulaBits.{binary_word, bits_of, kept_bits, make_source, met_word}
pub use Rattle.abel_meaning.specs.Numbers.{Number, Set, Shape, Single, Value, either_unknown, meeting, member_width, met_unknown, width_of}
pub use Rattle.abel_meaning.specs.Sources.{LeafRead, Source, Zero, node_source, on_pin, pin_source, register_source, source_by, source_of}
pub use Rattle.abel_meaning.specs.Terms.{Before, Known, NoTerm, Read, Term, Terms, extended_if, known_of, member_before, named_before, special_term, term_meant}
pub use Rattle.abel_meaning.specs.Terms.{term_named, term_of, terms_of}
pub use Rattle.abel_meaning.specs.Values.{binary_by, binary_value, constant_of, is_relation, joined_value, no_position, operator_value, plain_value}
pub use Rattle.abel_meaning.specs.Values.{unary_value}
pub use Rattle.abel_tree.specs.Entries.{AConstant, Entry, Kind, entries_of, find, is_stored, view_declared, view_meaning}
pub use Rattle.abel_tree.specs.Extensions.{innermost}
pub use Rattle.abel_tree.specs.Ranges.{range_names}
pub use Rattle.abel_tree.specs.Tree.{ABinary, AName, ANumber, AParen, ASet, ASpecial, AUnary, Members, MoreMembers, NoMember, OneMember, SetMember, SpanMember}
pub use Rattle.abel_tree.specs.Tree.{Tree, members_of}
pub use Rattle.abel_tree.specs.View.{view, view_member}
pub use Rattle.abel_tree.specs.declared.words.Binary.{Binary}
pub use Rattle.abel_tree.specs.declared.words.Extension.{Extension as AnExtension, Extension}
pub use Rattle.bit_expr.specs.Arena.{Grew, IsLeaf, MOST, PassesLimit, formula_at}
unfoldable pub use Rattle.bit_expr.specs.Arena.{arena}
pub use Rattle.bit_expr.specs.Folding.{Made, free, ◌>>=◌}
unfoldable pub use Rattle.bit_expr.specs.Folding.{make_and, make_not, make_or, make_xor}
pub use Rattle.bit_expr.specs.Formulas.{Const, Formula}
pub use Rattle.bit_expr.specs.declared.fault.ExprFault.{ExprFault}
pub use Rattle.bit_expr.specs.declared.node.ExprId.{ExprId}
pub use Rattle.bit_expr.specs.declared.node.Node.{Node as ANode, Node}
pub use Rattle.name_uses.specs.RangeParts.{name_items}
pub use Rattle.set_expr.specs.Answer.{IsContextOf, IsShaped, Keeps, refusal_of}
pub use Rattle.set_expr.specs.Contexts.{context_for}
