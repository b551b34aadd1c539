-- The words of the crates below that the clauses of this crate are said in, passed on from one place. Declares nothing.
pub use Rattle.std.specs.Option.{is_some, option_to_list}
pub use Rattle.abel_meaning.specs.Contributions.{contribution, is_dontcare}
pub use Rattle.abel_meaning.specs.Designs.{Context, name_at, no_name}
pub use Rattle.abel_meaning.specs.Numbers.{Set, Shape, Value}
pub use Rattle.abel_meaning.specs.Targets.{all_targets, some_signals, targets_of}
pub use Rattle.abel_meaning.specs.Terms.{Known, Term, Terms, extended_if, known_of, member_before, term_meant, term_named, term_of}
pub use Rattle.abel_tree.specs.Entries.{AConstant, ADeviceName, ANode, APin, Entry, Kind, entries_of, find, is_signal, view_declared, view_meaning}
pub use Rattle.abel_tree.specs.FirstRefusal.{earlier, first_refusal}
pub use Rattle.abel_tree.specs.Tree.{ABinary, AName, AParen, ASet, ASpecial, Members, MoreMembers, NoMember, OneMember, SetMember, SpanMember, Tree, members_of}
pub use Rattle.abel_tree.specs.View.{view, view_member}
pub use Rattle.abel_tree.specs.declared.names.Names.{Names}
pub use Rattle.bit_expr.specs.Arena.{Grew, LiesIn, MOST, folded, formula_at}
unfoldable pub use Rattle.bit_expr.specs.Arena.{arena}
pub use Rattle.bit_expr.specs.Formulas.{Formula, differ}
pub use Rattle.bit_expr.specs.declared.node.ExprId.{ExprId}
pub use Rattle.bit_expr.specs.declared.node.Node.{Node}
pub use Rattle.pld_base.specs.declared.place.Place.{Place}
pub use Rattle.pld_device.specs.Table.{Table}
pub use Rattle.set_expr.specs.Answer.{IsContextOf, IsShaped, Keeps, first_place, refusal_of}
pub use Rattle.set_expr.specs.Given.{view_contribution, view_gives, view_guard}
pub use Rattle.set_expr.specs.Refusals.{Found, too_wide}
pub use Rattle.set_expr.specs.SectionOrder.{section_order}
pub use Rattle.set_expr.specs.declared.contributions.Contribution.{Contribution}
pub use Rattle.set_expr.specs.declared.contributions.Contributions.{Contributions}
pub use Rattle.set_expr.specs.declared.fault.SectionFault.{SectionFault}
pub use Rattle.set_expr.specs.declared.fault.SectionFault.TheVariants.{BadWidth, MisplacedSpecial, MixedAssignment, NotAnOutput}
