-- The words that the proofs of this crate are said in, passed on from one place. Declares nothing.
pub use Rattle.std.proofs.Math.Seq.{drop-cons, get_or-append_seam}
pub use Rattle.std.proofs.lemmas.Bool.{and_parts, cases_cond, cond_both, ltb-false}
pub use Rattle.std.proofs.lemmas.Bool.Decides.{nat_tests}
pub use Rattle.std.proofs.lemmas.Iterator.Adapters.{position_from-zero}
pub use Rattle.std.proofs.lemmas.List.{append-nil, drop_all, length-map, length-take, length-take-le, map-append, take-append-drop, take-map, take-take}
pub use Rattle.std.proofs.lemmas.List.{take_all, take_more}
pub use Rattle.std.proofs.lemmas.List.Elements.{All-append, All-cons, All-head, All-map, All-nil, All-tail, All-take}
pub use Rattle.std.proofs.lemmas.Option.{get_or_from_slice_get, none-some, slice_get-get_or, slice_get_past, slice_get_read, slice_get_within}
pub use Rattle.std.proofs.lemmas.Result.{IfOk-weaker, err_from_is_err_and}
pub use Rattle.std.specs.List.{list_any, position_from}
pub use Rattle.std.specs.Option.{is_some, option_or}
pub use Rattle.abel_meaning.specs.Designs.{Context, name_at, no_name}
pub use Rattle.abel_meaning.specs.FormulaBits.{met_by, met_word}
pub use Rattle.abel_meaning.specs.Numbers.{Number, Shape, Value, member_width, width_of}
pub use Rattle.abel_meaning.specs.Targets.{all_targets, some_signals, targets_of}
pub use Rattle.abel_meaning.specs.Terms.{Before, Known, NoTerm, Pulse, Read, Release, Set, Term, Terms, X, extended, extended_each, extended_if, known_after}
pub use Rattle.abel_meaning.specs.Terms.{known_of, member_before, named_before, special_term, term_meant, term_named, term_of, terms_of}
pub use Rattle.abel_tree.proofs.FirstRefusals.{before_by, earlier_assoc, first_append, none_refused}
pub use Rattle.abel_tree.specs.Entries.{AConstant, ADeviceName, Entry, Kind, entries_of, find, is_signal, view_declared, view_meaning}
pub use Rattle.abel_tree.specs.FirstRefusal.{earlier, first_refusal, sooner}
unfoldable pub use Rattle.abel_tree.specs.FirstRefusal.{is_before}
pub use Rattle.abel_tree.specs.Ranges.{range_names}
pub use Rattle.abel_tree.specs.Tree.{AName, AParen, ASet, ASpecial, Members, MoreMembers, NoMember, OneMember, SetMember, SpanMember, Tree, members_of}
pub use Rattle.abel_tree.specs.View.{view, view_member}
pub use Rattle.abel_tree.specs.declared.words.Extension.{Extension}
pub use Rattle.bit_expr.specs.Arena.{Grew, MOST, PassesLimit, formula_at}
unfoldable pub use Rattle.bit_expr.specs.Arena.{arena}
pub use Rattle.bit_expr.specs.Formulas.{Const, Formula}
pub use Rattle.bit_expr.specs.declared.node.ExprId.{ExprId}
pub use Rattle.bit_expr.specs.declared.node.Node.{Node}
pub use Rattle.expr_bits.proofs.Views.{view_binary, view_name, view_number, view_one, view_paren, view_set, view_span, view_special, view_unary}
pub use Rattle.expr_bits.specs.Positions.{digit_ids, resized_ids}
pub use Rattle.name_uses.specs.RangeParts.{name_items}
pub use Rattle.pld_base.specs.declared.place.Place.{Place}
pub use Rattle.set_expr.specs.Answer.{AreIn, IsContextOf, IsShaped, Keeps, bits_at, first_place, positions}
pub use Rattle.set_expr.specs.FoundNames.{found_use, name_found, names_found}
pub use Rattle.set_expr.specs.Given.{view_contribution}
pub use Rattle.set_expr.specs.Refusals.{too_wide}
pub use Rattle.set_expr.specs.SectionOrder.{section_order}
pub use Rattle.set_expr.specs.declared.contributions.Contribution.{Contribution}
pub use Rattle.set_expr.specs.declared.contributions.Contributions.{Contributions}
pub use Rattle.set_expr.specs.declared.fault.SectionFault.{SectionFault}
pub use Rattle.set_expr.specs.declared.fault.SectionFault.TheVariants.{BadWidth, MixedAssignment, NotAnOutput}
pub use Rattle.section_targets.specs.{AfterMaking, Appends, AreBits, AreFirsts, AreNamed, AreOfTerms, AreSignals, AreTargets, AtLimit, Builds, Contributed}
pub use Rattle.section_targets.specs.{CountedUnit, IsBit, IsBuilt, IsOfMembers, IsOfTerm, IsSide, Leaves, NoMemory, StandFor, Stops, StopsWith, TargetFound}
pub use Rattle.section_targets.specs.{Walks, aim_at, aims_at, aims_refused, all_name_signals, all_refused, differs_from, each_given, each_part, fault_behind}
pub use Rattle.section_targets.specs.{first_manner, first_name, is_against_kind, is_output, is_output_kind, is_past, is_same_part, is_signal_number, known_ids}
pub use Rattle.section_targets.specs.{left_side, limit_at, limit_refused, manner_of, mixed, names_signals, no_output, no_signals, no_target, one_given}
pub use Rattle.section_targets.specs.{one_part, part, part_of, places_of, standing, start_at, start_of, target_member, target_members, target_name, target_one}
pub use Rattle.section_targets.specs.{target_range, target_set, targets_both, units_nodes, units_refused}
pub use Rattle.section_targets.specs.declared.aim.Aim.{Aim}
pub use Rattle.section_targets.specs.declared.manner.Manner.{Manner}
pub use Rattle.section_targets.specs.declared.named.NamedSignals.{NamedSignals}
pub use Rattle.section_targets.specs.declared.sides.Side.{Side}
