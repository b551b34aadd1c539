-- The words that the proofs of this crate are said in, passed on from one place. Declares nothing.
pub use Rattle.std.proofs.lemmas.Bool.{and_parts, and_right, cases_Bool, eq-eqb, eqb-true, true≢false}
pub use Rattle.std.proofs.lemmas.Bool.Decides.{nat_tests}
pub use Rattle.std.proofs.lemmas.Grind.{common_steps, flat_map-append}
pub use Rattle.std.proofs.lemmas.List.{get_or-map, length-map, length-take-le, map-append, take-append-drop, take_all, take_more}
pub use Rattle.std.proofs.lemmas.List.Folds.{flat_map-map, list_all-append, list_any_at}
pub use Rattle.std.proofs.lemmas.Option.{get_or_from_slice_get, slice_get-get_or}
pub use Rattle.std.proofs.lemmas.Result.{IfOk-weaker}
pub use Rattle.std.specs.List.{flat_map, list_all, list_any}
pub use Rattle.std.specs.Option.{option_or}
pub use Rattle.abel_meaning.specs.Designs.{Context, Design, name_at, no_name}
pub use Rattle.abel_meaning.specs.Targets.{all_targets, some_signals, targets_of}
pub use Rattle.abel_meaning.specs.Terms.{Before, BinaryOf, Known, NoTerm, Number, Pulse, Read, Release, Set, Term, Terms, UnaryOf, X, extended, extended_each}
pub use Rattle.abel_meaning.specs.Terms.{extended_if, known_of, member_before, named_before, special_term, term_meant, term_named, term_of, terms_of}
pub use Rattle.abel_tree.proofs.FirstRefusals.{before_by, first_append, none_refused}
pub use Rattle.abel_tree.specs.Entries.{ADeviceName, ANode, APin, Entry, Kind, entries_of, find, follows_q, is_stored, view_declared}
pub use Rattle.abel_tree.specs.FirstRefusal.{earlier, first_refusal, sooner}
pub use Rattle.abel_tree.specs.Ranges.{range_names}
pub use Rattle.abel_tree.specs.Tree.{ABinary, AGroup, AName, ANumber, AParen, ASet, ASpecial, AUnary, AWhen, Members, MoreMembers, NoMember, OneMember}
pub use Rattle.abel_tree.specs.Tree.{SetMember, SpanMember, Statement, Tree, members_of, otherwise_of, statements_of}
pub use Rattle.abel_tree.specs.View.{view, view_member, view_section, view_stmt}
pub use Rattle.abel_tree.specs.declared.names.Names.{Names}
pub use Rattle.abel_tree.specs.declared.words.Extension.{Extension}
unfoldable pub use Rattle.bit_expr.specs.Arena.{arena}
pub use Rattle.bit_expr.specs.Formulas.{Formula, same_leaf}
pub use Rattle.name_uses.specs.Parts.{PartTree}
pub use Rattle.name_uses.specs.RangeParts.{name_items}
pub use Rattle.name_uses.specs.Viewed.{PartedSection, view_part, view_section_parts, view_use, with_parts, word_at}
pub use Rattle.netlist_laws.specs.SignalUses.{SignalUse, all_term_uses, holds_leaf, term_uses}
pub use Rattle.pld_base.specs.declared.place.Place.{Place}
pub use Rattle.pld_device.specs.Table.{Table, cell_at, no_cell}
pub use Rattle.section_targets.proofs.NameTerms.{known_more, known_names, placed, range_targets, targets_more, term_at, term_or}
pub use Rattle.section_targets.proofs.SignalLists.{extended_targets, side_all, side_length, some_append}
pub use Rattle.set_expr.proofs.FoundMembers.{front_long, front_more, whole_front}
pub use Rattle.set_expr.specs.Answer.{IsContextOf}
pub use Rattle.set_expr.specs.Contexts.{context_for}
pub use Rattle.set_expr.specs.declared.contributions.Contribution.{Contribution}
pub use Rattle.design_checks.specs.{AreOfNames, AreToNames, AreUsesOf, ControlsPass, KindsPass, Knows, PlacedUse, UsesAreRead, UsesHaveColumns, aim_refused}
pub use Rattle.design_checks.specs.{aims_refused, all_at, all_positions, any_controls, are_by_pin, else_refused, first_read}
pub use Rattle.abel_meaning.specs.SignalPins.{carries_level, carries_q, has_read_path, is_wrong_cell, reads_by, reads_pin, reads_register}
pub use Rattle.design_checks.specs.{first_refused, first_signal, first_use, has_extension, is_compared_of, is_enabled_by_pin, is_refused}
pub use Rattle.design_checks.specs.{is_written_at, joined, kept_by, lacking_controls, learning, list_refused, may_be_compared, missing_uses}
pub use Rattle.design_checks.specs.{names_read, names_to, narrow, no_controls, node_refused, none_written, not_written, other_levels, part_uses, positions_by}
pub use Rattle.design_checks.specs.{positions_of, read_of, reads_used, refuses, refuses_use, registered_nodes}
pub use Rattle.design_checks.specs.{section_refused, sections_refused, statement_refused, target_controls, targets_refused, told, told_if, unwritten, use_at}
pub use Rattle.design_checks.specs.{use_order, use_under, uses_of, uses_used, values_of, written_if, written_of, written_of_all, wrong_kinds}
pub use Rattle.design_checks.specs.Written.{Written}
pub use Rattle.design_checks.specs.declared.names.NameUses.{NameUses}
pub use Rattle.design_checks.specs.declared.refused.RefusedUse.{RefusedUse}
pub use Rattle.design_checks.specs.declared.rule.UseRule.{UseRule}
