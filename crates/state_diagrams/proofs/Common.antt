-- The words that the proofs of this crate are said in, passed on from one place. Declares nothing.
pub use Rattle.std.proofs.Math.Bool.{or-false, or_comm}
pub use Rattle.std.proofs.Math.Seq.{drop-append_seam, drop-cons, take-length}
pub use Rattle.std.proofs.lemmas.Bool.{eqb-true, ne_eqb}
pub use Rattle.std.proofs.lemmas.List.{at_drop_more, drop_all, get_or-map, length-map, length-reverse, map-append, reverse-append}
pub use Rattle.std.proofs.lemmas.List.Elements.{All-append, All-cons, All-map, All-nil}
pub use Rattle.std.proofs.lemmas.Result.{err_from_is_err_and, on_ok_weaker}
pub use Rattle.std.proofs.lemmas.Simd.{map-map, splat_is_map}
pub use Rattle.std.specs.Option.{is_some}
pub use Rattle.abel_meaning.proofs.DigitLaws.{length_digits, number_of_digits, number_small}
pub use Rattle.abel_meaning.specs.Contributions.{Evaluator, Gives, One, condition, contribution, guarded}
pub use Rattle.abel_meaning.specs.CountedBlocks.{choices_nodes, has_other, make_literal, register_literals}
pub use Rattle.abel_meaning.specs.CountedNodes.{choice_nodes, condition_of, guard_nodes, guard_then, term_nodes, value_nodes}
pub use Rattle.abel_meaning.specs.Designs.{Context, context_of}
pub use Rattle.abel_meaning.specs.Diagrams.{branch_gives, branches_give, choices_give, first_of_each, goal_gives, is_other, is_state, other_gives}
pub use Rattle.abel_meaning.specs.Diagrams.{other_matches, registers_equal, registers_given, state_gives, state_matches, states_give, with_statements}
pub use Rattle.abel_meaning.specs.FormulaBits.{bits_of, formulas}
pub use Rattle.abel_meaning.specs.Numbers.{Value, digits, digits_low_first, number_with, width_of}
pub use Rattle.abel_meaning.specs.Statements.{else_gives, given_each, sign_gives, statement_gives, statements_give}
pub use Rattle.abel_meaning.specs.Tables.{match_of, no_matches}
pub use Rattle.abel_meaning.specs.Targets.{some_signals, targets_of}
pub use Rattle.abel_meaning.specs.Terms.{Term, Terms, known_of, term_of}
pub use Rattle.abel_meaning.specs.Values.{binary_value, constant_of, joined_value, empty_point, set_value, term_value, unary_value}
pub use Rattle.abel_tree.proofs.FirstRefusals.{earlier_assoc, earlier_none, first_append, none_refused}
pub use Rattle.abel_tree.specs.Entries.{APin, Entry, entries_of}
pub use Rattle.abel_tree.specs.FirstRefusal.{earlier, first_refusal}
pub use Rattle.abel_tree.specs.Tree.{ABinary, ABranch, ACase, ADontCare, AGoal, AGroup, AWhen, AnAssign, AnElse, AnIf, Branch, Choices, MoreChoices}
pub use Rattle.abel_tree.specs.Tree.{MoreStatements, NoBranch, NoChoice, NoElse, NoStatement, OtherBranch, Otherwise, StateTree, Statement, Statements, Tree}
pub use Rattle.abel_tree.specs.Tree.{choices_of, other_of, statements_of}
pub use Rattle.abel_tree.specs.View.{view, view_arm, view_choice, view_state, view_stmt}
pub use Rattle.abel_tree.specs.declared.diagrams.Arm.{Arm, the_lemmas}
pub use Rattle.abel_tree.specs.declared.diagrams.CaseArm.{CaseArm}
pub use Rattle.abel_tree.specs.declared.diagrams.Goal.{Goal}
pub use Rattle.abel_tree.specs.declared.diagrams.If.{If}
pub use Rattle.abel_tree.specs.declared.diagrams.State.{State}
pub use Rattle.abel_tree.specs.declared.names.Names.{Names}
pub use Rattle.abel_tree.specs.declared.statements.Stmt.{Stmt}
pub use Rattle.bit_expr.specs.Arena.{formula_at}
unfoldable pub use Rattle.bit_expr.specs.Arena.{arena}
pub use Rattle.bit_expr.specs.Folding.{Made, free, ◌>>=◌}
unfoldable pub use Rattle.bit_expr.specs.Folding.{make_and, make_not}
pub use Rattle.bit_expr.specs.Formulas.{Const, Formula, formula_value}
pub use Rattle.bit_expr.specs.declared.node.ExprId.{ExprId}
pub use Rattle.bit_expr.specs.declared.node.Node.{Node}
pub use Rattle.equations.proofs.BuiltParts.{bits_length, is_context, kept_bit, same_context, stops_longer, value_accepted, whole}
pub use Rattle.equations.proofs.BuiltUnits.{at, guard_kept, guard_view}
pub use Rattle.equations.proofs.WalkedUnits.{limit_kept, unit_clear, unit_made, unit_refused}
pub use Rattle.equations.specs.Checks.{view_list}
pub use Rattle.equations.specs.StatementUnits.{condition_refused, statements_manners, statements_places, units_of_statements, unless_any}
pub use Rattle.equations.specs.StatementWalks.{AreBothGuards, StandsStatements, WalksCondition, WalksStatements}
pub use Rattle.pld_base.specs.declared.place.Place.{Place}
pub use Rattle.pld_device.specs.Table.{Table}
pub use Rattle.section_targets.proofs.Built.{builds_none, builds_stop, builds_then, keeps_on, kept_formula, kept_inside, left_empty, right_empty}
pub use Rattle.section_targets.proofs.MetWords.{high_bit}
pub use Rattle.section_targets.proofs.OneUnit.{AreParts, one_unit, two_parts}
pub use Rattle.section_targets.proofs.Parts.{built_nodes, leaves_nodes, limit_here}
pub use Rattle.section_targets.proofs.StandingFronts.{none_so_far, stands_less, stands_made, stands_same, stands_then, stands_whole}
pub use Rattle.section_targets.proofs.WalksBehind.{clear_before, walks_alike, walks_made, walks_none, walks_refused, walks_then}
pub use Rattle.section_targets.specs.Building.{AreBits, Builds, BuildsNodes, IsBit, IsBuilt, NoMemory, StopsWith}
pub use Rattle.section_targets.specs.Given.{AreIn, AreNamed, places_of}
pub use Rattle.section_targets.specs.Manners.{AreFirsts, aims_refused, manner_of}
pub use Rattle.section_targets.specs.TargetSignals.{TargetFound, target_member}
pub use Rattle.section_targets.specs.Units.{CountedUnit, part, units_nodes, units_refused}
pub use Rattle.section_targets.specs.ValueWidths.{value_refused, value_width}
pub use Rattle.section_targets.specs.Walking.{AfterMaking, StillStands, Walks, standing}
pub use Rattle.section_targets.specs.declared.aim.Aim.{Aim}
pub use Rattle.section_targets.specs.declared.manner.Manner.{Manner}
pub use Rattle.section_targets.specs.declared.walked.Walked.{Walked}
pub use Rattle.set_expr.proofs.FoundMembers.{front_more}
pub use Rattle.set_expr.specs.Answer.{IsShaped, Keeps, bits_at, positions, refusal_of}
pub use Rattle.set_expr.specs.Contexts.{context_for}
pub use Rattle.set_expr.specs.FoundNames.{expression_found}
pub use Rattle.set_expr.specs.Given.{view_contribution, view_guard}
pub use Rattle.set_expr.specs.SectionOrder.{section_order}
pub use Rattle.set_expr.specs.declared.contributions.Contribution.{Contribution}
pub use Rattle.set_expr.specs.declared.contributions.Contributions.{Contributions}
pub use Rattle.set_expr.specs.declared.contributions.Guard.{Guard}
pub use Rattle.set_expr.specs.declared.fault.SectionFault.{SectionFault}
pub use Rattle.truth_tables.proofs.RowsWalked.{no_fault, not_clear, some_refused}
pub use Rattle.truth_tables.proofs.WorkLaws.{AfterStep, DoesWork, IsLeft, left_done, left_step}
pub use Rattle.truth_tables.specs.Works.{IsDone, StandsWork, Work, before}
pub use Rattle.state_diagrams.specs.{AreRegisters, BuildsConditions, IsState, MakesBit, StandsFor, WalksBranch, WalksBranches, WalksChoices, WalksConditions}
pub use Rattle.state_diagrams.specs.{WalksStates, WalksUnder, WalksUnit, WalksValue, WalksWithin, WalksWork, aims_places, all_zero, arm_guards, bare_read}
pub use Rattle.state_diagrams.specs.{branch_manners, branch_work, branches_manners, branches_work, case_arms, case_choices, case_place, case_unit}
pub use Rattle.state_diagrams.specs.{choices_manners, choices_refused, choices_work, context_of_machine, diagram_manners, given_by, goal_parts, goal_places}
pub use Rattle.state_diagrams.specs.{goal_unit, goal_work, header_work, is_among, listed_after, listed_if, listed_with, manners_behind, no_block}
pub use Rattle.truth_tables.specs.TableUnits.{if_none}
pub use Rattle.state_diagrams.specs.{number_guard, other_branch_places, other_manners, other_places, other_signal, others_work, places_by, pushed_beside}
pub use Rattle.state_diagrams.specs.{pushed_for, pushed_if, regarded, register_literal, register_manners, registers_refused, seen_if, signals_of, state_bit}
pub use Rattle.state_diagrams.specs.{state_bits, state_guard, state_manners, state_number, state_places, state_refused, state_unit, state_work, states_manners}
pub use Rattle.state_diagrams.specs.{states_work, units_behind, units_of, units_of_diagram, units_of_other, units_of_states, units_within, view_arms}
pub use Rattle.state_diagrams.specs.{view_choices, view_goal, view_if, where_holds, within_work}
pub use Rattle.state_diagrams.specs.declared.machine.Machine.{Machine}
pub use Rattle.state_diagrams.specs.{StandsBlock, StandsBranch, StandsBranches, StandsChoices, StandsDiagram, StandsHeader, StandsOthers, StandsStates, StandsUnder, StandsValue, WalksBlock}
