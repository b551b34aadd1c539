-- The words of the crates below that the clauses of this crate are said in, passed on from one place. Declares nothing.
pub use Rattle.std.specs.List.{list_any}
pub use Rattle.abel_meaning.specs.CountedBlocks.{choices_nodes, has_other, make_literal, register_literals}
pub use Rattle.abel_meaning.specs.CountedNodes.{choice_nodes, condition_of, guard_else, guard_then, value_nodes}
pub use Rattle.abel_meaning.specs.Designs.{Context, name_at}
pub use Rattle.abel_meaning.specs.Diagrams.{branch_gives, branches_give, choices_give, diagram_gives, goal_gives, in_state, is_other, is_state, state_gives}
pub use Rattle.abel_meaning.specs.Diagrams.{states_give, with_others, with_statements}
pub use Rattle.abel_meaning.specs.FormulaBits.{formulas, make_source}
pub use Rattle.abel_meaning.specs.Numbers.{digits, number_with}
pub use Rattle.abel_meaning.specs.Terms.{known_of, term_of}
pub use Rattle.abel_tree.specs.Entries.{entries_of}
pub use Rattle.abel_tree.specs.FirstRefusal.{first_refusal}
pub use Rattle.abel_tree.specs.Tree.{ABranch, ACase, AGoal, AnIf, Branch, Choices, MoreChoices, NoBranch, NoChoice, OtherBranch, StateTree, Tree, choices_of}
pub use Rattle.abel_tree.specs.Tree.{statements_of}
pub use Rattle.abel_tree.specs.View.{arm_layer, case_arm_layer, case_layer, if_layer, view, view_arm, view_choice, view_state, view_stmt}
pub use Rattle.abel_tree.specs.declared.diagrams.CaseArm.{CaseArm}
pub use Rattle.abel_tree.specs.declared.diagrams.Goal.{Goal}
pub use Rattle.abel_tree.specs.declared.names.Names.{Names}
pub use Rattle.bit_expr.specs.Arena.{formula_at}
unfoldable pub use Rattle.bit_expr.specs.Arena.{arena}
pub use Rattle.bit_expr.specs.Folding.{Made, ◌>>=◌}
unfoldable pub use Rattle.bit_expr.specs.Folding.{make_and}
pub use Rattle.bit_expr.specs.Formulas.{Const, Formula, formula_value}
pub use Rattle.bit_expr.specs.declared.node.ExprId.{ExprId}
pub use Rattle.bit_expr.specs.declared.node.Node.{Node}
pub use Rattle.equations.specs.StatementUnits.{assigned_aims, condition_refused, statements_manners, statements_places, units_of_statements}
pub use Rattle.expr_bits.specs.Reads.{reads_signal}
pub use Rattle.pld_base.specs.declared.place.Place.{Place}
pub use Rattle.pld_device.specs.Table.{Table}
pub use Rattle.section_targets.specs.Building.{AreBits, BuildsNodes, IsBit}
pub use Rattle.section_targets.specs.Given.{AreIn, AreNamed, places_of}
pub use Rattle.section_targets.specs.Manners.{AreFirsts, aims_refused, manner_of}
pub use Rattle.section_targets.specs.TargetSignals.{TargetFound, target_member}
pub use Rattle.section_targets.specs.Units.{CountedUnit, part}
pub use Rattle.section_targets.specs.ValueWidths.{value_refused}
pub use Rattle.section_targets.specs.Walking.{StillStands}
pub use Rattle.section_targets.specs.declared.aim.Aim.{Aim}
pub use Rattle.section_targets.specs.declared.manner.Manner.{Manner}
pub use Rattle.section_targets.specs.declared.walked.Walked.{Walked}
pub use Rattle.set_expr.specs.Answer.{Keeps, bits_at, refusal_of}
pub use Rattle.set_expr.specs.Contexts.{context_for}
pub use Rattle.set_expr.specs.FoundNames.{expression_found}
pub use Rattle.set_expr.specs.Given.{view_guard}
pub use Rattle.set_expr.specs.SectionOrder.{section_order}
pub use Rattle.set_expr.specs.declared.contributions.Guard.{Guard}
pub use Rattle.set_expr.specs.declared.fault.SectionFault.{SectionFault}
pub use Rattle.truth_tables.specs.Works.{Work, given_freely}
