-- The words that the proofs of this crate are said in, passed on from one place. Declares nothing.
pub use Rattle.std.proofs.lemmas.List.{drop_all, length-map, length-replicate, length-reverse}
pub use Rattle.std.proofs.lemmas.Result.{err_from_is_err_and, on_ok_weaker}
pub use Rattle.std.specs.Option.{is_some}
pub use Rattle.abel_meaning.specs.Contributions.{guarded}
pub use Rattle.abel_meaning.specs.CountedNodes.{choice_nodes, condition_of, guard_else, guard_nodes, guard_then, has_else, term_nodes, value_nodes}
pub use Rattle.abel_meaning.specs.Designs.{Context, context_of}
pub use Rattle.abel_meaning.specs.FormulaBits.{formulas, met_by, met_word, resized}
pub use Rattle.abel_meaning.specs.Statements.{else_gives, given_each, statement_gives, statements_give}
pub use Rattle.abel_meaning.specs.Targets.{targets_of}
pub use Rattle.abel_meaning.specs.Terms.{known_of, term_of}
pub use Rattle.abel_tree.proofs.FirstRefusals.{first_append, none_refused}
pub use Rattle.abel_tree.specs.Assigned.{is_clocked, target_extension}
pub use Rattle.abel_tree.specs.Entries.{AConstant, ANode, APin, Entry, Kind, entries_of}
pub use Rattle.abel_tree.specs.FirstRefusal.{earlier, first_refusal}
pub use Rattle.abel_tree.specs.Tree.{ABinary, AGroup, AName, ANumber, AParen, ASet, ASpecial, AUnary, AWhen, AnAssign, AnElse, MoreStatements, NoElse}
pub use Rattle.abel_tree.specs.Tree.{NoStatement, OneMember, Otherwise, SetMember, Statement, Statements, Tree, members_of, otherwise_of, statements_of}
pub use Rattle.abel_tree.specs.View.{view, view_stmt}
pub use Rattle.abel_tree.specs.declared.names.Names.{Names}
pub use Rattle.abel_tree.specs.declared.statements.Stmt.{Stmt, the_lemmas}
pub use Rattle.abel_tree.specs.declared.statements.When.{When}
pub use Rattle.abel_tree.specs.declared.words.Extension.{Extension}
pub use Rattle.abel_tree.specs.declared.words.Sign.{Sign}
pub use Rattle.bit_expr.specs.Arena.{formula_at}
unfoldable pub use Rattle.bit_expr.specs.Arena.{arena}
pub use Rattle.bit_expr.specs.Folding.{Made}
unfoldable pub use Rattle.bit_expr.specs.Folding.{make_and}
pub use Rattle.bit_expr.specs.Formulas.{Const, Formula}
pub use Rattle.bit_expr.specs.declared.node.ExprId.{ExprId}
pub use Rattle.pld_base.specs.declared.place.Place.{Place}
pub use Rattle.pld_device.specs.Table.{Table}
pub use Rattle.section_targets.proofs.Built.{builds_stop, builds_then, keeps_on, kept_formula, kept_inside, left_empty, refused_append, right_empty, stops_on}
pub use Rattle.section_targets.proofs.OneUnit.{AreParts, one_unit, two_parts}
pub use Rattle.section_targets.proofs.SideTerms.{positions_of, side_positions}
pub use Rattle.section_targets.proofs.SmallTargets.{side_few, side_whole}
pub use Rattle.section_targets.proofs.StandingFronts.{none_so_far, stands_alike, stands_less, stands_made, stands_same, stands_then}
pub use Rattle.section_targets.proofs.WalksBehind.{both_clear, clear_before, walks_alike, walks_made, walks_none, walks_refused, walks_then}
pub use Rattle.section_targets.specs.Building.{AreBits, Builds, IsBit, IsBuilt, NoMemory, StopsWith}
pub use Rattle.section_targets.specs.Given.{AreNamed, places_of}
pub use Rattle.section_targets.specs.Manners.{AreFirsts, aims_refused, manner_of}
pub use Rattle.section_targets.specs.TargetSignals.{TargetFound, left_side}
pub use Rattle.section_targets.specs.Units.{CountedUnit, part, units_nodes, units_refused}
pub use Rattle.section_targets.specs.ValueWidths.{value_refused, value_width}
pub use Rattle.section_targets.specs.Walking.{AfterMaking, StillStands, Walks, standing}
pub use Rattle.section_targets.specs.declared.aim.Aim.{Aim}
pub use Rattle.section_targets.specs.declared.manner.Manner.{Manner}
pub use Rattle.section_targets.specs.declared.walked.Walked.{Walked}
pub use Rattle.set_expr.specs.Answer.{IsContextOf, IsShaped, Keeps, bits_at, positions, refusal_of}
pub use Rattle.set_expr.specs.Contexts.{context_for}
pub use Rattle.set_expr.specs.FoundNames.{expression_found}
pub use Rattle.set_expr.specs.Given.{view_gives, view_guard}
pub use Rattle.set_expr.specs.KnownNames.{SumsUp}
pub use Rattle.set_expr.specs.Refusals.{Found}
pub use Rattle.set_expr.specs.SectionOrder.{section_order}
pub use Rattle.set_expr.specs.declared.contributions.Contributions.{Contributions}
pub use Rattle.set_expr.specs.declared.contributions.Guard.{Guard}
pub use Rattle.set_expr.specs.declared.fault.SectionFault.{SectionFault}
pub use Rattle.equations.specs.{AreBothGuards, GivesAssign, StandsStatement, WalksCondition, WalksStatement, assign_refused, assigned_aims, assigned_manners, condition_refused}
pub use Rattle.equations.specs.{condition_unit, else_manners, else_places, statement_manners, statement_places, statements_manners, statements_places}
pub use Rattle.equations.specs.{taken_refused, units_of_else, units_of_statement, units_of_statements, unless_any, view_assign, view_list, view_when}
