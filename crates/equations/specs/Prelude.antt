-- The words of the crates below that the clauses of this crate are said in, passed on from one place. Declares nothing.
pub use Rattle.abel_meaning.specs.CountedNodes.{choice_nodes, condition_of, guard_else, guard_then, has_else, term_nodes, value_nodes}
pub use Rattle.abel_meaning.specs.Designs.{Context}
pub use Rattle.abel_meaning.specs.FormulaBits.{bits_of, formulas}
pub use Rattle.abel_meaning.specs.Statements.{statement_gives, statements_give}
pub use Rattle.abel_meaning.specs.Targets.{targets_of}
pub use Rattle.abel_meaning.specs.Terms.{known_of, term_of}
pub use Rattle.abel_tree.specs.Entries.{entries_of}
pub use Rattle.abel_tree.specs.FirstRefusal.{first_refusal}
pub use Rattle.abel_tree.specs.Tree.{ADontCare, AGroup, AWhen, AnAssign, AnElse, MoreStatements, NoElse, NoStatement, Otherwise, Statement, Statements, Tree}
pub use Rattle.abel_tree.specs.Tree.{statements_of}
pub use Rattle.abel_tree.specs.View.{stmt_layer, view, view_stmt, when_layer}
pub use Rattle.abel_tree.specs.declared.names.Names.{Names}
pub use Rattle.abel_tree.specs.declared.statements.Assign.{Assign}
pub use Rattle.bit_expr.specs.Arena.{formula_at}
unfoldable pub use Rattle.bit_expr.specs.Arena.{arena}
pub use Rattle.pld_base.specs.declared.place.Place.{Place}
pub use Rattle.pld_device.specs.Table.{Table}
pub use Rattle.section_targets.specs.Building.{AreBits, Builds, BuildsNodes, IsBit}
pub use Rattle.section_targets.specs.Manners.{AreFirsts, aims_refused, manner_of}
pub use Rattle.section_targets.specs.TargetSignals.{TargetFound, left_side}
pub use Rattle.section_targets.specs.Units.{CountedUnit, part}
pub use Rattle.section_targets.specs.ValueWidths.{value_refused, value_width}
pub use Rattle.section_targets.specs.Walking.{StillStands, Walks, standing}
pub use Rattle.section_targets.specs.declared.manner.Manner.{Manner}
pub use Rattle.section_targets.specs.declared.walked.Walked.{Walked}
pub use Rattle.set_expr.specs.Answer.{IsShaped, Keeps, refusal_of}
pub use Rattle.set_expr.specs.Contexts.{context_for}
pub use Rattle.set_expr.specs.FoundNames.{expression_found}
pub use Rattle.set_expr.specs.Given.{view_gives, view_guard}
pub use Rattle.set_expr.specs.Refusals.{Found}
pub use Rattle.set_expr.specs.SectionOrder.{section_order}
pub use Rattle.set_expr.specs.declared.contributions.Guard.{Guard}
pub use Rattle.set_expr.specs.declared.fault.SectionFault.{SectionFault}
