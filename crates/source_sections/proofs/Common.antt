-- The words that the proofs of this crate are said in, passed on from one place. Declares nothing.
pub use Rattle.abel_meaning.specs.Designs.{Context, Design, after_declarations, design_for}
pub use Rattle.abel_meaning.specs.Directives.{after_branches, after_choices, after_section, after_statements, after_states}
pub use Rattle.abel_meaning.specs.FormulaBits.{formulas}
pub use Rattle.abel_meaning.specs.SignalReads.{given_formulas}
pub use Rattle.abel_tree.proofs.FirstRefusals.{first_append, none_refused}
pub use Rattle.abel_tree.specs.Entries.{Entry, entries_of}
pub use Rattle.abel_tree.specs.FirstRefusal.{earlier, first_refusal}
pub use Rattle.abel_tree.specs.Tree.{ADiagram, ATable, Declaration, DontCareFor, Equations, SectionTree}
pub use Rattle.abel_tree.specs.View.{view, view_decl, view_module, view_row, view_section, view_state, view_stmt}
pub use Rattle.abel_tree.specs.declared.names.Names.{Names}
pub use Rattle.bit_expr.specs.Arena.{formula_at}
unfoldable pub use Rattle.bit_expr.specs.Arena.{arena}
pub use Rattle.equations.proofs.BuiltUnits.{at}
pub use Rattle.equations.specs.Checks.{view_list}
pub use Rattle.pld_device.specs.Table.{Table}
pub use Rattle.section_targets.proofs.WalksBehind.{both_clear, walks_none, walks_then}
pub use Rattle.section_targets.specs.Manners.{AreFirsts}
pub use Rattle.section_targets.specs.Units.{all_refused, units_nodes}
pub use Rattle.section_targets.specs.Walking.{Walks, fault_behind, standing}
pub use Rattle.section_targets.specs.declared.manner.Manner.{Manner}
pub use Rattle.section_targets.specs.declared.walked.Walked.{Walked}
pub use Rattle.set_expr.specs.Contexts.{context_for}
pub use Rattle.set_expr.specs.FoundNames.{constants_refused}
pub use Rattle.set_expr.specs.Given.{view_contribution, view_guard}
pub use Rattle.set_expr.specs.SectionOrder.{section_order}
pub use Rattle.set_expr.specs.declared.contributions.Contribution.{Contribution}
pub use Rattle.set_expr.specs.declared.fault.SectionFault.{SectionFault}
pub use Rattle.state_diagrams.proofs.WalkedBranches.{rest_at}
pub use Rattle.state_diagrams.specs.Arms.{view_arms, view_choices}
pub use Rattle.source_sections.specs.{AreContributed, IsTold, WalksSection, WalksSections, section_manners, section_places, sections_manners, sections_places}
pub use Rattle.source_sections.specs.{sections_refused, source_units, units_of_section, units_of_sections, view_sections}
