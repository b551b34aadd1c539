-- The words of the crates below that the clauses of this crate are said in, passed on from one place. Declares nothing.
pub use Rattle.abel_meaning.specs.Designs.{design_of}
pub use Rattle.abel_meaning.specs.Models.{device_named}
pub use Rattle.abel_meaning.specs.Kinds.{names_of}
pub use Rattle.abel_meaning.specs.Models.{model_named, model_of}
pub use Rattle.abel_meaning.specs.Netlists.{plain_netlist}
pub use Rattle.abel_meaning.specs.SoundIds.{IsSoundNetlist}
pub use Rattle.abel_tree.specs.Entries.{Entry, entries_of}
pub use Rattle.abel_tree.specs.FirstRefusal.{first_refusal}
pub use Rattle.abel_tree.specs.Tree.{ModuleTree}
pub use Rattle.abel_vectors.specs.AllSections.{AreSections, all_sections_refused}
pub use Rattle.bit_expr.specs.declared.netlist.Netlist.{Netlist}
pub use Rattle.decls.specs.Devices.{device_place}
pub use Rattle.decls.specs.NameRefusals.{first_name_refusal, name_refusals}
pub use Rattle.decls.specs.declared.fault.NameFault.{NameFault}
pub use Rattle.design_checks.specs.declared.fault.DesignFault.{DesignFault}
pub use Rattle.fitter.specs.Answers.{FitAnswers, HasControls, IsFitOf}
pub use Rattle.fitter.specs.Width.{IsFirstWide, NoneWide}
pub use Rattle.fitter.specs.declared.fault.FitFault.{FitFault}
pub use Rattle.module_reader.specs.Texts.{IsRead, IsUnread, SpellsModule}
pub use Rattle.placer.specs.Placements.{HasNoPlacement, IsPlacedModule}
pub use Rattle.placer.specs.declared.fault.PlaceFault.{PlaceFault}
pub use Rattle.pld_device.specs.Table.{Table, cell_at}
pub use Rattle.reports.specs.Designs.{design_text}
pub use Rattle.reports.specs.Fits.{fit_text}
pub use Rattle.set_expr.specs.SectionOrder.{section_order}
pub use Rattle.set_expr.specs.declared.fault.SectionFault.{SectionFault}
pub use Rattle.source_sections.specs.SectionAnswers.{AreContributed, sections_refused}
