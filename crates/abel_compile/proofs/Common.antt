-- The words that the proofs of this crate are said in, passed on from one place. Declares nothing.
pub use Rattle.std.proofs.lemmas.Result.{err_from_is_err_and}
pub use Rattle.abel_meaning.specs.Designs.{design_of, name_at}
pub use Rattle.abel_meaning.specs.Kinds.{names_of}
pub use Rattle.abel_meaning.specs.Models.{model_named, model_of}
pub use Rattle.abel_meaning.specs.Netlists.{Wanted, plain_netlist, plain_wanted, wanted_at}
pub use Rattle.abel_meaning.specs.Vectors.{source_vectors}
pub use Rattle.abel_tree.specs.Entries.{Entry, entries_of}
pub use Rattle.abel_tree.specs.Tree.{ModuleTree}
pub use Rattle.abel_tree.specs.View.{view_module}
pub use Rattle.abel_tree.specs.declared.words.Word.{Word}
pub use Rattle.bit_expr.specs.declared.netlist.Netlist.{Netlist}
pub use Rattle.compile_phases.proofs.NotRefused.{no_first, not_fit, not_source}
pub use Rattle.compile_phases.proofs.PhaseFaults.{accepted_for, by_fit}
pub use Rattle.compile_phases.proofs.PlacedRefusals.{by_declared, by_placing, of_placed, one_placed, placed_name, placed_not_unplaced, unplaced_names}
pub use Rattle.compile_phases.specs.Fits.{FitsAsWritten, IsOfFit, IsUnfitFor}
pub use Rattle.compile_phases.specs.Phases.{IsNameFault, IsNetlistFor, IsOfSource, IsReadAlone, IsRefusedBy, IsRefusedFor, IsTextFault, IsUnnamed}
pub use Rattle.compile_phases.specs.Placings.{IsPlacedFor, IsUnplacedFor}
pub use Rattle.compile_phases.specs.SourceRefusals.{IsAcceptedFor, IsReadFor, IsRefusedSo, IsSourceRefused}
pub use Rattle.compile_phases.specs.declared.fault.CompileFault.{CompileFault}
pub use Rattle.compile_phases.specs.declared.fault.CompileFault.TheVariants.{Fit, OutOfMemory, Place, Source}
pub use Rattle.compile_phases.specs.declared.fault.SourceFault.{SourceFault}
pub use Rattle.compile_phases.specs.declared.fault.SourceFault.TheVariants.{Design, Expand, Names, Parse, Scan, Sections, Width}
pub use Rattle.decls.specs.FaultOrder.{name_order}
pub use Rattle.decls.specs.NameRefusals.{name_refusals}
pub use Rattle.devices.specs.Models.{table_at}
pub use Rattle.fitter.specs.Answers.{IsFitOf}
pub use Rattle.fitter.specs.declared.answer.Fitted.{Fitted}
pub use Rattle.jedec_file.specs.CanonicalFile.{IsPlainName, canonical_file}
pub use Rattle.module_reader.proofs.Fates.{one_module, read_or_not}
pub use Rattle.module_reader.specs.Texts.{IsRead, SpellsModule}
pub use Rattle.placer.specs.Following.{HasNumberedNames}
pub use Rattle.placer.specs.Placements.{IsPinned, IsPlacedModule}
pub use Rattle.pld_base.specs.declared.device_name.DeviceName.{DeviceName}
pub use Rattle.pld_base.specs.declared.model.Model.{Model}
pub use Rattle.pld_device.specs.Laws.{IsDevice}
pub use Rattle.pld_device.specs.Table.{Table}
pub use Rattle.reports.specs.Summary.{design_cells, summary_of}
unfoldable pub use Rattle.reports.specs.Summary.{assigned_cells}
pub use Rattle.abel_compile.specs.Answers.{CompileAnswers, IsNeverRefused}
pub use Rattle.abel_compile.specs.Compiling.{AreRightFuses, IsCompiledFor, IsCompiledOn, IsToldOf}
pub use Rattle.abel_compile.specs.Statement.{IsRightFile, fuses_and_vectors}
pub use Rattle.abel_compile.specs.declared.compiled.Compiled.{Compiled}
