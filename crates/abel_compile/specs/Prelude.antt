-- The words of the crates below that the clauses of this crate are said in, passed on from one place. Declares nothing.
pub use Rattle.abel_meaning.specs.Choices.{source_logic_under, source_values_under}
pub use Rattle.abel_meaning.specs.Designs.{design_of}
pub use Rattle.abel_meaning.specs.Kinds.{names_of}
pub use Rattle.abel_meaning.specs.Vectors.{source_vectors}
pub use Rattle.abel_tree.specs.Entries.{Entry, entries_of}
pub use Rattle.abel_tree.specs.Tree.{ModuleTree}
pub use Rattle.abel_tree.specs.View.{view_module}
pub use Rattle.compile_phases.specs.Phases.{AreDeclaredBy, AreNamesFor, IsNameFault, IsNetlistFor, IsOfSource, IsRefusedBy, IsRefusedFor}
pub use Rattle.compile_phases.specs.Placings.{IsPlacedFor, IsUnplacedFor}
pub use Rattle.compile_phases.specs.SourceRefusals.{IsAcceptedFor, IsReadFor, IsSourceRefused}
pub use Rattle.devices.specs.Models.{table_at}
pub use Rattle.fitter.specs.Answers.{IsFitOf}
pub use Rattle.fuse_listing.specs.Listing.{listing_text}
pub use Rattle.jedec_file.specs.CanonicalFile.{IsPlainName, canonical_file}
pub use Rattle.jedec_file.specs.FuseFile.{FuseFile}
unfoldable pub use Rattle.jedec_file.specs.FuseFile.{file_of}
pub use Rattle.jedec_file.specs.TestVectors.{IsTestVector, all_chars}
pub use Rattle.module_reader.specs.Texts.{IsRead, SpellsModule}
pub use Rattle.netlist_laws.specs.Takeable.{IsTakeable}
pub use Rattle.pld_base.specs.declared.model.Model.{Model}
pub use Rattle.pld_device.specs.Laws.{IsDevice}
pub use Rattle.pld_device.specs.Macrocells.{device_logic}
pub use Rattle.pld_device.specs.Registers.{is_inverted}
pub use Rattle.pld_device.specs.Table.{Table}
pub use Rattle.reports.specs.Summary.{design_cells, summary_of}
