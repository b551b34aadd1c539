-- The words of the crates below that the clauses of this crate are said in, passed on from one place. Declares nothing.
pub use Rattle.std.specs.Global.{Vec}
pub use Rattle.std.specs.List.{list_all, list_any, range_with_len}
pub use Rattle.abel_meaning.specs.Designs.{Context, Design, design_for, no_name}
pub use Rattle.abel_meaning.specs.Rows.{Mark, Pulsed, marks_of}
pub use Rattle.abel_meaning.specs.Targets.{targets_of}
pub use Rattle.abel_meaning.specs.Terms.{Term, term_of}
pub use Rattle.abel_meaning.specs.Vectors.{char_or_plain, design_vectors, input_char, output_char, row_chars, section_vectors}
pub use Rattle.abel_tree.specs.Entries.{AConstant, ADeviceName, ANode, APin, Entry, Kind, entries_of, view_meaning}
pub use Rattle.abel_tree.specs.FirstRefusal.{earlier, first_refusal}
pub use Rattle.abel_tree.specs.Tree.{RowTree, SectionTree, SomeVectors, Tree}
pub use Rattle.abel_tree.specs.View.{view, view_module, view_section, view_vector_row}
pub use Rattle.jedec_file.specs.TestVectors.{IsTestVector, all_chars, chars_of}
pub use Rattle.pld_base.specs.declared.place.Place.{Place}
pub use Rattle.pld_base.specs.declared.point.Vector.{Vector}
pub use Rattle.pld_device.specs.Table.{Table}
pub use Rattle.set_expr.specs.Contexts.{context_for}
pub use Rattle.set_expr.specs.FoundNames.{expression_found}
pub use Rattle.set_expr.specs.SectionOrder.{section_order}
pub use Rattle.set_expr.specs.declared.fault.SectionFault.{SectionFault}
pub use Rattle.source_sections.specs.SectionAnswers.{AreContributed, IsTold, sections_refused}
pub use Rattle.truth_tables.specs.EntryMarks.{IsEntryRead, view_mark}
pub use Rattle.truth_tables.specs.RowEntries.{entry_refused, unless_met}
