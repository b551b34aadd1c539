-- The words that the proofs of this crate are said in, passed on from one place. Declares nothing.
pub use Rattle.std.proofs.lemmas.List.{at_drop_more, drop_all, ext_get_or, get_or-take, length-map, length-take-le, map-append}
pub use Rattle.std.proofs.lemmas.Result.{IfOk-weaker, on_ok_weaker}
pub use Rattle.std.specs.List.{cons_option, list_all, range_with_len}
pub use Rattle.abel_meaning.specs.Designs.{Context, context_of, name_at}
pub use Rattle.abel_meaning.specs.Rows.{Level, Mark, Pulsed, Released, marks_of}
pub use Rattle.abel_meaning.specs.Targets.{targets_of}
pub use Rattle.abel_meaning.specs.Terms.{Term, term_of}
pub use Rattle.abel_meaning.specs.Vectors.{char_by, char_given, char_or_plain, design_vectors, first_char, given_to, input_char, output_char, pin_char}
pub use Rattle.abel_meaning.specs.Vectors.{row_chars, section_vectors, sections_vectors}
pub use Rattle.abel_tree.proofs.FirstRefusals.{earlier_assoc, earlier_none, first_append, none_refused}
pub use Rattle.abel_tree.specs.Entries.{AConstant, ANode, APin, Entry, Kind}
pub use Rattle.abel_tree.specs.FirstRefusal.{earlier, first_refusal}
pub use Rattle.abel_tree.specs.Tree.{AName, ANumber, AParen, ASet, ASpecial, OneMember, RowTree, SectionTree, SetMember, SomeVectors, Tree, members_of}
pub use Rattle.abel_tree.specs.View.{view, view_section, view_vector_row}
pub use Rattle.abel_tree.specs.declared.sections.Section.{Section}
pub use Rattle.jedec_file.specs.TestVectors.{IsTestVector, all_chars, chars_of}
pub use Rattle.pld_base.specs.declared.place.Place.{Place}
pub use Rattle.pld_base.specs.declared.point.Vector.{Vector}
pub use Rattle.pld_device.specs.Table.{Table}
pub use Rattle.set_expr.specs.Contexts.{context_for}
pub use Rattle.set_expr.specs.FoundNames.{expression_found}
pub use Rattle.set_expr.specs.SectionOrder.{section_order}
pub use Rattle.set_expr.specs.declared.fault.SectionFault.{SectionFault}
pub use Rattle.set_expr.specs.declared.fault.SectionFault.TheVariants.{BadVector, MisplacedSpecial, OutOfMemory}
pub use Rattle.source_sections.proofs.SectionsAnswered.{told_of}
pub use Rattle.source_sections.proofs.SourceAnswers.{designed}
pub use Rattle.source_sections.specs.Reading.{view_sections}
pub use Rattle.source_sections.specs.SectionAnswers.{AnswersSections, IsTold, sections_refused}
pub use Rattle.truth_tables.specs.EntryMarks.{view_mark}
pub use Rattle.truth_tables.specs.EntryTerms.{IsOver}
pub use Rattle.truth_tables.specs.RowEntries.{entry_refused, unless_met}
pub use Rattle.abel_vectors.specs.{AnswersVectors, Finds, FindsRows, FindsSection, IsAnswer, IsFound, IsReadAs, IsRowRead, IsRowVector, NamesPins, NothingFound}
pub use Rattle.abel_vectors.specs.{all_given, all_read, all_vectors_refused, char_for, chars_for, chars_read, disagree, entries_refused, fault_in, found_at}
pub use Rattle.abel_vectors.specs.{header_refused, header_term, is_pin_or_unknown, marks_refused, names_pins, one_too_many, pin_of, position_gives}
pub use Rattle.truth_tables.specs.TableUnits.{if_none}
pub use Rattle.abel_vectors.specs.{pulse_read, refused_behind, row_refused, rows_refused, side_refused, tests_pulse, vectors_refused, view_vectors}
pub use Rattle.abel_vectors.specs.declared.finding.Found.{Found}
