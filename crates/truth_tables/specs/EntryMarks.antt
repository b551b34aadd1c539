-- The marks of an entry, or that it doesn't meet its header (ABEL-HDL Reference Manual, truth tables and test vectors).
use Rattle.std.specs.Prelude.{◌≡◌, Some, [], map}
use Rattle.truth_tables.specs.Prelude.{first_refusal, Tree, Context, marks_of, Term, term_of, SectionFault, section_order}
use Rattle.abel_meaning.specs.Rows as meant
use Rattle.truth_tables.specs.declared.entries.Entry.{Entry}
use Rattle.truth_tables.specs.declared.entries.Entry.TheVariants as entry
use Rattle.truth_tables.specs.declared.mark.Mark.{Mark}
use Rattle.truth_tables.specs.declared.mark.Mark.TheVariants as mark
use Rattle.truth_tables.specs.RowEntries.{entry_refused}

abbrev pub view_mark : Mark → meant.Mark
view_mark (mark.Level on) = meant.Level on
view_mark mark.Unknown = meant.Unknown
view_mark mark.Pulsed = meant.Pulsed
view_mark mark.Released = meant.Released

-- what is found of an entry under its header, in a row that is refused so
abbrev pub IsEntryRead : Context → (row : SectionFault) → (header : Term) → (entry : Tree) → Entry → Type 0
IsEntryRead d r h t (entry.Refused f) = first_refusal section_order (entry_refused d r h t) ≡ Some f
IsEntryRead d r h t (entry.Marks ms) = (entry_refused d r h t ≡ []) × (map view_mark ms.items ≡ marks_of d h (term_of d.known t))
