-- What is found of headers and rows (ABEL-HDL Reference Manual, truth tables).
use Rattle.std.specs.Prelude.{◌≡◌, Option, List, ◌++◌, Bool, None, map}
use Rattle.truth_tables.specs.Prelude.{Table, first_refusal, view, Context, section_order, SectionFault, Aim, Manner, Tree, RowTree, entry_levels, level_of_mark, Term, term_of}
use Rattle.truth_tables.specs.OutputHeaders.{HeaderFound, output_header}
use Rattle.truth_tables.specs.TableUnits.{header_refused, level_refused, row_refused}
use Rattle.truth_tables.specs.declared.tables.Header.{Header}
use Rattle.truth_tables.specs.declared.mark.Mark.{Mark}
use Rattle.truth_tables.specs.EntryMarks.{view_mark}
use Rattle.truth_tables.specs.declared.checked_rows.Levels.{Levels}
use Rattle.truth_tables.specs.declared.checked_rows.RowFound.{RowFound}

-- ---- headers

-- what is refused of a part of a header, whose outputs are appended
pub record IsAdded (x : HeaderFound) (f : Option SectionFault) (old new : List (Option Aim)) : Type 0 where
  pub fault : f ≡ first_refusal section_order x.refusals
  pub outputs : new ≡ old ++ x.outputs

-- what is found of both sides of a table's header after what was assigned before
pub record IsWholeHeader (d : Context) (before : List Manner) (t : Table) (h : Header) : Type 0 where
  pub fault : h.fault ≡ first_refusal section_order (header_refused d before t.clocked (view t.inputs) (view t.outputs))
  pub outputs : h.outputs ≡ (output_header d (view t.outputs)).outputs

-- ---- rows

-- the levels of marks, none at X
abbrev pub levels_of : List Mark → List (Option Bool)
levels_of ms = map (λ m. level_of_mark (view_mark m)) ms

-- an entry under its header, in a row that is refused so
pub record IsLevels (d : Context) (r : SectionFault) (header : Term) (entry : Tree) (l : Levels) : Type 0 where
  pub fault : l.fault ≡ first_refusal section_order (level_refused d r header entry)
  pub given : l.fault ≡ None → l.levels ≡ entry_levels d header (term_of d.known entry)

-- a row under both sides of its header
pub record IsRow (d : Context) (clocked : Bool) (inputs outputs : Term) (row : RowTree) (f : RowFound) : Type 0 where
  pub place : f.place ≡ row.place
  pub fault : f.fault ≡ first_refusal section_order (row_refused d clocked inputs outputs row)
  pub inputs_given : f.fault ≡ None → f.inputs ≡ entry_levels d inputs (term_of d.known row.inputs)
  pub outputs_given : f.fault ≡ None → f.outputs ≡ entry_levels d outputs (term_of d.known row.outputs)
