-- Private: what is found of rows and of a header.
use Rattle.std.specs.Prelude.{◌≡◌, ℕ, ◌||◌, true, false, Option, None, Some, List, map, Result}
use Rattle.abel_vectors.specs.Prelude.{range_with_len, Vector, chars_of, RowTree, SectionTree, SomeVectors, view, view_vector_row, Context, targets_of, Term, term_of, char_or_plain, row_chars, SectionFault, first_refusal, section_order, expression_found}
use Rattle.truth_tables.specs.declared.mark.Mark as code
use Rattle.abel_tree.specs.declared.expressions.Expr.{Expr}
use Rattle.abel_tree.specs.declared.tables.Vectors.{Vectors}
use Rattle.abel_vectors.specs.declared.finding.Found.{Found}
use Rattle.abel_vectors.specs.declared.rows.Header.{Header}
use Rattle.abel_vectors.specs.FoundVectors.{Finds, IsReadAs}
use Rattle.abel_vectors.specs.GivenChars.{all_read, found_at, pulse_read}
use Rattle.abel_vectors.specs.VectorRefusals.{disagree, row_refused, rows_refused}

-- ---- a header

-- the term of a side
abbrev pub header_term : Context → Expr → Term
header_term d e = term_of d.known (view e)

-- nothing is refused of its sides, and it names what is at their positions
pub record NamesPins (d : Context) (h : Header) : Type 0 where
  pub inputs : first_refusal section_order (expression_found d.names (view h.section.now.inputs)).refusals ≡ None
  pub outputs : first_refusal section_order (expression_found d.names (view h.section.now.outputs)).refusals ≡ None
  pub driven : h.driven.now ≡ targets_of (header_term d h.section.now.inputs)
  pub tested : h.tested.now ≡ targets_of (header_term d h.section.now.outputs)

abbrev pub view_vectors : Vectors → SectionTree
view_vectors v = SomeVectors v.note v.place (view v.inputs) (view v.outputs) (map view_vector_row v.rows)

-- ---- a row

-- a row with these marks at the positions of its header: its vector, or that it has none
abbrev pub IsRowVector : Context → (inputs : List (Option ℕ)) → List code.Mark → (outputs : List (Option ℕ)) → List code.Mark → Option Vector → Type 0
IsRowVector d ss given ts tested None = (pulse_read ts tested || disagree (all_read d.names ss given ts tested)) ≡ true
IsRowVector d ss given ts tested (Some v) =
    ((pulse_read ts tested || disagree (all_read d.names ss given ts tested)) ≡ false)
    × (chars_of d.device v ≡ map (λ (pin : ℕ). char_or_plain d.device pin (found_at (all_read d.names ss given ts tested) pin)) (range_with_len 1 d.device.pins))

-- what was read of a row is its vector, or its first refusal
abbrev pub IsRowRead : Context → Header → RowTree → Result Vector SectionFault → Type 0
IsRowRead d h r read =
    let i = header_term d h.section.now.inputs in
    let o = header_term d h.section.now.outputs in
    IsReadAs (row_refused d i o r) (λ vector. chars_of d.device vector ≡ row_chars d i o r) read

-- ---- what is found of rows

abbrev pub FindsRows : Context → (before : ℕ) → Header → List RowTree → (old new : Found) → Type 0
FindsRows d before h rows old new =
    let i = header_term d h.section.now.inputs in
    let o = header_term d h.section.now.outputs in
    Finds d.device (rows_refused d before i o rows) (map (row_chars d i o) rows) old new
