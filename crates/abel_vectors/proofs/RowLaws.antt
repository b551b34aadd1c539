-- A row by its entries and their marks, and rows.
use Rattle.std.proofs.Common.{◌≡◌, ℕ, suc, Bool, ◌||◌, if◌then◌else◌, Option, None, Some, List, [], ◌∷◌, ◌++◌, map, refl, sym, ap, ap₂, ◌∙◌, subst, subst₂}
use Rattle.abel_vectors.proofs.Common.{range_with_len, Vector, chars_of, first_refusal, earlier, RowTree, Context, marks_of, targets_of, Term, term_of, char_or_plain, input_char, output_char, row_chars, SectionFault, BadVector, section_order, Found, Finds, found_at, FindsRows, IsReadAs, IsRowRead, IsRowVector, NamesPins, all_read, chars_for, disagree, pulse_read, tests_pulse, view_mark, header_term, all_given, entries_refused, marks_refused, one_too_many, row_refused, rows_refused}
use Rattle.std.specs.Option.{ok_or}
use Rattle.truth_tables.specs.declared.mark.Mark as code
use Rattle.abel_vectors.specs.declared.rows.Header.{Header}
use Rattle.abel_vectors.proofs.FoundLaws.{behind_none, finds_refusals, finds_then}
use Rattle.abel_vectors.proofs.GivenLaws.{all_found, chars_seen, pulses_seen}

-- ---- the vector of marks

map_same : (f g : ℕ → ℕ) (xs : List ℕ) → ((x : ℕ) → f x ≡ g x) → map f xs ≡ map g xs
map_same f g [] h = refl
map_same f g (x ∷ xs) h = ap₂ (λ y ys. y ∷ ys) (h x) (map_same f g xs h)

module _ (d : Context) (h k : Term) (r : RowTree) (given tested : List code.Mark) (first : map view_mark given ≡ marks_of d h (term_of d.known r.inputs)) (second : map view_mark tested ≡ marks_of d k (term_of d.known r.outputs)) where
  abbrev chars : List (ℕ × ℕ)
  chars = all_given d.names (targets_of h) (marks_of d h (term_of d.known r.inputs)) (targets_of k) (marks_of d k (term_of d.known r.outputs))

  same_chars : all_read d.names (targets_of h) given (targets_of k) tested ≡ chars
  same_chars =
      ap₂ (λ xs ys. xs ++ ys) (chars_seen d.names input_char (targets_of h) given ∙ ap (chars_for d.names input_char (targets_of h)) first)
      (chars_seen d.names output_char (targets_of k) tested ∙ ap (chars_for d.names output_char (targets_of k)) second)

  same_test : (pulse_read (targets_of k) tested || disagree (all_read d.names (targets_of h) given (targets_of k) tested)) ≡ (tests_pulse (targets_of k) (marks_of d k (term_of d.known r.outputs)) || disagree chars)
  same_test = ap₂ (λ a b. a || disagree b) (pulses_seen (targets_of k) tested ∙ ap (tests_pulse (targets_of k)) second) same_chars

  same_text : map (λ (pin : ℕ). char_or_plain d.device pin (found_at chars pin)) (range_with_len 1 d.device.pins) ≡ row_chars d h k r
  same_text = map_same _ _ (range_with_len 1 d.device.pins)
      (λ pin. ap (char_or_plain d.device pin) (sym (all_found d pin (targets_of h) (marks_of d h (term_of d.known r.inputs)) (targets_of k) (marks_of d k (term_of d.known r.outputs)))))

  marks_read : (vector : Option Vector) → IsRowVector d (targets_of h) given (targets_of k) tested vector → IsReadAs (marks_refused d h k r) (λ v. chars_of d.device v ≡ row_chars d h k r) (ok_or vector (BadVector r.place))
  marks_read None is = ap (λ (b : Bool). first_refusal section_order (if b then BadVector r.place ∷ [] else [])) (sym same_test ∙ is)
  marks_read (Some v) is = (
    ap (λ (b : Bool). if b then BadVector r.place ∷ [] else []) (sym same_test ∙ is.0),
    is.1 ∙ ap (λ cs. map (λ (pin : ℕ). char_or_plain d.device pin (found_at cs pin)) (range_with_len 1 d.device.pins)) same_chars ∙ same_text,
  )

-- a row whose entries meet the header
pub row_read : (d : Context) (h : Header) (r : RowTree) (given tested : List code.Mark) (vector : Option Vector) → NamesPins d h
    → entries_refused d (header_term d h.section.now.inputs) (header_term d h.section.now.outputs) r ≡ []
    → map view_mark given ≡ marks_of d (header_term d h.section.now.inputs) (term_of d.known r.inputs) → map view_mark tested ≡ marks_of d (header_term d h.section.now.outputs) (term_of d.known r.outputs)
    → IsRowVector d h.driven.now given h.tested.now tested vector → IsRowRead d h r (ok_or vector (BadVector r.place))
row_read d h r given tested vector names none first second is =
    let i = header_term d h.section.now.inputs in
    let o = header_term d h.section.now.outputs in
    subst (λ rs. IsReadAs rs (λ v. chars_of d.device v ≡ row_chars d i o r) (ok_or vector (BadVector r.place))) (sym (behind_none (entries_refused d i o r) (marks_refused d i o r) none))
    (marks_read d i o r given tested first second vector (subst₂ (λ ss ts. IsRowVector d ss given ts tested vector) names.driven names.tested is))

-- ---- rows

-- one before others
pub rows_behind : (d : Context) (h : Header) (n m : ℕ) (x : RowTree) (all rest : List RowTree) (full : Option SectionFault) (old mid new later : Found)
    → all ≡ x ∷ rest → m ≡ suc n → full ≡ first_refusal section_order (one_too_many n x.place) → mid.fault ≡ earlier section_order old.fault full → mid.list.items ≡ old.list.items
    → Finds d.device (row_refused d (header_term d h.section.now.inputs) (header_term d h.section.now.outputs) x) (row_chars d (header_term d h.section.now.inputs) (header_term d h.section.now.outputs) x ∷ []) mid new → FindsRows d m h rest new later → FindsRows d n h all old later
rows_behind d h n m x all rest full old mid new later same next room fault list row others =
    let i = header_term d h.section.now.inputs in
    let o = header_term d h.section.now.outputs in
    subst (λ rows. FindsRows d n h rows old later) (sym same)
    (finds_then d.device (one_too_many n x.place) (row_refused d i o x ++ rows_refused d (suc n) i o rest) [] (row_chars d i o x ∷ map (row_chars d i o) rest) old mid later
    (finds_refusals d.device (one_too_many n x.place) full old mid room fault list)
    (finds_then d.device (row_refused d i o x) (rows_refused d (suc n) i o rest) (row_chars d i o x ∷ []) (map (row_chars d i o) rest) mid new later row
    (subst (λ k. FindsRows d k h rest new later) next others)))
