-- The end of a text stays, where bytes are taken from its front or put before it.
use Rattle.std.proofs.Common.{◌≡◌, ◌+◌, ◌-◌, ◌≤◌, ℕ, zero, suc, List, [], ◌∷◌, ◌++◌, Option, Some, None, length, drop, sym, ap, ◌∙◌, arith, length-drop, length-append, codes}
use Rattle.text_rewriting.proofs.Common.{str_eq_ignore_ascii_case, drop-length, drop-nil, drop-append-add, drop-drop, ◌>>=◌, given, before, gap, word, macro_word}
use Rattle.text_rewriting.specs.Marks.{last}

pub none_at_end : (w : List ℕ) (n : ℕ) → n ≡ 0 → macro_word (last n w) ≡ None
none_at_end w n z =
    let e : length w - n ≡ length w = omega arith in
    ap (λ (k : ℕ). macro_word (drop k w)) e ∙ ap macro_word (drop-length w)

module _ (old new : List ℕ) (n : ℕ) (none : macro_word (last n old) ≡ None) where
  -- bytes are taken
  pub none_behind : (k : ℕ) → new ≡ drop k old → k ≤ length old → n ≤ length new → macro_word (last n new) ≡ None
  none_behind k e h l =
      let m : length new ≡ length old - k = ap length e ∙ length-drop k old in
      let s : k + (length new - n) ≡ length old - n = omega (arith, m, h, l) in
      let d : last n new ≡ last n old = ap (drop (length new - n)) e ∙ drop-drop (length new - n) k old ∙ ap (λ (i : ℕ). drop i old) s in
      ap macro_word d ∙ none

  -- a byte is taken
  pub none_next : (b : ℕ) → old ≡ b ∷ new → n ≤ length new → macro_word (last n new) ≡ None
  none_next b e l = let s : 1 ≤ length old = omega (arith, ap length e) in none_behind 1 (sym (ap (drop 1) e)) s l

  -- bytes are put in front
  pub none_before : (v : List ℕ) → new ≡ v ++ old → n ≤ length old → macro_word (last n new) ≡ None
  none_before v e l =
      let m : length new ≡ length v + length old = ap length e ∙ length-append v old in
      let s : length new - n ≡ length v + (length old - n) = omega (arith, m, l) in
      let d : last n new ≡ last n old = ap (λ (i : ℕ). drop i new) s ∙ ap (drop (length v + (length old - n))) e ∙ drop-append-add v old (length old - n) in
      ap macro_word d ∙ none

pub more_before : (old new : List ℕ) (n : ℕ) (v : List ℕ) → new ≡ v ++ old → n ≤ length old → n ≤ length new
more_before old new n v e l = omega (arith, ap length e, length-append v old, l)

-- a look with so many bytes ahead is at the last ones
pub at_last : (w : List ℕ) (p n : ℕ) → length (drop p w) ≡ n → drop p w ≡ last n w
at_last [] p n e = drop-nil {A = ℕ} p ∙ sym (drop-nil {A = ℕ} (length {A = ℕ} [] - n))
at_last (b ∷ bs) zero n e = let z : length (b ∷ bs) - n ≡ 0 = omega (arith, e) in sym (ap (λ (k : ℕ). drop k (b ∷ bs)) z)
at_last (b ∷ bs) (suc p) n e =
    let f : length (drop p bs) ≡ n = e in
    let s : length (b ∷ bs) - n ≡ suc (length bs - n) = omega (arith, f, length-drop p bs) in
    at_last bs p n f ∙ ap (λ (k : ℕ). drop k (b ∷ bs)) (sym s)

-- the word MACRO after a gap, by the end of the gap
abbrev with_name : List ℕ → List ℕ → Option (List ℕ × List ℕ)
with_name g behind = Some (before g behind, behind)

abbrev of_name : List ℕ × List ℕ → Option (List ℕ)
of_name w = given (str_eq_ignore_ascii_case (codes "MACRO") w.0) w.1

abbrev by_gap : List ℕ → Option (List ℕ)
by_gap g = (word g >>= with_name g) >>= of_name

pub same_word : (v w : List ℕ) → gap v ≡ gap w → macro_word v ≡ macro_word w
same_word v w e = ap by_gap e

-- none is if a look stopped
pub none_stopped : (w start : List ℕ) (p n : ℕ) → gap (drop p w) ≡ gap start → length (drop p w) ≡ n → macro_word (last n w) ≡ None → macro_word start ≡ None
none_stopped w start p n g e none = sym (same_word (drop p w) start g) ∙ ap macro_word (at_last w p n e) ∙ none

-- none follows what was passed
pub none_passed : (v start : List ℕ) → gap v ≡ gap start → macro_word v ≡ None → macro_word start ≡ None
none_passed v start g none = sym (same_word v start g) ∙ none
