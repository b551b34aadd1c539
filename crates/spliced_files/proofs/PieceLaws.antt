-- The first asterisk ends the first piece of a text.
use Rattle.std.proofs.Common.{◌≡◌, ℕ, ◌+◌, ◌≤◌, ◌==◌, nat_lt, List, [], ◌∷◌, ◌++◌, length, take, drop, Option, Some, None, MatchOption, inl, inr, sym, ap, ◌∙◌, append_assoc, append-nil, arith, position}
use Rattle.std.proofs.lemmas.Bool.{cases_Bool}
use Rattle.std.proofs.lemmas.Bool.Decides.{nat_tests}
use Rattle.std.proofs.lemmas.List.Splits.{slice_split_first, slice_split_none}
use Rattle.std.proofs.lemmas.List.Sums.{fails_before_first}
use Rattle.std.specs.List.{position_or_len}
use Rattle.jedec_file.specs.FieldLists.{pieces}
use Rattle.jedec_file.specs.Fields.{trimmed}
use Rattle.spliced_files.specs.Kept.{kept_line, kept_lines}

-- a text without an asterisk is one piece
pieces_whole : (text : List ℕ) → None ≡ position (λ b. b == 42) text → pieces text ≡ text ∷ []
pieces_whole text none = elim (cases_Bool (nat_lt (position_or_len (λ b. b == 42) text) (length text))) [
  | inl low ↦ absurd (let some = rw low at none in cc)
  | inr high ↦
      let past : length text ≤ position_or_len (λ b. b == 42) text = grind (arith, nat_tests) in
      slice_split_none (λ b. b == 42) text (λ k d low. fails_before_first (λ b. b == 42) text k d (omega (arith, past, low)))
]

-- the first asterisk ends the first piece
pieces_cut : (text : List ℕ) (k : ℕ) → Some k ≡ position (λ b. b == 42) text → pieces text ≡ take k text ∷ pieces (drop (k + 1) text)
pieces_cut text k found = elim (cases_Bool (nat_lt (position_or_len (λ b. b == 42) text) (length text))) [
  | inr high ↦ absurd (let none = rw high at found in cc)
  | inl low ↦
      let same : k ≡ position_or_len (λ b. b == 42) text = cc (rw low at found) in
      rw same (slice_split_first (λ b. b == 42) text 0 (grind (arith, nat_tests)))
]

pub pieces_at : (text : List ℕ) (found : Option ℕ) → found ≡ position (λ b. b == 42) text → MatchOption found (pieces text ≡ text ∷ []) (λ k. pieces text ≡ take k text ∷ pieces (drop (k + 1) text))
pieces_at text None is = pieces_whole text is
pieces_at text (Some k) is = pieces_cut text k is

-- ---- the lines that are kept, piece by piece

pub one_more : (front piece : List ℕ) (all rest : List (List ℕ)) → all ≡ piece ∷ rest → (front ++ kept_line (trimmed piece)) ++ kept_lines rest ≡ front ++ kept_lines all
one_more front piece all rest is = append_assoc front (kept_line (trimmed piece)) (kept_lines rest) ∙ ap (λ ps. front ++ kept_lines ps) (sym is)

pub last_one : (front piece : List ℕ) (all : List (List ℕ)) → all ≡ piece ∷ [] → front ++ kept_line (trimmed piece) ≡ front ++ kept_lines all
last_one front piece all is = ap (λ line. front ++ line) (sym (append-nil (kept_line (trimmed piece)))) ∙ ap (λ ps. front ++ kept_lines ps) (sym is)
