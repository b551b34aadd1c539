-- Blanks at the front, and what follows them.
use Rattle.std.proofs.Common.{◌≡◌, ℕ, suc, ◌+◌, inl, inr, Bool, true, false, cond, List, [], ◌∷◌, ◌++◌, length, take, drop, refl, sym, ap, subst, ◌∙◌, arith}
use Rattle.abel_lexer.proofs.Common.{list_all, prefix_len, take_at, drop_at, is_blank, starts}
use Rattle.abel_lexer.proofs.Booleans.{bool_cases, and_parts}

-- the blanks at the front
abbrev pub gap_of : List ℕ → List ℕ
gap_of ts = take (prefix_len is_blank ts) ts

-- what follows them
abbrev pub behind_gap : List ℕ → List ℕ
behind_gap ts = drop (prefix_len is_blank ts) ts

gap_len : (gap rest : List ℕ) → list_all is_blank gap ≡ true → starts is_blank rest ≡ false → prefix_len is_blank (gap ++ rest) ≡ length gap
gap_len [] [] h s = refl
gap_len [] (b ∷ bs) h s = rw s refl
gap_len (b ∷ gap) rest h s =
    let p = and_parts (is_blank b) (list_all is_blank gap) h in
    rw p.0 (omega (arith, gap_len gap rest p.1 s))

-- blanks before a byte that isn't one are all the blanks at the front
pub gap_is : (ts gap rest : List ℕ) → ts ≡ gap ++ rest → list_all is_blank gap ≡ true → starts is_blank rest ≡ false → (gap ≡ gap_of ts) × (rest ≡ behind_gap ts)
gap_is ts gap rest e h s =
    let n : length gap ≡ prefix_len is_blank ts = sym (ap (prefix_len is_blank) e ∙ gap_len gap rest h s) in
    (sym (ap (take (prefix_len is_blank ts)) e ∙ take_at gap rest (prefix_len is_blank ts) n), sym (ap (drop (prefix_len is_blank ts)) e ∙ drop_at gap rest (prefix_len is_blank ts) n))

-- after the blanks is no blank
pub dark_behind : (ts : List ℕ) → starts is_blank (behind_gap ts) ≡ false
dark_behind [] = refl
dark_behind (b ∷ bs) =
    elim (bool_cases (is_blank b)) [
      | inl d ↦ let one : 1 + prefix_len is_blank bs ≡ suc (prefix_len is_blank bs) = omega arith in rw d (rw one (dark_behind bs))
      | inr d ↦ rw d d
    ]
