-- The end of a block or an argument depends only on its bytes up to there: it ends so in each text that begins with
-- them.
use Rattle.std.proofs.Common.{◌≡◌, ℕ, zero, suc, ◌-◌, ◌<◌, ◌≤◌, inl, inr, Bool, List, [], ◌∷◌, Some, length, take, drop, get_or, refl, sym, ap, ◌∙◌, arith, length-drop, ◌==◌, ◌&&◌, not, if◌then◌else◌}
use Rattle.text_pieces.proofs.Common.{braces, closes_block, closing, open_in, ends_argument, argument_end, is_plain, starts_byte, passing, quoting, rest_of, Mode}
use Rattle.abel_lexer.specs.Bytes.{note_mark, slash}
use Rattle.abel_lexer.proofs.Booleans.{bool_cases}
use Rattle.text_pieces.specs.declared.mode.Mode.TheVariants as mode

some_is : (xs ys : List ℕ) → Some xs ≡ Some ys → xs ≡ ys
some_is xs ys e = cc

-- an end isn't longer than its text
closing_short : (i : ℕ) (m : Mode) (xs ys : List ℕ) → closing i m xs ≡ Some ys → length ys ≤ length xs
closing_short i m [] ys e = absurd cc
closing_short i m (x ∷ xs) ys e =
    elim (bool_cases (closes_block m i x)) [
      | inl t ↦
          let s : Some (x ∷ xs) ≡ Some ys = ap (λ (b : Bool). if b then Some (x ∷ xs) else closing (braces m i x) (passing m x xs) xs) (sym t) ∙ e in
          omega (arith, ap length (some_is (x ∷ xs) ys s))
      | inr f ↦
          let s : closing (braces m i x) (passing m x xs) xs ≡ Some ys = ap (λ (b : Bool). if b then Some (x ∷ xs) else closing (braces m i x) (passing m x xs) xs) (sym f) ∙ e in
          omega (arith, closing_short (braces m i x) (passing m x xs) xs ys s)
    ]

-- texts that begin alike with one byte more have the same byte after the first
starts_alike : (n : ℕ) (xs ws : List ℕ) → take (suc n) xs ≡ take (suc n) ws → starts_byte slash xs ≡ starts_byte slash ws
starts_alike n [] [] e = refl
starts_alike n [] (w ∷ ws) e = absurd cc
starts_alike n (x ∷ xs) [] e = absurd cc
starts_alike n (x ∷ xs) (w ∷ ws) e = ap (λ (v : List ℕ). starts_byte slash v) e

passing_alike : (n : ℕ) (m : Mode) (x w : ℕ) (xs ws : List ℕ) → x ≡ w → take (suc n) xs ≡ take (suc n) ws → passing m x xs ≡ passing m w ws
passing_alike n m x w xs ws first others =
    ap (λ (t : Bool). if not (is_plain m) then quoting m x else if x == note_mark then mode.Note else if x == slash && t then mode.Line else quoting m x) (starts_alike n xs ws others)
    ∙ ap (λ (b : ℕ). passing m b ws) first

pub closing_alike : (n i : ℕ) (m : Mode) (xs ws : List ℕ) → closing i m xs ≡ Some (drop n xs) → n < length xs → take (suc n) xs ≡ take (suc n) ws → closing i m ws ≡ Some (drop n ws)
closing_alike n i m [] ws e h a = absurd (omega (arith, h))
closing_alike n i m (x ∷ xs) [] e h a = absurd cc
closing_alike zero i m (x ∷ xs) (w ∷ ws) e h a =
    let first : x ≡ w = ap (λ (v : List ℕ). get_or v 0 0) a in
    elim (bool_cases (closes_block m i x)) [
      | inl t ↦ ap (λ (b : Bool). if b then Some (w ∷ ws) else closing (braces m i w) (passing m w ws) ws) (ap (closes_block m i) (sym first) ∙ t)
      | inr f ↦
          let s : closing (braces m i x) (passing m x xs) xs ≡ Some (x ∷ xs) = ap (λ (b : Bool). if b then Some (x ∷ xs) else closing (braces m i x) (passing m x xs) xs) (sym f) ∙ e in
          absurd (omega (arith, closing_short (braces m i x) (passing m x xs) xs (x ∷ xs) s))
    ]
closing_alike (suc n) i m (x ∷ xs) (w ∷ ws) e h a =
    let first : x ≡ w = ap (λ (v : List ℕ). get_or v 0 0) a in
    let others : take (suc n) xs ≡ take (suc n) ws = ap rest_of a in
    let within : n < length xs = omega (arith, h) in
    elim (bool_cases (closes_block m i x)) [
      | inl t ↦
          let s : Some (x ∷ xs) ≡ Some (drop n xs) = ap (λ (b : Bool). if b then Some (x ∷ xs) else closing (braces m i x) (passing m x xs) xs) (sym t) ∙ e in
          absurd (omega (arith, ap length (some_is (x ∷ xs) (drop n xs) s), length-drop n xs))
      | inr f ↦
          let s : closing (braces m i x) (passing m x xs) xs ≡ Some (drop n xs) = ap (λ (b : Bool). if b then Some (x ∷ xs) else closing (braces m i x) (passing m x xs) xs) (sym f) ∙ e in
          let r = closing_alike n (braces m i x) (passing m x xs) xs ws s within others in
          let p = passing_alike n m x w xs ws first others in
          ap (λ (b : Bool). if b then Some (w ∷ ws) else closing (braces m i w) (passing m w ws) ws) (ap (closes_block m i) (sym first) ∙ f)
          ∙ ap (λ (k : Mode). closing (braces m i w) k ws) (sym p) ∙ ap (λ (b : ℕ). closing (braces m i b) (passing m x xs) ws) (sym first) ∙ r
    ]

-- ---- arguments

-- an end isn't longer than its text
end_short : (i j : ℕ) (m : Mode) (xs ys : List ℕ) → argument_end i j m xs ≡ Some ys → length ys ≤ length xs
end_short i j m [] ys e = absurd cc
end_short i j m (x ∷ xs) ys e =
    let on = argument_end (open_in m 40 41 i x) (open_in m 91 93 j x) (quoting m x) xs in
    elim (bool_cases (ends_argument i j m x)) [
      | inl t ↦
          let s : Some (x ∷ xs) ≡ Some ys = ap (λ (b : Bool). if b then Some (x ∷ xs) else on) (sym t) ∙ e in
          omega (arith, ap length (some_is (x ∷ xs) ys s))
      | inr f ↦
          let s : on ≡ Some ys = ap (λ (b : Bool). if b then Some (x ∷ xs) else on) (sym f) ∙ e in
          omega (arith, end_short (open_in m 40 41 i x) (open_in m 91 93 j x) (quoting m x) xs ys s)
    ]

pub end_alike : (n i j : ℕ) (m : Mode) (xs ws : List ℕ) → argument_end i j m xs ≡ Some (drop n xs) → n < length xs → take (suc n) xs ≡ take (suc n) ws → argument_end i j m ws ≡ Some (drop n ws)
end_alike n i j m [] ws e h a = absurd (omega (arith, h))
end_alike n i j m (x ∷ xs) [] e h a = absurd cc
end_alike zero i j m (x ∷ xs) (w ∷ ws) e h a =
    let first : x ≡ w = ap (λ (v : List ℕ). get_or v 0 0) a in
    let on = argument_end (open_in m 40 41 i x) (open_in m 91 93 j x) (quoting m x) xs in
    elim (bool_cases (ends_argument i j m x)) [
      | inl t ↦
          ap (λ (b : Bool). if b then Some (w ∷ ws) else argument_end (open_in m 40 41 i w) (open_in m 91 93 j w) (quoting m w) ws) (ap (ends_argument i j m) (sym first) ∙ t)
      | inr f ↦
          let s : on ≡ Some (x ∷ xs) = ap (λ (b : Bool). if b then Some (x ∷ xs) else on) (sym f) ∙ e in
          absurd (omega (arith, end_short (open_in m 40 41 i x) (open_in m 91 93 j x) (quoting m x) xs (x ∷ xs) s))
    ]
end_alike (suc n) i j m (x ∷ xs) (w ∷ ws) e h a =
    let first : x ≡ w = ap (λ (v : List ℕ). get_or v 0 0) a in
    let others : take (suc n) xs ≡ take (suc n) ws = ap rest_of a in
    let within : n < length xs = omega (arith, h) in
    let on = argument_end (open_in m 40 41 i x) (open_in m 91 93 j x) (quoting m x) xs in
    elim (bool_cases (ends_argument i j m x)) [
      | inl t ↦
          let s : Some (x ∷ xs) ≡ Some (drop n xs) = ap (λ (b : Bool). if b then Some (x ∷ xs) else on) (sym t) ∙ e in
          absurd (omega (arith, ap length (some_is (x ∷ xs) (drop n xs) s), length-drop n xs))
      | inr f ↦
          let s : on ≡ Some (drop n xs) = ap (λ (b : Bool). if b then Some (x ∷ xs) else on) (sym f) ∙ e in
          let r = end_alike n (open_in m 40 41 i x) (open_in m 91 93 j x) (quoting m x) xs ws s within others in
          ap (λ (b : Bool). if b then Some (w ∷ ws) else argument_end (open_in m 40 41 i w) (open_in m 91 93 j w) (quoting m w) ws) (ap (ends_argument i j m) (sym first) ∙ f)
          ∙ ap (λ (b : ℕ). argument_end (open_in m 40 41 i b) (open_in m 91 93 j b) (quoting m b) ws) (sym first) ∙ r
    ]
