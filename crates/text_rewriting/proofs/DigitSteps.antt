-- The digits of a value, the last of them after the others.
use Rattle.std.proofs.Common.{◌≡◌, ◌-◌, ◌<◌, ◌≤◌, ℕ, zero, suc, Bool, true, false, List, [], ◌∷◌, ◌++◌, length, take, drop, refl, sym, ap, ◌∙◌, arith, append-nil, append_assoc, length-append, codes, ◌/◌, ◌%◌, slice_index, nat_lt}
use Rattle.text_rewriting.proofs.Common.{lt-ltb, le-ltb, digits_in, Gathering}

pub digit_at : (w : List ℕ) (i : ℕ) → i < length w → take 1 (drop i w) ≡ slice_index w i ∷ []
digit_at [] i h = absurd (omega arith)
digit_at (x ∷ w) zero h = refl
digit_at (x ∷ w) (suc i) h = digit_at w i (omega arith)

abbrev digit_of : ℕ → List ℕ
digit_of v = slice_index (codes "0123456789ABCDEF") v ∷ []

abbrev digits_by : ℕ → ℕ → ℕ → Bool → List ℕ
digits_by most radix value b = elim b [ true ↦ digit_of value | false ↦ digits_in most radix (value / radix) ++ digit_of (value % radix) ]

pub no_digits : (g : Gathering) (most radix value : ℕ) → most ≡ 0 → g ≡ record g { text = g.text ++ digits_in most radix value }
no_digits g most radix value z = ap (λ (w : List ℕ). record g { text = w }) (sym (ap (λ (n : ℕ). g.text ++ digits_in n radix value) z ∙ append-nil g.text))

module _ (most radix value : ℕ) (some : most ≡ 0 → ⊥) where
  next : digits_in most radix value ≡ digits_by (most - 1) radix value (nat_lt value radix)
  next = let e : most ≡ suc (most - 1) = omega arith in ap (λ (n : ℕ). digits_in n radix value) e

  one_digit : value < radix → digits_in most radix value ≡ digit_of value
  one_digit h = next ∙ ap (digits_by (most - 1) radix value) (lt-ltb value radix h)

  more_digits : radix ≤ value → digits_in most radix value ≡ digits_in (most - 1) radix (value / radix) ++ digit_of (value % radix)
  more_digits h = next ∙ ap (digits_by (most - 1) radix value) (le-ltb value radix h)

  pub one_added : (g k : Gathering) (w : List ℕ) → value < radix → w ≡ slice_index (codes "0123456789ABCDEF") value ∷ [] → k ≡ record g { text = g.text ++ w } → k ≡ record g { text = g.text ++ digits_in most radix value }
  one_added g k w h d e = e ∙ ap (λ (v : List ℕ). record g { text = g.text ++ v }) (d ∙ sym (one_digit h))

  pub one_long : (text w : List ℕ) (room : ℕ) → value < radix → w ≡ slice_index (codes "0123456789ABCDEF") value ∷ [] → room < length (text ++ w) → room < length (text ++ digits_in most radix value)
  one_long text w room h d l = let e = ap (λ (v : List ℕ). length (text ++ v)) (d ∙ sym (one_digit h)) in omega (arith, e, l)

  pub more_added : (g k : Gathering) (w : List ℕ) → radix ≤ value → w ≡ slice_index (codes "0123456789ABCDEF") (value % radix) ∷ []
      → k ≡ record g { text = (g.text ++ digits_in (most - 1) radix (value / radix)) ++ w } → k ≡ record g { text = g.text ++ digits_in most radix value }
  more_added g k w h d e =
      e ∙ ap (λ (v : List ℕ). record g { text = v }) (append_assoc g.text (digits_in (most - 1) radix (value / radix)) w)
      ∙ ap (λ (v : List ℕ). record g { text = g.text ++ v }) (ap (λ (v : List ℕ). digits_in (most - 1) radix (value / radix) ++ v) d ∙ sym (more_digits h))

  pub more_long : (text : List ℕ) (room : ℕ) → radix ≤ value → room < length (text ++ digits_in (most - 1) radix (value / radix)) → room < length (text ++ digits_in most radix value)
  more_long text room h l =
      let e = ap length (more_digits h) in
      omega (arith, e, l, length-append text (digits_in (most - 1) radix (value / radix)), length-append text (digits_in most radix value), length-append (digits_in (most - 1) radix (value / radix)) (digit_of (value % radix)))

  pub last_long : (text w : List ℕ) (room : ℕ) → radix ≤ value → w ≡ slice_index (codes "0123456789ABCDEF") (value % radix) ∷ [] → room < length ((text ++ digits_in (most - 1) radix (value / radix)) ++ w) → room < length (text ++ digits_in most radix value)
  last_long text w room h d l =
      let e = ap length (ap (λ (v : List ℕ). digits_in (most - 1) radix (value / radix) ++ v) d ∙ sym (more_digits h)) in
      omega (arith, e, l, length-append (text ++ digits_in (most - 1) radix (value / radix)) w, length-append text (digits_in (most - 1) radix (value / radix)), length-append text (digits_in most radix value), length-append (digits_in (most - 1) radix (value / radix)) w)
