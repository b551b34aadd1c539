-- The length of a text in quotes at the front is that of the only one there.
use Rattle.std.proofs.Common.{◌≡◌, ℕ, ◌+◌, ◌≤◌, ◌<◌, inl, inr, Bool, false, not, List, [], ◌∷◌, ◌++◌, length, take, refl, sym, ap, subst, ◌∙◌, arith, append_assoc, length-append, ◌==◌, ◌&&◌, ◌||◌}
use Rattle.abel_lexer.proofs.Common.{AllByRecursion, concat, take_at, eqb-true, quote, backslash, IsPiece, IsQuoted, quote_end, quoted_len}
use Rattle.std.proofs.lemmas.List.Elements.{All-from_recursion, recursion_from_All}
use Rattle.abel_lexer.proofs.Munches.{Munches}
use Rattle.abel_lexer.proofs.Booleans.{bool_cases, neither}

end_fits : (at : ℕ) (taken : Bool) (ts : List ℕ) → quote_end at taken ts ≤ at + length ts
end_fits at taken [] = omega arith
end_fits at taken (b ∷ bs) =
    elim (bool_cases (not taken && b == quote)) [
      | inl e ↦ rw e (omega arith)
      | inr e ↦ rw e (omega (arith, end_fits (at + 1) (not taken && b == backslash) bs))
    ]

-- after pieces and a quote the text ends
end_past : (at : ℕ) (pieces : List (List ℕ)) (rest : List ℕ) → AllByRecursion IsPiece pieces → quote_end at false (concat pieces ++ quote ∷ rest) ≡ at + length (concat pieces) + 1
end_past at [] rest h = omega arith
end_past at ([] ∷ ps) rest h = absurd h.0
end_past at ((b ∷ []) ∷ ps) rest h =
    let p = neither (b == quote) (b == backslash) h.0 in
    rw p.0 (rw p.1 (omega (arith, end_past (at + 1) ps rest h.1)))
end_past at ((b ∷ c ∷ []) ∷ ps) rest h = rw h.0 (omega (arith, end_past (at + 1 + 1) ps rest h.1))
end_past at ((b ∷ c ∷ d ∷ bs) ∷ ps) rest h = absurd h.0

pub record Closed (ts : List ℕ) : Type 0 where
  pub pieces : List (List ℕ)
  pub rest : List ℕ
  pub each : AllByRecursion IsPiece pieces
  pub parts : ts ≡ concat pieces ++ quote ∷ rest

one_more : (b : ℕ) (bs : List ℕ) → (b == quote || b == backslash) ≡ false → Closed bs → Closed (b ∷ bs)
one_more b bs e c = record { pieces = (b ∷ []) ∷ c.pieces; rest = c.rest; each = (e, c.each); parts = ap (λ (m : List ℕ). b ∷ m) c.parts }

two_more : (b x : ℕ) (bs : List ℕ) → b ≡ backslash → Closed bs → Closed (b ∷ x ∷ bs)
two_more b x bs e c = record { pieces = (b ∷ x ∷ []) ∷ c.pieces; rest = c.rest; each = (e, c.each); parts = ap (λ (m : List ℕ). b ∷ x ∷ m) c.parts }

-- a text that ends is pieces and a quote
closed : (at : ℕ) (ts : List ℕ) → 0 < quote_end at false ts → Closed ts
closed at [] lt = absurd (omega arith)
closed at (b ∷ []) lt =
    elim (bool_cases (b == quote)) [
      | inl e ↦ record { pieces = []; rest = []; each = tt; parts = ap (λ (m : ℕ). m ∷ []) (eqb-true b quote e) }
      | inr e ↦ absurd (let none : quote_end at false (b ∷ []) ≡ 0 = rw e refl in omega arith)
    ]
closed at (b ∷ c ∷ cs) lt =
    elim (bool_cases (b == quote)) [
      | inl e ↦ record { pieces = []; rest = c ∷ cs; each = tt; parts = ap (λ (m : ℕ). m ∷ c ∷ cs) (eqb-true b quote e) }
      | inr e ↦
          let next : quote_end at false (b ∷ c ∷ cs) ≡ quote_end (at + 1) (b == backslash) (c ∷ cs) = rw e refl in
          elim (bool_cases (b == backslash)) [
            | inl d ↦
                let skips : quote_end at false (b ∷ c ∷ cs) ≡ quote_end (at + 1 + 1) false cs = next ∙ ap (λ (v : Bool). quote_end (at + 1) v (c ∷ cs)) d in
                two_more b c cs (eqb-true b backslash d) (closed (at + 1 + 1) cs (subst (λ (n : ℕ). 0 < n) skips lt))
            | inr d ↦
                let goes : quote_end at false (b ∷ c ∷ cs) ≡ quote_end (at + 1) false (c ∷ cs) = next ∙ ap (λ (v : Bool). quote_end (at + 1) v (c ∷ cs)) d in
                one_more b (c ∷ cs) (rw e d) (closed (at + 1) (c ∷ cs) (subst (λ (n : ℕ). 0 < n) goes lt))
          ]
    ]

quoted_fits : (ts : List ℕ) → quoted_len ts ≤ length ts
quoted_fits [] = omega arith
quoted_fits (b ∷ bs) =
    elim (bool_cases (b == quote)) [
      | inl e ↦ rw e (omega (arith, end_fits 1 false bs))
      | inr e ↦ rw e (omega arith)
    ]

-- the pieces with their two quotes, before a rest
whole : (bs : List ℕ) (c : Closed bs) → quote ∷ bs ≡ ((quote ∷ concat c.pieces) ++ quote ∷ []) ++ c.rest
whole bs c = ap (λ (m : List ℕ). quote ∷ m) c.parts ∙ sym (append_assoc (quote ∷ concat c.pieces) (quote ∷ []) c.rest)

taken_whole : (bs : List ℕ) (c : Closed bs) → take (quote_end 1 false bs) (quote ∷ bs) ≡ (quote ∷ concat c.pieces) ++ quote ∷ []
taken_whole bs c =
    let long : quote_end 1 false bs ≡ 1 + length (concat c.pieces) + 1 = ap (quote_end 1 false) c.parts ∙ end_past 1 c.pieces c.rest c.each in
    let same : length ((quote ∷ concat c.pieces) ++ quote ∷ []) ≡ quote_end 1 false bs = omega (arith, long, length-append (quote ∷ concat c.pieces) (quote ∷ [])) in
    ap (take (quote_end 1 false bs)) (whole bs c) ∙ take_at ((quote ∷ concat c.pieces) ++ quote ∷ []) c.rest (quote_end 1 false bs) same

quoted_token : (ts : List ℕ) → 0 < quoted_len ts → IsQuoted (take (quoted_len ts) ts)
quoted_token [] lt = absurd (omega arith)
quoted_token (b ∷ bs) lt =
    elim (bool_cases (b == quote)) [
      | inl e ↦
          let n : quoted_len (b ∷ bs) ≡ quote_end 1 false bs = rw e refl in
          let c = closed 1 bs (subst (λ (m : ℕ). 0 < m) n lt) in
          let is : take (quoted_len (b ∷ bs)) (b ∷ bs) ≡ take (quote_end 1 false bs) (quote ∷ bs) = ap (λ (m : ℕ). take m (b ∷ bs)) n ∙ ap (λ (m : ℕ). take (quote_end 1 false bs) (m ∷ bs)) (eqb-true b quote e) in
          record { pieces = c.pieces; each = All-from_recursion IsPiece c.pieces c.each; joined = is ∙ taken_whole bs c }
      | inr e ↦ absurd (let n : quoted_len (b ∷ bs) ≡ 0 = rw e refl in omega arith)
    ]

quoted_longest : (w rest : List ℕ) → IsQuoted w → length w ≤ quoted_len (w ++ rest)
quoted_longest w rest q =
    let text : w ++ rest ≡ quote ∷ (concat q.pieces ++ quote ∷ rest) = ap (λ (m : List ℕ). m ++ rest) q.joined ∙ append_assoc (quote ∷ concat q.pieces) (quote ∷ []) rest in
    let long : quoted_len (w ++ rest) ≡ 1 + length (concat q.pieces) + 1 = ap quoted_len text ∙ end_past 1 q.pieces rest (recursion_from_All IsPiece q.pieces q.each) in
    omega (arith, long, ap length q.joined, length-append (quote ∷ concat q.pieces) (quote ∷ []))

quoted_some : (w : List ℕ) → IsQuoted w → 0 < length w
quoted_some w q = omega (arith, ap length q.joined, length-append (quote ∷ concat q.pieces) (quote ∷ []))

pub quoted_munches : Munches IsQuoted quoted_len
quoted_munches = record { fits = quoted_fits; token = quoted_token; longest = quoted_longest; some = quoted_some }
