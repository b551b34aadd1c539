-- Texts of numbers that are appended one after another.
use Rattle.std.proofs.Common.{◌≡◌, ℕ, ◌+◌, List, [], ◌∷◌, ◌++◌, flat_map, refl, ap, sym, ◌∙◌, append_assoc, append-nil, map-id}
use Rattle.std.proofs.Math.Nat.{zero-add}
use Rattle.std.proofs.lemmas.Grind.{flat_map-append}
use Rattle.std.proofs.lemmas.List.FromFn.{map-range_with_len_more}
use Rattle.std.specs.List.{range_with_len}

range_longer : (n : ℕ) → range_with_len 0 (n + 1) ≡ range_with_len 0 n ++ n ∷ []
range_longer n =
    sym (map-id (range_with_len 0 (n + 1)))
    ∙ (map-range_with_len_more (λ k. k) 0 n n (zero-add n) ∙ ap (λ xs. xs ++ n ∷ []) (map-id (range_with_len 0 n)))

-- the text of the next number follows those of the numbers before it
pub next_text : (text : ℕ → List ℕ) (before : List ℕ) (n : ℕ)
    → (before ++ flat_map text (range_with_len 0 n)) ++ text n ≡ before ++ flat_map text (range_with_len 0 (n + 1))
next_text text before n =
    append_assoc before (flat_map text (range_with_len 0 n)) (text n)
    ∙ ap (λ xs. before ++ xs)
    (sym (ap (λ ks. flat_map text ks) (range_longer n) ∙ flat_map-append text (range_with_len 0 n) (n ∷ [])
    ∙ ap (λ xs. flat_map text (range_with_len 0 n) ++ xs) (append-nil (text n))))
