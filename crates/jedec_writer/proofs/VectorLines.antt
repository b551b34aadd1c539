-- The lines of the vectors, one more at a time.
use Rattle.std.proofs.Common.{◌≡◌, ℕ, suc, ◌+◌, ◌<◌, List, ◌∷◌, ◌++◌, length, drop, get_or, sym, ap, ◌∙◌, add-one, append_assoc, codes}
use Rattle.jedec_writer.proofs.Common.{drop_more, Vector, Table, four_digits, line, space, all_chars, chars_of, vector_lines}

-- the line of a vector and those of the vectors after it, which begin with its own
vectors_from : (t : Table) (vectors : List Vector) (i n : ℕ) (d : Vector) → i < length vectors
    → vector_lines n (all_chars t (drop i vectors))
    ≡ line (codes "V" ++ four_digits n ++ space ∷ chars_of t (get_or vectors i d)) ++ vector_lines (suc n) (all_chars t (drop (i + 1) vectors))
vectors_from t vectors i n d within = ap (λ (vs : List Vector). vector_lines n (all_chars t vs)) (drop_more vectors i d within)

pub one_vector_more : (t : Table) (vectors : List Vector) (i : ℕ) (d : Vector) (all now next : List ℕ) → i < length vectors
    → now ++ vector_lines (i + 1) (all_chars t (drop i vectors)) ≡ all
    → next ≡ now ++ line (codes "V" ++ four_digits (i + 1) ++ space ∷ chars_of t (get_or vectors i d))
    → next ++ vector_lines (i + 1 + 1) (all_chars t (drop (i + 1) vectors)) ≡ all
one_vector_more t vectors i d all now next within before then =
    let text = line (codes "V" ++ four_digits (i + 1) ++ space ∷ chars_of t (get_or vectors i d)) in
    let behind = vector_lines (i + 1 + 1) (all_chars t (drop (i + 1) vectors)) in
    let split : vector_lines (i + 1) (all_chars t (drop i vectors)) ≡ text ++ behind =
    vectors_from t vectors i (i + 1) d within ∙ ap (λ (n : ℕ). text ++ vector_lines n (all_chars t (drop (i + 1) vectors))) (sym (add-one (i + 1))) in
    ap (λ (out : List ℕ). out ++ behind) then ∙ append_assoc now text behind ∙ ap (λ (out : List ℕ). now ++ out) (sym split) ∙ before
