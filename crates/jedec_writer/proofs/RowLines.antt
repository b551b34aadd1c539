-- The lines of the rows, one more at a time.
use Rattle.std.proofs.Common.{◌≡◌, ℕ, ◌+◌, ◌*◌, Bool, List, ◌++◌, slice_range, refl, sym, ap, ◌∙◌, add-one, append_assoc}
use Rattle.jedec_writer.proofs.Common.{append-nil, levels_line, row_line, row_lines}

pub no_rows : (columns : ℕ) (levels : List Bool) (out : List ℕ) → out ≡ out ++ row_lines columns levels 0
unfolding row_lines
no_rows columns levels out = sym (append-nil out)

pub one_row_more : (columns : ℕ) (levels : List Bool) (start now next : List ℕ) (n : ℕ)
    → now ≡ start ++ row_lines columns levels n → next ≡ now ++ row_line columns levels n → next ≡ start ++ row_lines columns levels (n + 1)
unfolding row_lines
one_row_more columns levels start now next n is then =
    let step : row_lines columns levels (n + 1) ≡ row_lines columns levels n ++ row_line columns levels n = rw add-one refl in
    then ∙ ap (λ (xs : List ℕ). xs ++ row_line columns levels n) is
    ∙ append_assoc start (row_lines columns levels n) (row_line columns levels n) ∙ ap (λ (xs : List ℕ). start ++ xs) (sym step)

pub row_is : (columns k l a b row : ℕ) (levels : List Bool)
    → k ≡ columns → l ≡ columns → a ≡ k * row → b ≡ k * row + l → levels_line (k * row) (slice_range levels a b) ≡ row_line columns levels row
row_is columns k l a b row levels ke le ae be = rw (be, ae, le, ke) refl
