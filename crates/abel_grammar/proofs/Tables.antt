-- The places of truth tables and test vectors lie along their tokens, at each depth of nesting.
use Rattle.std.proofs.Common.{ℕ, zero, suc, List, ◌∷◌, ◌++◌, refl, sym, ap}
use Rattle.abel_grammar.proofs.Common.{flat_map, append_assoc, Place, RowTree, Open, Close, Semicolon, TruthTable, TestVectors, row_as, header_as, row, header, table, vector_row, vector_header, vectors, places_of_some, places_of_word, places_of_expr, places_of_row, places_of_section}
use Rattle.abel_grammar.proofs.Forms.{Lies, token_lies, both, behind, before, turned, nothing_lies, some_lies, many_lies, takes_token, takes_behind, placed_lies}
use Rattle.abel_grammar.proofs.Expressions.{one_lies, text_lies, expr_lies}

table_row_lies : (n : ℕ) → Lies (row n) places_of_row
unfolding row_as
table_row_lies n =
    turned (λ x. refl)
    (placed_lies (takes_behind (expr_lies n) (takes_behind (token_lies _) (takes_behind (expr_lies n) (takes_token _))))
    (both (expr_lies n) (behind (token_lies _) (before (expr_lies n) (one_lies Semicolon)))))

vector_row_lies : (n : ℕ) → Lies (vector_row n) places_of_row
unfolding row_as
vector_row_lies n =
    turned (λ x. refl)
    (placed_lies (takes_behind (expr_lies n) (takes_behind (token_lies _) (takes_behind (expr_lies n) (takes_token _))))
    (both (expr_lies n) (behind (token_lies _) (before (expr_lies n) (one_lies Semicolon)))))

-- a table keeps the sides of its header, and not the place
abbrev in_header : RowTree → List Place
in_header r = places_of_expr r.inputs ++ places_of_expr r.outputs

header_lies : (n : ℕ) → Lies (header n) in_header
unfolding header_as
header_lies zero = nothing_lies
header_lies (suc n) =
    turned (λ x. refl)
    (behind (one_lies Open) (both (expr_lies n) (behind (token_lies _) (before (expr_lies n) (one_lies Close)))))

vector_header_lies : (n : ℕ) → Lies (vector_header n) places_of_row
unfolding header_as
vector_header_lies zero = nothing_lies
vector_header_lies (suc n) =
    turned (λ x. refl)
    (both (one_lies Open) (both (expr_lies n) (behind (token_lies _) (before (expr_lies n) (one_lies Close)))))

pub table_lies : (n : ℕ) → Lies (table n) places_of_section
unfolding table
table_lies n =
    turned (λ x. ap (λ (l : List Place). x.0.place ∷ l) (sym (append_assoc (places_of_expr x.1.0.inputs) (places_of_expr x.1.0.outputs) (flat_map places_of_row x.1.1))))
    (both (one_lies TruthTable) (both (header_lies n) (many_lies (table_row_lies n))))

pub vectors_lies : (n : ℕ) → Lies (vectors n) places_of_section
unfolding vectors
vectors_lies n =
    turned (λ x. ap (λ (l : List Place). places_of_some places_of_word x.1.0 ++ (x.1.1.0.place ∷ l)) (sym (append_assoc (places_of_expr x.1.1.0.inputs) (places_of_expr x.1.1.0.outputs) (flat_map places_of_row x.1.1.1))))
    (behind (one_lies TestVectors) (both (some_lies text_lies) (both (vector_header_lies n) (many_lies (vector_row_lies n)))))
