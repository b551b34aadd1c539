-- The laws of truth tables and test vectors.
use Rattle.std.proofs.Common.{ℕ, zero, suc, true, false, [], ◌∷◌, refl}
use Rattle.abel_grammar.proofs.Common.{token, ◌then◌, repeated, read_token, ◌then_read◌, Text, Open, Close, Semicolon, TruthTable, TestVectors, among, one, read_one, expr, read_expr, arrows, plain_arrow, row_of, row_as, row, header_as, header, table_of, table, vector_row_of, vector_row, vector_header, vectors_of, vectors, read_row_as, read_row, read_header_as, read_header, read_rows, read_table, read_vector_row, read_vector_header, read_vector_rows, read_vectors}
use Rattle.abel_grammar.proofs.Sets.{Obeys, one_laws, some_laws, then_laws, perhaps, any_number, turned, placed_obeys, too_deep}
use Rattle.abel_grammar.proofs.ExpressionLaws.{exprs, behind_expr, text_laws, expr_laws}

-- ---- truth tables

pub table_row_laws : (n : ℕ) → Obeys (row n) (row (suc n)) (read_row n) (read_row (suc n)) exprs [] false
unfolding row_as read_row_as
table_row_laws n =
    turned row_of exprs [] false
    (placed_obeys exprs []
    (then_laws exprs behind_expr arrows [] false false (expr_laws n)
    (then_laws arrows [] exprs [] false false (some_laws arrows)
    (then_laws exprs behind_expr (Semicolon ∷ []) [] false false (expr_laws n) (one_laws Semicolon) refl) refl) refl))

table_header_laws : (n : ℕ) → Obeys (header n) (header (suc n)) (read_header n) (read_header (suc n)) (Open ∷ []) [] false
unfolding header_as read_header_as
table_header_laws zero = too_deep row_of (Open ∷ []) (expr zero then token (among arrows) then expr zero then one Close) (read_expr zero then_read read_token (among arrows) then_read read_expr zero then_read read_one Close) []
table_header_laws (suc n) =
    turned row_of (Open ∷ []) [] false
    (then_laws (Open ∷ []) [] exprs [] false false (one_laws Open)
    (then_laws exprs behind_expr arrows [] false false (expr_laws n)
    (then_laws arrows [] exprs [] false false (some_laws arrows)
    (then_laws exprs behind_expr (Close ∷ []) [] false false (expr_laws n) (one_laws Close) refl) refl) refl) refl)

table_rows_laws : (n : ℕ) → Obeys (repeated (row n)) (repeated (row (suc n))) (read_rows n) (read_rows (suc n)) exprs exprs true
table_rows_laws n = any_number exprs [] (table_row_laws n) refl

pub table_laws : (n : ℕ) → Obeys (table n) (table (suc n)) (read_table n) (read_table (suc n)) (TruthTable ∷ []) exprs false
unfolding table read_table
table_laws n =
    turned table_of (TruthTable ∷ []) exprs false
    (then_laws (TruthTable ∷ []) [] (Open ∷ []) exprs false false (one_laws TruthTable)
    (then_laws (Open ∷ []) [] exprs exprs false true (table_header_laws n) (table_rows_laws n) refl) refl)

-- ---- test vectors

pub vector_row_laws : (n : ℕ) → Obeys (vector_row n) (vector_row (suc n)) (read_vector_row n) (read_vector_row (suc n)) exprs [] false
unfolding row_as read_row_as
vector_row_laws n =
    turned vector_row_of exprs [] false
    (placed_obeys exprs []
    (then_laws exprs behind_expr plain_arrow [] false false (expr_laws n)
    (then_laws plain_arrow [] exprs [] false false (some_laws plain_arrow)
    (then_laws exprs behind_expr (Semicolon ∷ []) [] false false (expr_laws n) (one_laws Semicolon) refl) refl) refl))

vector_header_laws : (n : ℕ) → Obeys (vector_header n) (vector_header (suc n)) (read_vector_header n) (read_vector_header (suc n)) (Open ∷ []) [] false
unfolding header_as read_header_as
vector_header_laws zero = too_deep vector_row_of (Open ∷ []) (expr zero then token (among plain_arrow) then expr zero then one Close) (read_expr zero then_read read_token (among plain_arrow) then_read read_expr zero then_read read_one Close) []
vector_header_laws (suc n) =
    turned vector_row_of (Open ∷ []) [] false
    (then_laws (Open ∷ []) [] exprs [] false false (one_laws Open)
    (then_laws exprs behind_expr plain_arrow [] false false (expr_laws n)
    (then_laws plain_arrow [] exprs [] false false (some_laws plain_arrow)
    (then_laws exprs behind_expr (Close ∷ []) [] false false (expr_laws n) (one_laws Close) refl) refl) refl) refl)

vector_rows_laws : (n : ℕ) → Obeys (repeated (vector_row n)) (repeated (vector_row (suc n))) (read_vector_rows n) (read_vector_rows (suc n)) exprs exprs true
vector_rows_laws n = any_number exprs [] (vector_row_laws n) refl

pub vectors_laws : (n : ℕ) → Obeys (vectors n) (vectors (suc n)) (read_vectors n) (read_vectors (suc n)) (TestVectors ∷ []) exprs false
unfolding vectors read_vectors
vectors_laws n =
    turned vectors_of (TestVectors ∷ []) exprs false
    (then_laws (TestVectors ∷ []) [] (Text ∷ Open ∷ []) exprs false false (one_laws TestVectors)
    (then_laws (Text ∷ []) (Text ∷ []) (Open ∷ []) exprs true false (perhaps (Text ∷ []) [] text_laws)
    (then_laws (Open ∷ []) [] exprs exprs false true (vector_header_laws n) (vector_rows_laws n) refl) refl) refl)
