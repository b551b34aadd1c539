-- Private: ids of words made of others, as abel_meaning makes their formulas (this project's rule).
use Rattle.std.specs.Prelude.{ℕ, zero, suc, ◌/◌, ◌%◌, ◌==◌, Bool, true, false, List, [], ◌∷◌}
use Rattle.expr_bits.specs.Prelude.{ExprId}

-- the id of a constant
abbrev pub bit_id : Bool → ExprId
bit_id false = record { 0 = 0 }
bit_id true = record { 0 = 1 }

-- the digits of a number in w positions
abbrev pub digit_ids : ℕ → ℕ → List ExprId
digit_ids zero n = []
digit_ids (suc w) n = bit_id (n % 2 == 1) ∷ digit_ids w (n / 2)

-- the first w positions, filled with zeros
abbrev pub resized_ids : ℕ → List ExprId → List ExprId
resized_ids zero xs = []
resized_ids (suc w) [] = bit_id false ∷ resized_ids w []
resized_ids (suc w) (x ∷ xs) = x ∷ resized_ids w xs

-- the positions that are not dropped
abbrev pub kept_ids : List Bool → List ExprId → List ExprId
kept_ids [] xs = []
kept_ids (b ∷ bs) [] = []
kept_ids (true ∷ bs) (x ∷ xs) = kept_ids bs xs
kept_ids (false ∷ bs) (x ∷ xs) = x ∷ kept_ids bs xs
