-- The written list of a bit over a sound netlist, at levels of the pairs.
use Rattle.std.proofs.Common.{◌≡◌, ℕ, Bool, true, false, List, length, replicate, Some, refl, sym, ap, ◌∙◌, subst}
use Rattle.fitter.proofs.Common.{length-replicate, All-from_recursion, same_level, Levels, IsDevice, Table, Netlist, ExprId, arena, formula_at, formula_value, IsSoundNetlist, Cube, AllAskBelow, AsksBelow, covers, Products, Carries, HasValue, bit_list, written_values, IsSoundId}
use Rattle.fitter.proofs.CarriedPoints.{wires}

same_true : (b : Bool) → same_level b true ≡ b
same_true true = refl
same_true false = refl

list_has : (net : Netlist) (bit : ExprId) (rows : List Cube) (at : Levels) (pairs : List Bool) → bit_list net bit true ≡ Some rows
    → Carries net at pairs (formula_at (arena net.exprs) bit) → HasValue (Some rows) pairs (same_level (formula_value at (formula_at (arena net.exprs) bit)) true)
list_has net bit rows at pairs is carries =
    subst (λ (y : Products). HasValue y pairs (same_level (formula_value at (formula_at (arena net.exprs) bit)) true)) is
    (written_values net at pairs (formula_at (arena net.exprs) bit) true carries)

-- where levels carry a point with valued nodes, the list has the bit's value
pub list_at : (net : Netlist) (bit : ExprId) (rows : List Cube) (at : Levels) (pairs : List Bool) → bit_list net bit true ≡ Some rows
    → Carries net at pairs (formula_at (arena net.exprs) bit) → covers rows pairs ≡ formula_value at (formula_at (arena net.exprs) bit)
list_at net bit rows at pairs is carries = (list_has net bit rows at pairs is carries).1 ∙ same_true (formula_value at (formula_at (arena net.exprs) bit))

-- it asks no variable past the pairs
pub list_below : (t : Table) → IsDevice t → (net : Netlist) → IsSoundNetlist t net → (bit : ExprId) (rows : List Cube) → IsSoundId t net bit → bit_list net bit true ≡ Some rows
    → AllAskBelow (length t.pairs) rows
list_below t laws net sound bit rows id is =
    let none = replicate (length t.pairs) false in
    let w = wires t laws net sound none (length-replicate (length t.pairs) false) in
    subst (λ n. AllAskBelow n rows) (length-replicate (length t.pairs) false)
    (All-from_recursion (AsksBelow (length none)) rows (list_has net bit rows w.at none is (w.carries (formula_at (arena net.exprs) bit) id.formula)).0)
