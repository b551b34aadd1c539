-- Private: shapes and positions of bits (this project's rule).
use Rattle.std.specs.Prelude.{◌≡◌, ℕ, Bool, true, false, Option, None, Some, List, [], ◌∷◌}
use Rattle.expr_bits.specs.Prelude.{Const, ExprId, Word}
use Rattle.set_expr.specs.declared.shaped.Shape.{Shape}
use Rattle.set_expr.specs.declared.shaped.Shape.TheVariants as shape
use Rattle.expr_bits.specs.declared.forms.Form.{Form}
use Rattle.expr_bits.specs.declared.forms.Form.TheVariants as form

-- the shape of so many positions
abbrev pub shape_of : Form → ℕ → Shape
shape_of (form.Number n) k = shape.Number n
shape_of form.Single k = shape.Single
shape_of form.Set k = shape.Set k

-- a position, none if it is X
abbrev pub place_of : ExprId → (unknown : Bool) → Option ExprId
place_of id true = None
place_of id false = Some id

abbrev pub shown_ids : List ExprId → List Bool → List (Option ExprId)
shown_ids [] xs = []
shown_ids (id ∷ ids) [] = []
shown_ids (id ∷ ids) (x ∷ xs) = place_of id x ∷ shown_ids ids xs

-- what is X has the bit 0
abbrev pub IsBlank : List Bool → Word → Type 0
IsBlank [] w = Unit {0}
IsBlank (x ∷ xs) [] = Unit {0}
IsBlank (true ∷ xs) (f ∷ w) = (f ≡ Const false) × IsBlank xs w
IsBlank (false ∷ xs) (f ∷ w) = IsBlank xs w
