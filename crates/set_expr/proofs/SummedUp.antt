-- What sums up the parts of an expression sums up the whole.
use Rattle.std.proofs.Common.{◌≡◌, List, [], ◌∷◌, ◌++◌, Option, None, Some, refl, sym, ap₂, ◌∙◌}
use Rattle.set_expr.proofs.Common.{earlier, first_refusal, first_append, SectionFault, section_order, Binary, Value, binary_value, unary_value, HasShapeIf, value_of_both, value_or_none}
use Rattle.abel_tree.specs.declared.words.Unary.{Unary}
use Rattle.set_expr.specs.declared.shaped.Shape.{Shape}

-- a list of two parts that is empty
pub left_empty : {A : Type 0} (xs ys : List A) → xs ++ ys ≡ [] → xs ≡ []
left_empty [] ys e = refl
left_empty (x ∷ xs) ys e = absurd cc

pub right_empty : {A : Type 0} (xs ys : List A) → xs ++ ys ≡ [] → ys ≡ []
right_empty [] ys e = e
right_empty (x ∷ xs) ys e = absurd cc

-- the first refusal of two parts
pub first_both : (a b : Option SectionFault) (xs ys : List SectionFault) → a ≡ first_refusal section_order xs → b ≡ first_refusal section_order ys → earlier section_order a b ≡ first_refusal section_order (xs ++ ys)
first_both a b xs ys e f = ap₂ (earlier section_order) e f ∙ sym (first_append section_order xs ys)

-- the shape of what an operator gives of operands that have a value
pub shape_of_values : (sign : Binary) (left right found : Option Shape) (v u : Option Value) → (v ≡ None → ⊥) → (u ≡ None → ⊥) → HasShapeIf left v → HasShapeIf right u → ((x y : Value) → HasShapeIf left (Some x) → HasShapeIf right (Some y) → HasShapeIf found (Some (binary_value sign x y))) → HasShapeIf found (Some (value_of_both sign v u))
shape_of_values sign left right found None u h k s t by = absurd (h refl)
shape_of_values sign left right found (Some v) None h k s t by = absurd (k refl)
shape_of_values sign left right found (Some v) (Some u) h k s t by = by v u s t

pub shape_of_value : (sign : Unary) (shape found : Option Shape) (v : Option Value) → (v ≡ None → ⊥) → HasShapeIf shape v → ((x : Value) → HasShapeIf shape (Some x) → HasShapeIf found (Some (unary_value sign x))) → HasShapeIf found (Some (unary_value sign (value_or_none v)))
shape_of_value sign shape found None h s by = absurd (h refl)
shape_of_value sign shape found (Some v) h s by = by v s
