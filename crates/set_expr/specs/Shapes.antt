-- The shapes of the code as those of the language (ABEL-HDL Reference Manual, sets).
use Rattle.std.specs.Prelude.{◌≡◌, ℕ}
use Rattle.abel_meaning.specs.Numbers as number
use Rattle.set_expr.specs.declared.shaped.Shape.{Shape}
use Rattle.set_expr.specs.declared.shaped.Shape.TheVariants as shape

-- the shape alone
abbrev pub meant : Shape → number.Shape
meant (shape.Number n) = number.Number
meant shape.Single = number.Single
meant (shape.Set w) = number.Set w

-- the number that a shape says
abbrev pub said : Shape → ℕ
said (shape.Number n) = n
said shape.Single = 0
said (shape.Set w) = 0

-- a shape of the code with what it says of a value
abbrev pub HasShape : Shape → number.Value → Type 0
HasShape (shape.Number n) v = (v.shape ≡ number.Number) × (v.number ≡ n)
HasShape shape.Single v = v.shape ≡ number.Single
HasShape (shape.Set w) v = v.shape ≡ number.Set w
