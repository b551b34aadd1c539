-- What the bits of an expression are, and what is refused of it (ABEL-HDL Reference Manual, sets and operators; the limit
-- is this project's rule).
use Rattle.std.specs.Prelude.{◌≡◌, ℕ, ◌<◌, Bool, true, false, Option, None, Some, List, [], ◌∷◌, length, slice_get}
use Rattle.set_expr.specs.Prelude.{Place, Table, formula_at, Formula, Const, Names, entries_of, first_refusal, Tree, ANumber, ASpecial, AName, ASet, AParen, AUnary, ABinary, Context}
use Rattle.bit_expr.specs.declared.node.ExprId.{ExprId}
use Rattle.abel_meaning.specs.Terms.{known_of}
use Rattle.abel_meaning.specs.Numbers as number
use Rattle.abel_meaning.specs.BitWords.{Word}
use Rattle.set_expr.specs.declared.fault.SectionFault.{SectionFault}
use Rattle.set_expr.specs.declared.shaped.Shape.{Shape}
use Rattle.set_expr.specs.declared.shaped.Shape.TheVariants as shape
use Rattle.set_expr.specs.declared.shaped.Shaped.{Shaped}
use Rattle.set_expr.specs.FoundNames.{expression_found}
use Rattle.set_expr.specs.SectionOrder.{section_order}
use Rattle.set_expr.specs.Shapes.{HasShape}

-- the names are those of the context, and its device has this table
pub record IsContextOf (t : Table) (n : Names) (d : Context) : Type 0 where
  pub device : d.device ≡ t
  pub names : d.names ≡ entries_of n
  pub known : d.known ≡ known_of (entries_of n)

-- ---- positions

-- the formulas of positions, 0 at X
abbrev pub bits_at : List Formula → List (Option ExprId) → Word
bits_at fs [] = []
bits_at fs (None ∷ ps) = Const false ∷ bits_at fs ps
bits_at fs (Some id ∷ ps) = formula_at fs id ∷ bits_at fs ps

-- which positions are X
abbrev pub unknown_at : List (Option ExprId) → List Bool
unknown_at [] = []
unknown_at (None ∷ ps) = true ∷ unknown_at ps
unknown_at (Some id ∷ ps) = false ∷ unknown_at ps

-- each bit lies in an arena of so many formulas
abbrev pub AreIn : ℕ → List (Option ExprId) → Type 0
AreIn count [] = Unit {0}
AreIn count (None ∷ ps) = AreIn count ps
AreIn count (Some id ∷ ps) = (id.0 < count) × AreIn count ps

-- ---- shapes

-- how many positions a shape has; a number has none
abbrev pub positions : Shape → ℕ
positions (shape.Number n) = 0
positions shape.Single = 1
positions (shape.Set w) = w

-- the X positions, of a shape that has positions
abbrev pub HasUnknown : Shape → List Bool → List (Option ExprId) → Type 0
HasUnknown (shape.Number n) xs ps = Unit {0}
HasUnknown shape.Single xs ps = unknown_at ps ≡ xs
HasUnknown (shape.Set w) xs ps = unknown_at ps ≡ xs

-- the answer has the shape and the X positions of a value and the bits of a word, in an arena of these formulas
pub record IsShaped (fs : List Formula) (s : Shaped) (v : number.Value) (w : Word) : Type 0 where
  pub shape : HasShape s.shape v
  pub unknown : HasUnknown s.shape v.unknown s.places
  pub positions : length s.places ≡ positions s.shape
  pub inside : AreIn (length fs) s.places
  pub bits : bits_at fs s.places ≡ w

-- ---- refusals

-- the place of an expression's first token
abbrev pub first_place : Tree → Place
first_place (ANumber n) = n.place
first_place (ASpecial letter p) = p
first_place (AName word e) = word.place
first_place (ASet p ms e) = p
first_place (AParen p t) = p
first_place (AUnary sign p t) = p
first_place (ABinary sign p t u) = first_place t

-- what was there is under its id
abbrev pub Keeps : (old new : List Formula) → Type 0
Keeps old new = (i : ℕ) (f : Formula) → slice_get old i ≡ Some f → slice_get new i ≡ Some f

-- the first refusal of an expression, none if nothing is refused
abbrev pub refusal_of : Names → Tree → Option SectionFault
refusal_of n t = first_refusal section_order (expression_found (entries_of n) t).refusals
