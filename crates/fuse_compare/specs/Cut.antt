-- Private: the rows that one of two logics has alone, and the states at which none of them can be true (this project's
-- rule).
use Rattle.std.specs.Prelude.{◌≡◌, ℕ, ◌<◌, Bool, true, false, List, [], ◌∷◌}
use Rattle.fuse_compare.specs.Prelude.{list_any, is_on, IsPoint, Levels, Lookups, logic_of, AtRest, holds, RowMask}
use Rattle.fuse_compare.specs.States.{Varies, has_pin, has_q}
use Rattle.fuse_compare.specs.declared.variable.Variable.{Variable}
use Rattle.fuse_compare.specs.declared.variable.Variable.TheVariants.{Pin, Q}

-- one of the masks holds at the point
abbrev pub some_holds : List RowMask → Levels → Bool
some_holds masks at = list_any (λ mask. holds mask at) masks

-- the same cells are registers in both, and at the point both answer the same of each cell
pub record AnswerSame (a b : Lookups) (at : Levels) : Type 0 where
  pub stores : (c : ℕ) → c < a.cells → a.stores c ≡ b.stores c
  pub enable : (c : ℕ) → c < a.cells → a.enable at c ≡ b.enable at c
  pub level : (c : ℕ) → c < a.cells → a.level at c ≡ b.level at c
  pub reset : (c : ℕ) → c < a.cells → a.reset at c ≡ b.reset at c
  pub preset : (c : ℕ) → c < a.cells → a.preset at c ≡ b.preset at c
  pub next : (c : ℕ) → c < a.cells → a.next at c ≡ b.next at c

-- if none of these masks holds, both answer the same
abbrev pub DifferWithin : Lookups → Lookups → List RowMask → Type 0
DifferWithin a b own = (at : Levels) → IsPoint at → some_holds own at ≡ false → AnswerSame a b at

-- no cell on one of these pins is ever enabled
abbrev pub AreFreePins : Lookups → (pins : List Bool) → Type 0
AreFreePins a pins =
    (k : ℕ) → is_on pins k ≡ true → (c : ℕ) → c < a.cells → a.pin c ≡ k
    → (at : Levels) → IsPoint at → a.enable at c ≡ false

-- each of these cells is a register that is never reset
abbrev pub AreKeptQs : Lookups → (cells : List Bool) → Type 0
AreKeptQs a cells =
    (c : ℕ) → is_on cells c ≡ true
    → (c < a.cells) × (a.stores c ≡ true) × ((at : Levels) → IsPoint at → a.reset at c ≡ false)

-- the mask holds if the first logic rests, at each state that varies these variables
abbrev pub IsDecided : Lookups → List Variable → (outside stored : List Bool) → RowMask → Type 0
IsDecided a vars outside stored decided =
    (o s : List Bool) → Varies vars outside stored o s
    → (at : Levels) → AtRest (logic_of a) o s at → holds decided at ≡ true

-- no variable is in the list twice
abbrev pub AreOnce : List Variable → Type 0
AreOnce [] = Unit {0}
AreOnce (Pin k ∷ vs) = (has_pin vs k ≡ false) × AreOnce vs
AreOnce (Q c ∷ vs) = (has_q vs c ≡ false) × AreOnce vs
