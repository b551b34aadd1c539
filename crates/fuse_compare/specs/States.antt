-- Private: which states represent all (this project's rule).
use Rattle.std.specs.Prelude.{◌≡◌, ◌≢◌, ℕ, ◌<◌, Bool, true, false, ◌||◌, ◌==◌, List, [], ◌∷◌, set}
use Rattle.fuse_compare.specs.Prelude.{is_on, Levels, Lookups, IsWide}
use Rattle.fuse_compare.specs.Told.{IsTold, Known, SameShape}
use Rattle.fuse_compare.specs.declared.variable.Variable.{Variable}
use Rattle.fuse_compare.specs.declared.variable.Variable.TheVariants.{Pin, Q}

-- a Q counts the same in the second state: it is the same; or it is 1, no answer is given by it, and the cell is a
-- register in both or in none; or the cell is one in none
pub data QCounts (a b : Lookups) (ka kb : Known) (stored other : List Bool) (c : ℕ) : Type 0 where
  Same : is_on stored c ≡ is_on other c → QCounts a b ka kb stored other c
  Shown : is_on other c ≡ true → ka.q c ≡ false → kb.q c ≡ false → a.stores c ≡ b.stores c
      → QCounts a b ka kb stored other c
  Plain : a.stores c ≡ false → b.stores c ≡ false → QCounts a b ka kb stored other c

-- the second state represents the first one: known pins have the same levels, the clock is low if it was, and each Q
-- counts the same
pub record StandsFor (a b : Lookups) (ka kb : Known) (outside stored outside' stored' : List Bool) : Type 0 where
  pub first_pins : (k : ℕ) → ka.pins k ≡ true → is_on outside k ≡ is_on outside' k
  pub second_pins : (k : ℕ) → kb.pins k ≡ true → is_on outside k ≡ is_on outside' k
  pub clock : is_on outside a.clock ≡ false → is_on outside' a.clock ≡ false
  pub q : (c : ℕ) → c < a.cells → QCounts a b ka kb stored stored' c

-- the second state is the first one with these variables at any levels
abbrev pub Varies : List Variable → (outside stored outside' stored' : List Bool) → Type 0
Varies [] o s o' s' = (o ≡ o') × (s ≡ s')
Varies (Pin k ∷ vs) o s o' s' = (v : Bool) × Varies vs (set o k v) s o' s'
Varies (Q c ∷ vs) o s o' s' = (v : Bool) × Varies vs o (set s c v) o' s'

-- the same, with this level of the first variable
abbrev pub VariesAt : List Variable → Bool → (outside stored outside' stored' : List Bool) → Type 0
VariesAt [] v o s o' s' = ⊥
VariesAt (Pin k ∷ vs) v o s o' s' = Varies vs (set o k v) s o' s'
VariesAt (Q c ∷ vs) v o s o' s' = Varies vs o (set s c v) o' s'

-- the pin's level, or the cell's Q, is one of the variables
abbrev pub has_pin : List Variable → ℕ → Bool
has_pin [] k = false
has_pin (Pin j ∷ vs) k = (j == k) || has_pin vs k
has_pin (Q c ∷ vs) k = has_pin vs k

abbrev pub has_q : List Variable → ℕ → Bool
has_q [] c = false
has_q (Pin k ∷ vs) c = has_q vs c
has_q (Q d ∷ vs) c = (d == c) || has_q vs c

-- each variable is a pin or a cell of a point
abbrev pub AreVariables : List Variable → Type 0
AreVariables [] = Unit {0}
AreVariables (Pin k ∷ vs) = (k < 32) × AreVariables vs
AreVariables (Q c ∷ vs) = (c < 32) × AreVariables vs

-- a Q that is no variable counts the same at its fixed level in place of any other
pub data QFixed (a b : Lookups) (ka kb : Known) (fixed : List Bool) (c : ℕ) : Type 0 where
  AtOne : is_on fixed c ≡ true → ka.q c ≡ false → kb.q c ≡ false → a.stores c ≡ b.stores c
      → QFixed a b ka kb fixed c
  AsPlain : a.stores c ≡ false → b.stores c ≡ false → QFixed a b ka kb fixed c

-- the Qs that are no variables do; or some cell is a register in one of the two alone, no Q is a variable, all
-- registers have the same reset, and each Q that counts is fixed at 1
pub data QsSuffice (a b : Lookups) (ka kb : Known) (vars : List Variable) (fixed : List Bool) : Type 0 where
  AllFixed : ((c : ℕ) → c < a.cells → has_q vars c ≡ false → QFixed a b ka kb fixed c)
      → QsSuffice a b ka kb vars fixed
  Mixed : (d : ℕ) → d < a.cells → a.stores d ≢ b.stores d
      → ((c : ℕ) → has_q vars c ≡ false)
      → ((at : Levels) (c : ℕ) → a.reset at c ≡ a.reset at d)
      → ((at : Levels) (c : ℕ) → b.reset at c ≡ b.reset at d)
      → ((c : ℕ) → c < a.cells → a.stores c ≡ true → is_on fixed c ≡ true)
      → ((c : ℕ) → c < a.cells → b.stores c ≡ true → is_on fixed c ≡ true)
      → QsSuffice a b ka kb vars fixed

-- all levels of these variables, with all other pins at 0 and all other Qs fixed, represent all states
pub record Suffices (a b : Lookups) (vars : List Variable) (fixed : List Bool) : Type 0 where
  pub shape : SameShape a b
  pub first : IsTold a
  pub second : IsTold b
  pub are : AreVariables vars
  pub wide : IsWide fixed
  pub first_pins : (k : ℕ) → first.known.pins k ≡ true → has_pin vars k ≡ true
  pub second_pins : (k : ℕ) → second.known.pins k ≡ true → has_pin vars k ≡ true
  pub q : QsSuffice a b first.known second.known vars fixed
