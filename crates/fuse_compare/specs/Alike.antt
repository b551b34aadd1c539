-- Whether two logics behave alike, from every state, also from one that no run reaches (this project's rule).
use Rattle.std.specs.Prelude.{◌≡◌, ◌≢◌, ℕ, ◌<◌, Bool, true, false, List, [], ◌∷◌, Option, None, Some}
use Rattle.fuse_compare.specs.Prelude.{All, bits, is_on, Levels, Logic, AtRest, IsWide, Run, allows_q}
use Rattle.fuse_compare.specs.declared.difference.Difference.{Difference}

-- the first logic at one point and the second at the other show the same pins, Qs and enabled cells
pub record ShowSame (a b : Logic) (at other : Levels) : Type 0 where
  pub pins : at.pins ≡ other.pins
  pub q : at.q ≡ other.q
  pub enabled : (c : ℕ) → c < a.cells → a.enabled at c ≡ b.enabled other c

-- at rest at these outside levels and stored Qs, they don't show the same
pub record DifferAtRest (a b : Logic) (outside stored : List Bool) : Type 0 where
  pub at : Levels
  pub other : Levels
  pub first : AtRest a outside stored at
  pub second : AtRest b outside stored other
  pub differ : ShowSame a b at other → ⊥

-- at the clock's rising edge from these points, they allow the same Qs
abbrev pub SameEdge : Logic → Logic → (at other : Levels) → Type 0
SameEdge a b at other = (c : ℕ) → c < 32 → (q : Bool) → allows_q a at c q ≡ allows_q b other c q

-- there is a clock, and its outside level is 0; at rest they show the same, but not at the clock's rising edge from there
pub record DifferAtClock (a b : Logic) (outside stored : List Bool) : Type 0 where
  pub at : Levels
  pub other : Levels
  pub first : AtRest a outside stored at
  pub second : AtRest b outside stored other
  pub same : ShowSame a b at other
  pub clock : a.clock ≢ 0
  pub low : is_on outside a.clock ≡ false
  pub differ : SameEdge a b at other → ⊥

-- they differ nowhere: at no outside levels and stored Qs
pub record AreAlike (a b : Logic) : Type 0 where
  pub rest : (outside stored : List Bool) → IsWide outside → IsWide stored → DifferAtRest a b outside stored → ⊥
  pub edge : (outside stored : List Bool) → IsWide outside → IsWide stored → DifferAtClock a b outside stored → ⊥

-- they differ there, at the clock or at rest
abbrev pub DifferAs : Logic → Logic → (clocked : Bool) → (outside stored : List Bool) → Type 0
DifferAs a b true outside stored = DifferAtClock a b outside stored
DifferAs a b false outside stored = DifferAtRest a b outside stored

-- they differ as it says
abbrev pub IsDifference : Logic → Logic → Difference → Type 0
IsDifference a b d = DifferAs a b d.clocked (bits 32 d.outside) (bits 32 d.stored)

-- None if they are alike, else a difference
abbrev pub FindsDifference : Logic → Logic → Option Difference → Type 0
FindsDifference a b None = AreAlike a b
FindsDifference a b (Some d) = IsDifference a b d

-- at each of these points the same cells are enabled
abbrev pub SameShown : Logic → Logic → List Levels → Type 0
SameShown a b [] = Unit {0}
SameShown a b (at ∷ points) = ((c : ℕ) → c < a.cells → a.enabled at c ≡ b.enabled at c) × SameShown a b points

-- each run of the first is one of the second, with the same cells enabled at each point
abbrev pub RunsAlike : Logic → Logic → Type 0
RunsAlike a b =
    (outsides : List (List Bool)) → All IsWide outsides → (points : List Levels) → Run a outsides points
    → Run b outsides points × SameShown a b points
