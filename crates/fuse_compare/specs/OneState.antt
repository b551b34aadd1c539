-- Private: what two logics that settle at one state are asked there (this project's rule).
use Rattle.std.specs.Prelude.{◌≡◌, ◌≢◌, ℕ, ◌<◌, Bool, true, false, not, ◌&&◌, ◌||◌, ◌==◌, List}
use Rattle.fuse_compare.specs.Prelude.{is_on, same_level, Levels, Lookups, logic_of, AtRest, q_at_rest, q_at_edge, IsTheRest}

-- an enabled cell's pin has the level that the cell drives
abbrev pub drives_so : Lookups → Levels → ℕ → (enabled : Bool) → Bool
drives_so m at c enabled = not enabled || same_level (is_on at.pins (m.pin c)) (m.level at c)

-- the first's point has what the second asks of a cell there, and the cell is enabled in both or in none
abbrev pub cell_too : Lookups → Lookups → Levels → List Bool → ℕ → Bool
cell_too a b at stored c =
    same_level (a.enable at c) (b.enable at c)
    && drives_so b at c (b.enable at c)
    && same_level (is_on at.q c) (q_at_rest (logic_of b) stored at c)

-- a cell has the same Q in both after the clock's edge
abbrev pub edge_too : Lookups → Lookups → Levels → ℕ → Bool
edge_too a b at c = same_level (q_at_edge a at c) (q_at_edge b at c)

-- each cell has
abbrev pub AllToo : Lookups → Lookups → Levels → List Bool → Type 0
AllToo a b at stored = (c : ℕ) → c < a.cells → cell_too a b at stored c ≡ true

abbrev pub AllEdgesToo : Lookups → Lookups → Levels → Type 0
AllEdgesToo a b at = (c : ℕ) → c < a.cells → edge_too a b at c ≡ true

-- there is a clock, and it is low outside
abbrev pub clock_is_low : Lookups → List Bool → Bool
clock_is_low m outside = not (m.clock == 0) && not (is_on outside m.clock)

-- the first's point is at rest in the second, with the same cells enabled
pub record RestsToo (a b : Lookups) (outside stored : List Bool) (at : Levels) : Type 0 where
  pub rests : AtRest (logic_of b) outside stored at
  pub enabled : (c : ℕ) → c < a.cells → a.enable at c ≡ b.enable at c

-- if the clock is low, both have the same Qs after its edge
abbrev pub StoresToo : Lookups → Lookups → List Bool → Levels → Type 0
StoresToo a b outside at =
    a.clock ≢ 0 → is_on outside a.clock ≡ false → (c : ℕ) → c < 32 → q_at_edge a at c ≡ q_at_edge b at c

-- the clock is low, and the two don't
abbrev pub StoresOther : Lookups → Lookups → List Bool → Levels → Type 0
StoresOther a b outside at =
    (a.clock ≢ 0) × (is_on outside a.clock ≡ false) × (((c : ℕ) → c < 32 → q_at_edge a at c ≡ q_at_edge b at c) → ⊥)

-- no difference at these outside levels and stored Qs
pub record AlikeAt (a b : Lookups) (outside stored : List Bool) : Type 0 where
  pub at : Levels
  pub rest : IsTheRest (logic_of a) outside stored at
  pub too : RestsToo a b outside stored at
  pub edge : StoresToo a b outside at
