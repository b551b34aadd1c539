-- Points at rest: levels, Qs and values that agree with what a logic asks there (this project's rule).
use Rattle.std.specs.Prelude.{◌≡◌, ◌≢◌, ℕ, ◌<◌, Bool, true, false, not, ◌&&◌, List}
use Rattle.pld_machine.specs.Prelude.{is_on, Levels, IsPoint, Logic, is_register}

-- an enabled cell's pin has an allowed level, every other pin its outside level, a node an allowed
-- value, and an entry that belongs to no node is 0
pub record IsSettled (m : Logic) (outside : List Bool) (at : Levels) : Type 0 where
  pub driven : (c : ℕ) → c < m.cells → m.enabled at c ≡ true
      → m.allows_level at c (is_on at.pins (m.pin c)) ≡ true
  pub undriven : (k : ℕ) → k < 32 → ((c : ℕ) → c < m.cells → m.enabled at c ≡ true → m.pin c ≢ k)
      → is_on at.pins k ≡ is_on outside k
  pub nodes : (n : ℕ) → n < 128 → m.is_node n ≡ true → m.allows_node at n (is_on at.nodes n) ≡ true
  pub no_node : (n : ℕ) → n < 128 → m.is_node n ≡ false → is_on at.nodes n ≡ false

-- the Q of a cell at rest: a register's is 0 while its reset holds, else the stored one; any other
-- cell's is 0
abbrev pub q_at_rest : Logic → List Bool → Levels → ℕ → Bool
q_at_rest m stored at c = is_register m c && (not (m.reset at c) && is_on stored c)

-- the point is at rest for these outside levels and stored Qs
pub record AtRest (m : Logic) (outside stored : List Bool) (at : Levels) : Type 0 where
  pub is_point : IsPoint at
  pub registers : (c : ℕ) → c < 32 → is_on at.q c ≡ q_at_rest m stored at c
  pub settled : IsSettled m outside at
