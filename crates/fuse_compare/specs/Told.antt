-- Private: by which pins and Qs a logic's answers are reported (this project's rule).
use Rattle.std.specs.Prelude.{◌≡◌, ℕ, ◌<◌, Bool, true, false}
use Rattle.fuse_compare.specs.Prelude.{is_on, Levels, is_register, complement_if, Lookups, logic_of, sets_node, IsOrdered}

-- pins and Qs
pub record Known : Type 0 where
  pub pins : ℕ → Bool
  pub q : ℕ → Bool

-- the points have them the same
pub record AgreeOn (known : Known) (a b : Levels) : Type 0 where
  pub pins : (k : ℕ) → known.pins k ≡ true → is_on a.pins k ≡ is_on b.pins k
  pub q : (c : ℕ) → known.q c ≡ true → is_on a.q c ≡ is_on b.q c

-- none of the pins is a register's, and each of the Qs is; at points that have them the same the logic answers the
-- same, except for a register's level, which is its own Q or the complement
pub record IsToldBy (m : Lookups) (known : Known) (flips : ℕ → Bool) : Type 0 where
  pub no_register : (c : ℕ) → c < m.cells → m.stores c ≡ true → known.pins (m.pin c) ≡ false
  pub registers : (c : ℕ) → known.q c ≡ true → is_register (logic_of m) c ≡ true
  pub enable : (a b : Levels) → AgreeOn known a b → (c : ℕ) → c < m.cells → m.enable a c ≡ m.enable b c
  pub level : (a b : Levels) → AgreeOn known a b → (c : ℕ) → c < m.cells → m.stores c ≡ false
      → m.level a c ≡ m.level b c
  pub shown : (at : Levels) (c : ℕ) → c < m.cells → m.stores c ≡ true
      → m.level at c ≡ complement_if (flips c) (is_on at.q c)
  pub reset : (a b : Levels) → AgreeOn known a b → (c : ℕ) → c < m.cells → m.reset a c ≡ m.reset b c
  pub preset : (a b : Levels) → AgreeOn known a b → (c : ℕ) → c < m.cells → m.preset a c ≡ m.preset b c
  pub next : (a b : Levels) → AgreeOn known a b → (c : ℕ) → c < m.cells → m.next a c ≡ m.next b c

-- a logic that can be settled, has no nodes, and is given by these
pub record IsTold (m : Lookups) : Type 0 where
  pub ordered : IsOrdered m
  pub no_nodes : (n : ℕ) → sets_node m.slots n ≡ false
  pub known : Known
  pub flips : ℕ → Bool
  pub told : IsToldBy m known flips

-- the same cells on the same pins, and the same clock
pub record SameShape (a b : Lookups) : Type 0 where
  pub cells : a.cells ≡ b.cells
  pub pin : (c : ℕ) → a.pin c ≡ b.pin c
  pub clock : a.clock ≡ b.clock
