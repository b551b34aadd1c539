-- Private: how variables are gathered, pins first (this project's rule).
use Rattle.std.specs.Prelude.{◌≡◌, ◌<◌, ℕ, ◌&&◌, ◌||◌, Bool, true, false, List, nat_lt}
use Rattle.fuse_compare.specs.Prelude.{is_on, stores, Table}
use Rattle.fuse_compare.specs.Cut.{AreOnce}
use Rattle.fuse_compare.specs.DeviceKnown.{known_of}
use Rattle.fuse_compare.specs.States.{AreVariables, has_pin, has_q}
use Rattle.fuse_compare.specs.declared.variable.Variable.{Variable}

-- the pin is read, or enables, with either list
abbrev pub knows_pin : Table → (a b : List Bool) → ℕ → Bool
knows_pin t a b k = (known_of t a).pins k || (known_of t b).pins k

-- the register's Q is read with either list
abbrev pub knows_q : Table → (a b : List Bool) → ℕ → Bool
knows_q t a b c = (known_of t a).q c || (known_of t b).q c

-- the variables are such
pub record AreKnown (t : Table) (a b : List Bool) (vars : List Variable) : Type 0 where
  pub pins : (k : ℕ) → has_pin vars k ≡ true → knows_pin t a b k ≡ true
  pub q : (c : ℕ) → has_q vars c ≡ true → knows_q t a b c ≡ true

-- such pins and no Q, each once: all of these first pins, and no other
pub record HasKnownPins (t : Table) (a b : List Bool) (pins : ℕ) (vars : List Variable) : Type 0 where
  pub are : AreVariables vars
  pub once : AreOnce vars
  pub known : AreKnown t a b vars
  pub below : (k : ℕ) → has_pin vars k ≡ true → k < pins
  pub each : (k : ℕ) → k < pins → knows_pin t a b k ≡ true → has_pin vars k ≡ true
  pub no_q : (c : ℕ) → has_q vars c ≡ false

-- such pins and Qs, each once: all pins, and the Qs of these first cells and no other
pub record HasKnownQs (t : Table) (a b : List Bool) (cells : ℕ) (vars : List Variable) : Type 0 where
  pub are : AreVariables vars
  pub once : AreOnce vars
  pub known : AreKnown t a b vars
  pub pins : (k : ℕ) → k < 32 → knows_pin t a b k ≡ true → has_pin vars k ≡ true
  pub below : (c : ℕ) → has_q vars c ≡ true → c < cells
  pub each : (c : ℕ) → c < cells → knows_q t a b c ≡ true → has_q vars c ≡ true

-- of these first cells the registers of either list are 1, and nothing else is
abbrev pub HoldsRegisters : Table → (a b : List Bool) → (cells : ℕ) → (stored : List Bool) → Type 0
HoldsRegisters t a b cells stored =
    (c : ℕ) → is_on stored c ≡ (nat_lt c cells && (stores t a c || stores t b c))
