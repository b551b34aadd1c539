-- Private: the pins and Qs that a device with its fuses reads, and the variables of two fuse lists (this project's rule).
use Rattle.std.specs.Prelude.{◌≡◌, ◌≢◌, ◌<◌, ℕ, ◌==◌, ◌&&◌, ◌||◌, not, Bool, true, false, List, length, get_or}
use Rattle.fuse_compare.specs.Prelude.{list_any, range_with_len, Carry, is_enable_pin, row_reads, stores, Table, cell_at, is_on, IsWide}
use Rattle.pld_device.specs.declared.carry.Carry.TheVariants as carry
use Rattle.pld_device.specs.declared.cell.Cell.{Cell}
use Rattle.fuse_compare.specs.States.{AreVariables, has_pin, has_q}
use Rattle.fuse_compare.specs.Told.{Known}
use Rattle.fuse_compare.specs.declared.variable.Variable.{Variable}
use Rattle.fuse_compare.specs.declared.variable.Variable.TheVariants.{Pin, Q}

-- the pair carries the pin's level
abbrev pub is_level_of : Table → List Bool → ℕ → Carry → Bool
is_level_of t fuses k (carry.Pin p) = p == k
is_level_of t fuses k (carry.Cell c) = not (stores t fuses c) && ((cell_at t c).pin == k)

-- the pair carries the register's Q
abbrev pub is_q_of : Table → List Bool → ℕ → Carry → Bool
is_q_of t fuses c (carry.Pin p) = false
is_q_of t fuses c (carry.Cell d) = (d == c) && stores t fuses d

-- it carries the variable
abbrev pub carries : Table → List Bool → Variable → Carry → Bool
carries t fuses (Pin k) = is_level_of t fuses k
carries t fuses (Q c) = is_q_of t fuses c

-- the row reads the pair, which carries something that passes the test
abbrev pub reads_at : Table → List Bool → (Carry → Bool) → (row pair : ℕ) → Bool
reads_at t fuses test row pair = row_reads t fuses row pair && test (get_or t.pairs pair (carry.Pin 0))

-- the row reads such a pair
abbrev pub row_reads_some : Table → List Bool → (Carry → Bool) → ℕ → Bool
row_reads_some t fuses test row = list_any (reads_at t fuses test row) (range_with_len 0 (length t.pairs))

-- some row does
abbrev pub some_read : Table → List Bool → (Carry → Bool) → Bool
some_read t fuses test = list_any (row_reads_some t fuses test) (range_with_len 0 t.rows)

-- the pin enables some cell
abbrev pub enables_some : Table → ℕ → Bool
enables_some t k = list_any (λ (cell : Cell). is_enable_pin k cell.enable) t.cells

-- what the rows read, and the pins that enable
abbrev pub known_of : Table → List Bool → Known
known_of t fuses = record {
  pins = λ k. some_read t fuses (is_level_of t fuses k) || enables_some t k;
  q = λ c. some_read t fuses (is_q_of t fuses c);
}

-- the choice of Qs among the variables: both have the same registers, and each Q that is read is one; or a cell is a
-- register in one of the two alone, and none is
pub data QsChosen (t : Table) (a b : List Bool) (vars : List Variable) : Type 0 where
  SameKinds : ((c : ℕ) → c < length t.cells → stores t a c ≡ stores t b c)
      → ((c : ℕ) → c < length t.cells → has_q vars c ≡ false
      → ((known_of t a).q c ≡ false) × ((known_of t b).q c ≡ false))
      → QsChosen t a b vars
  OtherKinds : (d : ℕ) → d < length t.cells → stores t a d ≢ stores t b d → ((c : ℕ) → has_q vars c ≡ false)
      → QsChosen t a b vars

-- the Qs that are fixed: all registers at 1
abbrev pub FixesRegisters : Table → (a b fixed : List Bool) → Type 0
FixesRegisters t a b fixed = (c : ℕ) → c < length t.cells → is_on fixed c ≡ (stores t a c || stores t b c)

-- variables for two fuse lists, and the fixed Qs: each pin that is read or enables, those Qs, and all registers at 1
pub record AreChosen (t : Table) (a b : List Bool) (vars : List Variable) (fixed : List Bool) : Type 0 where
  pub are : AreVariables vars
  pub wide : IsWide fixed
  pub pins : (k : ℕ) → k < 32 → ((known_of t a).pins k || (known_of t b).pins k) ≡ true
      → has_pin vars k ≡ true
  pub q : QsChosen t a b vars
  pub at_one : FixesRegisters t a b fixed
