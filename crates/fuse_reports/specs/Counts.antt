-- A count of faults before a call and after it (this project's rule).
use Rattle.std.specs.Prelude.{◌≡◌, ℕ}
use Rattle.outside.specs.Causes.{Rose}

-- a count of faults before the call and after it
pub record Count : Type 0 where
  pub before : ℕ
  pub after : ℕ

-- some call failed
abbrev pub HasRisen : Count → Type 0
HasRisen count = Rose count.before count.after

-- no call failed
abbrev pub HasStayed : Count → Type 0
HasStayed count = count.after ≡ count.before

-- a count by place, as clauses write it
abbrev pub count : (before after : ℕ) → Count
count before after = record { before = before; after = after }
