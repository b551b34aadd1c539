-- What a text has defined, and what a turn does.
use Rattle.std.specs.Prelude.{ℕ, Bool, ◌==◌, ◌||◌, List, [], ◌∷◌, Option, Some, None, if◌then◌else◌}
use Rattle.abel_macros.specs.Prelude.{is_some, bytes_eq, line_feed}

-- ---- what a text has defined

pub record Macro : Type 0 where
  -- none if the macro is called without parentheses
  pub parameters : Option (List (List ℕ))
  pub block : List ℕ

-- what names represent, and the radix in force
pub record Tables : Type 0 where
  pub macros : List ℕ → Option Macro
  pub values : List ℕ → Option ℕ
  pub radix : ℕ

-- a table with one name more; an older one of that name is replaced
abbrev pub with_name : {X : Type 0} → List ℕ → X → (List ℕ → Option X) → List ℕ → Option X
with_name n x table w = if bytes_eq n w then Some x else table w

-- whether a name is a macro or has a value
abbrev pub is_defined : Tables → List ℕ → Bool
is_defined t n = is_some (t.macros n) || is_some (t.values n)

-- ---- what a turn does

-- why a text isn't expanded
pub data Cause : Type 0 where
  TooLong : Cause
  ExpansionLimit : Cause
  BadDirective : Cause
  Unsupported : Cause

-- tables, bytes that are done and what follows them; or a result that is put before what follows; or
-- a refusal
pub data Move : Type 0 where
  Done : Tables → List ℕ → List ℕ → Move
  Rewritten : List ℕ → List ℕ → Move
  Refused : Cause → Move

-- a form that is broken is refused
abbrev pub or_bad : Option Move → Move
or_bad (Some m) = m
or_bad None = Refused BadDirective

-- as many line feeds as a form holds
abbrev pub line_feeds : List ℕ → List ℕ
line_feeds [] = []
line_feeds (b ∷ bs) = if b == line_feed then b ∷ line_feeds bs else line_feeds bs
