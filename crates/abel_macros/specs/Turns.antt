-- The expanded text of a source: configurations, and their turns (ABEL-HDL Reference Manual, macros
-- and directives; the limits are this project's rule).
use Rattle.std.specs.Prelude.{ℕ, ◌+◌, Bool, true, false, ◌==◌, nat_lt, List, [], ◌++◌, length, None, Result, Ok, Err}
use Rattle.abel_macros.specs.Rules.{Tables, Cause, TooLong, ExpansionLimit, Move, Done, Rewritten, Refused, move}

-- the text done, what it has defined, how many rewritings there were, and the rest
pub record Config : Type 0 where
  pub done : List ℕ
  pub tables : Tables
  pub rewritings : ℕ
  pub rest : List ℕ

-- nothing defined, radix 10
abbrev pub nothing_defined : Tables
nothing_defined = record { macros = λ w. None; values = λ w. None; radix = 10 }

-- nothing done, nothing defined, and the whole text
abbrev pub start : List ℕ → Config
start text = record { done = []; tables = nothing_defined; rewritings = 0; rest = text }

-- the most bytes that the text done and the rest may have together after a rewriting
abbrev pub limit : ℕ
limit = 1048576

abbrev pub most_rewritings : ℕ
most_rewritings = 65536

-- a rewritten configuration, if it is no rewriting too many and not too long
abbrev pub within_limits : Bool → Bool → Config → Result Config Cause
within_limits true long c = Err ExpansionLimit
within_limits false true c = Err TooLong
within_limits false false c = Ok c

-- a configuration after a move
abbrev pub moved : Config → Move → Result Config Cause
moved c (Done t w behind) = Ok (record { done = c.done ++ w; tables = t; rewritings = c.rewritings; rest = behind })
moved c (Refused cause) = Err cause
moved c (Rewritten result behind) =
    within_limits (c.rewritings == most_rewritings) (nat_lt limit (length c.done + length (result ++ behind)))
    (record { done = c.done; tables = c.tables; rewritings = c.rewritings + 1; rest = result ++ behind })

-- a turn of a configuration that has a rest
abbrev pub turn : Config → Result Config Cause
turn c = moved c (move c.tables c.rest)
