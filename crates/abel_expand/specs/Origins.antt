-- The origin of the bytes of an expanded text.
use Rattle.std.specs.Prelude.{◌≡◌, ℕ, zero, suc, ◌+◌, ◌-◌, ◌<◌, leb, List, ◌∷◌, ◌++◌, length, drop, if◌then◌else◌}
use Rattle.abel_macros.specs.Rules.{Move, Done, Rewritten, Refused, move}
use Rattle.abel_expand.specs.declared.standing.Origin.TheVariants as origin
use Rattle.abel_expand.specs.Runs.{after, Reading, bytes_waiting}

abbrev pub lesser : ℕ → ℕ → ℕ
lesser a b = a - (a - b)

-- what a move leaves of the source's own end: a rewriting no more than what follows its form
abbrev pub own_behind : ℕ → Move → ℕ
own_behind own (Done t w behind) = own
own_behind own (Rewritten result behind) = lesser own (length behind)
own_behind own (Refused cause) = own

-- after so many turns so many bytes at the end of the rest are the source's own: no rewriting has represented them
abbrev pub own_left : ℕ → List ℕ → ℕ
own_left zero text = length text
own_left (suc n) text = own_behind (own_left n text) (move (after n text).tables (after n text).rest)

-- where the source goes on that is so long, if so many bytes are left and so many of them are its own: there if they all
-- are, else at the call that was made last outside a macro
abbrev pub goes_on : ℕ → ℕ → ℕ → ℕ → ℕ
goes_on length own left call = if leb left own then length - left else call

-- where that call is after a move: a rewriting is one if it begins in the source
abbrev pub called_by : ℕ → ℕ → ℕ → ℕ → Move → ℕ
called_by length own left call (Done t w behind) = call
called_by length own left call (Rewritten result behind) = goes_on length own left call
called_by length own left call (Refused cause) = call

-- and after so many turns
abbrev pub call_at : ℕ → List ℕ → ℕ
call_at zero text = 0
call_at (suc n) text = called_by (length text) (own_left n text) (length (after n text).rest) (call_at n text) (move (after n text).tables (after n text).rest)

-- where the source goes on after so many turns
abbrev pub next_at : ℕ → List ℕ → ℕ
next_at n text = goes_on (length text) (own_left n text) (length (after n text).rest) (call_at n text)

-- what is to be given yet or to be read
abbrev pub to_come : Reading → List ℕ
to_come r = bytes_waiting r ++ (after r.turns r.text).rest

-- the byte given last is if it is said to: the source goes on there with it and with what follows; and it is of what is
-- called there just if more bytes were left from it on than are the source's own
pub record StandsThere (r : Reading) (b : ℕ) : Type 0 where
  pub source : r.standing.origin ≡ origin.Source → drop r.standing.offset r.text ≡ b ∷ to_come r
  pub call : r.standing.origin ≡ origin.Call → own_left r.turns r.text < 1 + length (to_come r)
  pub before : own_left r.turns r.text < 1 + length (to_come r) → r.standing.origin ≡ origin.Call
