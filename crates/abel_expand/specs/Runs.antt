-- Whole expansions, and what a reader represents: a number of turns, and how much of the text done was
-- given.
use Rattle.std.specs.Prelude.{◌≡◌, ℕ, zero, suc, List, [], ◌∷◌, take, drop, Option, Some, None, Result, Ok, Err}
use Rattle.abel_lexer.specs.Scans.{place_past, first_place}
use Rattle.abel_macros.specs.Rules.{Cause, TooLong, ExpansionLimit, BadDirective, Unsupported}
use Rattle.abel_macros.specs.Turns.{Config, start, turn}
use Rattle.abel_expand.specs.declared.fault.ExpandFault.{ExpandFault}
use Rattle.abel_expand.specs.declared.fault.ExpandFault.TheVariants as fault
use Rattle.abel_expand.specs.declared.standing.Standing.{Standing}

-- ---- whole expansions

-- the configuration after a turn; a refused turn changes nothing
abbrev pub turned : Config → Config
turned c = elim (turn c) [ Ok d ↦ d | Err cause ↦ c ]

-- the configuration after so many turns of a text
abbrev pub after : ℕ → List ℕ → Config
after zero text = start text
after (suc n) text = turned (after n text)

-- a text expands to these bytes
abbrev pub IsExpanded : List ℕ → List ℕ → Type 0
IsExpanded text w = (n : ℕ) × ((after n text).rest ≡ []) × ((after n text).done ≡ w)

-- the expansion of a text is refused, and these bytes are done before
abbrev pub IsRefused : List ℕ → Cause → List ℕ → Type 0
IsRefused text cause w = (n : ℕ) × ((after n text).rest ≡ [] → ⊥) × (turn (after n text) ≡ Err cause) × ((after n text).done ≡ w)

-- a refusal of a text, after these bytes: its cause, and the place after them
abbrev pub IsRefusal : List ℕ → List ℕ → ExpandFault → Type 0
IsRefusal text w (fault.TooLong p) = (p ≡ place_past first_place w) × IsRefused text TooLong w
IsRefusal text w (fault.ExpansionLimit p) = (p ≡ place_past first_place w) × IsRefused text ExpansionLimit w
IsRefusal text w (fault.BadDirective p) = (p ≡ place_past first_place w) × IsRefused text BadDirective w
IsRefusal text w (fault.Unsupported p) = (p ≡ place_past first_place w) × IsRefused text Unsupported w
IsRefusal text w fault.OutOfMemory = Unit {0}

-- ---- a reader

-- how many turns of the text were taken, how many bytes of the text done were given, the refusal that was
-- answered, and the place of the byte that was given last in the text
pub record Reading : Type 0 where
  pub text : List ℕ
  pub turns : ℕ
  pub given : ℕ
  pub refused : Option ExpandFault
  pub standing : Standing

-- the bytes that were given: a front of the text done after these turns
abbrev pub bytes_given : Reading → List ℕ
bytes_given r = take r.given (after r.turns r.text).done

-- the byte that is answered, if one is
abbrev pub byte_in : Result (Option ℕ) ExpandFault → List ℕ
byte_in (Ok (Some b)) = b ∷ []
byte_in (Ok None) = []
byte_in (Err e) = []

-- the refusal that is answered, if one is
abbrev pub refusal_in : Result (Option ℕ) ExpandFault → Option ExpandFault
refusal_in (Ok o) = None
refusal_in (Err e) = Some e

-- the bytes of the text done that were not given
abbrev pub bytes_waiting : Reading → List ℕ
bytes_waiting r = drop r.given (after r.turns r.text).done

-- all of the expanded text was given
abbrev pub HasEnded : Reading → Type 0
HasEnded r = (r.refused ≡ None) × ((after r.turns r.text).rest ≡ []) × (bytes_waiting r ≡ [])
