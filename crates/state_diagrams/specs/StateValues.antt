-- The value of a state: a constant without X that the registers hold, listed once (ABEL-HDL Reference Manual, state
-- diagrams; which values are states is this project's rule).
use Rattle.std.specs.Prelude.{ℕ, ◌^◌, ◌==◌, nat_lt, Bool, true, false, not, ◌&&◌, List, [], ◌∷◌, ◌++◌, if◌then◌else◌, ◌≡◌, Option, None, Some}
use Rattle.state_diagrams.specs.Prelude.{list_any, Place, Tree, StateTree, Context, term_of, reads_signal, SectionFault, expression_found, first_refusal, section_order}
use Rattle.abel_meaning.specs.Values.{constant_of}
use Rattle.set_expr.specs.declared.fault.SectionFault.TheVariants.{BadState}
use Rattle.set_expr.specs.Refusals.{Found}
use Rattle.pld_base.specs.Points.{Levels, levels_of}
use Rattle.state_diagrams.specs.declared.values.StateFound.{StateFound}
use Rattle.truth_tables.specs.TableUnits.{if_none}

abbrev pub is_empty : List SectionFault → Bool
is_empty [] = true
is_empty (x ∷ xs) = false

-- the number of a state
abbrev pub state_number : Context → Tree → ℕ
state_number d v = (constant_of d (term_of d.known v)).number

-- a state of n registers that isn't listed before: a constant without X that n bits hold
abbrev pub is_state_of : Context → (n : ℕ) → (listed : List ℕ) → (specials : List SectionFault) → Tree → Bool
is_state_of d n listed specials v =
    is_empty specials
    && (not (reads_signal (term_of d.known v))
    && (nat_lt (state_number d v) (2 ^ n) && not (list_any (λ m. m == state_number d v) listed)))

abbrev pub state_value_refused : Context → Place → (n : ℕ) → (listed : List ℕ) → Found → Tree → List SectionFault
state_value_refused d p n listed f v =
    if_none f.refusals (if is_state_of d n listed f.specials v then [] else BadState p ∷ [])

-- a state at its word
abbrev pub state_refused : Context → (n : ℕ) → (listed : List ℕ) → StateTree → List SectionFault
state_refused d n listed s = state_value_refused d s.place n listed (expression_found d.names s.value) s.value

-- states listed before, and this one if it isn't refused
abbrev pub listed_with : (refusals : List SectionFault) → (listed : List ℕ) → ℕ → List ℕ
listed_with [] listed m = listed ++ m ∷ []
listed_with (r ∷ rs) listed m = listed

abbrev pub listed_after : Context → (n : ℕ) → (listed : List ℕ) → StateTree → List ℕ
listed_after d n listed s = listed_with (state_refused d n listed s) listed (state_number d s.value)

-- the refusal of a state's value among n registers, after those that are listed, and if it isn't refused its number
pub record IsState (d : Context) (n : ℕ) (listed : List ℕ) (s : StateTree) (f : StateFound) : Type 0 where
  pub fault : f.fault ≡ first_refusal section_order (state_refused d n listed s)
  pub number : f.fault ≡ None → f.number ≡ state_number d s.value

-- a state is listed if it isn't refused
abbrev pub listed_if : Option SectionFault → (listed : List ℕ) → ℕ → List ℕ
listed_if None listed m = listed ++ m ∷ []
listed_if (Some f) listed m = listed

-- the levels at which all signals are 0, which a value that reads none may be taken at
abbrev pub all_zero : Levels
all_zero = levels_of (record { pins = 0; q = 0; nodes = 0 })
