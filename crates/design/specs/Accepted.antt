-- What the names and the sections of a design are accepted for (this project's rule).
use Rattle.std.specs.Prelude.{◌≡◌, ◌≢◌, ℕ, Bool, true, IsSome, List}
use Rattle.design.specs.Prelude.{APin, is_signal, is_stored, follows_q, SectionTree, ADiagram, Context, Design, name_at, given_formulas, known_of, term_of, PinsApart, NodesAreFew, MayChoose, AllByRecursion, list_any}
use Rattle.pld_device.specs.declared.flip.Flip.TheVariants.{AfterRegister}
use Rattle.pld_device.specs.Pins.{cell_on}
use Rattle.abel_meaning.specs.Choices.{is_free}
use Rattle.abel_meaning.specs.Functions.{is_data_to}
use Rattle.section_targets.specs.TargetSignals.{names_signals}

-- ---- names

-- only signals are assigned
abbrev pub SignalsAreAssigned : Context → Type 0
SignalsAreAssigned d = (s : ℕ) → (name_at d s).assigned ≡ true → is_signal (name_at d s).kind ≡ true

-- on a device that has registers, none follows Q, or may, if the device can't complement after it
abbrev pub BuffersAreBehind : Context → Type 0
BuffersAreBehind d =
    (s : ℕ) → is_stored (name_at d s) ≡ true → follows_q (name_at d s) ≡ true → d.device.clock ≢ 0
    → d.device.flip ≡ AfterRegister

-- a register whose polarity is left to the fitter is one for which it may be chosen
abbrev pub FreeMayChoose : Design → Type 0
FreeMayChoose d = (s : ℕ) → is_free (name_at d.context s) ≡ true → MayChoose d s

-- each pin that is assigned is that of a cell
abbrev pub AssignedAreOnCells : Context → Type 0
AssignedAreOnCells d =
    (s pin : ℕ) (negated : Bool) → (name_at d s).kind ≡ APin pin negated → (name_at d s).assigned ≡ true
    → IsSome (cell_on d.device pin)

-- what the phase of names accepts, and that of sections of targets
pub record HasSoundNames (d : Context) : Type 0 where
  pub known : d.known ≡ known_of d.names
  pub pins : PinsApart d
  pub nodes : NodesAreFew d
  pub signals : SignalsAreAssigned d
  pub buffers : BuffersAreBehind d
  pub cells : AssignedAreOnCells d

-- ---- sections

-- each signal that is assigned has data
abbrev pub AssignedHaveData : Design → Type 0
AssignedHaveData d = (s : ℕ) → (name_at d.context s).assigned ≡ true → list_any (is_data_to s) (given_formulas d) ≡ true

-- the registers of diagrams are names of signals, without extension
abbrev pub HasBareHeader : Context → SectionTree → Type 0
HasBareHeader d (ADiagram place registers states) = names_signals (term_of d.known registers) ≡ true
HasBareHeader d _ = Unit {0}

abbrev pub HaveBareHeaders : Context → List SectionTree → Type 0
HaveBareHeaders d ss = AllByRecursion (HasBareHeader d) ss

-- what the phases before accept
pub record IsAccepted (d : Design) : Type 0 where
  pub names : HasSoundNames d.context
  pub free : FreeMayChoose d
  pub data_given : AssignedHaveData d
  pub headers : HaveBareHeaders d.context d.sections
