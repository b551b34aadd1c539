-- That formulas and values agree at every point: for expressions, contributions, functions and controls; and that what a
-- function allows are the values of its signal (this project's rule; laws.rt states them).
use Rattle.std.specs.Prelude.{◌≡◌, ℕ, Bool, map}
use Rattle.abel_meaning.specs.Prelude.{option_map, Levels, formula_value, Extension}
use Rattle.abel_meaning.specs.Terms.{Term}
use Rattle.abel_meaning.specs.Designs.{Context, Design}
use Rattle.abel_meaning.specs.AllowedValues.{allowed_values}
use Rattle.abel_meaning.specs.AtPoints.{truth_at, given_at}
use Rattle.abel_meaning.specs.FormulaBits.{formulas}
use Rattle.abel_meaning.specs.Functions.{allows, function_of, function_seen}
use Rattle.abel_meaning.specs.Controls.{control_of}
use Rattle.abel_meaning.specs.SignalReads.{given_formulas}
use Rattle.abel_meaning.specs.Follows.{seen}

-- the bits that a target takes from an expression have the digits of its value
abbrev pub ExpressionsAgree : Type 0
ExpressionsAgree =
    (d : Context) (at : Levels) (width : ℕ) (t : Term)
    → map (formula_value at) ((formulas d).word width t) ≡ (truth_at d at).word width t

-- the contributions by formulas hold if the contributions hold
abbrev pub ContributionsAgree : Type 0
ContributionsAgree =
    (d : Design) (at : Levels) → map (seen (formula_value at)) (given_formulas d) ≡ given_at d at

-- a signal's function by formulas is its function
abbrev pub FunctionsAgree : Type 0
FunctionsAgree =
    (d : Design) (at : Levels) (signal : ℕ)
    → function_seen (formula_value at) (function_of (formulas d.context) (given_formulas d) signal)
    ≡ function_of (truth_at d.context at) (given_at d at) signal

-- a signal's function allows just the values that the signal may have
abbrev pub ValuesAgree : Type 0
ValuesAgree =
    (d : Design) (at : Levels) (signal : ℕ) (value : Bool)
    → allows (function_of (truth_at d.context at) (given_at d at) signal) value ≡ allowed_values d at signal value

-- a signal's controls by formulas are its controls
abbrev pub ControlsAgree : Type 0
ControlsAgree =
    (d : Design) (at : Levels) (signal : ℕ) (control : Extension)
    → option_map (formula_value at) (control_of (formulas d.context) (given_formulas d) signal control)
    ≡ control_of (truth_at d.context at) (given_at d at) signal control
