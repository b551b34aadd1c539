-- The text of a demo source (ABEL-HDL, module, pin declarations, equations and test vectors).
use Rattle.std.specs.Prelude.{◌≡◌, ℕ, zero, suc, ◌-◌, nat_lt, Bool, if◌then◌else◌, List, [], ◌∷◌, ◌++◌, flat_map, codes}
use Rattle.std.specs.Fmt.{decimal}
use Rattle.pld_base.specs.Bits.{is_on}
use Rattle.pld_base.specs.Points.{Levels}
use Rattle.pld_machine.specs.Lookups.{logic_of}
use Rattle.pld_machine.specs.Steps.{Run}
use Rattle.demo_source.specs.declared.literals.Literal.{Literal}
use Rattle.demo_source.specs.declared.equations.Product.{Product}
use Rattle.demo_source.specs.declared.equations.Equation.{Equation}
use Rattle.demo_source.specs.Drawing.{equations_drawn, all_inputs_drawn}
use Rattle.demo_source.specs.Machine.{machine, pulse}

-- ---- equations

-- the input `i0` to `i9`, or the register `q0` to `q9`
abbrev pub signal_text : ℕ → List ℕ
signal_text k = if nat_lt k 10 then codes "i" ++ decimal k else codes "q" ++ decimal (k - 10)

abbrev pub literal_text : Literal → List ℕ
literal_text l = (if l.negated then codes "!" else []) ++ signal_text l.signal

-- texts one after another, with a separator between any two
abbrev pub separated : {A : Type 0} → List ℕ → (A → List ℕ) → List A → List ℕ
separated separator text [] = []
separated separator text (first ∷ rest) = text first ++ flat_map (λ x. separator ++ text x) rest

abbrev pub product_text : Product → List ℕ
product_text p = separated (codes " & ") literal_text p.literals

abbrev pub sum_text : Equation → List ℕ
sum_text e = separated (codes " # ") product_text e.products

-- the equation of the register with this number
abbrev pub equation_text : ℕ → Equation → List ℕ
equation_text k e = codes "q" ++ decimal k ++ codes " := " ++ sum_text e ++ codes ";\n"

-- the equations from the register with this number on
abbrev pub equations_text : ℕ → List Equation → List ℕ
equations_text k [] = []
equations_text k (e ∷ equations) = equation_text k e ++ equations_text (suc k) equations

-- ---- vectors

abbrev pub digit : Bool → ℕ
digit level = if level then 49 else 48

abbrev pub further_text : Bool → List ℕ
further_text level = codes "," ++ digit level ∷ []

-- a pulse of the clock and the inputs, on pins 2 to 11
abbrev pub stimulus_text : List Bool → List ℕ
stimulus_text inputs = codes "[.C." ++ flat_map further_text inputs ++ codes "]"

-- the levels of the registers up to one, on pins 23 down to 14
abbrev pub levels_text : Levels → ℕ → List ℕ
levels_text at zero = digit (is_on at.pins 23) ∷ []
levels_text at (suc k) = levels_text at k ++ further_text (is_on at.pins (23 - suc k))

abbrev pub shown_text : Levels → List ℕ
shown_text at = codes "[" ++ levels_text at 9 ++ codes "]"

abbrev pub vector_text : List Bool → Levels → List ℕ
vector_text inputs at = stimulus_text inputs ++ codes " -> " ++ shown_text at ++ codes ";\n"

-- each vector with the levels at the last of its three points
abbrev pub vectors_text : List (List Bool) → List Levels → List ℕ
vectors_text [] points = []
vectors_text (inputs ∷ rest) [] = []
vectors_text (inputs ∷ rest) (before ∷ []) = []
vectors_text (inputs ∷ rest) (before ∷ turned ∷ []) = []
vectors_text (inputs ∷ rest) (before ∷ turned ∷ back ∷ points) = vector_text inputs back ++ vectors_text rest points

-- ---- the source

abbrev pub head_text : List ℕ
head_text =
    codes "module demo\n"
    ++ codes "d device 'GAL22V10';\n"
    ++ codes "clk pin 1;\n"
    ++ codes "i0,i1,i2,i3,i4,i5,i6,i7,i8,i9 pin 2,3,4,5,6,7,8,9,10,11;\n"
    ++ codes "q0,q1,q2,q3,q4,q5,q6,q7,q8,q9 pin 23,22,21,20,19,18,17,16,15,14 istype 'reg,buffer';\n"
    ++ codes "equations\n"

abbrev pub source_text : List Equation → List (List Bool) → List Levels → List ℕ
source_text equations inputs points =
    head_text
    ++ equations_text 0 equations
    ++ codes "test_vectors ([clk,i0..i9] -> [q0..q9])\n"
    ++ vectors_text inputs points
    ++ codes "end\n"

-- the text is the demo source of a seed: the levels that it expects are those of a run, from power-up, of its
-- equations under its vectors
pub record IsDemoSource (seed : ℕ) (text : List ℕ) : Type 0 where
  pub points : List Levels
  pub runs : Run (logic_of (machine (equations_drawn seed))) (flat_map pulse (all_inputs_drawn seed)) points
  pub spells : text ≡ source_text (equations_drawn seed) (all_inputs_drawn seed) points
