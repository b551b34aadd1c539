-- What is drawn for a demo source, from a seed (the linear congruential generator of the C standard's example of
-- `rand`; how many numbers are drawn, and what they represent, is this project's rule).
use Rattle.std.specs.Prelude.{ℕ, zero, suc, ◌+◌, ◌*◌, ◌/◌, ◌%◌, ◌^◌, ◌==◌, Bool, List, [], ◌∷◌}
use Rattle.demo_source.specs.declared.literals.Literal.{Literal}
use Rattle.demo_source.specs.declared.equations.Product.{Product}
use Rattle.demo_source.specs.declared.equations.Equation.{Equation}

-- each draw moves the state
unfoldable pub next_state : ℕ → ℕ
next_state x = (1103515245 * x + 12345) % 2 ^ 31

-- the number below a bound that is drawn at a state
unfoldable pub drawn : ℕ → ℕ → ℕ
drawn x bound = next_state x / 2 ^ 16 % bound

-- the state after so many draws
unfoldable pub state_after : ℕ → ℕ → ℕ
state_after zero x = x
state_after (suc n) x = state_after n (next_state x)

-- so many things, each drawn with so many draws at the state that the one before leaves
unfoldable pub many : {A : Type 0} → (draw : ℕ → A) → (draws : ℕ) → ℕ → ℕ → List A
many draw draws zero x = []
many draw draws (suc n) x = draw x ∷ many draw draws n (state_after draws x)

-- a signal, and then whether it is complemented
abbrev pub literal_drawn : ℕ → Literal
literal_drawn x = record { signal = drawn x 20; negated = drawn (next_state x) 2 == 1 }

-- three literals
abbrev pub product_drawn : ℕ → Product
product_drawn x = record { literals = many literal_drawn 2 3 x }

-- eight products
abbrev pub equation_drawn : ℕ → Equation
equation_drawn x = record { products = many product_drawn 6 8 x }

-- ten equations, from the seed on
abbrev pub equations_drawn : ℕ → List Equation
equations_drawn seed = many equation_drawn 48 10 seed

-- the level of an input
abbrev pub level_drawn : ℕ → Bool
level_drawn x = drawn x 2 == 1

-- ten levels of inputs
abbrev pub inputs_drawn : ℕ → List Bool
inputs_drawn x = many level_drawn 1 10 x

-- a thousand times, after the equations
abbrev pub all_inputs_drawn : ℕ → List (List Bool)
all_inputs_drawn seed = many inputs_drawn 10 1000 (state_after 480 seed)
