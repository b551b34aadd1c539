-- The two written lists of a function in the polarity of a cell's rows (this project's rule).
use Rattle.std.specs.Prelude.{◌≡◌, ◌⊎◌, ℕ, Bool, true, false, Some, None, List, Result, Ok, Err}
use Rattle.fit_plans.specs.Prelude.{Function, Netlist, Products}
use Rattle.bit_expr.specs.Arena.{arena, formula_at}
use Rattle.bit_expr.specs.Formulas.{Formula, Or}
use Rattle.sop_lowering.specs.declared.fault.LowerFault.{LowerFault}
use Rattle.sop_lowering.specs.declared.fault.LowerFault.TheVariants as fault
use Rattle.sop_lowering.specs.Written.{written}
use Rattle.fit_plans.specs.declared.lists.Lists.{Lists}

-- if the function is 1, and if it may be 1
abbrev pub one_of : Netlist → Function → Formula
one_of net f = formula_at (arena net.exprs) f.one

abbrev pub one_or_any : Netlist → Function → Formula
one_or_any net f = Or (formula_at (arena net.exprs) f.one) (formula_at (arena net.exprs) f.any)

-- the points at which the OR of the rows must be 1. Positive rows have what the function's `one` has, negative ones
-- the complement
abbrev pub needed_of : Netlist → Function → Bool → Products
needed_of net f true = written net (one_of net f) true
needed_of net f false = written net (one_or_any net f) false

-- if it may be 1
abbrev pub allowed_of : Netlist → Function → Bool → Products
allowed_of net f true = written net (one_or_any net f) true
allowed_of net f false = written net (one_of net f) false

-- an answer has both lists; TooWide just if one of them has none
abbrev pub AreLists : Result Lists LowerFault → Products → Products → Type 0
AreLists (Ok lists) needed allowed = (needed ≡ Some lists.needed.items) × (allowed ≡ Some lists.allowed.items)
AreLists (Err fault.TooWide) needed allowed = (needed ≡ None) ⊎ (allowed ≡ None)
AreLists (Err fault.OutOfMemory) needed allowed = Unit {0}
