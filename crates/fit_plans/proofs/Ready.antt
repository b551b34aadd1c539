-- What can be covered meets what a cover asks for.
use Rattle.std.proofs.Common.{ℕ, ◌≤◌, ◌<◌, ◌^◌, Bool, arith}
use Rattle.fit_plans.proofs.Common.{Function, Netlist, AreInside, allowed_of, needed_of, CanCover}
use Rattle.fit_plans.proofs.InsideLists.{lists_inside}

pub are_inside : (vars mask : ℕ) (net : Netlist) (f : Function) (positive : Bool) → vars ≤ 22 → mask < 2 ^ 32 → CanCover vars net f
    → AreInside vars mask (needed_of net f positive) (allowed_of net f positive)
are_inside vars mask net f positive few low can = lists_inside net f vars mask positive (omega (arith, few)) low can.carried
