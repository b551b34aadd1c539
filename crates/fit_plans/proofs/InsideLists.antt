-- The needed points of a function's two lists are allowed.
use Rattle.std.proofs.Common.{◌≡◌, ℕ, zero, suc, ◌^◌, ◌<◌, ◌≤◌, Bool, true, false, ◌||◌, List, length, replicate, Some, refl, sym, ◌∙◌, ap, subst}
use Rattle.fit_plans.proofs.Common.{All-from_recursion, AllByRecursion, same_level, Function, Netlist, Cube, AllAskBelow, AsksBelow, covers, CoversList, all_turned, IsInside, IsCarried, ListsInside, levels_turned, allowed_of, needed_of, one_of, one_or_any}
use Rattle.bit_expr.specs.Formulas.{Formula, formula_value}
use Rattle.sop_lowering.specs.Products.{Products}
use Rattle.sop_lowering.specs.Values.{Carries, HasValue}
use Rattle.sop_lowering.specs.Written.{written}
use Rattle.sop_lowering.proofs.WrittenValues.{written_values}
use Rattle.fit_plans.proofs.TurnedCubes.{covers_turned, length_turned, turned_below}

-- the two lists have the values that their formulas have at some point
pub record HaveValues (needed allowed : Products) (pairs : List Bool) : Type 0 where
  pub need : Bool
  pub allow : Bool
  pub needs : HasValue needed pairs need
  pub allows : HasValue allowed pairs allow
  pub inside : need ≡ true → allow ≡ true

left_carries : (net : Netlist) (f : Function) (pairs : List Bool) (c : IsCarried net f pairs) → Carries net c.at pairs (one_of net f)
left_carries net f pairs c = record { few = c.carries.few; leaves = c.carries.leaves.0; nodes = c.carries.nodes }

to_either : (one any : Bool) → same_level one true ≡ true → same_level (one || any) true ≡ true
to_either true any on = refl
to_either false any on = absurd cc

to_neither : (one any : Bool) → same_level (one || any) false ≡ true → same_level one false ≡ true
to_neither true any on = on
to_neither false any on = refl

have_values : (net : Netlist) (f : Function) (positive : Bool) (pairs : List Bool) → IsCarried net f pairs → HaveValues (needed_of net f positive) (allowed_of net f positive) pairs
have_values net f true pairs c = record {
  need = same_level (formula_value c.at (one_of net f)) true;
  allow = same_level (formula_value c.at (one_or_any net f)) true;
  needs = written_values net c.at pairs (one_of net f) true (left_carries net f pairs c);
  allows = written_values net c.at pairs (one_or_any net f) true c.carries;
  inside = to_either (formula_value c.at (one_of net f)) _;
}
have_values net f false pairs c = record {
  need = same_level (formula_value c.at (one_or_any net f)) false;
  allow = same_level (formula_value c.at (one_of net f)) false;
  needs = written_values net c.at pairs (one_or_any net f) false c.carries;
  allows = written_values net c.at pairs (one_of net f) false (left_carries net f pairs c);
  inside = to_neither (formula_value c.at (one_of net f)) _;
}

has_list : (list : Products) (pairs : List Bool) (v : Bool) (rows : List Cube) → list ≡ Some rows → HasValue list pairs v
    → AllByRecursion (AsksBelow (length pairs)) rows × (covers rows pairs ≡ v)
has_list list pairs v rows same has = subst (λ y. HasValue y pairs v) same has

list_below : (list : Products) (pairs : List Bool) (v : Bool) (rows : List Cube) (vars : ℕ) → length pairs ≡ vars → list ≡ Some rows → HasValue list pairs v → AllAskBelow vars rows
list_below list pairs v rows vars long same has =
    subst (λ n. AllAskBelow n rows) long (All-from_recursion (AsksBelow (length pairs)) rows (has_list list pairs v rows same has).0)

length_zeros : (n : ℕ) → length (replicate n false) ≡ n
length_zeros zero = refl
length_zeros (suc n) = ap suc (length_zeros n)

pub lists_inside : ListsInside
lists_inside net f vars mask positive few low carried needs allows needs_is allows_is =
    let none = replicate vars false in
    let some = have_values net f positive none (carried none (length_zeros vars)) in
    record {
      needed_below = turned_below vars mask needs (list_below (needed_of net f positive) none some.need needs vars (length_zeros vars) needs_is some.needs);
      allowed_below = turned_below vars mask allows (list_below (allowed_of net f positive) none some.allow allows vars (length_zeros vars) allows_is some.allows);
      inside = λ p long on.
          let q = levels_turned mask 0 p in
          let here = have_values net f positive q (carried q (length_turned mask 0 p ∙ long)) in
          let short : length p ≤ 32 = subst (λ n. n ≤ 32) (sym long) few in
          let need = (has_list (needed_of net f positive) q here.need needs needs_is here.needs).1 in
          let allow = (has_list (allowed_of net f positive) q here.allow allows allows_is here.allows).1 in
          covers_turned mask allows p low short ∙ allow ∙ here.inside (sym need ∙ sym (covers_turned mask needs p low short) ∙ on);
    }
