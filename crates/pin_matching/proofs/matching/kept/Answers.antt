use Rattle.std.proofs.Common.{◌-◌, eqb, arith}
use Rattle.pin_matching.proofs.Common.{IsNonDecreasingBy-from_sort, length_permutation, IsDistinct-IsPermutation, IsStrictlyIncreasing-from_distinct, narrowed, eqb_flips}
use Rattle.pin_matching.proofs.Stuck.{kept_is}
use Rattle.pin_matching.proofs.matching.kept.Goals as goal

pub returns : goal.returns
returns c =
    let old = c.args.reached.items in
    let new = c.sort.new.self.items in
    let same = c.in_ok-sort.ensures.permutation in
    let once = IsDistinct-IsPermutation eqb eqb_flips old new same c.requires.stuck.are_reached.once in
    kept_is (narrowed c.args.wishes.now c.args.fixed.now) c.args.pins.now c.requires.begun old new c.requires.stuck same once (length_permutation old new same)
    (IsStrictlyIncreasing-from_distinct new (IsNonDecreasingBy-from_sort (λ x. x) new c.in_ok-sort.ensures.sorted) once)
    (c.len-places.result - 1) (let some = c.requires.stuck.are_reached.some in omega (arith, some))
