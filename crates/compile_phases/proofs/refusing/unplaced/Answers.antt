-- The line is reported at the first signal.
use Rattle.std.proofs.Common.{ℕ, List, IsSome, sym, subst}
use Rattle.compile_phases.proofs.Common.{entries_of, first_place}
use Rattle.placer.specs.Faults.{IsUnplaced}
use Rattle.compile_phases.proofs.ToldPlacings.{first_told}
use Rattle.compile_phases.proofs.refusing.unplaced.Goals as goal

pub placing_line-requires : goal.placing_line-requires
placing_line-requires c =
    let t = c.requires.0 in
    let m = c.requires.1 in
    let es = entries_of c.args.names.now in
    subst (λ (ss : List ℕ). IsSome (first_place es ss)) (sym c.as_slice.ensures.value)
    (first_told t m es c.in-NoPlacement.signals.items c.in-NoPlacement.places c.requires.2 (subst (IsUnplaced t m) c.in-NoPlacement.is c.requires.3))
