-- The first of the signals that can't be placed is declared somewhere.
use Rattle.std.proofs.Common.{◌≡◌, ℕ, ◌<◌, List, ◌∷◌, length, IsSome, refl}
use Rattle.compile_phases.proofs.Common.{Table, Entry, ModuleTree, no_name, names_of, HasNoPlacement, first_place}
use Rattle.std.proofs.lemmas.Option.{slice_get-get_or}
use Rattle.placer.proofs.ToldSignals.{tells_first}

first_inside : (es : List Entry) (s : ℕ) (ss : List ℕ) → s < length es → IsSome (first_place es (s ∷ ss))
first_inside es s ss low = rw (slice_get-get_or es s no_name low) refl

pub first_told : (t : Table) (m : ModuleTree) (es : List Entry) (signals : List ℕ) (places : ℕ) → es ≡ names_of t m → HasNoPlacement t m signals places
    → IsSome (first_place es signals)
first_told t m es signals places same none =
    let told = tells_first t m signals places none in
    rw (same, told.are) (first_inside (names_of t m) told.first told.rest told.inside)
