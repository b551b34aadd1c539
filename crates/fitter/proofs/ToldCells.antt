-- What is reported of the cells in turn that are over their room.
use Rattle.std.proofs.Common.{◌≡◌, ℕ, ◌+◌, ◌<◌, min, List, [], ◌∷◌, ◌++◌, length, get_or, Option, Some, None, Err, filter_map, refl, sym, ap, ◌∙◌, subst, arith, inl, inr}
use Rattle.std.proofs.lemmas.List.Elements.{filter_map-append}
use Rattle.fitter.proofs.Common.{Vec, option_to_list, cases_lt, get_or_append_left, length-append, get_or-append_seam, Table, CellWanted, Netlist, Cube, FitsRoom, cell_wanted, CellCovers, HasCoversAs, FitFault, AreCovered}
use Rattle.fitter.specs.Rooms.{AddsTold, AreOverfull, HasSomeCover, IsToldAt, IsToldBy, TellsBelow, fewest_rows}
use Rattle.fitter.specs.declared.fault.FitFault.TheVariants.{EnableTooWide, NotShared, OutOfMemory, PresetTooWide, ResetTooWide, TooManyProducts, TooWide}
use Rattle.fitter.specs.declared.rooms.Overfull.{Overfull}
use Rattle.fitter.proofs.CellPlans.{over_at}
use Rattle.fitter.proofs.FittingCovers.{fitting_cover}

some_same : (a b : ℕ) → Some a ≡ Some b → a ≡ b
some_same a b e = cc

none_some : (n : ℕ) → None ≡ Some n → ⊥
none_some n e = absurd cc

-- if neither cover fits the room, the smaller one is over it
pub fewest_over : (room : ℕ) (direct inverted : Option (Vec Cube)) (rows : ℕ) → fewest_rows direct inverted ≡ Some rows → (FitsRoom room direct → ⊥) → (FitsRoom room inverted → ⊥) → room < rows
fewest_over room None None rows is direct inverted = absurd (none_some rows is)
fewest_over room (Some xs) None rows is direct inverted =
    let same = some_same (length xs.items) rows is in
    elim (cases_lt room (length xs.items)) [
      | inl less ↦ omega (arith, less, same)
      | inr more ↦ absurd (direct more)
    ]
fewest_over room None (Some ys) rows is direct inverted =
    let same = some_same (length ys.items) rows is in
    elim (cases_lt room (length ys.items)) [
      | inl less ↦ omega (arith, less, same)
      | inr more ↦ absurd (inverted more)
    ]
fewest_over room (Some xs) (Some ys) rows is direct inverted =
    let same = some_same (min (length xs.items) (length ys.items)) rows is in
    elim (cases_lt room (length xs.items)) [
      | inl less ↦ elim (cases_lt room (length ys.items)) [
        | inl lower ↦ omega (arith, less, lower, same)
        | inr more ↦ absurd (inverted more)
      ]
      | inr more ↦ absurd (direct more)
    ]

-- there is a cover of a cell that has one
pub fewest_there : (direct inverted : Option (Vec Cube)) → fewest_rows direct inverted ≡ None → (direct ≡ None → inverted ≡ None → ⊥) → ⊥
fewest_there None None is some = some refl refl
fewest_there (Some xs) None is some = none_some (length xs.items) (sym is)
fewest_there None (Some ys) is some = none_some (length ys.items) (sym is)
fewest_there (Some xs) (Some ys) is some = none_some (min (length xs.items) (length ys.items)) (sym is)

-- a cell that has its covers has one
pub some_cover : (t : Table) (mask : ℕ) (net : Netlist) (wanted : Option CellWanted) (found : Option CellCovers) → HasCoversAs t mask net wanted found → HasSomeCover found
some_cover t mask net None None has = tt
some_cover t mask net None (Some x) has = absurd has
some_cover t mask net (Some w) None has = absurd has
some_cover t mask net (Some w) (Some x) has = has.some

-- what is given by the covers of a cell is reported of the cell
told_at : (t : Table) (mask : ℕ) (net : Netlist) (c : ℕ) (found : Option CellCovers) (told : Option Overfull) → HasCoversAs t mask net (cell_wanted net c) found → IsToldBy t c found told
    → IsToldAt t mask net c told
told_at t mask net c found None has is = λ w wanted. fitting_cover t mask net c (cell_wanted net c) w found refl wanted has is
told_at t mask net c None (Some over) has is = absurd is
told_at t mask net c (Some x) (Some over) has is =
    record { tried = is.tried; is_over = over_at t mask net c (cell_wanted net c) (Some x) is.tried refl has is.is_over; tells = is.tells }

pub tells_none : (t : Table) (mask : ℕ) (net : Netlist) → TellsBelow t mask net 0 []
tells_none t mask net = record { told = []; count = refl; each = λ d low. absurd (omega (arith, low)); list_is = refl }

told_one : (told : Option Overfull) → filter_map (λ (o : Option Overfull). o) (told ∷ []) ≡ option_to_list told
told_one None = refl
told_one (Some over) = refl

pub tells_more : (t : Table) (mask : ℕ) (net : Netlist) (c : ℕ) (found : Option CellCovers) (before after : List Overfull) → TellsBelow t mask net c before
    → HasCoversAs t mask net (cell_wanted net c) found → AddsTold t c found before after → TellsBelow t mask net (c + 1) after
tells_more t mask net c found before after below has adds =
    let all = below.told ++ adds.told ∷ [] in
    record {
      told = all;
      count = let count = below.count in omega (arith, length-append below.told (adds.told ∷ []), count);
      each = λ d low. elim (cases_lt d c) [
        | inl less ↦
            let count = below.count in
            subst (IsToldAt t mask net d) (sym (get_or_append_left below.told (adds.told ∷ []) None d (omega (arith, less, count)))) (below.each d less)
        | inr more ↦
            let same : d ≡ c = omega (arith, low, more) in
            rw (same, subst (λ n. get_or all n None ≡ adds.told) below.count (get_or-append_seam below.told adds.told [] None)) (told_at t mask net c found adds.told has adds.is_told)
      ];
      list_is = adds.after_is
          ∙ ap (λ (xs : List Overfull). xs ++ option_to_list adds.told) below.list_is
          ∙ sym (filter_map-append (λ (o : Option Overfull). o) below.told (adds.told ∷ [])
          ∙ ap (λ (xs : List Overfull). filter_map (λ (o : Option Overfull). o) below.told ++ xs) (told_one adds.told));
    }

-- covers that are not found are why nothing is reported
pub told_stops : (t : Table) (mask : ℕ) (net : Netlist) (x : FitFault) → AreCovered t mask net (Err x) → AreOverfull t net (Err x)
told_stops t mask net (TooWide c) is = is
told_stops t mask net (NotShared which a b point) is = absurd is
told_stops t mask net ResetTooWide is = absurd is
told_stops t mask net PresetTooWide is = absurd is
told_stops t mask net (EnableTooWide c) is = absurd is
told_stops t mask net (TooManyProducts c tried) is = absurd is
told_stops t mask net OutOfMemory is = tt
