-- The cells that have their rows have a cover that fits.
use Rattle.std.proofs.Common.{◌≡◌, ℕ, Bool, true, false, List, get_or, Option, Some, None, refl, subst, inl, inr}
use Rattle.fitter.proofs.Common.{same_Some, Table, CellWanted, Netlist, cell_wanted, CellForm, CellPlan, form_at, CellCovers, HasCoversAs, CellRows, AreChosen, AreRowsOf, EachFitsBelow, OneFitsAt, RowsBelow, HasFittingCover}
use Rattle.fitter.proofs.CellPlans.{number_is, tried_at}

-- the cover that was chosen fits
chosen_fits : (t : Table) (c : ℕ) (x : CellCovers) (rows : CellRows) → (chosen : AreChosen t c x rows) → (inverted : Bool) → rows.form.inverted ≡ inverted
    → OneFitsAt t c (Some x)
chosen_fits t c x rows chosen true is = inr (rw (chosen.inverted is) chosen.fit)
chosen_fits t c x rows chosen false is = inl (rw (chosen.direct is) chosen.fit)

one_fits_at : (t : Table) (c : ℕ) (found : Option CellCovers) (rows : CellRows) → AreRowsOf t c found rows → OneFitsAt t c found
one_fits_at t c None rows are = tt
one_fits_at t c (Some x) rows are = chosen_fits t c x rows are rows.form.inverted refl

pub each_fits_below : (t : Table) (covers : List (Option CellCovers)) (c : ℕ) (plans : List CellPlan) (forms : List CellForm) → RowsBelow t covers c plans forms → EachFitsBelow t covers c
each_fits_below t covers c plans forms below d low =
    let has = below.each d low in
    one_fits_at t d (get_or covers d None) (record { plan = has.plan; form = form_at forms d }) has.rows

pub fitting_cover : (t : Table) (mask : ℕ) (net : Netlist) (c : ℕ) (wanted : Option CellWanted) (w : CellWanted) (found : Option CellCovers) → cell_wanted net c ≡ wanted → wanted ≡ Some w
    → HasCoversAs t mask net wanted found → OneFitsAt t c found → HasFittingCover t mask net c w
fitting_cover t mask net c None w found is e has room = absurd cc
fitting_cover t mask net c (Some v) w None is e has room = absurd has
fitting_cover t mask net c (Some v) w (Some x) is e has room =
    subst (HasFittingCover t mask net c) (same_Some v w e) (record { tried = x.tried; covers_it = tried_at t mask net c v x (number_is net c v is) has; fits = room })
