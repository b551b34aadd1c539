-- The covers of the cells in turn.
use Rattle.std.proofs.Common.{◌≡◌, ◌⊎◌, ℕ, ◌+◌, ◌<◌, ◌≤◌, Bool, true, false, List, [], ◌∷◌, ◌++◌, length, get_or, Option, Some, None, Result, Ok, Err, refl, sym, subst, arith, inl, inr}
use Rattle.fitter.proofs.Common.{cases_lt, false≢true, get_or_append_left, length-append, get_or-append_seam, Table, CellWanted, Netlist, IsSoundNetlist, LowerFault, cell_wanted, SharedControl, Preset, Reset, AllListed, CellCovers, HasCheckedAs, HasCoversAs, IsCheckedAt, IsCoveredAt, IsFirstNumber, IsWideAt, IsControlTooWide, IsTooWide, NoneWide, CoversBelow, EachCoveredBelow, EachFitsBelow, OneFitsAt}
use Rattle.sop_lowering.specs.declared.fault.LowerFault.TheVariants as lower
use Rattle.fitter.proofs.Widths.{cell_low, checked_not_wide, covered_checked}

pub below_none : (t : Table) (mask : ℕ) (net : Netlist) → CoversBelow t mask net 0 []
below_none t mask net = record { count = refl; each = λ d low. absurd (omega (arith, low)); tried = λ d low fit. absurd (omega (arith, low)) }

-- a list that grew has the entries that it had, and they fit as before
grown_at : (list : List (Option CellCovers)) (found : Option CellCovers) (d c : ℕ) → length list ≡ c → d < c → get_or (list ++ found ∷ []) d None ≡ get_or list d None
grown_at list found d c count low = get_or_append_left list (found ∷ []) None d (omega (arith, low, count))

pub fits_grown : (t : Table) (list : List (Option CellCovers)) (found : Option CellCovers) (n c : ℕ) → length list ≡ c → n ≤ c → EachFitsBelow t (list ++ found ∷ []) n → EachFitsBelow t list n
fits_grown t list found n c count le fit d low = subst (OneFitsAt t d) (grown_at list found d c count (omega (arith, low, le))) (fit d low)

last_at : (list : List (Option CellCovers)) (found : Option CellCovers) (c : ℕ) → length list ≡ c → get_or (list ++ found ∷ []) c None ≡ found
last_at list found c count = subst (λ n. get_or (list ++ found ∷ []) n None ≡ found) count (get_or-append_seam list found [] None)

pub below_more : (t : Table) (mask : ℕ) (net : Netlist) (c : ℕ) (list : List (Option CellCovers)) (found : Option CellCovers) → CoversBelow t mask net c list
    → HasCheckedAs t mask net (cell_wanted net c) found → (EachFitsBelow t list c → HasCoversAs t mask net (cell_wanted net c) found) → CoversBelow t mask net (c + 1) (list ++ found ∷ [])
below_more t mask net c list found before here own = record {
  count = let count = before.count in omega (arith, length-append list (found ∷ []), count);
  each = λ d low. elim (cases_lt d c) [
    | inl less ↦ subst (HasCheckedAs t mask net (cell_wanted net d)) (sym (grown_at list found d c before.count less)) (before.each d less)
    | inr more ↦
        let same : d ≡ c = omega (arith, low, more) in
        rw (same, last_at list found c before.count) here
  ];
  tried = λ d low fit. elim (cases_lt d c) [
    | inl less ↦
        subst (HasCoversAs t mask net (cell_wanted net d)) (sym (grown_at list found d c before.count less))
        (before.tried d less (fits_grown t list found d c before.count (omega (arith, less)) fit))
    | inr more ↦
        let same : d ≡ c = omega (arith, low, more) in
        let fits : EachFitsBelow t (list ++ found ∷ []) c = subst (EachFitsBelow t (list ++ found ∷ [])) same fit in
        rw (same, last_at list found c before.count) (own (fits_grown t list found c c before.count (omega arith) fits))
  ];
}

pub covered_none : (t : Table) (mask : ℕ) (net : Netlist) → EachCoveredBelow t mask net 0 []
covered_none t mask net d low = absurd (omega (arith, low))

pub covered_more : (t : Table) (mask : ℕ) (net : Netlist) (c : ℕ) (list : List (Option CellCovers)) (found : Option CellCovers) → length list ≡ c → EachCoveredBelow t mask net c list
    → HasCoversAs t mask net (cell_wanted net c) found → EachCoveredBelow t mask net (c + 1) (list ++ found ∷ [])
covered_more t mask net c list found count before here d low = elim (cases_lt d c) [
  | inl less ↦ subst (HasCoversAs t mask net (cell_wanted net d)) (sym (grown_at list found d c count less)) (before d less)
  | inr more ↦
      let same : d ≡ c = omega (arith, low, more) in
      rw (same, last_at list found c count) here
]

-- what is covered is checked
pub covered_at : (t : Table) (mask : ℕ) (net : Netlist) (c : ℕ) (result : Result (Option CellCovers) LowerFault) → IsCoveredAt t mask net c result → IsCheckedAt t mask net c result
covered_at t mask net c (Ok found) is = covered_checked t mask net (cell_wanted net c) found is
covered_at t mask net c (Err lower.TooWide) is = is
covered_at t mask net c (Err lower.OutOfMemory) is = tt

-- once a cell is refused, not each of the cells so far fits
abbrev pub IsRefused : Table → List (Option CellCovers) → ℕ → Bool → Type 0
IsRefused t list c refused = refused ≡ true → EachFitsBelow t list c → ⊥

pub refused_more : (t : Table) (list : List (Option CellCovers)) (found : Option CellCovers) (c : ℕ) (before after : Bool) → length list ≡ c → IsRefused t list c before
    → (after ≡ true → (before ≡ true) ⊎ (OneFitsAt t c found → ⊥)) → IsRefused t (list ++ found ∷ []) (c + 1) after
refused_more t list found c before after count refused by is fit = elim (by is) [
  | inl was ↦ refused was (fits_grown t list found c c count (omega arith) (λ d low. fit d (omega (arith, low))))
  | inr never ↦ never (subst (OneFitsAt t c) (last_at list found c count) (fit c (omega arith)))
]

pub none_refused : (t : Table) → IsRefused t [] 0 false
none_refused t never = absurd (false≢true never)

wide_below : (t : Table) (mask : ℕ) (net : Netlist) (c : ℕ) (list : List (Option CellCovers)) → CoversBelow t mask net c list
    → (d : ℕ) (w : CellWanted) → d < c → cell_wanted net d ≡ Some w → IsTooWide t net w → ⊥
wide_below t mask net c list before d w low is wide = checked_not_wide t mask net (cell_wanted net d) w (get_or list d None) (before.each d low) is wide

pub first_number : (t : Table) (mask : ℕ) (net : Netlist) (c : ℕ) (list : List (Option CellCovers)) → CoversBelow t mask net c list → IsWideAt t net c → IsFirstNumber t net c
first_number t mask net c list before at = record { at = at; below = wide_below t mask net c list before }

pub none_wide : (t : Table) (mask : ℕ) (net : Netlist) → IsSoundNetlist t net → (list : List (Option CellCovers)) → CoversBelow t mask net (length t.cells) list → NoneWide t net
none_wide t mask net sound list all d w is wide = wide_below t mask net (length t.cells) list all d w (cell_low t net sound d w is) is wide

pub all_listed : (t : Table) (net : Netlist) → NoneWide t net → (which : SharedControl) → AllListed net which
all_listed t net none Reset c w control is own list = none c w is (inr (inr (inl (subst (IsControlTooWide net) (sym own) list))))
all_listed t net none Preset c w control is own list = none c w is (inr (inr (inr (subst (IsControlTooWide net) (sym own) list))))
