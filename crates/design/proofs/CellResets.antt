-- The first path from the resets of several cells; these resets are those of a design's signals.
use Rattle.std.proofs.Common.{◌≡◌, ℕ, zero, suc, ◌+◌, ◌<◌, Bool, true, List, [], ◌∷◌, length, map, get_or, Option, Some, None, refl, sym, ap, ◌∙◌, subst, inl, inr, arith, All, IsSome, false, if◌then◌else◌, ◌++◌, take}
use Rattle.design.proofs.Common.{option_map, cases_Bool, and_parts, get_or-map, length-map, All-map, same_Some, Place, Leaf, Formula, APin, ADeviceName, Entry, is_stored, control_of, control_if_stored, Context, Design, name_at, no_name, formulas, Wanted, plain_control, plain_wanted, given_formulas, leaf_of, names_if_any, is_one_of, HasNoSignalPath, Link, wanted_for, cell_of, and_cell, cells_from, inside, AreLinks, IsPlaced, AssignedHaveCells, is_sooner, IsResetAt, IsFirstPath, IsResetOf, LeadsNowhereAt, AnyPlace, IsFirstOf, AllLeadNowhere, true≢false, take_more, All-weaker, IsPathOf, IsFoundOf, IsFirstFound, path_order, All-push, Contains-push, Contains-append_left}
use Rattle.bit_expr.specs.declared.netlist.CellWanted.{CellWanted}
use Rattle.bit_expr.specs.declared.netlist.Control.{Control}
use Rattle.std.proofs.lemmas.Bool.Decides.{nat_tests}
use Rattle.abel_tree.specs.FirstRefusal.{is_before, earlier, place_order}
use Rattle.abel_tree.specs.declared.words.Extension.TheVariants as extension
use Rattle.abel_tree.proofs.FirstRefusals.{before_trans}
use Rattle.abel_meaning.specs.Contributions as meant
use Rattle.set_expr.specs.declared.contributions.Contribution.{Contribution}
use Rattle.netlist_laws.proofs.SoundCells.{IsFor, each_for}
use Rattle.design.proofs.GivenSignals.{IsRowed}
use Rattle.design.specs.declared.chains.ResetPath.{ResetPath}
use Rattle.design.specs.{Before}

-- ---- the first path

-- no place precedes itself
not_itself : (p : Place) → is_sooner p p ≡ false
unfolding is_before
not_itself p = grind (arith, nat_tests)

by_resets : (p q : ResetPath) → is_sooner p.place q.place ≡ is_before path_order p q
unfolding is_before
by_resets p q = refl

module _ (fs : List Formula) (ns : List ℕ) (ls : List Link) where
  abbrev NowhereAt : (Place → Type 0) → CellWanted → Type 0
  NowhereAt P w = LeadsNowhereAt fs ns ls P w

  -- the reset of a cell with a path is if the path does
  same_place : (w : CellWanted) (p : ResetPath) (c : Control) → IsPathOf fs ns ls w p → w.reset ≡ Some c → c.place ≡ p.place
  same_place w p c path is = ap (λ (k : Control). k.place) (same_Some c path.reset (sym is ∙ path.is)) ∙ sym path.place

  last_path : (ws : List CellWanted) (w : CellWanted) (p : ResetPath) → IsPathOf fs ns ls w p → All (NowhereAt (Before p.place)) ws → IsFirstOf fs ns ls (ws ++ w ∷ []) p
  last_path ws w p path before = record {
    cell = w;
    there = Contains-push ws w;
    path = path;
    first = All-push (NowhereAt (Before p.place)) ws w before
        (λ c is sooner. absurd (true≢false (sym sooner ∙ ap (λ q. is_sooner q p.place) (same_place w p c path is) ∙ not_itself p.place)));
  }

  still_first : (ws : List CellWanted) (w : CellWanted) (p : ResetPath) → IsFirstOf fs ns ls ws p → NowhereAt (Before p.place) w → IsFirstOf fs ns ls (ws ++ w ∷ []) p
  still_first ws w p is none = record {
    cell = is.cell;
    there = Contains-append_left ws (w ∷ []) is.cell is.there;
    path = is.path;
    first = All-push (NowhereAt (Before p.place)) ws w is.first none;
  }

  by_place : (ws : List CellWanted) (w : CellWanted) (p q : ResetPath) (b : Bool) → is_sooner q.place p.place ≡ b → IsFirstOf fs ns ls ws p → IsPathOf fs ns ls w q → IsFirstFound fs ns ls (ws ++ w ∷ []) (if b then Some q else Some p)
  by_place ws w p q true sooner first path =
      last_path ws w q path
      (All-weaker (NowhereAt (Before p.place)) (NowhereAt (Before q.place)) (λ v none c is before. none c is (before_trans place_order c.place q.place p.place before sooner)) ws first.first)
  by_place ws w p q false later first path =
      still_first ws w p first
      (λ c is sooner. absurd (true≢false (sym sooner ∙ ap (λ r. is_sooner r p.place) (same_place w q c path is) ∙ later)))

  pushed : (ws : List CellWanted) (w : CellWanted) (first found : Option ResetPath) → IsFirstFound fs ns ls ws first → IsFoundOf fs ns ls w found → IsFirstFound fs ns ls (ws ++ w ∷ []) (earlier path_order first found)
  pushed ws w None None first found = All-push (NowhereAt AnyPlace) ws w first found
  pushed ws w None (Some q) first found = last_path ws w q found (All-weaker (NowhereAt AnyPlace) (NowhereAt (Before q.place)) (λ v none c is before. none c is tt) ws first)
  pushed ws w (Some p) None first found = still_first ws w p first (λ c is sooner. found c is tt)
  pushed ws w (Some p) (Some q) first found = by_place ws w p q (is_before path_order q p) (by_resets q p) first found

  -- one cell more
  pub first_more : (ws : List CellWanted) (k : ℕ) (d : CellWanted) (first found : Option ResetPath) → k < length ws → IsFirstFound fs ns ls (take k ws) first → IsFoundOf fs ns ls (get_or ws k d) found
      → IsFirstFound fs ns ls (take (k + 1) ws) (earlier path_order first found)
  first_more ws k d first found low before here =
      subst (λ xs. IsFirstFound fs ns ls xs (earlier path_order first found)) (sym (take_more ws k d low)) (pushed (take k ws) (get_or ws k d) first found before here)

-- ---- what is asked of each cell

module _ (d : Context) (cs : List (meant.Contribution Formula)) where
  -- what holds of all that is asked holds of what a signal asks
  asked_by : (P : Wanted → Type 0) (s i n c : ℕ) (xs : List Entry) → n ≡ s + i → All P (cells_from d cs s xs) → i < length xs → cell_of d.device (get_or xs i no_name) ≡ Some c → P (wanted_for d cs c n (get_or xs i no_name))
  asked_by P s i n c [] place all within on = absurd (omega (arith, within))
  asked_by P s zero n c (x ∷ xs) place all within on =
      let here : All P (wanted_for d cs c s x ∷ cells_from d cs (suc s) xs) = rw on at all in
      let e : s ≡ n = omega (arith, place) in
      subst (λ k. P (wanted_for d cs c k x)) e (here 0 (wanted_for d cs c s x) (omega arith))
  asked_by P s (suc i) n c (x ∷ xs) place all within on =
      asked_by P (suc s) i n c xs (omega (arith, place)) (rest (option_map (λ k. wanted_for d cs k s x) (cell_of d.device x)) (cells_from d cs (suc s) xs) all) (omega (arith, within)) on
    where
      rest : (o : Option Wanted) (ws : List Wanted) → All P (and_cell o ws) → All P ws
      rest None ws all = all
      rest (Some w) ws all = λ k v less. all (suc k) v (omega (arith, less))

-- ---- controls

-- no reset without an equation reads anything
no_equation : (d : Design) (s : ℕ) → control_of (formulas d.context) (given_formulas d) s extension.Ar ≡ None → HasNoSignalPath d s
no_equation d s none path is = by (leaf_of d.context (get_or path 0 0)) (rw none at is.begins)
  where
    by : (o : Option Leaf) → is_one_of (names_if_any None) o ≡ true → ⊥
    by None e = absurd cc
    by (Some l) e = absurd cc

-- ---- cells and signals

module _ (d : Design) (fs : List Formula) (ns : List ℕ) (ls : List Link) (cs : List Contribution) (ws : List CellWanted) (cells : AssignedHaveCells d.context) (links : AreLinks d.context (given_formulas d) ns ls)
    (asked : map (plain_wanted fs) ws ≡ cells_from d.context (given_formulas d) 0 d.context.names) (placed : All (IsPlaced cs) ws)
    (had : (s : ℕ) (f : Formula) → control_of (formulas d.context) (given_formulas d) s extension.Ar ≡ Some f → IsRowed (name_at d.context s) d.context.device.reset) where
  for_cell : (k : ℕ) (w : CellWanted) → k < length ws → IsFor d 0 (plain_wanted fs (get_or ws k w))
  for_cell k w less =
      subst (IsFor d 0) (get_or-map (plain_wanted fs) ws k w (plain_wanted fs w) less)
      (subst (All (IsFor d 0)) (sym asked) (each_for d 0 d.context.names (λ i within. ap (λ n. name_at d.context n) (omega arith))) k (plain_wanted fs w) (omega (arith, length-map ws (plain_wanted fs), less)))

  reset_is : (w : CellWanted) (c : Control) → IsFor d 0 (plain_wanted fs w) → w.reset ≡ Some c → plain_control fs w.reset ≡ control_of (formulas d.context) (given_formulas d) w.name extension.Ar
  reset_is w c for is =
      let named : w.name ≡ for.signal = ap (λ (v : Wanted). v.name) for.is in
      let own : plain_control fs w.reset ≡ control_if_stored (formulas d.context) (given_formulas d) extension.Ar for.signal (name_at d.context for.signal) = ap (λ (v : Wanted). v.reset) for.is in
      elim (cases_Bool (is_stored (name_at d.context for.signal))) [
        | inl stored ↦ (rw stored at own) ∙ ap (λ n. control_of (formulas d.context) (given_formulas d) n extension.Ar) (sym named)
        | inr other ↦ absurd (let bad : plain_control fs (Some c) ≡ None = sym (ap (plain_control fs) is) ∙ (rw other at own) in cc)
      ]

  reset_of : (w : CellWanted) (c : Control) → IsFor d 0 (plain_wanted fs w) → w.reset ≡ Some c → IsResetOf fs ns ls w d
  reset_of w c for is = record { cells = cells; links = links; reset = reset_is w c for is }

  module _ (P : Place → Type 0) (nowhere : All (LeadsNowhereAt fs ns ls P) ws) where
    -- the reset of the signal is at such a place
    abbrev StandsAt : ℕ → Type 0
    StandsAt s = (p : Place) → IsResetAt cs s p → P p

    abbrev Goes : Wanted → Type 0
    Goes v = (f : Formula) → v.reset ≡ Some f → StandsAt v.name → HasNoSignalPath d v.name

    goes_by : (w : CellWanted) → IsFor d 0 (plain_wanted fs w) → LeadsNowhereAt fs ns ls P w → IsPlaced cs w → Goes (plain_wanted fs w)
    goes_by w for none place f is stands = by w.reset refl is
      where
        by : (o : Option Control) → w.reset ≡ o → plain_control fs o ≡ Some f → HasNoSignalPath d w.name
        by None e is = absurd cc
        by (Some c) e is = none c e (stands c.place (place.reset c e)) d (reset_of w c for e)

    goes_asked : All Goes (cells_from d.context (given_formulas d) 0 d.context.names)
    goes_asked = subst (All Goes) asked (All-map Goes (plain_wanted fs) ws (λ k w less. goes_by (get_or ws k w) (for_cell k w less) (nowhere k w less) (placed k w less)))

    stored_goes : (s : ℕ) (f : Formula) → control_of (formulas d.context) (given_formulas d) s extension.Ar ≡ Some f → IsRowed (name_at d.context s) d.context.device.reset → StandsAt s → HasNoSignalPath d s
    stored_goes s f is at stands = by (cell_of d.context.device (name_at d.context s)) refl (rw (at.kind, assigned) (cells s at.pin at.negated at.kind assigned))
      where
        assigned : (name_at d.context s).assigned ≡ true
        assigned = (and_parts (name_at d.context s).words.registered (name_at d.context s).assigned at.stored).1

        by : (o : Option ℕ) → cell_of d.context.device (name_at d.context s) ≡ o → IsSome o → HasNoSignalPath d s
        by None on some = absurd cc
        by (Some c) on some =
            let within = inside d.context s (λ e. absurd (let bad : APin at.pin at.negated ≡ ADeviceName = sym at.kind ∙ e in cc)) in
            asked_by d.context (given_formulas d) Goes 0 s s c d.context.names (omega arith) goes_asked within on f (rw at.stored is) stands

    pub no_path : (s : ℕ) → StandsAt s → HasNoSignalPath d s
    no_path s stands = by (control_of (formulas d.context) (given_formulas d) s extension.Ar) refl
      where
        by : (o : Option Formula) → control_of (formulas d.context) (given_formulas d) s extension.Ar ≡ o → HasNoSignalPath d s
        by None e = no_equation d s e
        by (Some f) e = stored_goes s f e (had s f e) stands

  -- if no reset of a cell leads to a register, none of a signal does
  pub none_leads : AllLeadNowhere fs ns ls ws → (s : ℕ) → HasNoSignalPath d s
  none_leads nowhere s = no_path AnyPlace nowhere s (λ p at. tt)

  -- the path from the first reset of a cell is that from the first reset of a signal
  pub first_leads : (p : Place) (path : List ℕ) → IsFirstOf fs ns ls ws (record { place = p; path = path }) → IsFirstPath d cs p path
  first_leads p path is =
      let for : IsFor d 0 (plain_wanted fs is.cell) = subst (λ w. IsFor d 0 (plain_wanted fs w)) is.there.2 (for_cell is.there.0 is.cell is.there.1) in
      let place : IsPlaced cs is.cell = subst (IsPlaced cs) is.there.2 (placed is.there.0 is.cell is.there.1) in
      record {
        reset = is.cell.name;
        stands = place.reset is.path.reset is.path.is ∙ ap (λ q. Some q) (sym is.path.place);
        leads = is.path.path d (reset_of is.cell is.path.reset for is.path.is);
        first = λ r q at sooner. no_path (Before p) is.first r (λ k here. subst (λ x. is_sooner x p ≡ true) (same_Some q k (sym at ∙ here)) sooner);
      }
