-- Each cell of the netlist of a design that a device can take is one that it can have, and is once.
use Rattle.std.proofs.Common.{◌≡◌, ◌≢◌, ℕ, suc, ◌+◌, ◌<◌, ◌≤◌, Bool, true, false, not, ◌&&◌, List, [], ◌∷◌, length, get_or, Option, Some, None, refl, sym, ap, ◌∙◌, subst, inl, inr, arith}
use Rattle.netlist_laws.proofs.Common.{All, AllPairs, option_map, cases_Bool, eqb-true, eq-eqb, All-cons, All-nil, position-Some, Enable, Row, PinLow, Driven, Released, IsDevice, cell_at, no_cell, Leaf, Formula, Extension, Kind, APin, ANode, AConstant, ADeviceName, Entry, is_stored, cell_on, is_free, is_on_pin, control_of, control_if_stored, Design, name_at, no_name, formulas, Function, function_of, Wanted, given_formulas, IsReadable, IsSoundFormula, IsSoundFunction, IsSoundShared, IsSoundCell, IsSoundFree, HasNoControls, by_row, wanted_for, cell_by, cell_of, and_cell, cells_from, and_node, nodes_from, gathered, PinsApart, is_row, is_enabled_by_row, is_kept, ControlIsThere, HasNoEquation, MayChoose, IsTakeable}
use Rattle.std.proofs.lemmas.List.Kept.{AllPairs-cons}
use Rattle.abel_tree.specs.declared.words.Extension.TheVariants as extension
use Rattle.netlist_laws.proofs.CellsFound.{has_pin}
use Rattle.netlist_laws.proofs.KeptLeaves.{EachKept, each_kept, of_one, of_any, of_control, control_kept}
use Rattle.netlist_laws.proofs.NodesFound.{AreNumbered}
use Rattle.netlist_laws.proofs.SoundLeaves.{read_declared, readable}

-- ---- the signal of a cell

module _ (d : Design) where
  on_pin_by : (c : ℕ) (x : Entry) (kind : Kind) → cell_by d.context.device x kind ≡ Some c → (c < length d.context.device.cells) × (is_on_pin (cell_at d.context.device c).pin kind ≡ true) × (x.assigned ≡ true)
  on_pin_by c x (APin pin negated) is =
      elim (cases_Bool x.assigned) [
        | inl assigned ↦ found assigned (rw assigned at is)
        | inr other ↦ absurd (nothing (rw other at is))
      ]
    where
      nothing : None ≡ Some c → ⊥
      nothing e = absurd cc

      found : x.assigned ≡ true → cell_on d.context.device pin ≡ Some c → (c < length d.context.device.cells) × (is_on_pin (cell_at d.context.device c).pin (APin pin negated) ≡ true) × (x.assigned ≡ true)
      found assigned e =
          let at = position-Some (has_pin pin) d.context.device.cells c no_cell e in
          (at.0, eq-eqb pin (cell_at d.context.device c).pin (sym (eqb-true (cell_at d.context.device c).pin pin at.1)), assigned)
  on_pin_by c x (ANode n) is = absurd cc
  on_pin_by c x (AConstant value) is = absurd cc
  on_pin_by c x ADeviceName is = absurd cc

  -- the cell of a signal is one of the device, and on its pin
  pub on_cell : (s c : ℕ) → cell_of d.context.device (name_at d.context s) ≡ Some c → (c < length d.context.device.cells) × (is_on_pin (cell_at d.context.device c).pin (name_at d.context s).kind ≡ true) × ((name_at d.context s).assigned ≡ true)
  on_cell s c is = on_pin_by c (name_at d.context s) (name_at d.context s).kind is

  -- what is asked of a cell is what a signal asks from this number on
  pub record IsFor (from : ℕ) (w : Wanted) : Type 0 where
    pub signal : ℕ
    pub late : from ≤ signal
    pub is : w ≡ wanted_for d.context (given_formulas d) w.cell signal (name_at d.context signal)
    pub on : cell_of d.context.device (name_at d.context signal) ≡ Some w.cell

  later : (s : ℕ) (ws : List Wanted) → All (IsFor (suc s)) ws → All (IsFor s) ws
  later s ws all k w less = let this = all k w less in record { signal = this.signal; late = omega (arith, this.late); is = this.is; on = this.on }

  one_more : (s : ℕ) (found : Option ℕ) (ws : List Wanted) → cell_of d.context.device (name_at d.context s) ≡ found → All (IsFor (suc s)) ws → All (IsFor s) (and_cell (option_map (λ c. wanted_for d.context (given_formulas d) c s (name_at d.context s)) found) ws)
  one_more s None ws is all = later s ws all
  one_more s (Some c) ws is all =
      All-cons (IsFor s) (wanted_for d.context (given_formulas d) c s (name_at d.context s)) ws (record { signal = s; late = omega arith; is = refl; on = is }) (later s ws all)

  pub each_for : (s : ℕ) (xs : List Entry) → ((k : ℕ) → k < length xs → get_or xs k no_name ≡ name_at d.context (s + k)) → All (IsFor s) (cells_from d.context (given_formulas d) s xs)
  each_for s [] is = All-nil (IsFor s)
  each_for s (x ∷ xs) is =
      let rest = each_for (suc s) xs (λ k less. is (suc k) (omega arith) ∙ ap (λ i. name_at d.context i) (omega arith)) in
      let this : name_at d.context s ≡ x = sym (is 0 (omega arith) ∙ ap (λ i. name_at d.context i) (omega arith)) in
      subst (λ y. All (IsFor s) (and_cell (option_map (λ c. wanted_for d.context (given_formulas d) c s y) (cell_of d.context.device y)) (cells_from d.context (given_formulas d) (suc s) xs))) this
      (one_more s (cell_of d.context.device (name_at d.context s)) (cells_from d.context (given_formulas d) (suc s) xs) refl rest)

  -- ---- each cell is once

  module _ (apart : PinsApart d.context) where
    unlike : (s c : ℕ) (v : Wanted) → cell_of d.context.device (name_at d.context s) ≡ Some c → IsFor (suc s) v → c ≢ v.cell
    unlike s c v is other same =
        let here = on_cell s c is in
        let there = on_cell other.signal v.cell other.on in
        let e = apart (cell_at d.context.device c).pin s other.signal here.1 (subst (λ b. is_on_pin (cell_at d.context.device b).pin (name_at d.context other.signal).kind ≡ true) (sym same) there.1) in
        omega (arith, e, other.late)

    pub each_once : (s : ℕ) (xs : List Entry) → ((k : ℕ) → k < length xs → get_or xs k no_name ≡ name_at d.context (s + k)) → AllPairs (λ (a b : Wanted). a.cell ≢ b.cell) (cells_from d.context (given_formulas d) s xs)
    each_once s [] is = λ i j w less within. absurd (omega (arith, within))
    each_once s (x ∷ xs) is =
        let further : (k : ℕ) → k < length xs → get_or xs k no_name ≡ name_at d.context (suc s + k) = λ k less. is (suc k) (omega arith) ∙ ap (λ i. name_at d.context i) (omega arith) in
        let this : name_at d.context s ≡ x = sym (is 0 (omega arith) ∙ ap (λ i. name_at d.context i) (omega arith)) in
        subst (λ y. AllPairs (λ (a b : Wanted). a.cell ≢ b.cell) (and_cell (option_map (λ c. wanted_for d.context (given_formulas d) c s y) (cell_of d.context.device y)) (cells_from d.context (given_formulas d) (suc s) xs))) this
        (with_one s (cell_of d.context.device (name_at d.context s)) (cells_from d.context (given_formulas d) (suc s) xs) refl (each_for (suc s) xs further) (each_once (suc s) xs further))
      where
        with_one : (s : ℕ) (found : Option ℕ) (ws : List Wanted) → cell_of d.context.device (name_at d.context s) ≡ found → All (IsFor (suc s)) ws → AllPairs (λ (a b : Wanted). a.cell ≢ b.cell) ws
            → AllPairs (λ (a b : Wanted). a.cell ≢ b.cell) (and_cell (option_map (λ c. wanted_for d.context (given_formulas d) c s (name_at d.context s)) found) ws)
        with_one s None ws is all pairs = pairs
        with_one s (Some c) ws is all pairs =
            AllPairs-cons (λ (a b : Wanted). a.cell ≢ b.cell) (wanted_for d.context (given_formulas d) c s (name_at d.context s)) ws (λ k v less. unlike s c (get_or ws k v) is (all k v less)) pairs

-- ---- each cell is one that the device can have

module _ (d : Design) (laws : IsDevice d.context.device) (numbered : AreNumbered 0 d.context.names) (take : IsTakeable d) where
  abbrev IsRead : Leaf → Type 0
  IsRead = IsReadable d.context.device (gathered d)

  kept : EachKept d IsRead (given_formulas d)
  kept = each_kept d IsRead (λ k c at kept l e. readable d laws numbered take.pins l (take.reads k c at kept l e) (read_declared d.context c.holds l e))

  pub sound_function : (s : ℕ) → IsSoundFunction d.context.device (gathered d) (function_of (formulas d.context) (given_formulas d) s)
  sound_function s = record { one = of_one d IsRead (given_formulas d) kept s; any = of_any d IsRead (given_formulas d) kept s }

  -- an enable equation if a row enables
  enable_named : (s c : ℕ) (enable : Enable) → cell_of d.context.device (name_at d.context s) ≡ Some c → (cell_at d.context.device c).enable ≡ enable → (f : Formula) → by_row enable (control_of (formulas d.context) (given_formulas d) s extension.Oe) ≡ Some f → IsSoundFormula d.context.device (gathered d) f
  enable_named s c (PinLow pin) on is f has = absurd cc
  enable_named s c Driven on is f has = absurd cc
  enable_named s c Released on is f has = absurd cc
  enable_named s c (Row row) on is f has =
      of_control d IsRead (given_formulas d) kept s extension.Oe
      (λ x o same control. control_kept d IsRead extension.Oe x (subst (λ y. is_kept d.context y (Some extension.Oe) ≡ true) (sym (eqb-true x s same)) here) o control)
      f has
    where
      here : is_kept d.context s (Some extension.Oe) ≡ true
      here = ap (λ o. is_enabled_by_row d.context.device o) on ∙ ap (λ a. is_row a) is

  shared_named : (s : ℕ) (e : Extension) (row : Option ℕ) → ((x : ℕ) → is_kept d.context x (Some e) ≡ true) → ControlIsThere d e row → (c : ℕ) (f : Formula) → control_if_stored (formulas d.context) (given_formulas d) e s (name_at d.context s) ≡ Some f
      → IsSoundShared d.context.device (gathered d) (wanted_for d.context (given_formulas d) c s (name_at d.context s)) row f
  shared_named s e row each there c f has =
      elim (cases_Bool (is_stored (name_at d.context s))) [
        | inl stored ↦ let found : control_of (formulas d.context) (given_formulas d) s e ≡ Some f = rw stored at has in record {
          register = stored;
          has_one = there s f found;
          formula = of_control d IsRead (given_formulas d) kept s e (λ x o same control. control_kept d IsRead e x (each x) o control) f found;
        }
        | inr other ↦ absurd (nothing (rw other at has))
      ]
    where
      nothing : None ≡ Some f → ⊥
      nothing e = absurd cc

  sound_cell : (s c : ℕ) → cell_of d.context.device (name_at d.context s) ≡ Some c → IsSoundCell d.context.device (gathered d) (wanted_for d.context (given_formulas d) c s (name_at d.context s))
  sound_cell s c on = record {
    within = (on_cell d s c on).0;
    kind = (take.cells s c on).kind;
    buffer = (take.cells s c on).buffer;
    by_pin = λ pin is. rw is refl;
    function = sound_function s;
    enable = enable_named s c (cell_at d.context.device c).enable on refl;
    reset = shared_named s extension.Ar d.context.device.reset (λ x. refl) take.resets c;
    preset = shared_named s extension.Sp d.context.device.preset (λ x. refl) take.presets c;
  }

  pub sound_cells : All (IsSoundCell d.context.device (gathered d)) (gathered d).cells
  sound_cells k w less =
      let this = each_for d 0 d.context.names (λ i in_list. ap (λ j. name_at d.context j) (omega arith)) k w less in
      subst (λ v. IsSoundCell d.context.device (gathered d) v) (sym this.is) (sound_cell this.signal _ this.on)

  -- ---- free cells

  own : All (λ (w : Wanted). IsFor d 0 w) (gathered d).cells
  own = each_for d 0 d.context.names (λ i in_list. ap (λ j. name_at d.context j) (omega arith))

  no_control : (e : Extension) → HasNoEquation d e → (s : ℕ) → control_if_stored (formulas d.context) (given_formulas d) e s (name_at d.context s) ≡ None
  no_control e none s =
      elim (cases_Bool (is_stored (name_at d.context s))) [
        | inl stored ↦ rw stored (none s)
        | inr other ↦ rw other refl
      ]

  no_controls : (s : ℕ) → MayChoose d s → HasNoControls (gathered d)
  no_controls s may k w less =
      let this = own k w less in
      subst (λ (v : Wanted). (v.reset ≡ None) × (v.preset ≡ None)) (sym this.is) (no_control extension.Ar may.no_reset this.signal, no_control extension.Sp may.no_preset this.signal)

  free_parts : (stored buffer invert : Bool) → (stored && (not buffer && not invert)) ≡ true → (stored ≡ true) × (not invert ≡ true)
  free_parts true false false is = (refl, refl)
  free_parts true false true is = absurd cc
  free_parts true true invert is = absurd cc
  free_parts false buffer invert is = absurd cc

  free_cell : (s c : ℕ) → is_free (name_at d.context s) ≡ true → IsSoundFree d.context.device (gathered d) (wanted_for d.context (given_formulas d) c s (name_at d.context s))
  free_cell s c chosen =
      let parts = free_parts (is_stored (name_at d.context s)) (name_at d.context s).words.buffer (name_at d.context s).words.invert chosen in
      let may = take.free s chosen in
      record {
        registered = parts.0;
        buffer = parts.1;
        named = rw (parts.0, may.named) refl;
        behind = may.behind;
        no_controls = no_controls s may;
      }

  pub sound_free : All (λ (w : Wanted). w.free ≡ true → IsSoundFree d.context.device (gathered d) w) (gathered d).cells
  sound_free k w less =
      let this = own k w less in
      subst (λ (v : Wanted). v.free ≡ true → IsSoundFree d.context.device (gathered d) v) (sym this.is) (free_cell this.signal _)

  -- ---- nodes

  each_node : (s : ℕ) (xs : List Entry) → All (IsSoundFunction d.context.device (gathered d)) (nodes_from d.context (given_formulas d) s xs)
  each_node s [] = All-nil (IsSoundFunction d.context.device (gathered d))
  each_node s (x ∷ xs) = with_node x.kind s (nodes_from d.context (given_formulas d) (suc s) xs) (each_node (suc s) xs)
    where
      with_node : (kind : Kind) (s : ℕ) (fs : List (Function Formula)) → All (IsSoundFunction d.context.device (gathered d)) fs → All (IsSoundFunction d.context.device (gathered d)) (and_node kind (function_of (formulas d.context) (given_formulas d) s) fs)
      with_node (APin pin negated) s fs all = all
      with_node (ANode n) s fs all = All-cons (IsSoundFunction d.context.device (gathered d)) (function_of (formulas d.context) (given_formulas d) s) fs (sound_function s) all
      with_node (AConstant value) s fs all = all
      with_node ADeviceName s fs all = all

  pub sound_nodes : All (IsSoundFunction d.context.device (gathered d)) (gathered d).nodes
  sound_nodes = each_node 0 d.context.names
