-- Cells whose own reset, or preset, has the value of the shared one, and a point at which it hasn't.
use Rattle.std.proofs.Common.{◌≡◌, ◌≢◌, ℕ, zero, suc, ◌+◌, ◌<◌, ◌≤◌, ◌^◌, Bool, true, false, ◌==◌, List, [], ◌∷◌, length, get_or, Option, Some, None, refl, sym, ap, ◌∙◌, subst, arith, inl, inr, Contains, find, is_some, unwrap_or}
use Rattle.fitter.proofs.Common.{option_map, cases_lt, eq-eqb, ne_eqb, get_or-map, length-map, Point, bits, is_on, Levels, levels_of, is_on-bits, length-bits, IsDevice, Table, CellWanted, Control, Netlist, ExprId, arena, formula_at, Const, Formula, formula_value, Wanted, first_with, own_of, plain_control, plain_netlist, plain_wanted, shared_function, wanted_at, IsSoundNetlist, IsReadable, IsSoundCell, Cube, CoversList, covers, IsValuedFor, AreShared, both_ways, found, Carries, bit_list, pair_of, written, IsSoundId, cell_wanted, SharedControl, Preset, Reset, IsWired, FindsApart, AllListed, AreNotShared, AreSharedBelow, FindsApartAt, IsAlikeAt, IsApartAt, IsFirstOf, IsFirstWith, IsListedBit, IsSharedBit, own_control, own_formula}
use Rattle.bit_expr.specs.declared.node.Leaf.TheVariants as leaf
use Rattle.fitter.proofs.CarriedPoints.{carries_all}
use Rattle.fitter.proofs.LeafPairs.{pin_has, q_has}
use Rattle.fitter.proofs.ListPoints.{list_at}
use Rattle.fitter.proofs.SeenPairs.{seen_carries, seen_long, seen_pairs}
use Rattle.fitter.proofs.WantedIds.{found_id, preset_id, reset_id, sound_id_at, wanted_is, zero_is}
use Rattle.fitter.proofs.FirstNames.{none_first, own_is}

-- what a map gave resulted from something
pub record CameFrom {X Y : Type 0} (f : X → Y) (o : Option X) (y : Y) : Type 0 where
  pub from : X
  pub is : o ≡ Some from
  pub gives : f from ≡ y

pub came_from : {X Y : Type 0} (f : X → Y) (o : Option X) (y : Y) → option_map f o ≡ Some y → CameFrom f o y
came_from f None y is = absurd cc
came_from f (Some x) y is = record { from = x; is = refl; gives = same is }
  where
    same : Some (f x) ≡ Some y → f x ≡ y
    same e = cc

some_list : (o : Option (List Cube)) → (o ≡ None → ⊥) → (list : List Cube) × (o ≡ Some list)
some_list None never = absurd (never refl)
some_list (Some list) never = (list, refl)

pub own_id : (t : Table) (net : Netlist) → IsSoundNetlist t net → (which : SharedControl) (c : ℕ) (w : CellWanted) (control : Control)
    → cell_wanted net c ≡ Some w → own_control which w ≡ Some control → IsSoundId t net control.bit
own_id t net sound Reset c w control is own = reset_id t net sound c w control (sound_id_at t net sound c w is) own
own_id t net sound Preset c w control is own = preset_id t net sound c w control (sound_id_at t net sound c w is) own

-- a cell of the list is found by its number, since each is once
found_at : (ws : List CellWanted) → ((i j : ℕ) (d : CellWanted) → i < j → j < length ws → (get_or ws i d).cell ≢ (get_or ws j d).cell) → (i : ℕ) (d : CellWanted) → i < length ws
    → find (λ (w : CellWanted). w.cell == (get_or ws i d).cell) ws ≡ Some (get_or ws i d)
found_at [] apart i d within = absurd (omega arith)
found_at (w ∷ ws) apart zero d within = rw (eq-eqb w.cell w.cell refl) refl
found_at (w ∷ ws) apart (suc i) d within =
    let low : i < length ws = omega (arith, within) in
    rw (ne_eqb w.cell (get_or ws i d).cell (apart 0 (suc i) d (omega arith) within))
    (found_at ws (λ a b e less below. apart (suc a) (suc b) e (omega (arith, less)) (omega (arith, below))) i d low)

pub first_wanted : (t : Table) (net : Netlist) → IsSoundNetlist t net → (w : CellWanted) → Contains net.cells w → cell_wanted net w.cell ≡ Some w
first_wanted t net sound w among =
    let i = among.0 in
    let there : get_or net.cells i w ≡ w = among.2 in
    subst (λ (v : CellWanted). cell_wanted net v.cell ≡ Some v) there (found_at net.cells apart i w among.1)
  where
    plain_at : (k : ℕ) (d : CellWanted) → k < length net.cells → get_or (plain_netlist net).cells k (plain_wanted (arena net.exprs) d) ≡ plain_wanted (arena net.exprs) (get_or net.cells k d)
    plain_at k d within = get_or-map (plain_wanted (arena net.exprs)) net.cells k d (plain_wanted (arena net.exprs) d) within

    apart : (i j : ℕ) (d : CellWanted) → i < j → j < length net.cells → (get_or net.cells i d).cell ≢ (get_or net.cells j d).cell
    apart i j d less below same =
        let long : length (plain_netlist net).cells ≡ length net.cells = length-map net.cells (plain_wanted (arena net.exprs)) in
        sound.sound.once i j (plain_wanted (arena net.exprs) d) less (omega (arith, below, long))
        (ap (λ (x : Wanted). x.cell) (plain_at i d (omega (arith, less, below))) ∙ (same ∙ sym (ap (λ (x : Wanted). x.cell) (plain_at j d below))))

-- a point at which a cell's own list differs, if there is one
pub found_apart : (net : Netlist) (which : SharedControl) (c vars : ℕ) (rows : List Cube) (w : CellWanted) (control : Control) (list : List Cube) → cell_wanted net c ≡ Some w
    → own_control which w ≡ Some control → bit_list net control.bit true ≡ Some list → (found : Option ℕ) → FindsApart rows list vars found → FindsApartAt net which c vars rows found
found_apart net which c vars rows w control list is own list_is (Some point) apart =
    record { cell = w; wanted = is; control = control; own = own; list = list; list_is = list_is; apart = apart }
found_apart net which c vars rows w control list is own list_is None alike = λ v k other v_is k_own other_is.
    let same_cell : w ≡ v = some_same w v (sym is ∙ v_is) in
    let same_control : control ≡ k = some_same control k (sym own ∙ (ap (own_control which) same_cell ∙ k_own)) in
    let same : list ≡ other = some_same list other (sym list_is ∙ (ap (λ (x : Control). bit_list net x.bit true) same_control ∙ other_is)) in
    subst (λ (l : List Cube). CoversList l rows vars × CoversList rows l vars) same alike
  where
    some_same : {X : Type 0} (x y : X) → Some x ≡ Some y → x ≡ y
    some_same x y e = cc

some_not : (xs : List Cube) → Some xs ≡ None → ⊥
some_not xs e = absurd cc

pub zero_list : (net : Netlist) → bit_list net (record { 0 = 0 }) true ≡ None → ⊥
zero_list net none =
    let is : written net (formula_at (arena net.exprs) (record { 0 = 0 })) true ≡ Some [] = ap (λ (f : Formula). written net f true) (zero_is net) in
    some_not [] (sym is ∙ none)

pub first_of : (t : Table) (net : Netlist) → IsSoundNetlist t net → (which : SharedControl) (first : CellWanted) (control : Control) → AllListed net which → IsFirstWith net which (Some first)
    → Contains net.cells first → own_control which first ≡ Some control → IsFirstOf t net which first control.bit
first_of t net sound which first control listed is_first among own =
    let wanted = first_wanted t net sound first among in
    record {
      is_first = is_first;
      id = own_id t net sound which first.cell first control wanted own;
      own = λ other is. ap (λ (k : Control). k.bit) (some_same other control (sym is ∙ own));
      has = ap is_some own;
      listed = listed first.cell first control wanted own;
    }
  where
    some_same : (x y : Control) → Some x ≡ Some y → x ≡ y
    some_same x y e = cc

module _ (t : Table) (laws : IsDevice t) (net : Netlist) (sound : IsSoundNetlist t net) (which : SharedControl) where
  -- lists with the same points are of bits with the same values
  same_values : (f g : ExprId) (first second : List Cube) → IsSoundId t net f → IsSoundId t net g → bit_list net f true ≡ Some first → bit_list net g true ≡ Some second
      → CoversList second first (length t.pairs) × CoversList first second (length t.pairs) → (at : Levels) → IsValuedFor t (plain_netlist net) at
      → formula_value at (formula_at (arena net.exprs) g) ≡ formula_value at (formula_at (arena net.exprs) f)
  same_values f g first second f_id g_id first_is second_is alike at is =
      let ps = seen_pairs t (plain_netlist net) at in
      let long = seen_long t laws net sound at in
      let f_at = list_at net f first at ps first_is (seen_carries t laws net sound at is (formula_at (arena net.exprs) f) f_id.formula) in
      let g_at = list_at net g second at ps second_is (seen_carries t laws net sound at is (formula_at (arena net.exprs) g) g_id.formula) in
      sym g_at ∙ (both_ways (covers second ps) (covers first ps) (alike.1 ps long) (alike.0 ps long) ∙ f_at)

  module _ (listed : AllListed net which) (first : CellWanted) (bit : ExprId) (rows : List Cube) (is_first : IsFirstOf t net which first bit) (rows_are : IsListedBit t net bit rows) where
    -- the shared function is the bit's
    pub shared_is : shared_function (own_formula which) (plain_netlist net) ≡ formula_at (arena net.exprs) bit
    shared_is =
        ap (λ o. unwrap_or (own_of (own_formula which) o) (Const false)) is_first.is_first
        ∙ (ap (λ o. unwrap_or o (Const false)) (own_is (arena net.exprs) which first) ∙ by_own (own_control which first) refl)
      where
        by_own : (o : Option Control) → own_control which first ≡ o → unwrap_or (plain_control (arena net.exprs) o) (Const false) ≡ formula_at (arena net.exprs) bit
        by_own None is = absurd (none_has (ap is_some is))
          where
            none_has : is_some (own_control which first) ≡ false → ⊥
            none_has off = let both : true ≡ false = sym is_first.has ∙ off in absurd cc
        by_own (Some control) is = ap (formula_at (arena net.exprs)) (is_first.own control is)

    -- the function of a cell, and its origin
    pub record IsOwnAt (c : ℕ) (w : Wanted) (f : Formula) : Type 0 where
      pub cell : CellWanted
      pub wanted : cell_wanted net c ≡ Some cell
      pub control : Control
      pub own : own_control which cell ≡ Some control
      pub function : formula_at (arena net.exprs) control.bit ≡ f

    pub own_at : (c : ℕ) (w : Wanted) (f : Formula) → wanted_at (plain_netlist net) c ≡ Some w → own_formula which w ≡ Some f → IsOwnAt c w f
    own_at c w f is own =
        let cell = came_from (plain_wanted (arena net.exprs)) (cell_wanted net c) w (sym (wanted_is net c) ∙ is) in
        let control = came_from (λ (k : Control). formula_at (arena net.exprs) k.bit) (own_control which cell.from) f
        (sym (own_is (arena net.exprs) which cell.from) ∙ (ap (own_formula which) cell.gives ∙ own)) in
        record { cell = cell.from; wanted = cell.is; control = control.from; own = control.is; function = control.gives }

    pub below_none : AreSharedBelow t (plain_netlist net) (own_formula which) 0
    below_none d w f low is own at valued = absurd (omega (arith, low))

    pub below_more : (c : ℕ) → AreSharedBelow t (plain_netlist net) (own_formula which) c → IsAlikeAt net which c (length t.pairs) rows
        → AreSharedBelow t (plain_netlist net) (own_formula which) (c + 1)
    below_more c before alike d w f low is own at valued =
        elim (cases_lt d c) [
          | inl less ↦ before d w f less is own at valued
          | inr more ↦
              let same : d ≡ c = omega (arith, low, more) in
              here (own_at c w f (subst (λ i. wanted_at (plain_netlist net) i ≡ Some w) same is) own)
        ]
      where
        here : IsOwnAt c w f → formula_value at f ≡ formula_value at (shared_function (own_formula which) (plain_netlist net))
        here o =
            let list = some_list (bit_list net o.control.bit true) (listed c o.cell o.control o.wanted o.own) in
            ap (formula_value at) (sym o.function)
            ∙ (same_values bit o.control.bit rows list.0 rows_are.id (own_id t net sound which c o.cell o.control o.wanted o.own) rows_are.list list.1
            (alike o.cell o.control list.0 o.wanted o.own list.1) at valued
            ∙ ap (formula_value at) (sym shared_is))

    pub is_shared : (c : ℕ) → length t.cells ≤ c → AreSharedBelow t (plain_netlist net) (own_formula which) c → IsSharedBit t net which bit
    is_shared c done below = record {
      id = is_first.id;
      formula = sym shared_is;
      listed = is_first.listed;
      shared = λ d w f is own at valued.
          let f_at = found (IsSoundCell t (plain_netlist net)) (plain_netlist net).cells d w sound.sound.cells is in
          let low = f_at.has.within in
          let same = f_at.cell in
          below d w f (omega (arith, low, same, done)) is own at valued;
    }

    -- ---- a point at which they differ

    module _ (levels : ℕ) (point : Point) (wired : IsWired net levels point) (valued : IsValuedFor t (plain_netlist net) (levels_of point)) where
      same_bit : (width n k : ℕ) → k < width → width ≤ 32 → is_on (bits width n) k ≡ is_on (bits 32 n) k
      same_bit width n k low few = is_on-bits width n k low ∙ sym (is_on-bits 32 n k (omega (arith, low, few)))

      few_pairs : length t.pairs ≤ 32
      few_pairs = omega (arith, laws.sizes.columns_even, laws.sizes.columns_high)

      point_carries : (bit_at : ExprId) → IsSoundId t net bit_at → Carries net (levels_of point) (bits (length t.pairs) levels) (formula_at (arena net.exprs) bit_at)
      point_carries b id =
          carries_all t laws net sound (levels_of point) (bits (length t.pairs) levels) (length-bits (length t.pairs) levels) valued
          (λ p r. let has = pin_has t laws net sound p r in
          same_bit (length t.pairs) levels (pair_of net (leaf.Pin p)) has.pair_below few_pairs
          ∙ sym (wired.pins p has.number_low (let few : length t.pairs ≤ 32 = few_pairs in omega (arith, has.pair_below, few))))
          (λ c r. let has = q_has t laws net sound c r in
          same_bit (length t.pairs) levels (pair_of net (leaf.Q c)) has.pair_below few_pairs
          ∙ sym (wired.q c has.number_low (let few : length t.pairs ≤ 32 = few_pairs in omega (arith, has.pair_below, few))))
          (formula_at (arena net.exprs) b) id.formula

      pub not_shared : (c : ℕ) → IsApartAt net which c (length t.pairs) rows levels → AreSharedBelow t (plain_netlist net) (own_formula which) c
          → AreNotShared t (plain_netlist net) (own_formula which) first.cell c point
      not_shared c apart below = record {
        first = plain_wanted (arena net.exprs) first;
        first_is = is_first.is_first;
        first_cell = refl;
        second = plain_wanted (arena net.exprs) apart.cell;
        second_is = wanted_is net c ∙ ap (option_map (plain_wanted (arena net.exprs))) apart.wanted;
        function = formula_at (arena net.exprs) apart.control.bit;
        function_is = own_is (arena net.exprs) which apart.cell ∙ ap (plain_control (arena net.exprs)) apart.own;
        valued = valued;
        differ = λ same. apart.apart.differ
            (list_at net bit rows (levels_of point) (bits (length t.pairs) levels) rows_are.list (point_carries bit rows_are.id)
            ∙ (ap (formula_value (levels_of point)) (sym shared_is)
            ∙ (sym same
            ∙ sym (list_at net apart.control.bit apart.list (levels_of point) (bits (length t.pairs) levels) apart.list_is
            (point_carries apart.control.bit (own_id t net sound which c apart.cell apart.control apart.wanted apart.own))))));
        before = below;
      }

-- if no cell has such an equation, the shared function is 0
pub none_shared : (t : Table) (net : Netlist) (which : SharedControl) → IsFirstWith net which None → IsSoundId t net (record { 0 = 0 })
    → formula_at (arena net.exprs) (record { 0 = 0 }) ≡ Const false → (bit_list net (record { 0 = 0 }) true ≡ None → ⊥) → IsSharedBit t net which (record { 0 = 0 })
none_shared t net which none id zero_formula listed = record {
  id = id;
  formula = zero_formula ∙ sym (ap (λ o. unwrap_or (own_of (own_formula which) o) (Const false)) none);
  listed = listed;
  shared = λ c w f is own at valued. absurd (no_own c w f is own);
}
  where
    no_own : (c : ℕ) (w : Wanted) (f : Formula) → wanted_at (plain_netlist net) c ≡ Some w → own_formula which w ≡ Some f → ⊥
    no_own c w f is own =
        let cell = came_from (plain_wanted (arena net.exprs)) (cell_wanted net c) w (sym (wanted_is net c) ∙ is) in
        let here = (found_id (λ (x : CellWanted). own_control which x ≡ None) net.cells c cell.from (λ k d within. none_first (arena net.exprs) which net.cells none k d within) cell.is).has in
        none_some (sym own ∙ (sym (ap (own_formula which) cell.gives) ∙ (own_is (arena net.exprs) which cell.from ∙ ap (plain_control (arena net.exprs)) here)))
      where
        none_some : Some f ≡ None → ⊥
        none_some e = absurd cc
