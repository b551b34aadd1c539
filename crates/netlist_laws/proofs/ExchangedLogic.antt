-- An exchanged netlist allows what the netlist's logic allows with the same cells exchanged.
use Rattle.std.proofs.Common.{◌≡◌, ℕ, ◌<◌, Bool, true, false, not, length, Option, None, Some, refl, sym, ap, ◌∙◌, inl, inr, arith, find, if◌then◌else◌, nat_lt, unwrap_or, List, [], ◌∷◌, ◌==◌}
use Rattle.netlist_laws.proofs.Common.{option_map, cases_Bool, eqb-true, length-map, is_on, same_level, IsPoint, Levels, Enable, PinLow, Driven, Released, Row, IsDevice, complement_if, Table, cell_at, Refines, AllowsAt, Const, Formula, formula_value, Function, allows, value_with_any_0, PlainNetlist, Wanted, as_named, function_at, node_at, own_or_shared, wanted_at, drives, may_drive, spare_level, may_store, netlist_logic, netlist_stores, registers_as, exchanged, exchanged_at, in_sense, ExchangedMeansSo, MayExchangeIn, formula_exchanged, function_exchanged, netlist_exchanged, wanted_exchanged}
use Rattle.netlist_laws.proofs.ExchangedCells.{own_or_shared_exchanged, stores_exchanged, wanted_at_exchanged}
use Rattle.netlist_laws.proofs.ExchangedFormulas.{function_value_exchanged, node_exchanged, q_at, value_exchanged}

-- the pin follows the complement of Q if it followed Q exchanged
sense_level : (x buffer q : Bool) → complement_if (not (in_sense x buffer)) q ≡ complement_if (not buffer) (in_sense x q)
sense_level true true true = refl
sense_level true true false = refl
sense_level true false true = refl
sense_level true false false = refl
sense_level false buffer q = refl

-- the name has the value that the next Q gives it
sense_named : (x negated buffer v : Bool) → complement_if negated (complement_if (not (in_sense x buffer)) v) ≡ complement_if negated (complement_if (not buffer) (in_sense x v))
sense_named x negated buffer v = ap (complement_if negated) (sense_level x buffer v)

module _ (t : Table) (laws : IsDevice t) (net : PlainNetlist) (x : ℕ → Bool) (may : MayExchangeIn t net x) (at : Levels) (is : IsPoint at) where
  low : (c : ℕ) → x c ≡ true → c < 32
  low c on = let few = laws.sizes.few_cells in omega (arith, (may c on).0, few)

  -- a cell that is assigned nothing, and one that is combinational or raw, isn't exchanged
  spare : (c : ℕ) → wanted_at net c ≡ None → x c ≡ false
  spare c none =
      elim (cases_Bool (x c)) [
        | inl on ↦ let free = (may c on).1 in absurd (let e : Some free.wanted ≡ None = sym free.there ∙ none in cc)
        | inr off ↦ off
      ]

  same_wanted : {a b : Wanted} → Some a ≡ Some b → a ≡ b
  same_wanted e = cc

  plain : (c : ℕ) (w : Wanted) → wanted_at net c ≡ Some w → w.registered ≡ false → x c ≡ false
  plain c w found combinational =
      elim (cases_Bool (x c)) [
        | inl on ↦
            let free = (may c on).1 in
            let same : free.wanted ≡ w = same_wanted (sym free.there ∙ found) in
            absurd (let e : true ≡ false = sym free.registered ∙ (ap (λ (v : Wanted). v.registered) same ∙ combinational) in cc)
        | inr off ↦ off
      ]

  raw_not : (c : ℕ) (w : Wanted) → wanted_at net c ≡ Some w → w.raw ≡ true → x c ≡ false
  raw_not c w found raw =
      elim (cases_Bool (x c)) [
        | inl on ↦
            let free = (may c on).1 in
            let same : free.wanted ≡ w = same_wanted (sym free.there ∙ found) in
            absurd (let e : false ≡ true = sym free.named ∙ (ap (λ (v : Wanted). v.raw) same ∙ raw) in cc)
        | inr off ↦ off
      ]

  -- ---- enables

  opt_value : (o : Option Formula) → formula_value at (unwrap_or (option_map (formula_exchanged x) o) (Const true)) ≡ formula_value (exchanged_at x at) (unwrap_or o (Const true))
  opt_value None = refl
  opt_value (Some f) = value_exchanged x low at is f

  drives_by : (found : Option Wanted) (e : Enable) → drives at (option_map (wanted_exchanged x) found) e ≡ drives (exchanged_at x at) found e
  drives_by None (Row row) = refl
  drives_by None (PinLow pin) = refl
  drives_by (Some w) (Row row) = opt_value w.enable
  drives_by (Some w) (PinLow pin) = refl
  drives_by None Driven = refl
  drives_by (Some w) Driven = refl
  drives_by None Released = refl
  drives_by (Some w) Released = refl

  enabled_same : (c : ℕ) → drives at (wanted_at (netlist_exchanged x net) c) (cell_at t c).enable ≡ drives (exchanged_at x at) (wanted_at net c) (cell_at t c).enable
  enabled_same c = ap (λ o. drives at o (cell_at t c).enable) (wanted_at_exchanged x net c) ∙ drives_by (wanted_at net c) (cell_at t c).enable

  -- ---- levels

  q_same : (c : ℕ) → x c ≡ false → is_on at.q c ≡ is_on (exchanged_at x at).q c
  q_same c off = sym (q_at x low at is c ∙ ap (λ b. in_sense b (is_on at.q c)) off)

  -- a value of the name is one of the name
  pub named_plain : (c : ℕ) (w : Wanted) (v : Bool) → w.registered ≡ false → as_named (wanted_exchanged x w) v ≡ as_named w v
  named_plain c w v combinational = rw combinational refl

  level_by : (c : ℕ) (found : Option Wanted) → wanted_at net c ≡ found → (v : Bool) → ((w : Wanted) → found ≡ Some w → w.cell ≡ c)
      → may_drive at (cell_at t c).kinds c (option_map (wanted_exchanged x) found) v ≡ may_drive (exchanged_at x at) (cell_at t c).kinds c found v
  level_by c None found v cell = ap (λ q. same_level v (spare_level (cell_at t c).kinds q)) (q_same c (spare c found))
  level_by c (Some w) found v cell = by w.registered refl
    where
      named : Function Bool → Bool
      named f = allows f (as_named w v)

      follows : same_level v (complement_if (not (in_sense (x w.cell) w.buffer)) (is_on at.q c)) ≡ same_level v (complement_if (not w.buffer) (is_on (exchanged_at x at).q c))
      follows =
          ap (λ k. same_level v (complement_if (not (in_sense (x k) w.buffer)) (is_on at.q c))) (cell w refl)
          ∙ ap (same_level v) (sense_level (x c) w.buffer (is_on at.q c) ∙ ap (complement_if (not w.buffer)) (sym (q_at x low at is c)))

      by : (r : Bool) → w.registered ≡ r
          → (if w.registered then same_level v (complement_if (not (in_sense (x w.cell) w.buffer)) (is_on at.q c)) else allows (function_at at (function_exchanged x w.function)) (as_named (wanted_exchanged x w) v))
          ≡ (if w.registered then same_level v (complement_if (not w.buffer) (is_on (exchanged_at x at).q c)) else allows (function_at (exchanged_at x at) w.function) (as_named w v))
      by true kind = rw kind follows
      by false kind =
          let here : allows (function_at at (function_exchanged x w.function)) (as_named (wanted_exchanged x w) v) ≡ allows (function_at (exchanged_at x at) w.function) (as_named w v) =
          ap (λ b. allows (function_at at (function_exchanged x w.function)) b) (named_plain c w v kind)
          ∙ ap (λ f. allows f (as_named w v)) (function_value_exchanged x low at is w.function) in
          ap (λ r. if r then same_level v (complement_if (not (in_sense (x w.cell) w.buffer)) (is_on at.q c)) else allows (function_at at (function_exchanged x w.function)) (as_named (wanted_exchanged x w) v)) kind
          ∙ (here ∙ sym (ap (λ r. if r then same_level v (complement_if (not w.buffer) (is_on (exchanged_at x at).q c)) else allows (function_at (exchanged_at x at) w.function) (as_named w v)) kind))

  -- ---- next Qs

  pub named_by : (c : ℕ) (w : Wanted) (v : Bool) → wanted_at net c ≡ Some w → w.cell ≡ c → w.registered ≡ true → as_named (wanted_exchanged x w) v ≡ as_named w (in_sense (x c) v)
  named_by c w v found cell registered =
      elim (cases_Bool w.raw) [
        | inl raw ↦ rw (raw, raw_not c w found raw) refl
        | inr named ↦ rw (named, registered, cell) (sense_named (x c) w.negated w.buffer v)
      ]

  next_by : (c : ℕ) (found : Option Wanted) → wanted_at net c ≡ found → (v : Bool) → ((w : Wanted) → found ≡ Some w → (w.cell ≡ c) × (w.registered ≡ true))
      → may_store at (option_map (wanted_exchanged x) found) v ≡ may_store (exchanged_at x at) found (in_sense (x c) v)
  next_by c None found v kept = rw (spare c found) refl
  next_by c (Some w) found v kept =
      let here = kept w refl in
      ap (λ f. allows f (as_named (wanted_exchanged x w) v)) (function_value_exchanged x low at is w.function)
      ∙ ap (allows (function_at (exchanged_at x at) w.function)) (named_by c w v found here.0 here.1)

pub cell_found : (c : ℕ) (ws : List Wanted) (w : Wanted) → find (λ (v : Wanted). v.cell == c) ws ≡ Some w → w.cell ≡ c
cell_found c [] w is = absurd cc
cell_found c (v ∷ ws) w is =
    elim (cases_Bool (v.cell == c)) [
      | inl hit ↦ let same : v ≡ w = same_one (rw hit at is) in ap (λ (u : Wanted). u.cell) (sym same) ∙ eqb-true v.cell c hit
      | inr miss ↦ cell_found c ws w (rw miss at is)
    ]
  where
    same_one : {a b : Wanted} → Some a ≡ Some b → a ≡ b
    same_one e = cc

module _ (t : Table) (laws : IsDevice t) (net : PlainNetlist) (x : ℕ → Bool) (may : MayExchangeIn t net x) where
  count_same : length (netlist_exchanged x net).nodes ≡ length net.nodes
  count_same = length-map net.nodes (function_exchanged x)

  module _ (at : Levels) (is : IsPoint at) where
    low_cells : (c : ℕ) → x c ≡ true → c < 32
    low_cells c on = low t laws net x may at is c on

    level_same : (c : ℕ) (v : Bool) → may_drive at (cell_at t c).kinds c (wanted_at (netlist_exchanged x net) c) v ≡ may_drive (exchanged_at x at) (cell_at t c).kinds c (wanted_at net c) v
    level_same c v =
        ap (λ o. may_drive at (cell_at t c).kinds c o v) (wanted_at_exchanged x net c)
        ∙ level_by t laws net x may at is c (wanted_at net c) refl v (λ w found. cell_found c net.cells w found)

    registered_of : (c : ℕ) (w : Wanted) → wanted_at net c ≡ Some w → netlist_stores t net c ≡ true → w.registered ≡ true
    registered_of c w found kept = sym (ap (registers_as (cell_at t c).kinds) found) ∙ kept

    next_same : (c : ℕ) (v : Bool) → netlist_stores t net c ≡ true → may_store at (wanted_at (netlist_exchanged x net) c) v ≡ may_store (exchanged_at x at) (wanted_at net c) (in_sense (x c) v)
    next_same c v kept =
        ap (λ o. may_store at o v) (wanted_at_exchanged x net c)
        ∙ next_by t laws net x may at is c (wanted_at net c) refl v (λ w found. (cell_found c net.cells w found, registered_of c w found kept))

    control_same : (own : Wanted → Option Formula) → ((w : Wanted) → own (wanted_exchanged x w) ≡ option_map (formula_exchanged x) (own w)) → (c : ℕ)
        → formula_value at (own_or_shared own (netlist_exchanged x net) c) ≡ formula_value (exchanged_at x at) (own_or_shared own net c)
    control_same own own_is c =
        ap (formula_value at) (own_or_shared_exchanged x own own_is net c) ∙ value_exchanged x low_cells at is (own_or_shared own net c)

    node_same : (n : ℕ) → function_at at (node_at (netlist_exchanged x net) n) ≡ function_at (exchanged_at x at) (node_at net n)
    node_same n = ap (function_at at) (node_exchanged x net n) ∙ function_value_exchanged x low_cells at is (node_at net n)

    allows_to : AllowsAt (netlist_logic t (netlist_exchanged x net)) (exchanged x (netlist_logic t net)) at at
    allows_to = record {
      enabled = λ c within. enabled_same t laws net x may at is c;
      level = λ c within on v allowed. sym (level_same c v) ∙ allowed;
      reset = λ c within kept. control_same (λ (w : Wanted). w.reset) (λ w. refl) c;
      preset = λ c within kept. control_same (λ (w : Wanted). w.preset) (λ w. refl) c;
      next = λ c within kept v allowed. sym (next_same c v kept) ∙ allowed;
    }

    allows_from : AllowsAt (exchanged x (netlist_logic t net)) (netlist_logic t (netlist_exchanged x net)) at at
    allows_from = record {
      enabled = λ c within. sym (enabled_same t laws net x may at is c);
      level = λ c within on v allowed. level_same c v ∙ allowed;
      reset = λ c within kept. sym (control_same (λ (w : Wanted). w.reset) (λ w. refl) c);
      preset = λ c within kept. sym (control_same (λ (w : Wanted). w.preset) (λ w. refl) c);
      next = λ c within kept v allowed. next_same c v (sym (stores_exchanged t x net c) ∙ kept) ∙ allowed;
    }

  to : Refines (netlist_logic t (netlist_exchanged x net)) (exchanged x (netlist_logic t net))
  to = record {
    same_cells = record { cells = refl; pin = λ c within. refl; stores = λ c within. stores_exchanged t x net c; clock = refl };
    is_node = λ n bound. ap (nat_lt n) count_same;
    allows = allows_to;
    node = λ at is n bound v allowed. sym (ap (λ f. allows f v) (node_same at is n)) ∙ allowed;
  }

  from : Refines (exchanged x (netlist_logic t net)) (netlist_logic t (netlist_exchanged x net))
  from = record {
    same_cells = record { cells = refl; pin = λ c within. refl; stores = λ c within. sym (stores_exchanged t x net c); clock = refl };
    is_node = λ n bound. sym (ap (nat_lt n) count_same);
    allows = allows_from;
    node = λ at is n bound v allowed. ap (λ f. allows f v) (node_same at is n) ∙ allowed;
  }

pub exchanged_means_so : ExchangedMeansSo
exchanged_means_so t net x laws may = record {
  to = to t laws net x may;
  from = from t laws net x may;
  values = λ at is n bound node. ap value_with_any_0 (node_same t laws net x may at is n);
}
