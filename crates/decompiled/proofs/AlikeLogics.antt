-- The two logics allow the same.
use Rattle.std.proofs.Common.{◌≡◌, ℕ, ◌<◌, inl, inr, Bool, true, false, not, Option, List, [], length, refl, sym, ap, ◌∙◌, arith, ltb-true, nat_lt}
use Rattle.decompiled.proofs.Common.{cases_Bool, true≢false, same_level, Logic, Levels, AllowsOne, HasNoDontCare, Refines, IsDevice, device_logic, is_enabled, next_q, pin_level, row_if_any, stores, Table, cell_at, Leaf, Formula, formula_value, Function, allows, drives, may_drive, may_store, netlist_logic, netlist_stores, registers_as, PlainNetlist, Wanted, function_at, node_at, own_or_shared, wanted_at, PinLiteral, has_lines, HasRowSizes, ReadsPairs, IsFusesNetlist, LogicsAreAlike}
use Rattle.device_logic.proofs.Ranges.{preset_in, reset_in}
use Rattle.decompiled.proofs.Values.{shared_value, spare_stores, spare_enabled, spare_is_off, own_enabled, own_next, own_level}

-- nothing is below 0
not_below : (n : ℕ) → nat_lt n 0 ≡ false
not_below n = elim (cases_Bool (nat_lt n 0)) [ inl e ↦ absurd (let lt = ltb-true n 0 e in omega arith) | inr e ↦ e ]

-- one of two values passes
one_alone : (x : Bool) → AllowsOne (λ v. same_level v x)
one_alone true e = true≢false e
one_alone false e = true≢false (sym e)

module _ (t : Table) (fuses : List Bool) (leaf_of : PinLiteral → Leaf) (net : PlainNetlist) (laws : IsDevice t) (sizes : HasRowSizes t fuses)
    (reads : ReadsPairs t fuses leaf_of) (is : IsFusesNetlist t fuses leaf_of net) where
  abbrev device : Logic
  device = device_logic t fuses

  abbrev source : Logic
  source = netlist_logic t net

  -- what the netlist asks of a cell, and what that says
  same_stores : (c : ℕ) → c < length t.cells → stores t fuses c ≡ netlist_stores t net c
  same_stores c lt = elim (cases_Bool (has_lines t fuses c)) [
    | inl e ↦ let a = is.assigned c lt e in sym (ap (registers_as (cell_at t c).kinds) a.1 ∙ a.2.registered)
    | inr e ↦ sym (ap (registers_as (cell_at t c).kinds) (is.unassigned c lt e) ∙ spare_stores t fuses leaf_of laws sizes reads nowhere c lt e)
  ]
    where
      nowhere : Levels
      nowhere = record { pins = []; q = []; nodes = [] }

  same_enabled : (at : Levels) (c : ℕ) → c < length t.cells → is_enabled t fuses at c ≡ drives at (wanted_at net c) (cell_at t c).enable
  same_enabled at c lt = elim (cases_Bool (has_lines t fuses c)) [
    | inl e ↦ let a = is.assigned c lt e in own_enabled t fuses leaf_of laws sizes reads at c lt a.0 a.2 ∙ sym (ap (λ (o : Option Wanted). drives at o (cell_at t c).enable) a.1)
    | inr e ↦ spare_enabled t fuses leaf_of laws sizes reads at c lt e ∙ sym (ap (λ (o : Option Wanted). drives at o (cell_at t c).enable) (is.unassigned c lt e))
  ]

  same_level_at : (at : Levels) (c : ℕ) → c < length t.cells → drives at (wanted_at net c) (cell_at t c).enable ≡ true → (v : Bool)
      → may_drive at (cell_at t c).kinds c (wanted_at net c) v ≡ same_level v (pin_level t fuses at c)
  same_level_at at c lt on v = elim (cases_Bool (has_lines t fuses c)) [
    | inl e ↦ let a = is.assigned c lt e in ap (λ (o : Option Wanted). may_drive at (cell_at t c).kinds c o v) a.1 ∙ own_level t fuses leaf_of laws sizes reads at c lt a.0 a.2 v
    | inr e ↦
        let off : drives at (wanted_at net c) (cell_at t c).enable ≡ false =
        ap (λ (o : Option Wanted). drives at o (cell_at t c).enable) (is.unassigned c lt e) ∙ spare_is_off t fuses leaf_of laws sizes reads at c lt e in
        absurd (true≢false (sym on ∙ off))
  ]

  same_next : (at : Levels) (c : ℕ) → c < length t.cells → stores t fuses c ≡ true → (v : Bool)
      → may_store at (wanted_at net c) v ≡ same_level v (next_q t fuses at c)
  same_next at c lt stored v =
      let lines : has_lines t fuses c ≡ true = rw stored refl in
      let a = is.assigned c lt lines in
      ap (λ (o : Option Wanted). may_store at o v) a.1 ∙ own_next t fuses leaf_of laws sizes reads at c lt a.0 a.2 v stored

  same_reset : (at : Levels) (c : ℕ) → c < length t.cells → stores t fuses c ≡ true → row_if_any t fuses at t.reset ≡ formula_value at (own_or_shared (λ (w : Wanted). w.reset) net c)
  same_reset at c lt stored = sym (ap (formula_value at) (is.reset c lt stored) ∙ shared_value t fuses leaf_of laws sizes reads at t.reset (reset_in t laws))

  same_preset : (at : Levels) (c : ℕ) → c < length t.cells → stores t fuses c ≡ true → row_if_any t fuses at t.preset ≡ formula_value at (own_or_shared (λ (w : Wanted). w.preset) net c)
  same_preset at c lt stored = sym (ap (formula_value at) (is.preset c lt stored) ∙ shared_value t fuses leaf_of laws sizes reads at t.preset (preset_in t laws))

  no_nodes : (n : ℕ) → nat_lt n (length net.nodes) ≡ false
  no_nodes n = ap (λ (fs : List (Function Formula)). nat_lt n (length fs)) is.nodes ∙ not_below n

  same_node : (at : Levels) (n : ℕ) (v : Bool) → allows (function_at at (node_at net n)) v ≡ same_level v false
  same_node at n v = ap (λ (fs : List (Function Formula)). allows (function_at at (node_at (record { nodes = fs; cells = net.cells }) n)) v) is.nodes ∙ zero_alone v
    where
      zero_alone : (v : Bool) → not v ≡ same_level v false
      zero_alone true = refl
      zero_alone false = refl

  stored_in : (c : ℕ) → c < length t.cells → netlist_stores t net c ≡ true → stores t fuses c ≡ true
  stored_in c lt e = same_stores c lt ∙ e

  to : Refines device source
  to =
      record {
        same_cells = record { cells = refl; pin = λ c lt. refl; stores = same_stores; clock = refl };
        is_node = λ n lt. sym (no_nodes n);
        allows = λ at point. record {
          enabled = same_enabled at;
          level = λ c lt on v e. same_level_at at c lt on v ∙ e;
          reset = λ c lt on. same_reset at c lt (stored_in c lt on);
          preset = λ c lt on. same_preset at c lt (stored_in c lt on);
          next = λ c lt on v e. same_next at c lt (stored_in c lt on) v ∙ e;
        };
        node = λ at point n lt v e. same_node at n v ∙ e;
      }

  back : Refines source device
  back =
      record {
        same_cells = record { cells = refl; pin = λ c lt. refl; stores = λ c lt. sym (same_stores c lt); clock = refl };
        is_node = λ n lt. no_nodes n;
        allows = λ at point. record {
          enabled = λ c lt. sym (same_enabled at c lt);
          level = λ c lt on v e. sym (same_level_at at c lt (sym (same_enabled at c lt) ∙ on) v) ∙ e;
          reset = λ c lt on. sym (same_reset at c lt on);
          preset = λ c lt on. sym (same_preset at c lt on);
          next = λ c lt on v e. sym (same_next at c lt on v) ∙ e;
        };
        node = λ at point n lt v e. sym (same_node at n v) ∙ e;
      }

  -- a test that is that of one value passes one alone
  one_passes : (test : Bool → Bool) (x : Bool) → ((v : Bool) → test v ≡ same_level v x) → AllowsOne test
  one_passes test x same e = one_alone x (sym (same true) ∙ e ∙ same false)

  alone : HasNoDontCare source
  alone =
      record {
        level = λ at point c lt on. one_passes (λ v. may_drive at (cell_at t c).kinds c (wanted_at net c) v) (pin_level t fuses at c) (same_level_at at c lt on);
        node = λ at point n lt on. absurd (true≢false (sym on ∙ no_nodes n));
        next = λ at point c lt on. one_passes (λ v. may_store at (wanted_at net c) v) (next_q t fuses at c) (same_next at c lt (stored_in c lt on));
      }

pub alike : LogicsAreAlike
alike t fuses leaf_of net laws sizes reads is =
    record { to = to t fuses leaf_of net laws sizes reads is; from = back t fuses leaf_of net laws sizes reads is; one_value = alone t fuses leaf_of net laws sizes reads is }
