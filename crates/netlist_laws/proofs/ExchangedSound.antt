-- A device can take an exchanged netlist if it can take the netlist.
use Rattle.std.proofs.Common.{◌≡◌, ◌≢◌, ℕ, zero, suc, ◌+◌, ◌-◌, ◌<◌, ◌≤◌, Bool, true, false, not, ◌&&◌, ◌||◌, List, [], ◌∷◌, length, map, Option, None, Some, refl, sym, ap, ap₂, ◌∙◌, subst, inl, inr, arith, if◌then◌else◌, nat_lt, find, get_or, AllPairs, ◌==◌}
use Rattle.netlist_laws.proofs.Common.{list_any, option_map, cases_Bool, eq-eqb, ne_eqb, get_or-map, length-map, All-map, in_sense, Table, cell_at, HasNoLoop, HasNoPath, Leaf, Formula, Function, PlainNetlist, Wanted, node_at, wanted_at, cell_names, is_register_signal, netlist_names, netlist_passes, netlist_reads, netlist_reset_reads, netlist_waits, signal_count, signal_leaf, function_names, names_if_any, IsReadable, IsSound, IsSoundCell, IsSoundFormula, IsSoundFree, IsSoundFunction, IsSoundShared, ExchangedIsSound, MayExchangeIn, formula_exchanged, function_exchanged, netlist_exchanged, wanted_exchanged}
use Rattle.pld_order.proofs.SameGraphs.{no_loop_same, no_path_same}
use Rattle.bit_expr.specs.declared.node.Leaf.TheVariants as leaf
use Rattle.netlist_laws.proofs.ExchangedCells.{stores_exchanged, wanted_at_exchanged}
use Rattle.netlist_laws.proofs.ExchangedFormulas.{control_named, function_named, names_exchanged, node_exchanged}

-- ---- reads

module _ (t : Table) (net : PlainNetlist) (x : ℕ → Bool) where
  count : length (netlist_exchanged x net).nodes ≡ length net.nodes
  count = length-map net.nodes (function_exchanged x)

  signals : signal_count t (netlist_exchanged x net) ≡ signal_count t net
  signals = ap (λ n. length t.cells + n) count

  register_same : (v : ℕ) → is_register_signal t (netlist_exchanged x net) v ≡ is_register_signal t net v
  register_same v = ap (λ b. nat_lt v (length t.cells) && b) (stores_exchanged t x net v)

  leaf_same : (v : ℕ) → signal_leaf t (netlist_exchanged x net) v ≡ signal_leaf t net v
  leaf_same v =
      ap (λ b. if nat_lt v (length t.cells) then (if b then leaf.Q v else leaf.Pin (cell_at t v).pin) else leaf.Node (v - length t.cells)) (stores_exchanged t x net v)

  cell_named : (found : Option Wanted) (l : Leaf) → cell_names (option_map (wanted_exchanged x) found) l ≡ cell_names found l
  cell_named None l = refl
  cell_named (Some w) l = ap₂ (λ a b. a || (not w.registered && b)) (control_named x w.enable l) (function_named x w.function l)

  named_same : (v : ℕ) (l : Leaf) → netlist_names t (netlist_exchanged x net) v l ≡ netlist_names t net v l
  named_same v l =
      ap₂ (λ a b. if nat_lt v (length t.cells) then a else b)
      (ap (λ o. cell_names o l) (wanted_at_exchanged x net v) ∙ cell_named (wanted_at net v) l)
      (ap (λ f. function_names f l) (node_exchanged x net (v - length t.cells)) ∙ function_named x (node_at net (v - length t.cells)) l)

  reads_same : (v w : ℕ) → netlist_reads t (netlist_exchanged x net) v w ≡ netlist_reads t net v w
  reads_same v w = named_same v (signal_leaf t (netlist_exchanged x net) w) ∙ ap (netlist_names t net v) (leaf_same w)

  waits_same : (v w : ℕ) → netlist_waits t (netlist_exchanged x net) v w ≡ netlist_waits t net v w
  waits_same v w = ap₂ (λ a b. not a && b) (register_same w) (reads_same v w)

  passes_same : (v w : ℕ) → netlist_passes t (netlist_exchanged x net) v w ≡ netlist_passes t net v w
  passes_same v w = ap₂ (λ a b. not a && b) (register_same v) (reads_same v w)

  any_reset : (l : Leaf) (ws : List Wanted) → list_any (λ (w : Wanted). names_if_any w.reset l) (map (wanted_exchanged x) ws) ≡ list_any (λ (w : Wanted). names_if_any w.reset l) ws
  any_reset l [] = refl
  any_reset l (w ∷ ws) = ap₂ (λ a b. a || b) (control_named x w.reset l) (any_reset l ws)

  resets_same : (v : ℕ) → netlist_reset_reads t (netlist_exchanged x net) v ≡ netlist_reset_reads t net v
  resets_same v =
      any_reset (signal_leaf t (netlist_exchanged x net) v) net.cells
      ∙ ap (λ l. list_any (λ (w : Wanted). names_if_any w.reset l) net.cells) (leaf_same v)

  -- ---- what can be read

  readable : (l : Leaf) → IsReadable t net l → IsReadable t (netlist_exchanged x net) l
  readable (leaf.Pin pin) is = (is.0, λ c within at. stores_exchanged t x net c ∙ is.1 c within at)
  readable (leaf.Q c) is =
      (is.0, (is.1.0, wanted_exchanged x is.1.1, wanted_at_exchanged x net c ∙ ap (option_map (wanted_exchanged x)) is.1.2, is.1.3))
  readable (leaf.Node n) is = subst (λ k. n < k) (sym count) is

  formula_sound : (f : Formula) → IsSoundFormula t net f → IsSoundFormula t (netlist_exchanged x net) (formula_exchanged x f)
  formula_sound f is l named = readable l (is l (sym (names_exchanged x f l) ∙ named))

  function_sound : (f : Function Formula) → IsSoundFunction t net f → IsSoundFunction t (netlist_exchanged x net) (function_exchanged x f)
  function_sound f is = record { one = formula_sound f.one is.one; any = formula_sound f.any is.any }

  mapped_sound : (o : Option Formula) → ((f : Formula) → o ≡ Some f → IsSoundFormula t net f) → (g : Formula) → option_map (formula_exchanged x) o ≡ Some g → IsSoundFormula t (netlist_exchanged x net) g
  mapped_sound None is g at = absurd cc
  mapped_sound (Some f) is g at =
      let same : formula_exchanged x f ≡ g = cc in
      subst (IsSoundFormula t (netlist_exchanged x net)) same (formula_sound f (is f refl))

  shared_sound : (w : Wanted) (device : Option ℕ) (o : Option Formula) → ((f : Formula) → o ≡ Some f → IsSoundShared t net w device f) → (g : Formula) → option_map (formula_exchanged x) o ≡ Some g
      → IsSoundShared t (netlist_exchanged x net) (wanted_exchanged x w) device g
  shared_sound w device None is g at = absurd cc
  shared_sound w device (Some f) is g at =
      let here = is f refl in
      record { register = here.register; has_one = here.has_one; formula = mapped_sound (Some f) (λ h same. (is h same).formula) g at }

  module _ (may : MayExchangeIn t net x) where
    same_wanted : {a b : Wanted} → Some a ≡ Some b → a ≡ b
    same_wanted e = cc

    cell_sound : (w : Wanted) → IsSoundCell t net w → (x w.cell ≡ true → w.buffer ≡ true) → IsSoundCell t (netlist_exchanged x net) (wanted_exchanged x w)
    cell_sound w is direct = record {
      within = is.within;
      kind = is.kind;
      buffer = λ registered follows.
          elim (cases_Bool (x w.cell)) [
            | inl on ↦ let e : false ≡ true = sym (ap₂ (λ a b. in_sense a b) on (direct on)) ∙ follows in absurd cc
            | inr off ↦ is.buffer registered (sym (ap (λ b. in_sense b w.buffer) off) ∙ follows)
          ];
      by_pin = λ pin enables. ap (option_map (formula_exchanged x)) (is.by_pin pin enables);
      function = function_sound w.function is.function;
      enable = mapped_sound w.enable is.enable;
      reset = shared_sound w t.reset w.reset is.reset;
      preset = shared_sound w t.preset w.preset is.preset;
    }

    -- a cell of the list is the one that is found by its number
    found_own : (ws : List Wanted) (k : ℕ) (d : Wanted) → AllPairs (λ (a b : Wanted). a.cell ≢ b.cell) ws → k < length ws → find (λ (v : Wanted). v.cell == (get_or ws k d).cell) ws ≡ Some (get_or ws k d)
    found_own [] k d apart within = absurd (omega (arith, within))
    found_own (v ∷ ws) zero d apart within = rw (eq-eqb v.cell v.cell refl) refl
    found_own (v ∷ ws) (suc k) d apart within =
        rw (ne_eqb v.cell (get_or ws k d).cell (apart 0 (suc k) d (omega arith) within))
        (found_own ws k d (λ i j e lt low. apart (suc i) (suc j) e (omega (arith, lt)) (omega (arith, low))) (omega (arith, within)))

    direct : (w : Wanted) → wanted_at net w.cell ≡ Some w → x w.cell ≡ true → w.buffer ≡ true
    direct w found on =
        let free = (may w.cell on).1 in
        let same : free.wanted ≡ w = same_wanted (sym free.there ∙ found) in
        subst (λ (v : Wanted). v.buffer ≡ true) same free.buffer

    sound_too : IsSound t net → IsSound t (netlist_exchanged x net)
    sound_too is = record {
      few_nodes = subst (λ n. n ≤ 128) (sym count) is.few_nodes;
      nodes = All-map (IsSoundFunction t (netlist_exchanged x net)) (function_exchanged x) net.nodes (λ k d within. function_sound (get_or net.nodes k d) (is.nodes k d within));
      cells = All-map (IsSoundCell t (netlist_exchanged x net)) (wanted_exchanged x) net.cells
          (λ k d within. cell_sound (get_or net.cells k d) (is.cells k d within) (direct (get_or net.cells k d) (found_own net.cells k d is.once within)));
      free = All-map (λ (v : Wanted). v.free ≡ true → IsSoundFree t (netlist_exchanged x net) v) (wanted_exchanged x) net.cells (λ k d within chosen. absurd (let bad : false ≡ true = chosen in cc));
      once = λ i j d lt within.
          let low : j < length net.cells = subst (λ n. j < n) (length-map net.cells (wanted_exchanged x)) within in
          λ same. is.once i j d lt low (sym (cell_is i d (omega (arith, lt, low))) ∙ (same ∙ cell_is j d low));
      no_loop = subst (λ n. HasNoLoop n (netlist_waits t (netlist_exchanged x net))) (sym signals)
          (no_loop_same (signal_count t net) (netlist_waits t net) (netlist_waits t (netlist_exchanged x net)) (λ v w v_in w_in. sym (waits_same v w)) is.no_loop);
      no_path = subst (λ n. HasNoPath n (netlist_passes t (netlist_exchanged x net)) (netlist_reset_reads t (netlist_exchanged x net)) (is_register_signal t (netlist_exchanged x net))) (sym signals)
          (no_path_same (signal_count t net) (netlist_passes t net) (netlist_passes t (netlist_exchanged x net)) (λ v w v_in w_in. sym (passes_same v w))
          (netlist_reset_reads t net) (netlist_reset_reads t (netlist_exchanged x net)) (is_register_signal t net) (is_register_signal t (netlist_exchanged x net))
          (λ v v_in. sym (resets_same v)) (λ v v_in. sym (register_same v)) is.no_path);
    }
      where
        cell_is : (k : ℕ) (d : Wanted) → k < length net.cells → (get_or (map (wanted_exchanged x) net.cells) k d).cell ≡ (get_or net.cells k d).cell
        cell_is k d within = ap (λ (w : Wanted). w.cell) (get_or-map (wanted_exchanged x) net.cells k d d within)

pub exchanged_is_sound : ExchangedIsSound
exchanged_is_sound t net x is may = sound_too t net x may is
