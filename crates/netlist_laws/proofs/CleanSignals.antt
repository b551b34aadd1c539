-- Signals of a netlist that lead to no register, and the leaves by which they are read.
use Rattle.std.proofs.Common.{◌≡◌, ℕ, ◌+◌, ◌<◌, true, false, eqb, [], ◌∷◌, length, get_or, Option, Some, refl, ap, sym, ◌∙◌, arith, inl, inr}
use Rattle.netlist_laws.proofs.Common.{list_any, cases_Bool, lt-ltb, or_left, true≢false, list_any_at, Table, cell_at, HasNoPath, eqb_same, Leaf, Formula, names, Wanted, PlainNetlist, no_function, node_at, shared_function, netlist_stores, names_if_any, netlist_names, netlist_reads, netlist_passes, netlist_reset_reads, is_register_signal, signal_leaf, signal_count, IsReadable, IsSound}
use Rattle.pld_order.proofs.PathSteps.{path_from, path_one, path_step}
use Rattle.bit_expr.specs.declared.node.Leaf.TheVariants as leaf
use Rattle.netlist_laws.proofs.SharedFunctions.{shared_has}
use Rattle.netlist_laws.proofs.SignalLeaves.{pin_leaf, q_leaf}
use Rattle.netlist_laws.proofs.Valuing.{IsClosed, node_names, node_leaf}

module _ (t : Table) (net : PlainNetlist) where
  -- no path of the netlist leads from the signal to a register
  abbrev pub IsCleanSignal : ℕ → Type 0
  IsCleanSignal v = HasNoPath (signal_count t net) (netlist_passes t net) (eqb v) (is_register_signal t net)

  -- the leaf is the pin of such cells, or such a node
  abbrev pub Clean : Leaf → Type 0
  Clean (leaf.Pin pin) = (d : ℕ) → d < length t.cells → (cell_at t d).pin ≡ pin → IsCleanSignal d
  Clean (leaf.Q c) = ⊥
  Clean (leaf.Node n) = IsCleanSignal (length t.cells + n)

  -- a clean signal is no register, and one that it reads is clean
  clean_plain : (v : ℕ) → v < signal_count t net → IsCleanSignal v → is_register_signal t net v ≡ false
  clean_plain v within clean =
      elim (cases_Bool (is_register_signal t net v)) [
        | inl kept ↦ absurd (clean (v ∷ []) (path_one (signal_count t net) (netlist_passes t net) (eqb v) (is_register_signal t net) v within (eqb_same v) kept))
        | inr plain ↦ plain
      ]

  clean_next : (v w : ℕ) → v < signal_count t net → IsCleanSignal v → netlist_reads t net v w ≡ true → IsCleanSignal w
  clean_next v w within clean reads path is =
      clean (v ∷ path)
      (path_step (signal_count t net) (netlist_passes t net) (eqb v) (is_register_signal t net) v w path within (eqb_same v)
      (rw (clean_plain v within clean, reads) refl) is)

  -- a register isn't clean
  register_not : (c : ℕ) → c < length t.cells → netlist_stores t net c ≡ true → IsCleanSignal c → ⊥
  register_not c within kept clean =
      true≢false (sym register ∙ clean_plain c (omega (arith, within)) clean)
    where
      register : is_register_signal t net c ≡ true
      register = rw (lt-ltb c (length t.cells) within, kept) refl

  -- the Q of an assigned register is a register's
  q_stores : (c : ℕ) → IsReadable t net (leaf.Q c) → netlist_stores t net c ≡ true
  q_stores c readable = rw readable.1.2 readable.1.3

  -- what all signals that are read by a leaf have, the leaf has
  by_signals : (l : Leaf) → IsReadable t net l → ((w : ℕ) → signal_leaf t net w ≡ l → IsCleanSignal w) → Clean l
  by_signals (leaf.Pin pin) readable each = λ d within same. each d (pin_leaf t net d pin within same (readable.1 d within same))
  by_signals (leaf.Q c) readable each = register_not c readable.1.0 (q_stores c readable) (each c (q_leaf t net c readable.1.0 (q_stores c readable)))
  by_signals (leaf.Node n) readable each = each (length t.cells + n) (node_leaf t net n)

  -- a clean signal names clean leaves alone
  pub clean_named : (v : ℕ) (l : Leaf) → v < signal_count t net → IsCleanSignal v → IsReadable t net l → netlist_names t net v l ≡ true → Clean l
  clean_named v l within clean readable named =
      by_signals l readable (λ w same. clean_next v w within clean (ap (netlist_names t net v) same ∙ named))

  module _ (sound : IsSound t net) where
    pub clean_closed : IsClosed net Clean
    clean_closed n within here l named =
        clean_named (length t.cells + n) l (omega (arith, within)) here ((sound.nodes n no_function within).one l named)
        (rw (node_names t net n l) (or_left (names (node_at net n).one l) (names (node_at net n).any l) named))

    -- what a reset equation reads is clean
    reset_clean : (v : ℕ) → netlist_reset_reads t net v ≡ true → IsCleanSignal v
    reset_clean v reads path is =
        sound.no_path path (path_from (signal_count t net) (netlist_passes t net) (netlist_reset_reads t net) (is_register_signal t net) v path reads is)

    named_by : (own : Option Formula) (f : Formula) (l : Leaf) → own ≡ Some f → names f l ≡ true → names_if_any own l ≡ true
    named_by own f l is named = rw is named

    -- every leaf of the function by which all registers are reset is clean
    pub reset_known : (l : Leaf) → names (shared_function (λ (w : Wanted). w.reset) net) l ≡ true → IsReadable t net l × Clean l
    reset_known = shared_has (λ (w : Wanted). w.reset) (λ f. (l : Leaf) → names f l ≡ true → IsReadable t net l × Clean l) net
        (λ k d within f is l named.
        let readable = ((sound.cells k d within).reset f is).formula l named in
        let listed : list_any (λ (w : Wanted). names_if_any w.reset l) net.cells ≡ true = list_any_at (λ (w : Wanted). names_if_any w.reset l) net.cells k d within (named_by (get_or net.cells k d).reset f l is named) in
        (readable, by_signals l readable (λ w same. reset_clean w (rw same listed))))
        (λ l named. absurd (true≢false (sym named)))
