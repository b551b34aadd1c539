-- What signals wait for by their links.
use Rattle.std.proofs.Common.{◌≡◌, ℕ, zero, suc, ◌+◌, ◌<◌, ◌≤◌, Bool, false, nat_lt, List, [], ◌∷◌, ◌++◌, length, get_or, Some, None, refl, sym, ap, ◌∙◌, subst, arith, inl, inr}
use Rattle.source_machine.proofs.Common.{cases_Bool, cases_lt, ltb-true, ltb-false, length_push, slice_get-get_or, IsDevice, Table, own_pins, IsLeaf, Leaf, PlainNetlist, netlist_stores, is_register_signal, netlist_names, netlist_waits, signal_count, signal_leaf, IsSound, IsSignalOrder, IsLinkOf, AreFirstLinks, AreSignalLinks, waited_leaf}
use Rattle.pld_order.specs.Graphs.{IsOrder, HasNoLoop}
use Rattle.pld_order.proofs.SameGraphs.{order_same, no_loop_same}
use Rattle.bit_expr.specs.Reading.{AreReads}
use Rattle.bit_expr.specs.declared.node.Leaf.TheVariants as leaf
use Rattle.bit_expr.specs.declared.reads.Reads.{Reads}
use Rattle.bit_expr.proofs.ArenaLists.{split_last}
use Rattle.gathering.specs.declared.link.Link.{Link}
use Rattle.gathering.specs.Links.{AreLeaves, HasNoChain, IsReadOrder, has_leaf, has_if_any, leaf_in, link_reads}
use Rattle.gathering.proofs.LinkSets.{leaf_there, reads_there}

-- the same leaves, said otherwise
pub reads_as : (f h : Leaf → Bool) (r : Reads) → ((l : Leaf) → f l ≡ h l) → AreReads f r → AreReads h r
reads_as f h r same is = record {
  pins = λ p low. is.pins p low ∙ same (leaf.Pin p);
  q = λ c low. is.q c low ∙ same (leaf.Q c);
  nodes = λ n low. is.nodes n low ∙ same (leaf.Node n);
}

-- a leaf is read if it is named
read_is : (named : Leaf → Bool) (r : Reads) (l : Leaf) → IsLeaf l → AreReads named r → has_leaf r l ≡ named l
read_is named r (leaf.Pin p) low is = is.pins p low
read_is named r (leaf.Q c) low is = is.q c low
read_is named r (leaf.Node n) low is = is.nodes n low

-- what represents a link that isn't there
no_link : Link
no_link = record { leaf = None; reads = record { pins = 0; q = 0; nodes = 0 }; stored = false }

same_leaf : (k l : Leaf) → Some k ≡ Some l → k ≡ l
same_leaf k l e = cc

-- one link more
pub links_more : (t : Table) (net : PlainNetlist) (count : ℕ) (links items : List Link) (link : Link) → items ≡ links ++ link ∷ [] → AreFirstLinks t net count links → IsLinkOf t net count link → AreFirstLinks t net (count + 1) items
links_more t net count links items link pushed are is =
    subst (AreFirstLinks t net (count + 1)) (sym pushed)
    (record {
      size = length_push links link ∙ ap (λ n. n + 1) are.size;
      each = λ v x found.
          elim (split_last links link x v found) [
            | inl old ↦ are.each v x old
            | inr last ↦ subst (λ (y : Link). IsLinkOf t net v y) last.1 (subst (λ n. IsLinkOf t net n link) (sym (last.0 ∙ are.size)) is)
          ];
    })

-- the same after the cells
pub links_behind : (t : Table) (net : PlainNetlist) (cells nodes : ℕ) (links items : List Link) (link : Link) → items ≡ links ++ link ∷ [] → AreFirstLinks t net (cells + nodes) links → IsLinkOf t net (cells + nodes) link → AreFirstLinks t net (cells + (nodes + 1)) items
links_behind t net cells nodes links items link pushed are is =
    let next : cells + nodes + 1 ≡ cells + (nodes + 1) = omega arith in
    subst (λ n. AreFirstLinks t net n items) next (links_more t net (cells + nodes) links items link pushed are is)

pub no_links : (t : Table) (net : PlainNetlist) → AreFirstLinks t net 0 []
no_links t net = record { size = refl; each = λ v x found. absurd cc }

module _ (t : Table) (laws : IsDevice t) (net : PlainNetlist) (sound : IsSound t net) (links : List Link) (are : AreSignalLinks t net links) where
  few_signals : signal_count t net ≤ 256
  few_signals = let cells = laws.sizes.few_cells in let nodes = sound.few_nodes in omega (arith, cells, nodes)

  pub few_links : length links ≤ 256
  few_links = let few = few_signals in omega (arith, are.size, few)

  -- the leaf by which a signal is waited for has a number that leaves may have
  is_leaf : (v : ℕ) (l : Leaf) → v < signal_count t net → waited_leaf t net v ≡ Some l → IsLeaf l
  is_leaf v l within is =
      elim (cases_Bool (is_register_signal t net v)) [
        | inl kept ↦ absurd (none_some (rw kept at is))
        | inr plain ↦ subst IsLeaf (same_leaf (signal_leaf t net v) l (rw plain at is)) (by_signal plain)
      ]
    where
      none_some : None ≡ Some l → ⊥
      none_some e = absurd cc

      by_signal : is_register_signal t net v ≡ false → IsLeaf (signal_leaf t net v)
      by_signal plain =
          elim (cases_Bool (nat_lt v (length t.cells))) [
            | inl less ↦
                let kept : netlist_stores t net v ≡ false = rw less at plain in
                rw (less, kept) ((own_pins t laws).last v (ltb-true v (length t.cells) less))
            | inr more ↦
                let past = ltb-false v (length t.cells) more in
                let few = sound.few_nodes in
                rw more (omega (arith, within, past, few))
          ]

  link_of : (d : Link) (v : ℕ) → v < signal_count t net → IsLinkOf t net v (get_or links v d)
  link_of d v within = are.each v (get_or links v d) (slice_get-get_or links v d (subst (λ n. v < n) (sym are.size) within))

  pub leaves : AreLeaves links
  leaves v l is =
      elim (cases_lt v (length links)) [
        | inl less ↦ is_leaf v l (subst (λ n. v < n) are.size less) (sym (link_of no_link v (subst (λ n. v < n) are.size less)).leaf ∙ sym (leaf_there links v no_link less) ∙ is)
        | inr past ↦ absurd (none_past links v past is)
      ]
    where
      none_past : (ls : List Link) (v : ℕ) → length ls ≤ v → leaf_in ls v ≡ Some l → ⊥
      none_past [] v past e = absurd cc
      none_past (x ∷ ls) zero past e = absurd (omega (arith, past))
      none_past (x ∷ ls) (suc v) past e = none_past ls v (omega (arith, past)) e

  reads_as_leaf : (v w : ℕ) (r : Reads) → w < signal_count t net → AreReads (netlist_names t net v) r → has_if_any r (waited_leaf t net w) ≡ netlist_waits t net v w
  reads_as_leaf v w r within is =
      elim (cases_Bool (is_register_signal t net w)) [
        | inl kept ↦ rw kept refl
        | inr plain ↦ rw plain (read_is (netlist_names t net v) r (signal_leaf t net w) (is_leaf w (signal_leaf t net w) within (rw plain refl)) is)
      ]

  link_waits : (v w : ℕ) → v < signal_count t net → w < signal_count t net → link_reads links v w ≡ netlist_waits t net v w
  link_waits v w v_in w_in =
      let v_there : v < length links = subst (λ n. v < n) (sym are.size) v_in in
      let w_there : w < length links = subst (λ n. w < n) (sym are.size) w_in in
      reads_there links links v w no_link v_there
      ∙ ap (has_if_any (get_or links v no_link).reads) (leaf_there links w no_link w_there ∙ (link_of no_link w w_in).leaf)
      ∙ reads_as_leaf v w (get_or links v no_link).reads w_in (link_of no_link v v_in).reads

  pub no_chain : HasNoChain links
  no_chain =
      subst (λ n. HasNoLoop n (link_reads links)) (sym are.size)
      (no_loop_same (signal_count t net) (netlist_waits t net) (link_reads links) (λ v w v_in w_in. sym (link_waits v w v_in w_in)) sound.no_loop)

  pub order_waits : (order : List ℕ) → IsReadOrder links order → IsSignalOrder t net order
  order_waits order is =
      order_same (signal_count t net) (link_reads links) (netlist_waits t net) link_waits order (subst (λ n. IsOrder n (link_reads links) order) are.size is)
