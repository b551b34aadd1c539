-- Nodes without a loop can be valued at every point, in one way; and what is given by some leaves is the same at
-- points that agree on these.
use Rattle.std.proofs.Common.{◌≡◌, ℕ, zero, suc, ◌+◌, ◌-◌, ◌<◌, ◌≤◌, Bool, true, false, not, ◌&&◌, nat_lt, length, map, refl, ap, sym, ◌∙◌, subst, arith, inl, inr}
use Rattle.netlist_laws.proofs.Common.{range_with_len, cases_Bool, lt-ltb, ltb-true, ltb-false, or_left, is_on, Levels, IsPoint, complement_if, Table, IsTheValuedOf, netlist_logic, netlist_values, Leaf, Formula, leaf_value, formula_value, names, PlainNetlist, no_function, node_at, wanted_at, function_at, value_with_any_0, IsValuedFor, IsValuedOfFor, function_names, cell_names, netlist_names, signal_leaf, is_register_signal, netlist_waits, signal_count, IsReadable, IsSoundFormula, IsSoundFunction, IsSound, Ranked}
use Rattle.std.proofs.lemmas.List.FromFn.{length-map-range_with_len, get_or-map-range_with_len}
use Rattle.pld_base.proofs.BitLemmas.{same_levels}
use Rattle.pld_machine.proofs.OneRest.{levels_equal}
use Rattle.bit_expr.specs.declared.node.Leaf.TheVariants as leaf
use Rattle.netlist_laws.proofs.FormulaLeaves.{value_same}

-- ---- signals that are nodes

not_below : (c n : ℕ) → nat_lt (c + n) c ≡ false
not_below c n = elim (cases_Bool (nat_lt (c + n) c)) [
  | inl less ↦ let l = ltb-true (c + n) c less in absurd (omega (arith, l))
  | inr off ↦ off
]

past : (c n : ℕ) → c + n - c ≡ n
past c n = omega arith

pub node_names : (t : Table) (net : PlainNetlist) (n : ℕ) (l : Leaf) → netlist_names t net (length t.cells + n) l ≡ function_names (node_at net n) l
node_names t net n l = rw (not_below (length t.cells) n, past (length t.cells) n) refl

pub node_leaf : (t : Table) (net : PlainNetlist) (n : ℕ) → signal_leaf t net (length t.cells + n) ≡ leaf.Node n
node_leaf t net n = rw (not_below (length t.cells) n, past (length t.cells) n) refl

pub cell_named : (t : Table) (net : PlainNetlist) (c : ℕ) (l : Leaf) → c < length t.cells → netlist_names t net c l ≡ cell_names (wanted_at net c) l
cell_named t net c l within = rw (lt-ltb c (length t.cells) within) refl

-- a node is no register
pub node_is_plain : (t : Table) (net : PlainNetlist) (n : ℕ) → is_register_signal t net (length t.cells + n) ≡ false
node_is_plain t net n = rw (not_below (length t.cells) n) refl

-- a signal waits for a node that it names
pub waits_for_node : (t : Table) (net : PlainNetlist) (v m : ℕ) → netlist_names t net v (leaf.Node m) ≡ true → netlist_waits t net v (length t.cells + m) ≡ true
waits_for_node t net v m named =
    ap (λ b. not b && netlist_names t net v (signal_leaf t net (length t.cells + m))) (node_is_plain t net m)
    ∙ (ap (netlist_names t net v) (node_leaf t net m) ∙ named)

-- the value of a node at a valued point, and past the last node
pub valued_node : (t : Table) (net : PlainNetlist) → IsSound t net → (at : Levels) → IsValuedFor t net at → (n : ℕ) → n < length net.nodes → is_on at.nodes n ≡ value_with_any_0 (function_at at (node_at net n))
valued_node t net sound at is n within = let few = sound.few_nodes in is.node n (omega (arith, within, few)) (lt-ltb n (length net.nodes) within)

not_less : (n count : ℕ) → count ≤ n → nat_lt n count ≡ false
not_less n count past = elim (cases_Bool (nat_lt n count)) [
  | inl less ↦ let l = ltb-true n count less in absurd (omega (arith, l))
  | inr off ↦ off
]

pub valued_past : (t : Table) (net : PlainNetlist) (at : Levels) → IsValuedFor t net at → (n : ℕ) → length net.nodes ≤ n → n < 128 → is_on at.nodes n ≡ false
valued_past t net at is n past low = is.no_node n low (not_less n (length net.nodes) past)

-- ---- leaves that are known

-- the points agree on pins and Qs that are known
pub record AgreeOn (known : Leaf → Type 0) (a b : Levels) : Type 0 where
  pub pins : (pin : ℕ) → known (leaf.Pin pin) → is_on a.pins pin ≡ is_on b.pins pin
  pub q : (c : ℕ) → known (leaf.Q c) → is_on a.q c ≡ is_on b.q c

-- every leaf of the formula is known
abbrev pub IsKnown : (Leaf → Type 0) → Formula → Type 0
IsKnown known f = (l : Leaf) → names f l ≡ true → known l

-- known nodes name known leaves alone
abbrev pub IsClosed : PlainNetlist → (Leaf → Type 0) → Type 0
IsClosed net known = (n : ℕ) → n < length net.nodes → known (leaf.Node n) → IsKnown known (node_at net n).one

-- ---- values by rank

-- the point with these values of nodes
abbrev with_nodes : Levels → (ℕ → Bool) → Levels
with_nodes at f = record { pins = at.pins; q = at.q; nodes = map f (range_with_len 0 128) }

-- a node's value after so many turns
node_value : PlainNetlist → Levels → ℕ → ℕ → Bool
node_value net at zero n = false
node_value net at (suc turns) n = nat_lt n (length net.nodes) && value_with_any_0 (function_at (with_nodes at (node_value net at turns)) (node_at net n))

pub valued_at : PlainNetlist → ℕ → Levels → Levels
valued_at net top at = with_nodes at (node_value net at top)

module _ (t : Table) (net : PlainNetlist) (sound : IsSound t net) (ranks : Ranked (signal_count t net) (netlist_waits t net)) where
  pub node_sound : (n : ℕ) → n < length net.nodes → IsSoundFunction t net (node_at net n)
  node_sound n within = sound.nodes n no_function within

  -- a node's rank is above those of the nodes that it names
  pub node_falls : (n m : ℕ) → n < length net.nodes → m < length net.nodes → names (node_at net n).one (leaf.Node m) ≡ true → ranks.rank (length t.cells + m) < ranks.rank (length t.cells + n)
  node_falls n m n_in m_in named =
      ranks.falls (length t.cells + n) (length t.cells + m) (omega (arith, n_in)) (omega (arith, m_in))
      (waits_for_node t net (length t.cells + n) m (rw (node_names t net n (leaf.Node m)) (or_left (names (node_at net n).one (leaf.Node m)) (names (node_at net n).any (leaf.Node m)) named)))

  -- ---- one way

  module _ (known : Leaf → Type 0) (closed : IsClosed net known) (a b : Levels) (a_is : IsValuedFor t net a) (b_is : IsValuedFor t net b) (agree : AgreeOn known a b) where
    same_nodes : (bound n : ℕ) → n < length net.nodes → ranks.rank (length t.cells + n) < bound → known (leaf.Node n) → is_on a.nodes n ≡ is_on b.nodes n
    same_nodes zero n within low here = absurd (omega arith)
    same_nodes (suc bound) n within low here =
        let f = node_at net n in
        let same : formula_value a f.one ≡ formula_value b f.one = value_same f.one a b (by_leaf (λ m m_in less. same_nodes bound m m_in less)) in
        valued_node t net sound a a_is n within ∙ (ap (complement_if f.complement) same ∙ sym (valued_node t net sound b b_is n within))
      where
        by_leaf : ((m : ℕ) → m < length net.nodes → ranks.rank (length t.cells + m) < bound → known (leaf.Node m) → is_on a.nodes m ≡ is_on b.nodes m) → (l : Leaf) → names (node_at net n).one l ≡ true → leaf_value a l ≡ leaf_value b l
        by_leaf lower (leaf.Pin pin) named = agree.pins pin (closed n within here (leaf.Pin pin) named)
        by_leaf lower (leaf.Q c) named = agree.q c (closed n within here (leaf.Q c) named)
        by_leaf lower (leaf.Node m) named =
            let m_in = (node_sound n within).one (leaf.Node m) named in
            let less = node_falls n m within m_in named in
            lower m m_in (omega (arith, less, low)) (closed n within here (leaf.Node m) named)

    pub same_leaf : (l : Leaf) → IsReadable t net l → known l → leaf_value a l ≡ leaf_value b l
    same_leaf (leaf.Pin pin) readable here = agree.pins pin here
    same_leaf (leaf.Q c) readable here = agree.q c here
    same_leaf (leaf.Node n) readable here = same_nodes (suc (ranks.rank (length t.cells + n))) n readable (omega arith) here

    -- a formula of known leaves has the same formula_value at both
    pub same_value : (f : Formula) → IsSoundFormula t net f → IsKnown known f → formula_value a f ≡ formula_value b f
    same_value f readable all = value_same f a b (λ l named. same_leaf l (readable l named) (all l named))

  -- ---- each way

  stable : (at : Levels) (k j n : ℕ) → n < length net.nodes → ranks.rank (length t.cells + n) < k → ranks.rank (length t.cells + n) < j → node_value net at k n ≡ node_value net at j n
  unfolding node_value
  stable at zero j n within low also = absurd (omega arith)
  stable at (suc k) zero n within low also = absurd (omega arith)
  stable at (suc k) (suc j) n within low also =
      let f = node_at net n in
      ap (λ v. nat_lt n (length net.nodes) && complement_if f.complement v)
      (value_same f.one (with_nodes at (node_value net at k)) (with_nodes at (node_value net at j)) (by_leaf (λ m m_in less also. stable at k j m m_in less also)))
    where
      by_leaf : ((m : ℕ) → m < length net.nodes → ranks.rank (length t.cells + m) < k → ranks.rank (length t.cells + m) < j → node_value net at k m ≡ node_value net at j m) → (l : Leaf) → names (node_at net n).one l ≡ true → leaf_value (with_nodes at (node_value net at k)) l ≡ leaf_value (with_nodes at (node_value net at j)) l
      by_leaf lower (leaf.Pin pin) named = refl
      by_leaf lower (leaf.Q c) named = refl
      by_leaf lower (leaf.Node m) named =
          let m_in = (node_sound n within).one (leaf.Node m) named in
          let less = node_falls n m within m_in named in
          let few = sound.few_nodes in
          get_or-map-range_with_len (node_value net at k) 0 128 m m false (omega (arith, m_in, few)) (omega arith)
          ∙ (lower m m_in (omega (arith, less, low)) (omega (arith, less, also))
          ∙ sym (get_or-map-range_with_len (node_value net at j) 0 128 m m false (omega (arith, m_in, few)) (omega arith)))

  none_past : (at : Levels) (turns n : ℕ) → length net.nodes ≤ n → node_value net at turns n ≡ false
  unfolding node_value
  none_past at zero n past = refl
  none_past at (suc turns) n past =
      elim (cases_Bool (nat_lt n (length net.nodes))) [
        | inl within ↦ let less = ltb-true n (length net.nodes) within in absurd (omega (arith, less))
        | inr out ↦ rw out refl
      ]

  -- the point with its nodes valued
  pub valued : Levels → Levels
  valued at = valued_at net ranks.top at

  pub valued_pins : (at : Levels) → (valued at).pins ≡ at.pins
  unfolding valued valued_at
  valued_pins at = refl

  pub valued_q : (at : Levels) → (valued at).q ≡ at.q
  unfolding valued valued_at
  valued_q at = refl

  pub is_valued : (at : Levels) → IsPoint at → IsValuedFor t net (valued at)
  unfolding valued valued_at node_value
  is_valued at is = record {
    is_point = record { pins = is.pins; q = is.q; nodes = length-map-range_with_len (node_value net at ranks.top) 0 128 };
    node = λ n bound is_node.
        let within = ltb-true n (length net.nodes) is_node in
        let few = sound.few_nodes in
        let low = ranks.below (length t.cells + n) (omega (arith, within)) in
        let one_more : node_value net at (suc ranks.top) n ≡ value_with_any_0 (function_at (with_nodes at (node_value net at ranks.top)) (node_at net n)) = rw (lt-ltb n (length net.nodes) within) refl in
        get_or-map-range_with_len (node_value net at ranks.top) 0 128 n n false (omega (arith, within, few)) (omega arith)
        ∙ (stable at ranks.top (suc ranks.top) n within low (omega (arith, low)) ∙ one_more);
    no_node = λ n low none.
        let past = ltb-false n (length net.nodes) none in
        get_or-map-range_with_len (node_value net at ranks.top) 0 128 n n false low (omega arith)
        ∙ none_past at ranks.top n past;
  }

  pub is_valued_of : (at : Levels) → IsPoint at → IsValuedOfFor t net at (valued at)
  is_valued_of at is = record { pins = valued_pins at; q = valued_q at; is_valued = is_valued at is }

  -- two points with the same pins and Qs and with valued nodes are one
  pub one_valued : (a b : Levels) → IsValuedFor t net a → IsValuedFor t net b → a.pins ≡ b.pins → a.q ≡ b.q → a ≡ b
  one_valued a b a_is b_is pins q = levels_equal a b pins q (same_levels a.nodes b.nodes (a_is.is_point.nodes ∙ sym b_is.is_point.nodes) (λ n low. by_node n (subst (λ l. n < l) a_is.is_point.nodes low)))
    where
      by_node : (n : ℕ) → n < 128 → is_on a.nodes n ≡ is_on b.nodes n
      by_node n low =
          elim (cases_Bool (nat_lt n (length net.nodes))) [
            | inl within ↦ same_leaf (λ l. Unit {0}) (λ m m_in here l named. tt) a b a_is b_is (record { pins = λ pin here. ap (λ xs. is_on xs pin) pins; q = λ c here. ap (λ xs. is_on xs c) q }) (leaf.Node n) (ltb-true n (length net.nodes) within) tt
            | inr out ↦ valued_past t net a a_is n (ltb-false n (length net.nodes) out) low ∙ sym (valued_past t net b b_is n (ltb-false n (length net.nodes) out) low)
          ]

  pub the_valued : (at : Levels) → IsPoint at → IsTheValuedOf (netlist_logic t net) (netlist_values net) at (valued at)
  the_valued at is = record {
    is = is_valued_of at is;
    only = λ other o. one_valued other (valued at) o.is_valued (is_valued at is) (o.pins ∙ sym (valued_pins at)) (o.q ∙ sym (valued_q at));
  }
