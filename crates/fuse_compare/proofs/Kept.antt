-- If two logics are alike at a state, they are alike at each state that it represents.
use Rattle.std.proofs.Common.{◌≡◌, ◌≢◌, ◌⊎◌, ℕ, zero, suc, ◌<◌, ◌≤◌, Bool, true, false, not, ◌&&◌, ◌==◌, nat_lt, List, refl, ap, sym, ◌∙◌, subst, arith, inl, inr, eq-eqb, le-ltb}
use Rattle.fuse_compare.proofs.Common.{cases_Bool, and_parts, true≢false, ltb-true, eqb-true, cases_lt, cases_eq, is_on, is_register, same_levels, complement_if, Lookups, logic_of, IsWide, AtRest, rest_of, q_at_edge, levels_equal, true_same, rests_once, AlikeAt, QCounts, StandsFor, AgreeOn, IsTold, SameShape, Same, Shown, Plain}
use Rattle.fuse_compare.proofs.Moving.{points_agree}

-- a Q that is the same if it is stored as 1 is the same if it isn't
same_stored : (r ra rb x : Bool) → (r && (not ra && true)) ≡ (r && (not rb && true)) → (r && (not ra && x)) ≡ (r && (not rb && x))
same_stored r ra rb true h = h
same_stored false ra rb false h = refl
same_stored true true true false h = refl
same_stored true true false false h = refl
same_stored true false true false h = refl
same_stored true false false false h = refl

-- two complements that are the same at one level are the same at the other
same_flip : (f g v w : Bool) → complement_if f w ≡ complement_if g w → complement_if f v ≡ complement_if g v
same_flip true true v w h = refl
same_flip false false v w h = refl
same_flip true false true true h = h
same_flip true false false false h = h
same_flip true false true false h = sym h
same_flip true false false true h = sym h
same_flip false true true true h = h
same_flip false true false false h = h
same_flip false true true false h = sym h
same_flip false true false true h = sym h

-- some number below another passes a test, or none does
pub one_below : (test : ℕ → Bool) (n : ℕ) → ((c : ℕ) × (c < n) × (test c ≡ true)) ⊎ ((c : ℕ) → c < n → test c ≡ false)
one_below test zero = inr (λ c low. absurd (omega (arith, low)))
one_below test (suc n) = elim (cases_Bool (test n)) [
  | inl here ↦ inl (n, omega arith, here)
  | inr not_here ↦ elim (one_below test n) [
    | inl found ↦ inl (found.0, omega (arith, found.1), found.2)
    | inr none ↦ inr (λ c low. elim (cases_eq c n) [
      | inl e ↦ ap test e ∙ not_here
      | inr other ↦ none c (omega (arith, low, other))
    ])
  ]
]

pub no_register : (m : Lookups) (r : Bool) (c : ℕ) → m.stores c ≡ false → (is_register (logic_of m) c && r) ≡ false
no_register m r c plain = elim (cases_Bool (nat_lt c m.cells)) [
  | inl e ↦ rw (e, plain) refl
  | inr e ↦ rw e refl
]

module _ (a b : Lookups) (shape : SameShape a b) (ta : IsTold a) (tb : IsTold b) (o s o' s' : List Bool)
    (o_wide : IsWide o) (s_wide : IsWide s) (o'_wide : IsWide o') (s'_wide : IsWide s')
    (stands : StandsFor a b ta.known tb.known o s o' s') (alike : AlikeAt a b o' s') where
  -- the points at rest
  first : AtRest (logic_of a) o s (rest_of a o s)
  first = (rests_once a ta.ordered o s o_wide s_wide).at_rest

  second : AtRest (logic_of b) o s (rest_of b o s)
  second = (rests_once b tb.ordered o s o_wide s_wide).at_rest

  there : AtRest (logic_of a) o' s' alike.at
  there = alike.rest.at_rest

  below : (c : ℕ) → c < a.cells → c < b.cells
  below c within = subst (λ n. c < n) shape.cells within

  above : (c : ℕ) → c < b.cells → c < a.cells
  above c within = subst (λ n. c < n) (sym shape.cells) within

  low_cell : (c : ℕ) → c < a.cells → c < 32
  low_cell c within = omega (arith, ta.ordered.has_pins.cells, within)

  first_known_q : (c : ℕ) → ta.known.q c ≡ true → is_on s c ≡ is_on s' c
  first_known_q c is = counts (stands.q c (ltb-true c a.cells (and_parts _ _ (ta.told.registers c is)).0))
    where
      counts : QCounts a b ta.known tb.known s s' c → is_on s c ≡ is_on s' c
      counts (Same same) = same
      counts (Shown one first_not second_not kinds) = absurd (true≢false (sym is ∙ first_not))
      counts (Plain first_plain second_plain) = absurd (true≢false (sym (and_parts _ _ (ta.told.registers c is)).1 ∙ first_plain))

  second_known_q : (c : ℕ) → tb.known.q c ≡ true → is_on s c ≡ is_on s' c
  second_known_q c is = counts (stands.q c (above c (ltb-true c b.cells (and_parts _ _ (tb.told.registers c is)).0)))
    where
      counts : QCounts a b ta.known tb.known s s' c → is_on s c ≡ is_on s' c
      counts (Same same) = same
      counts (Shown one first_not second_not kinds) = absurd (true≢false (sym is ∙ second_not))
      counts (Plain first_plain second_plain) = absurd (true≢false (sym (and_parts _ _ (tb.told.registers c is)).1 ∙ second_plain))

  first_agrees : AgreeOn ta.known (rest_of a o s) alike.at
  first_agrees = points_agree a ta.known ta.flips ta.told ta.ordered o s o' s' o_wide s_wide o'_wide s'_wide (stands.first_pins, first_known_q) (rest_of a o s) alike.at first there

  second_agrees : AgreeOn tb.known (rest_of b o s) alike.at
  second_agrees = points_agree b tb.known tb.flips tb.told tb.ordered o s o' s' o_wide s_wide o'_wide s'_wide (stands.second_pins, second_known_q) (rest_of b o s) alike.at second alike.too.rests

  same_enable : (c : ℕ) → c < a.cells → a.enable (rest_of a o s) c ≡ b.enable (rest_of b o s) c
  same_enable c within =
      ta.told.enable (rest_of a o s) alike.at first_agrees c within
      ∙ (alike.too.enabled c within ∙ sym (tb.told.enable (rest_of b o s) alike.at second_agrees c (below c within)))

  -- ---- Qs

  first_q : (c : ℕ) → c < a.cells → is_on (rest_of a o s).q c ≡ (is_register (logic_of a) c && (not (a.reset alike.at c) && is_on s c))
  first_q c within = first.registers c (low_cell c within) ∙ ap (λ r. is_register (logic_of a) c && (not r && is_on s c)) (ta.told.reset (rest_of a o s) alike.at first_agrees c within)

  second_q : (c : ℕ) → c < a.cells → is_on (rest_of b o s).q c ≡ (is_register (logic_of b) c && (not (b.reset alike.at c) && is_on s c))
  second_q c within = second.registers c (low_cell c within) ∙ ap (λ r. is_register (logic_of b) c && (not r && is_on s c)) (tb.told.reset (rest_of b o s) alike.at second_agrees c (below c within))

  there_q : (c : ℕ) → c < a.cells → (is_register (logic_of a) c && (not (a.reset alike.at c) && is_on s' c)) ≡ (is_register (logic_of b) c && (not (b.reset alike.at c) && is_on s' c))
  there_q c within = sym (there.registers c (low_cell c within)) ∙ alike.too.rests.registers c (low_cell c within)

  same_register : (c : ℕ) → a.stores c ≡ b.stores c → is_register (logic_of a) c ≡ is_register (logic_of b) c
  same_register c kinds = rw (shape.cells, kinds) refl

  cell_q : (c : ℕ) → c < a.cells → is_on (rest_of a o s).q c ≡ is_on (rest_of b o s).q c
  cell_q c within = first_q c within ∙ (counts (stands.q c within) ∙ sym (second_q c within))
    where
      counts : QCounts a b ta.known tb.known s s' c → (is_register (logic_of a) c && (not (a.reset alike.at c) && is_on s c)) ≡ (is_register (logic_of b) c && (not (b.reset alike.at c) && is_on s c))
      counts (Same same) = rw same (there_q c within)
      counts (Plain first_plain second_plain) = no_register a (not (a.reset alike.at c) && is_on s c) c first_plain ∙ sym (no_register b (not (b.reset alike.at c) && is_on s c) c second_plain)
      counts (Shown one first_not second_not kinds) =
          let e = same_register c kinds in
          rw e (same_stored (is_register (logic_of b) c) (a.reset alike.at c) (b.reset alike.at c) (is_on s c) (rw (one, e) at (there_q c within)))

  no_q : (m : Lookups) (r : Bool) (c : ℕ) → m.cells ≤ c → (is_register (logic_of m) c && r) ≡ false
  no_q m r c past = rw (le-ltb c m.cells past) refl

  q_at : (c : ℕ) → c < 32 → (c < a.cells) ⊎ (a.cells ≤ c) → is_on (rest_of a o s).q c ≡ is_on (rest_of b o s).q c
  q_at c low (inl within) = cell_q c within
  q_at c low (inr past) =
      first.registers c low ∙ (no_q a (not (a.reset (rest_of a o s) c) && is_on s c) c past
      ∙ sym (second.registers c low ∙ no_q b (not (b.reset (rest_of b o s) c) && is_on s c) c (subst (λ n. n ≤ c) shape.cells past)))

  same_q : (rest_of a o s).q ≡ (rest_of b o s).q
  same_q = same_levels (rest_of a o s).q (rest_of b o s).q (first.is_point.q ∙ sym second.is_point.q)
      (λ c low. q_at c (subst (λ n. c < n) first.is_point.q low) (cases_lt c a.cells))

  -- ---- pins

  -- a cell's level is the same if its Q is the same as in the second state
  first_level : (c : ℕ) → c < a.cells → (is_on (rest_of a o s).q c ≡ is_on alike.at.q c) ⊎ (a.stores c ≡ false) → a.level (rest_of a o s) c ≡ a.level alike.at c
  first_level c within why = by_kind (cases_Bool (a.stores c)) why
    where
      by_kind : (a.stores c ≡ true) ⊎ (a.stores c ≡ false) → (is_on (rest_of a o s).q c ≡ is_on alike.at.q c) ⊎ (a.stores c ≡ false) → a.level (rest_of a o s) c ≡ a.level alike.at c
      by_kind (inr plain) why = ta.told.level (rest_of a o s) alike.at first_agrees c within plain
      by_kind (inl register) (inr plain) = absurd (true≢false (sym register ∙ plain))
      by_kind (inl register) (inl same) = ta.told.shown (rest_of a o s) c within register ∙ (ap (complement_if (ta.flips c)) same ∙ sym (ta.told.shown alike.at c within register))

  second_level : (c : ℕ) → c < b.cells → (is_on (rest_of b o s).q c ≡ is_on alike.at.q c) ⊎ (b.stores c ≡ false) → b.level (rest_of b o s) c ≡ b.level alike.at c
  second_level c within why = by_kind (cases_Bool (b.stores c)) why
    where
      by_kind : (b.stores c ≡ true) ⊎ (b.stores c ≡ false) → (is_on (rest_of b o s).q c ≡ is_on alike.at.q c) ⊎ (b.stores c ≡ false) → b.level (rest_of b o s) c ≡ b.level alike.at c
      by_kind (inr plain) why = tb.told.level (rest_of b o s) alike.at second_agrees c within plain
      by_kind (inl register) (inr plain) = absurd (true≢false (sym register ∙ plain))
      by_kind (inl register) (inl same) = tb.told.shown (rest_of b o s) c within register ∙ (ap (complement_if (tb.flips c)) same ∙ sym (tb.told.shown alike.at c within register))

  -- in the second state an enabled cell's level is the same in both
  there_level : (c : ℕ) → c < a.cells → a.enable (rest_of a o s) c ≡ true → a.level alike.at c ≡ b.level alike.at c
  there_level c within on =
      let a_on : a.enable alike.at c ≡ true = sym (ta.told.enable (rest_of a o s) alike.at first_agrees c within) ∙ on in
      let b_on : b.enable alike.at c ≡ true = sym (alike.too.enabled c within) ∙ a_on in
      sym (true_same _ _ (there.settled.driven c within a_on))
      ∙ (ap (is_on alike.at.pins) (shape.pin c) ∙ true_same _ _ (alike.too.rests.settled.driven c (below c within) b_on))

  first_there_q : (c : ℕ) → c < a.cells → is_on s c ≡ is_on s' c → is_on (rest_of a o s).q c ≡ is_on alike.at.q c
  first_there_q c within same = first_q c within ∙ (ap (λ x. is_register (logic_of a) c && (not (a.reset alike.at c) && x)) same ∙ sym (there.registers c (low_cell c within)))

  cell_level : (c : ℕ) → c < a.cells → a.enable (rest_of a o s) c ≡ true → a.level (rest_of a o s) c ≡ b.level (rest_of b o s) c
  cell_level c within on = counts (stands.q c within)
    where
      by_kind : (a.stores c ≡ b.stores c) → (a.stores c ≡ true) ⊎ (a.stores c ≡ false) → a.level (rest_of a o s) c ≡ b.level (rest_of b o s) c
      by_kind kinds (inr plain) =
          first_level c within (inr plain) ∙ (there_level c within on ∙ sym (second_level c (below c within) (inr (sym kinds ∙ plain))))
      by_kind kinds (inl register) =
          let b_register : b.stores c ≡ true = sym kinds ∙ register in
          let here = ta.told.shown (rest_of a o s) c within register in
          let there' = ta.told.shown alike.at c within register in
          let b_here = tb.told.shown (rest_of b o s) c (below c within) b_register in
          let b_there = tb.told.shown alike.at c (below c within) b_register in
          here ∙ (same_flip (ta.flips c) (tb.flips c) (is_on (rest_of a o s).q c) (is_on alike.at.q c) (sym there' ∙ (there_level c within on ∙ b_there))
          ∙ (ap (complement_if (tb.flips c)) (cell_q c within) ∙ sym b_here))

      counts : QCounts a b ta.known tb.known s s' c → a.level (rest_of a o s) c ≡ b.level (rest_of b o s) c
      counts (Shown one first_not second_not kinds) = by_kind kinds (cases_Bool (a.stores c))
      counts (Plain first_plain second_plain) = by_kind (first_plain ∙ sym second_plain) (inr first_plain)
      counts (Same same) =
          let q = first_there_q c within same in
          first_level c within (inl q) ∙ (there_level c within on ∙ sym (second_level c (below c within) (inl (sym (cell_q c within) ∙ q))))

  pin_at : (k : ℕ) → k < 32 → ((c : ℕ) × (c < a.cells) × (((a.pin c == k) && a.enable (rest_of a o s) c) ≡ true)) ⊎ ((c : ℕ) → c < a.cells → ((a.pin c == k) && a.enable (rest_of a o s) c) ≡ false)
      → is_on (rest_of a o s).pins k ≡ is_on (rest_of b o s).pins k
  pin_at k low (inl found) =
      let c = found.0 in
      let parts = and_parts (a.pin c == k) (a.enable (rest_of a o s) c) found.2 in
      let on = parts.1 in
      let at : a.pin c ≡ k = eqb-true (a.pin c) k parts.0 in
      let b_on : b.enable (rest_of b o s) c ≡ true = sym (same_enable c found.1) ∙ on in
      subst (λ i. is_on (rest_of a o s).pins i ≡ is_on (rest_of b o s).pins i) at
      (true_same _ _ (first.settled.driven c found.1 on) ∙ (cell_level c found.1 on
      ∙ sym (ap (is_on (rest_of b o s).pins) (shape.pin c) ∙ true_same _ _ (second.settled.driven c (below c found.1) b_on))))
  pin_at k low (inr none) =
      let off : (c : ℕ) → c < a.cells → a.enable (rest_of a o s) c ≡ true → a.pin c ≢ k =
      λ c within on at. true≢false (sym (rw (eq-eqb (a.pin c) k at, on) refl) ∙ none c within) in
      first.settled.undriven k low off
      ∙ sym (second.settled.undriven k low (λ c within on at. off c (above c within) (same_enable c (above c within) ∙ on) (shape.pin c ∙ at)))

  same_pins : (rest_of a o s).pins ≡ (rest_of b o s).pins
  same_pins = same_levels (rest_of a o s).pins (rest_of b o s).pins (first.is_point.pins ∙ sym second.is_point.pins)
      (λ k low. pin_at k (subst (λ n. k < n) first.is_point.pins low) (one_below (λ c. (a.pin c == k) && a.enable (rest_of a o s) c) a.cells))

  same_nodes : (rest_of a o s).nodes ≡ (rest_of b o s).nodes
  same_nodes = same_levels (rest_of a o s).nodes (rest_of b o s).nodes (first.is_point.nodes ∙ sym second.is_point.nodes)
      (λ n low. let below128 = subst (λ l. n < l) first.is_point.nodes low in
      first.settled.no_node n below128 (ta.no_nodes n) ∙ sym (second.settled.no_node n below128 (tb.no_nodes n)))

  same_point : rest_of a o s ≡ rest_of b o s
  same_point = levels_equal (rest_of a o s) (rest_of b o s) same_pins same_q same_nodes

  -- ---- the clock's edge

  first_edge : (c : ℕ) → (c < a.cells) ⊎ (a.cells ≤ c) → q_at_edge a (rest_of a o s) c ≡ q_at_edge a alike.at c
  first_edge c (inr past) = rw (le-ltb c a.cells past) refl
  first_edge c (inl within) =
      rw (ta.told.reset (rest_of a o s) alike.at first_agrees c within, ta.told.preset (rest_of a o s) alike.at first_agrees c within, ta.told.next (rest_of a o s) alike.at first_agrees c within) refl

  second_edge : (c : ℕ) → (c < b.cells) ⊎ (b.cells ≤ c) → q_at_edge b (rest_of b o s) c ≡ q_at_edge b alike.at c
  second_edge c (inr past) = rw (le-ltb c b.cells past) refl
  second_edge c (inl within) =
      rw (tb.told.reset (rest_of b o s) alike.at second_agrees c within, tb.told.preset (rest_of b o s) alike.at second_agrees c within, tb.told.next (rest_of b o s) alike.at second_agrees c within) refl

  pub alike_kept : AlikeAt a b o s
  alike_kept = record {
    at = rest_of a o s;
    rest = rests_once a ta.ordered o s o_wide s_wide;
    too = record {
      rests = subst (AtRest (logic_of b) o s) (sym same_point) second;
      enabled = λ c within. same_enable c within ∙ ap (λ p. b.enable p c) (sym same_point);
    };
    edge = λ clock low c below32.
        first_edge c (cases_lt c a.cells)
        ∙ (alike.edge clock (stands.clock low) c below32
        ∙ (sym (second_edge c (cases_lt c b.cells)) ∙ ap (λ p. q_at_edge b p c) (sym same_point)));
  }
