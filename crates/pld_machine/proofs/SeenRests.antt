-- A point at rest of a logic, seen as a point where another allows no less, is at rest there.
use Rattle.std.proofs.Common.{◌≡◌, ◌⊎◌, ℕ, ◌<◌, Bool, true, false, not, if◌then◌else◌, nat_lt, List, refl, ap, sym, ◌∙◌, subst, inl, inr, ltb-true}
use Rattle.pld_machine.proofs.Common.{cases_Bool, and_parts, is_on, Levels, Logic, is_register, IsSettled, AtRest, q_at_rest, allows_q, SameCells, AllowsAt, IsSeenBy}

-- the value after an edge, where more data are allowed
clocked : (reset preset a b q : Bool) → (a ≡ true → b ≡ true) → (if reset then not q else (if preset then q else a)) ≡ true → (if reset then not q else (if preset then q else b)) ≡ true
clocked true preset a b q more ok = ok
clocked false true a b q more ok = ok
clocked false false a b q more ok = more ok

module _ (d s : Logic) (same : SameCells d s) where
  in_s : (c : ℕ) → c < d.cells → c < s.cells
  in_s c within = subst (λ n. c < n) same.cells within

  in_d : (c : ℕ) → c < s.cells → c < d.cells
  in_d c within = subst (λ n. c < n) (sym same.cells) within

  same_register : (c : ℕ) → is_register d c ≡ is_register s c
  same_register c =
      elim (cases_Bool (nat_lt c s.cells)) [
        | inl within ↦ rw (same.cells, same.stores c (ltb-true c s.cells within)) refl
        | inr out ↦ rw (same.cells, out) refl
      ]

  module _ (at seen : Levels) (allows : AllowsAt d s at seen) where
    same_resting : (stored : List Bool) (c : ℕ) → q_at_rest d stored at c ≡ q_at_rest s stored seen c
    same_resting stored c =
        elim (cases_Bool (is_register s c)) [
          | inl stores ↦ rw (same_register c, allows.reset c (ltb-true c s.cells (and_parts (nat_lt c s.cells) (s.stores c) stores).0) (and_parts (nat_lt c s.cells) (s.stores c) stores).1) refl
          | inr out ↦ rw (same_register c, out) refl
        ]

    -- a next Q of the first is one of the other
    pub same_q : (c : ℕ) (q : Bool) → allows_q d at c q ≡ true → allows_q s seen c q ≡ true
    same_q c q allowed = by_cases (cases_Bool (is_register s c)) (subst (λ b. (if b then (if d.reset at c then not q else (if d.preset at c then q else d.allows_next at c q)) else not q) ≡ true) (same_register c) allowed)
      where
        by_cases : (is_register s c ≡ true) ⊎ (is_register s c ≡ false) → (if is_register s c then (if d.reset at c then not q else (if d.preset at c then q else d.allows_next at c q)) else not q) ≡ true → allows_q s seen c q ≡ true
        by_cases (inl stores) ok =
            let within : c < s.cells = ltb-true c s.cells (and_parts (nat_lt c s.cells) (s.stores c) stores).0 in
            let on : s.stores c ≡ true = (and_parts (nat_lt c s.cells) (s.stores c) stores).1 in
            rw stores (clocked (s.reset seen c) (s.preset seen c) (d.allows_next at c q) (s.allows_next seen c q) q (allows.next c within on q) (rw (stores, allows.reset c within on, allows.preset c within on) at ok))
        by_cases (inr out) ok = rw out (rw out at ok)

    module _ (is : IsSeenBy s at seen) where
      same_pin : (k : ℕ) → is_on seen.pins k ≡ is_on at.pins k
      same_pin k = ap (λ xs. is_on xs k) is.pins

      settled_seen : (outside : List Bool) → IsSettled d outside at → IsSettled s outside seen
      settled_seen outside settled = record {
        driven = λ c within on.
            allows.level c within on (is_on seen.pins (s.pin c))
            (subst (λ v. d.allows_level at c v ≡ true) (ap (is_on at.pins) (same.pin c within) ∙ sym (same_pin (s.pin c))) (settled.driven c (in_d c within) (allows.enabled c within ∙ on)));
        undriven = λ k low none.
            same_pin k
            ∙ settled.undriven k low (λ c within on pin. none c (in_s c within) (sym (allows.enabled c (in_s c within)) ∙ on) (sym (same.pin c (in_s c within)) ∙ pin));
        nodes = λ n low node. is.node n low node;
        no_node = λ n low none. is.no_node n low none;
      }

      pub rest_seen : (outside stored : List Bool) → AtRest d outside stored at → AtRest s outside stored seen
      rest_seen outside stored rests = record {
        is_point = is.is_point;
        registers = λ c low. ap (λ xs. is_on xs c) is.q ∙ (rests.registers c low ∙ same_resting stored c);
        settled = settled_seen outside rests.settled;
      }
