-- Two logics that answer the same if the first rests are alike there.
use Rattle.std.proofs.Common.{◌≡◌, ℕ, ◌<◌, ◌≤◌, Bool, List, refl, sym, ◌∙◌, subst, inl, inr, le-ltb, lt-ltb}
use Rattle.fuse_compare.proofs.Common.{cases_lt, true≢false, Levels, Lookups, logic_of, AtRest, q_at_rest, q_at_edge, IsTheRest, AnswerSame, AlikeAt, IsTold, SameShape}

module _ (a b : Lookups) (shape : SameShape a b) (ta : IsTold a) (tb : IsTold b) (o s : List Bool) (at : Levels) (is : IsTheRest (logic_of a) o s at)
    (same : AnswerSame a b at) where
  below : (c : ℕ) → c < b.cells → c < a.cells
  below c within = subst (λ n. c < n) (sym shape.cells) within

  same_q : (c : ℕ) → q_at_rest (logic_of a) s at c ≡ q_at_rest (logic_of b) s at c
  same_q c = elim (cases_lt c a.cells) [
    | inl within ↦ rw (lt-ltb c a.cells within, lt-ltb c b.cells (subst (λ n. c < n) shape.cells within), same.stores c within, same.reset c within) refl
    | inr past ↦ rw (le-ltb c a.cells past, le-ltb c b.cells (subst (λ n. n ≤ c) shape.cells past)) refl
  ]

  same_edge : (c : ℕ) → q_at_edge a at c ≡ q_at_edge b at c
  same_edge c = elim (cases_lt c a.cells) [
    | inl within ↦
        rw (lt-ltb c a.cells within, lt-ltb c b.cells (subst (λ n. c < n) shape.cells within), same.stores c within, same.reset c within, same.preset c within, same.next c within) refl
    | inr past ↦ rw (le-ltb c a.cells past, le-ltb c b.cells (subst (λ n. n ≤ c) shape.cells past)) refl
  ]

  rests : AtRest (logic_of b) o s at
  rests = record {
    is_point = is.at_rest.is_point;
    registers = λ c low. is.at_rest.registers c low ∙ same_q c;
    settled = record {
      driven = λ c within on.
          let in_a = below c within in
          rw (← shape.pin c, ← same.level c in_a) (is.at_rest.settled.driven c in_a (same.enable c in_a ∙ on));
      undriven = λ k low none. is.at_rest.settled.undriven k low (λ c within on here.
          none c (subst (λ n. c < n) shape.cells within) (sym (same.enable c within) ∙ on) (sym (shape.pin c) ∙ here));
      nodes = λ n low node. absurd (true≢false (sym node ∙ tb.no_nodes n));
      no_node = λ n low none. is.at_rest.settled.no_node n low (ta.no_nodes n);
    };
  }

  pub alike_there : AlikeAt a b o s
  alike_there = record {
    at = at;
    rest = is;
    too = record { rests = rests; enabled = same.enable };
    edge = λ clock low c within. same_edge c;
  }
