-- What is found at a state is what it is to be alike there, or to differ.
use Rattle.std.proofs.Common.{◌≡◌, ◌≢◌, ℕ, ◌<◌, Bool, true, false, not, ◌&&◌, ◌||◌, if◌then◌else◌, List, refl, ap, sym, ◌∙◌, subst}
use Rattle.fuse_compare.proofs.Common.{is_on, same_level, Levels, is_register, same_levels, Lookups, logic_of, IsTheRest, IsWide, AtRest, rest_of, q_at_edge, allows_q, levels_equal, rests_once, ShowSame, DifferAtRest, DifferAtClock, SameEdge, AreAlike, RestsToo, AlikeAt, IsTold, SameShape}

-- what may be stored at the clock's edge is the one Q there
edge_told : (register reset preset next q : Bool)
    → (if register then (if reset then not q else (if preset then q else same_level q next)) else not q) ≡ same_level q (register && (not reset && (preset || next)))
edge_told false reset preset next true = refl
edge_told false reset preset next false = refl
edge_told true true preset next true = refl
edge_told true true preset next false = refl
edge_told true false true next true = refl
edge_told true false true next false = refl
edge_told true false false next q = refl

pub allowed_edge : (m : Lookups) (at : Levels) (c : ℕ) (q : Bool) → allows_q (logic_of m) at c q ≡ same_level q (q_at_edge m at c)
allowed_edge m at c q =
    edge_told (is_register (logic_of m) c) (m.reset at c) (m.preset at c) (m.next at c) q

module _ (a b : Lookups) (shape : SameShape a b) (ta : IsTold a) (tb : IsTold b) (o s : List Bool) (o_wide : IsWide o) (s_wide : IsWide s) where
  second_is : (alike : AlikeAt a b o s) (other : Levels) → AtRest (logic_of b) o s other → other ≡ alike.at
  second_is alike other rests =
      (rests_once b tb.ordered o s o_wide s_wide).only other rests ∙ sym ((rests_once b tb.ordered o s o_wide s_wide).only alike.at alike.too.rests)

  pub alike_at_rest : AlikeAt a b o s → DifferAtRest (logic_of a) (logic_of b) o s → ⊥
  alike_at_rest alike d =
      d.differ (rw (alike.rest.only d.at d.first, second_is alike d.other d.second)
      (let r : ShowSame (logic_of a) (logic_of b) alike.at alike.at = record { pins = refl; q = refl; enabled = alike.too.enabled } in r))

  pub alike_at_clock : AlikeAt a b o s → DifferAtClock (logic_of a) (logic_of b) o s → ⊥
  alike_at_clock alike d =
      d.differ (rw (alike.rest.only d.at d.first, second_is alike d.other d.second)
      (let r : SameEdge (logic_of a) (logic_of b) alike.at alike.at =
      λ c low q. allowed_edge a alike.at c q ∙ (ap (same_level q) (alike.edge d.clock d.low c low) ∙ sym (allowed_edge b alike.at c q)) in r))

  pub rest_differs : (at : Levels) → IsTheRest (logic_of a) o s at → (RestsToo a b o s at → ⊥) → DifferAtRest (logic_of a) (logic_of b) o s
  rest_differs at is not_too =
      let other = rest_of b o s in
      let second = (rests_once b tb.ordered o s o_wide s_wide).at_rest in
      record {
        at = at;
        other = other;
        first = is.at_rest;
        second = second;
        differ = λ show.
            let nodes : at.nodes ≡ other.nodes =
            same_levels at.nodes other.nodes (is.at_rest.is_point.nodes ∙ sym second.is_point.nodes)
            (λ n low. let below : n < 128 = subst (λ l. n < l) is.at_rest.is_point.nodes low in
            is.at_rest.settled.no_node n below (ta.no_nodes n) ∙ sym (second.settled.no_node n below (tb.no_nodes n))) in
            let same : at ≡ other = levels_equal at other show.pins show.q nodes in
            not_too (record {
              rests = subst (AtRest (logic_of b) o s) (sym same) second;
              enabled = λ c within. show.enabled c within ∙ ap (λ p. b.enable p c) (sym same);
            });
      }

  pub clock_differs : (at : Levels) → IsTheRest (logic_of a) o s at → RestsToo a b o s at → a.clock ≢ 0 → is_on o a.clock ≡ false
      → (((c : ℕ) → c < 32 → q_at_edge a at c ≡ q_at_edge b at c) → ⊥) → DifferAtClock (logic_of a) (logic_of b) o s
  clock_differs at is too clock low not_same = record {
    at = at;
    other = at;
    first = is.at_rest;
    second = too.rests;
    same = record { pins = refl; q = refl; enabled = too.enabled };
    clock = clock;
    low = low;
    differ = λ edge. not_same (λ c below. sym (allowed_edge a at c true) ∙ (edge c below true ∙ allowed_edge b at c true));
  }

-- alike at each state
pub all_alike : (a b : Lookups) → SameShape a b → IsTold a → IsTold b
    → ((o s : List Bool) → IsWide o → IsWide s → AlikeAt a b o s) → AreAlike (logic_of a) (logic_of b)
all_alike a b shape ta tb each = record {
  rest = λ o s o_wide s_wide. alike_at_rest a b shape ta tb o s o_wide s_wide (each o s o_wide s_wide);
  edge = λ o s o_wide s_wide. alike_at_clock a b shape ta tb o s o_wide s_wide (each o s o_wide s_wide);
}
