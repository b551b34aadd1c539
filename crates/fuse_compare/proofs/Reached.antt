-- Each state is represented by one that varies the variables alone.
use Rattle.std.proofs.Common.{◌≡◌, ◌≢◌, ◌⊎◌, ℕ, ◌<◌, Bool, true, false, ◌||◌, ◌==◌, List, [], ◌∷◌, length, set, refl, sym, ◌∙◌, subst, inl, inr, length-set, get_or-set_same, get_or-set_other}
use Rattle.fuse_compare.proofs.Common.{cases_Bool, cases_eq, or_cases, or_parts, true≢false, eqb-true, eqb-false, bits, is_on, is_on-zero, length-bits, Lookups, logic_of, IsWide, AreAlike, AlikeAt, QCounts, StandsFor, Varies, has_pin, has_q, AreVariables, QFixed, QsSuffice, Suffices, Same, Shown, Plain, Variable, Pin, Q}
use Rattle.fuse_compare.specs.States.QFixed.{AtOne, AsPlain}
use Rattle.fuse_compare.specs.States.QsSuffice.{AllFixed, Mixed}
use Rattle.fuse_compare.proofs.Kept.{alike_kept}
use Rattle.fuse_compare.proofs.Mixed.{alike_mixed}
use Rattle.fuse_compare.proofs.Differences.{all_alike}

-- a state that is reached from another by varying these variables, with their levels of a third
pub record IsReached (vs : List Variable) (o0 s0 o s : List Bool) : Type 0 where
  pub outside : List Bool
  pub stored : List Bool
  pub varies : Varies vs o0 s0 outside stored
  pub outside_wide : IsWide outside
  pub stored_wide : IsWide stored
  pub pins : (k : ℕ) → has_pin vs k ≡ true → is_on outside k ≡ is_on o k
  pub q : (c : ℕ) → has_q vs c ≡ true → is_on stored c ≡ is_on s c
  pub kept_pins : (k : ℕ) → has_pin vs k ≡ false → is_on outside k ≡ is_on o0 k
  pub kept_q : (c : ℕ) → has_q vs c ≡ false → is_on stored c ≡ is_on s0 c

-- what was so before is so after, whether or not the place was set
set_kept : (xs ys : List Bool) (k i : ℕ) → length xs ≡ 32 → k < 32 → (i ≡ k) ⊎ (is_on xs i ≡ is_on ys i) → is_on (set xs k (is_on ys k)) i ≡ is_on ys i
set_kept xs ys k i long low why = at (cases_eq i k) why
  where
    at : (i ≡ k) ⊎ (i ≢ k) → (i ≡ k) ⊎ (is_on xs i ≡ is_on ys i) → is_on (set xs k (is_on ys k)) i ≡ is_on ys i
    at (inl e) w = rw e (get_or-set_same xs k (is_on ys k) false (subst (λ l. k < l) (sym long) low))
    at (inr n) (inl e) = absurd (n e)
    at (inr n) (inr same) = get_or-set_other xs k i (is_on ys k) false n ∙ same

-- one variable more
pin_more : (j : ℕ) (vs : List Variable) (o0 s0 o s : List Bool) → j < 32 → IsWide o0 → IsReached vs (set o0 j (is_on o j)) s0 o s → IsReached (Pin j ∷ vs) o0 s0 o s
pin_more j vs o0 s0 o s low o0_wide r = record {
  outside = r.outside;
  stored = r.stored;
  varies = (is_on o j, r.varies);
  outside_wide = r.outside_wide;
  stored_wide = r.stored_wide;
  pins = λ k is. at k is (cases_Bool (has_pin vs k));
  q = r.q;
  kept_pins = λ k none. let parts = or_parts (j == k) (has_pin vs k) none in
      r.kept_pins k parts.1 ∙ get_or-set_other o0 j k (is_on o j) false (λ e. eqb-false j k parts.0 (sym e));
  kept_q = r.kept_q;
}
  where
    at : (k : ℕ) → ((j == k) || has_pin vs k) ≡ true → (has_pin vs k ≡ true) ⊎ (has_pin vs k ≡ false) → is_on r.outside k ≡ is_on o k
    at k is (inl later) = r.pins k later
    at k is (inr not_later) =
        r.kept_pins k not_later
        ∙ elim (or_cases (j == k) (has_pin vs k) is) [
          | inl here ↦ set_kept o0 o j k o0_wide low (inl (sym (eqb-true j k here)))
          | inr later ↦ absurd (true≢false (sym later ∙ not_later))
        ]

q_more : (d : ℕ) (vs : List Variable) (o0 s0 o s : List Bool) → d < 32 → IsWide s0 → IsReached vs o0 (set s0 d (is_on s d)) o s → IsReached (Q d ∷ vs) o0 s0 o s
q_more d vs o0 s0 o s low s0_wide r = record {
  outside = r.outside;
  stored = r.stored;
  varies = (is_on s d, r.varies);
  outside_wide = r.outside_wide;
  stored_wide = r.stored_wide;
  pins = r.pins;
  q = λ c is. at c is (cases_Bool (has_q vs c));
  kept_pins = r.kept_pins;
  kept_q = λ c none. let parts = or_parts (d == c) (has_q vs c) none in
      r.kept_q c parts.1 ∙ get_or-set_other s0 d c (is_on s d) false (λ e. eqb-false d c parts.0 (sym e));
}
  where
    at : (c : ℕ) → ((d == c) || has_q vs c) ≡ true → (has_q vs c ≡ true) ⊎ (has_q vs c ≡ false) → is_on r.stored c ≡ is_on s c
    at c is (inl later) = r.q c later
    at c is (inr not_later) =
        r.kept_q c not_later
        ∙ elim (or_cases (d == c) (has_q vs c) is) [
          | inl here ↦ set_kept s0 s d c s0_wide low (inl (sym (eqb-true d c here)))
          | inr later ↦ absurd (true≢false (sym later ∙ not_later))
        ]

pub reached : (vs : List Variable) (o0 s0 o s : List Bool) → AreVariables vs → IsWide o0 → IsWide s0 → IsReached vs o0 s0 o s
reached [] o0 s0 o s are o0_wide s0_wide = record {
  outside = o0;
  stored = s0;
  varies = (refl, refl);
  outside_wide = o0_wide;
  stored_wide = s0_wide;
  pins = λ k is. absurd (true≢false (sym is));
  q = λ c is. absurd (true≢false (sym is));
  kept_pins = λ k none. refl;
  kept_q = λ c none. refl;
}
reached (Pin j ∷ vs) o0 s0 o s are o0_wide s0_wide =
    pin_more j vs o0 s0 o s are.0 o0_wide (reached vs (set o0 j (is_on o j)) s0 o s are.1 (length-set o0 j (is_on o j) ∙ o0_wide) s0_wide)
reached (Q d ∷ vs) o0 s0 o s are o0_wide s0_wide =
    q_more d vs o0 s0 o s are.0 s0_wide (reached vs o0 (set s0 d (is_on s d)) o s are.1 o0_wide (length-set s0 d (is_on s d) ∙ s0_wide))

module _ (a b : Lookups) (vs : List Variable) (fixed : List Bool) (enough : Suffices a b vs fixed)
    (each : (o' s' : List Bool) → Varies vs (bits 32 0) fixed o' s' → AlikeAt a b o' s') where
  zeros_wide : IsWide (bits 32 0)
  zeros_wide = length-bits 32 0

  -- the clock is low if it was, as a variable or at 0
  clock_low : (o s : List Bool) (r : IsReached vs (bits 32 0) fixed o s) → is_on o a.clock ≡ false → is_on r.outside a.clock ≡ false
  clock_low o s r low = elim (cases_Bool (has_pin vs a.clock)) [
    | inl is ↦ r.pins a.clock is ∙ low
    | inr none ↦ r.kept_pins a.clock none ∙ is_on-zero 32 a.clock enough.first.ordered.has_pins.clock
  ]

  stands : (o s : List Bool) (r : IsReached vs (bits 32 0) fixed o s) → ((c : ℕ) → c < a.cells → QCounts a b enough.first.known enough.second.known s r.stored c)
      → StandsFor a b enough.first.known enough.second.known o s r.outside r.stored
  stands o s r q = record {
    first_pins = λ k is. sym (r.pins k (enough.first_pins k is));
    second_pins = λ k is. sym (r.pins k (enough.second_pins k is));
    clock = clock_low o s r;
    q = q;
  }

  by_reached : (o s : List Bool) → IsWide o → IsWide s → (r : IsReached vs (bits 32 0) fixed o s)
      → ((c : ℕ) → c < a.cells → QCounts a b enough.first.known enough.second.known s r.stored c) → AlikeAt a b o s
  by_reached o s o_wide s_wide r q =
      alike_kept a b enough.shape enough.first enough.second o s r.outside r.stored o_wide s_wide r.outside_wide r.stored_wide (stands o s r q) (each r.outside r.stored r.varies)

  alike_when : QsSuffice a b enough.first.known enough.second.known vs fixed → (o s : List Bool) → IsWide o → IsWide s → AlikeAt a b o s
  alike_when (AllFixed is_fixed) o s o_wide s_wide = by_reached o s o_wide s_wide r (λ c within. at c within (cases_Bool (has_q vs c)))
    where
      r : IsReached vs (bits 32 0) fixed o s
      r = reached vs (bits 32 0) fixed o s enough.are zeros_wide enough.wide

      counted : (c : ℕ) → is_on r.stored c ≡ is_on fixed c → QFixed a b enough.first.known enough.second.known fixed c → QCounts a b enough.first.known enough.second.known s r.stored c
      counted c e (AtOne one first second kinds) = Shown (e ∙ one) first second kinds
      counted c e (AsPlain first second) = Plain first second

      at : (c : ℕ) → c < a.cells → (has_q vs c ≡ true) ⊎ (has_q vs c ≡ false) → QCounts a b enough.first.known enough.second.known s r.stored c
      at c within (inl is) = Same (sym (r.q c is))
      at c within (inr none) = counted c (r.kept_q c none) (is_fixed c within none)
  alike_when (Mixed d within mixed no_q first_reset second_reset first_full second_full) o s o_wide s_wide =
      alike_mixed a b enough.shape enough.first enough.second o s fixed o_wide s_wide d within mixed first_reset second_reset first_full second_full
      (by_reached o fixed o_wide enough.wide r (λ c less. Same (sym (r.kept_q c (no_q c)))))
    where
      r : IsReached vs (bits 32 0) fixed o fixed
      r = reached vs (bits 32 0) fixed o fixed enough.are zeros_wide enough.wide

  pub alike_everywhere : AreAlike (logic_of a) (logic_of b)
  alike_everywhere = all_alike a b enough.shape enough.first enough.second (λ o s o_wide s_wide. alike_when enough.q o s o_wide s_wide)
