-- Sets of signals, filled one after another; and what is found in the sets that signals read is so of the signals.
use Rattle.std.proofs.Common.{◌≡◌, ℕ, ◌+◌, ◌<◌, Bool, ◌==◌, ◌&&◌, ◌||◌, nat_lt, List, length, get_or, refl, sym, ap, subst, ◌∙◌, inl, inr, arith}
use Rattle.gathering.proofs.Common.{IsOrder, IsLeastLoop, HasNoLoop, IsPath, HasNoPath, and-false, and-true, or-false, slice_get-get_or, cases_lt, cases_eq, eq-eqb, ne_eqb, lt-ltb, le-ltb, reads_of, Link, leaf_in, is_read_by, reads_in, is_stored_in}
use Rattle.pld_order.proofs.SameGraphs.{order_same, no_loop_same, least_same, path_same, no_path_same}

-- the parts of a signal by its number
pub leaf_there : (rs : List Link) (v : ℕ) (d : Link) → v < length rs → leaf_in rs v ≡ (get_or rs v d).leaf
leaf_there rs v d within = rw (slice_get-get_or rs v d within) refl

pub stored_there : (rs : List Link) (v : ℕ) (d : Link) → v < length rs → is_stored_in rs v ≡ (get_or rs v d).stored
stored_there rs v d within = rw (slice_get-get_or rs v d within) refl

-- a number more, which is one of them or not
pub one_more : (r : ℕ → Bool) (v w : ℕ) (b : Bool) → r v ≡ b → ((b && (w == v)) || (nat_lt w v && r w)) ≡ (nat_lt w (v + 1) && r w)
one_more r v w b is =
    elim (cases_eq w v) [
      | inl same ↦ rw (eq-eqb w v same, le-ltb w v (omega (arith, same)), lt-ltb w (v + 1) (omega (arith, same)), and-true b, or-false b) (sym (ap r same ∙ is))
      | inr other ↦ elim (cases_lt w v) [
        | inl less ↦ rw (ne_eqb w v other, and-false b, lt-ltb w v less, lt-ltb w (v + 1) (omega (arith, less))) refl
        | inr more ↦ rw (ne_eqb w v other, and-false b, le-ltb w v more, le-ltb w (v + 1) (omega (arith, more, other))) refl
      ]
    ]

pub reads_there : (rs all : List Link) (v w : ℕ) (d : Link) → v < length rs → reads_in rs all v w ≡ is_read_by (get_or rs v d).reads all w
reads_there rs all v w d within = rw (slice_get-get_or rs v d within) refl

-- ---- what is found in the sets

module _ (n : ℕ) (r : ℕ → ℕ → Bool) (items sets : List (List Bool)) (is : sets ≡ items) (count : length items ≡ n) (same : (v w : ℕ) → v < n → w < n → reads_of items v w ≡ r v w) where
  counted : length sets ≡ n
  counted = subst (λ xs. length xs ≡ n) (sym is) count

  alike : (v w : ℕ) → v < n → w < n → reads_of sets v w ≡ r v w
  alike = subst (λ xs. (v w : ℕ) → v < n → w < n → reads_of xs v w ≡ r v w) (sym is) same

  pub order_of_sets : (order : List ℕ) → IsOrder (length sets) (reads_of sets) order → IsOrder n r order
  order_of_sets order found = order_same n (reads_of sets) r alike order (subst (λ k. IsOrder k (reads_of sets) order) counted found)

  pub loop_of_sets : (chain : List ℕ) → IsLeastLoop (length sets) (reads_of sets) chain → IsLeastLoop n r chain
  loop_of_sets chain found = least_same n (reads_of sets) r alike chain (subst (λ k. IsLeastLoop k (reads_of sets) chain) counted found)

  pub no_loop_of_sets : HasNoLoop (length sets) (reads_of sets) → HasNoLoop n r
  no_loop_of_sets none = no_loop_same n (reads_of sets) r alike (subst (λ k. HasNoLoop k (reads_of sets)) counted none)

  module _ (starts begins ends stops : ℕ → Bool) (same_starts : (v : ℕ) → v < n → starts v ≡ begins v) (same_ends : (v : ℕ) → v < n → ends v ≡ stops v) where
    pub path_of_sets : (path : List ℕ) → IsPath (length sets) (reads_of sets) starts ends path → IsPath n r begins stops path
    path_of_sets path found = path_same n (reads_of sets) r alike starts begins ends stops same_starts same_ends path (subst (λ k. IsPath k (reads_of sets) starts ends path) counted found)

    pub no_path_of_sets : HasNoPath (length sets) (reads_of sets) starts ends → HasNoPath n r begins stops
    no_path_of_sets none = no_path_same n (reads_of sets) r alike starts begins ends stops same_starts same_ends (subst (λ k. HasNoPath k (reads_of sets) starts ends) counted none)
