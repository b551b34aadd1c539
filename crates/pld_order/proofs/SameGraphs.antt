-- Two graphs whose vertices read the same have the same orders, loops and paths.
use Rattle.std.proofs.Common.{◌≡◌, ℕ, ◌<◌, Bool, true, List, [], ◌∷◌, length, get_or, refl, ap, sym, ◌∙◌, subst, arith, eqb}
use Rattle.pld_order.proofs.Common.{or_left, or_right, length_push, list_any_at, has, IsOrder, IsChain, IsLoop, IsLeastLoop, HasNoLoop, IsPath, HasNoPath}
use Rattle.pld_order.proofs.DoneSets.{has_more}
use Rattle.pld_order.proofs.Lists.{eqb_same}

-- a list has its first, and what its rest has
first_in : (x : ℕ) (xs : List ℕ) → has (x ∷ xs) x ≡ true
first_in x xs = or_left (eqb x x) (has xs x) (eqb_same x)

later_in : (x : ℕ) (xs : List ℕ) (v : ℕ) → has xs v ≡ true → has (x ∷ xs) v ≡ true
later_in x xs v there = or_right (eqb v x) (has xs v) there

at_in : (xs : List ℕ) (i : ℕ) → i < length xs → has xs (get_or xs i 0) ≡ true
at_in xs i low = list_any_at (λ x. eqb (get_or xs i 0) x) xs i 0 low (eqb_same (get_or xs i 0))

module _ (count : ℕ) (f g : ℕ → ℕ → Bool) (same : (v w : ℕ) → v < count → w < count → f v w ≡ g v w) where
  pub chain_same : (xs : List ℕ) (end : ℕ) → ((v : ℕ) → has xs v ≡ true → v < count) → end < count → IsChain f xs end → IsChain g xs end
  chain_same [] end inside end_in chain = tt
  chain_same (x ∷ []) end inside end_in chain = (sym (same x end (inside x (first_in x [])) end_in) ∙ chain.0, tt)
  chain_same (x ∷ y ∷ xs) end inside end_in chain = (
    sym (same x y (inside x (first_in x (y ∷ xs))) (inside y (later_in x (y ∷ xs) y (first_in y xs)))) ∙ chain.0,
    chain_same (y ∷ xs) end (λ v there. inside v (later_in x (y ∷ xs) v there)) end_in chain.1,
  )

  pub loop_same : (chain : List ℕ) → IsLoop count f chain → IsLoop count g chain
  loop_same [] is = absurd (is.some refl)
  loop_same (x ∷ xs) is = record {
    some = is.some;
    inside = is.inside;
    once = is.once;
    returns = chain_same (x ∷ xs) x is.inside (is.inside x (first_in x xs)) is.returns;
  }

  pub order_same : (order : List ℕ) → IsOrder count f order → IsOrder count g order
  order_same order is = record {
    inside = is.inside;
    each = is.each;
    once = is.once;
    earlier = λ i j le low.
        sym (same (get_or order i 0) (get_or order j 0) (is.inside (get_or order i 0) (at_in order i (omega (arith, le, low)))) (is.inside (get_or order j 0) (at_in order j low)))
        ∙ is.earlier i j le low;
  }

  pub path_same : (starts begins ends stops : ℕ → Bool) → ((v : ℕ) → v < count → starts v ≡ begins v) → ((v : ℕ) → v < count → ends v ≡ stops v)
      → (path : List ℕ) → IsPath count f starts ends path → IsPath count g begins stops path
  path_same starts begins ends stops same_starts same_ends path is = record {
    before = is.before;
    last = is.last;
    is = is.is;
    inside = is.inside;
    begins = sym (same_starts (get_or path 0 0) (is.inside (get_or path 0 0) first)) ∙ is.begins;
    leads = chain_same is.before is.last (λ v there. is.inside v (before_in v there)) last_in is.leads;
    arrives = sym (same_ends is.last last_in) ∙ is.arrives;
  }
    where
      before_in : (v : ℕ) → has is.before v ≡ true → has path v ≡ true
      before_in v there = subst (λ p. has p v ≡ true) (sym is.is) (has_more is.before is.last v ∙ or_right (eqb v is.last) (has is.before v) there)

      last_in : is.last < count
      last_in = is.inside is.last (subst (λ p. has p is.last ≡ true) (sym is.is) (has_more is.before is.last is.last ∙ or_left (eqb is.last is.last) (has is.before is.last) (eqb_same is.last)))

      some : 0 < length path
      some = omega (arith, ap length is.is, length_push is.before is.last)

      first : has path (get_or path 0 0) ≡ true
      first = at_in path 0 some

-- if one has no loop, or no path, neither has the other
pub no_loop_same : (count : ℕ) (f g : ℕ → ℕ → Bool) → ((v w : ℕ) → v < count → w < count → f v w ≡ g v w) → HasNoLoop count f → HasNoLoop count g
no_loop_same count f g same none chain is = none chain (loop_same count g f (λ v w v_in w_in. sym (same v w v_in w_in)) chain is)

pub least_same : (count : ℕ) (f g : ℕ → ℕ → Bool) → ((v w : ℕ) → v < count → w < count → f v w ≡ g v w) → (chain : List ℕ) → IsLeastLoop count f chain → IsLeastLoop count g chain
least_same count f g same chain is = record {
  is_loop = loop_same count f g same chain is.is_loop;
  least = λ other loop. is.least other (loop_same count g f (λ v w v_in w_in. sym (same v w v_in w_in)) other loop);
}

pub no_path_same : (count : ℕ) (f g : ℕ → ℕ → Bool) → ((v w : ℕ) → v < count → w < count → f v w ≡ g v w)
    → (starts begins ends stops : ℕ → Bool) → ((v : ℕ) → v < count → starts v ≡ begins v) → ((v : ℕ) → v < count → ends v ≡ stops v)
    → HasNoPath count f starts ends → HasNoPath count g begins stops
no_path_same count f g same starts begins ends stops same_starts same_ends none path is =
    none path (path_same count g f (λ v w v_in w_in. sym (same v w v_in w_in)) begins starts stops ends (λ v v_in. sym (same_starts v v_in)) (λ v v_in. sym (same_ends v v_in)) path is)
