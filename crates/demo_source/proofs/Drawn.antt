-- Things that are drawn one after another in a loop.
use Rattle.std.proofs.Common.{◌≡◌, ℕ, zero, suc, ◌+◌, ◌-◌, ◌*◌, ◌<◌, ◌≤◌, List, [], ◌∷◌, ◌++◌, refl, ap, sym, ◌∙◌, arith, append_assoc, append-nil}
use Rattle.demo_source.proofs.Common.{mul-suc, mul-zero, zero-add, state_after, many}

-- the state after some draws and some more
pub state_after-more : (a b x : ℕ) → state_after b (state_after a x) ≡ state_after (a + b) x
unfolding state_after
state_after-more zero b x = rw (zero-add b) refl
state_after-more (suc a) b x = rw (suc-plus a b) (state_after-more a b _)
  where
    suc-plus : (a b : ℕ) → suc a + b ≡ suc (a + b)
    suc-plus a b = omega arith

-- so many of the things have been drawn, and those that are left are drawn from the state
pub record HasDrawn {A : Type 0} (draw : ℕ → A) (draws n first : ℕ) (things : List A) (state i : ℕ) : Type 0 where
  pub few : i ≤ n
  pub left : things ++ many draw draws (n - i) state ≡ many draw draws n first
  pub at : state ≡ state_after (draws * i) first

module _ {A : Type 0} (draw : ℕ → A) (draws n first : ℕ) where
  pub none_drawn : HasDrawn draw draws n first [] first 0
  unfolding state_after
  none_drawn = record { few = omega arith; left = rw (minus-zero n) refl; at = rw (mul-zero draws) refl }
    where
      minus-zero : (n : ℕ) → n - 0 ≡ n
      minus-zero n = omega arith

  pub one_more : (things : List A) (state i : ℕ) → HasDrawn draw draws n first things state i → i < n → HasDrawn draw draws n first (things ++ draw state ∷ []) (state_after draws state) (i + 1)
  unfolding many
  one_more things state i drawn within = record {
    few = omega arith;
    left = append_assoc things (draw state ∷ []) (many draw draws (n - (i + 1)) (state_after draws state)) ∙ (rw (← unfolded) drawn.left);
    at = rw (drawn.at, ← one_time draws i) (state_after-more (draws * i) draws first);
  }
    where
      unfolded : many draw draws (n - i) state ≡ draw state ∷ many draw draws (n - (i + 1)) (state_after draws state)
      unfolded = rw (less_one n i within) refl
        where
          less_one : (n i : ℕ) → i < n → n - i ≡ suc (n - (i + 1))
          less_one n i within = omega arith

      one_time : (k i : ℕ) → k * i + k ≡ k * (i + 1)
      one_time k i = sym (mul-suc k i) ∙ ap (λ j. k * j) (plus-one i)
        where
          plus-one : (i : ℕ) → suc i ≡ i + 1
          plus-one i = omega arith

  pub all_drawn : (things : List A) (state i : ℕ) → HasDrawn draw draws n first things state i → i ≡ n → things ≡ many draw draws n first
  unfolding many
  all_drawn things state i drawn end = sym (append-nil things) ∙ (rw (← none_left) drawn.left)
    where
      none_left : many draw draws (n - i) state ≡ []
      none_left = rw (zero_left n i end) refl
        where
          zero_left : (n i : ℕ) → i ≡ n → n - i ≡ 0
          zero_left n i end = omega arith

  -- the same, with what a loop's turn knows
  pub next_drawn : (things longer : List A) (thing : A) (state next i : ℕ) → HasDrawn draw draws n first things state i → i < n → thing ≡ draw state → next ≡ state_after draws state → longer ≡ things ++ thing ∷ [] → HasDrawn draw draws n first longer next (i + 1)
  next_drawn things longer thing state next i drawn within is_drawn moves pushed = rw (pushed, is_drawn, moves) (one_more things state i drawn within)
