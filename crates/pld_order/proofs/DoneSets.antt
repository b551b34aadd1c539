-- Lists of vertices and the sets of the same vertices: one more in both, and what a test of sets says of lists.
use Rattle.std.proofs.Common.{◌≡◌, ℕ, ◌<◌, ◌≤◌, Bool, true, false, not, ◌&&◌, ◌||◌, ◌==◌, List, [], ◌∷◌, ◌++◌, length, get_or, refl, ap, sym, ◌∙◌, arith, inl, inr}
use Rattle.pld_order.proofs.Common.{cases_lt, true≢false, or_right, and_parts, and_cases, not-false, not-true, get_or_default, is_on, has, IsDone, IsSetOf, IsReady, IsStuck, IsReadyBy, NoneIsReady, IsWith, IsWithin, reads_of}
use Rattle.pld_order.proofs.OneOfBoth.{search_below}

swap : (a b c : Bool) → (a || (b || c)) ≡ (b || (a || c))
swap true true c = refl
swap true false c = refl
swap false b c = refl

-- the set that a vertex reads, found at the vertex or at a number that is equal to it
pub set_at : (sets : List (List Bool)) (from v : ℕ) (set : List Bool) → v < length sets → from ≡ v → set ≡ get_or sets from set → set ≡ get_or sets v []
set_at sets from v set within same is = is ∙ (ap (λ k. get_or sets k set) same ∙ get_or_default sets v set [] within)

-- a longer list has one vertex more
pub has_more : (xs : List ℕ) (v w : ℕ) → has (xs ++ v ∷ []) w ≡ ((w == v) || has xs w)
has_more [] v w = refl
has_more (x ∷ xs) v w = ap (λ b. (w == x) || b) (has_more xs v w) ∙ swap (w == x) (w == v) (has xs w)

pub set_more : (list : List ℕ) (set new : List Bool) (v : ℕ) → IsSetOf list set → IsWith set v new → IsSetOf (list ++ v ∷ []) new
set_more list set new v is more w = more w ∙ (ap (λ b. (w == v) || b) (is w) ∙ sym (has_more list v w))

pub done_more : (count : ℕ) (order : List ℕ) (done new : List Bool) (v : ℕ) → IsDone count order done → IsWith done v new → IsDone count (order ++ v ∷ []) new
done_more count order done new v is more = record {
  vertices = λ w low. more w ∙ (ap (λ b. (w == v) || b) (is.vertices w low) ∙ sym (has_more order v w));
  others = λ w past below. more w ∙ or_right (w == v) (is_on done w) (is.others w past below);
}

module _ (sets : List (List Bool)) (order : List ℕ) (done : List Bool) (few : length sets ≤ 256) (is : IsDone (length sets) order done) where
  -- a vertex that is ready by the set is ready by the list
  pub ready_of : (v : ℕ) → IsReadyBy sets done v → IsReady (length sets) (reads_of sets) order v
  ready_of v ready = record {
    inside = ready.inside;
    waits = sym (is.vertices v ready.inside) ∙ ready.waits;
    met = λ w low reads. sym (is.vertices w low) ∙ ready.met w (omega (arith, low, few)) reads;
  }

  -- if no test finds a number that is read and not done, all are
  within_of : (xs : List Bool) → ((v : ℕ) → v < 256 → (is_on xs v && not (is_on done v)) ≡ false) → IsWithin xs done
  within_of xs none v low on =
      elim (and_cases (is_on xs v) (not (is_on done v)) (none v low)) [ inl off ↦ absurd (true≢false (sym on ∙ off)) | inr there ↦ not-false (is_on done v) there ]

  pub stuck_of : NoneIsReady sets done → IsStuck (length sets) (reads_of sets) order
  stuck_of none v v_in waits =
      elim (search_below (λ w. reads_of sets v w && not (is_on done w)) 256) [
        | inl there ↦
            let parts = and_parts (reads_of sets v there.0) (not (is_on done there.0)) there.2 in
            let off : is_on done there.0 ≡ false = not-true (is_on done there.0) parts.1 in
            elim (cases_lt there.0 (length sets)) [
              | inl low ↦ (there.0, low, parts.0, sym (is.vertices there.0 low) ∙ off)
              | inr past ↦ absurd (true≢false (sym (is.others there.0 past there.1) ∙ off))
            ]
        | inr all ↦ absurd (none v v_in (is.vertices v v_in ∙ waits) (within_of (get_or sets v []) all))
      ]
