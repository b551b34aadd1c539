-- Pins that move from signal to signal until the next one has a pin.
use Rattle.std.proofs.Common.{◌≡◌, ℕ, suc, ◌<◌, ◌≤◌, true, false, eqb, List, [], ◌∷◌, ◌++◌, length, get_or, set, take, refl, ap, sym, ◌∙◌, subst, arith, inl, inr, get_or-set_same, get_or-set_other}
use Rattle.pin_matching.proofs.Common.{IsDistinct, true≢false, cases_eq, cases_lt, length_push, length-take, length-set, get_or_append_left, get_or_push, has, fits, IsAssignment, AreLed, AreReached, IsBegun, IsFirstFitting, IsFreePin, has_none, once_push}
use Rattle.pin_matching.proofs.Lists.{has_at, same_place, once_by_places}
use Rattle.pin_matching.proofs.Narrowed.{fits_front}

-- the placed signals have pins, a free one fits the signal at this place, and those before it lead to it
pub record IsShifting (wishes : List (List ℕ)) (count : ℕ) (reached pins : List ℕ) (place pin : ℕ) : Type 0 where
  pub long : length pins ≡ count
  pub placed : IsAssignment (take count wishes) pins
  pub within : place < length reached
  pub free : IsFreePin wishes pins (get_or reached place 0) pin
  pub led : AreLed wishes pins reached place

pub shifting_first : (wishes : List (List ℕ)) (pins reached : List ℕ) (place pin : ℕ) → IsBegun wishes pins → AreReached wishes pins reached → place < length reached → IsFreePin wishes pins (get_or reached place 0) pin → IsShifting wishes (length pins) reached pins place pin
shifting_first wishes pins reached place pin begun are within free = record {
  long = refl;
  placed = begun.placed;
  within = within;
  free = free;
  led = λ i more low i_in. are.led i more (omega (arith, i_in)) i_in;
}

-- a turn of the moves: `old` are the pins before the first of them
module _ {wishes : List (List ℕ)} {old reached pins : List ℕ} {place pin : ℕ} (begun : IsBegun wishes old) (are : AreReached wishes old reached) where
  module _ (now : IsShifting wishes (length old) reached pins place pin) where
    long : length pins ≡ length old
    long = now.long

    more : length old < length wishes
    more = begun.more

    length_front : length (take (length old) wishes) ≡ length old
    length_front = omega (arith, long, more, length-take (length old) wishes)

    -- ---- the next signal takes the pin

    pub shifted_all : place ≡ 0 → IsAssignment (take (suc (length old)) wishes) (pins ++ pin ∷ [])
    shifted_all none = record {
      each = omega (arith, long, more, length-take (suc (length old)) wishes, length_push pins pin);
      fit = λ s low. fit s (omega (arith, long, more, low, length-take (suc (length old)) wishes));
      once = once_push pins pin now.placed.once now.free.free;
    }
      where
        fit : (s : ℕ) → s ≤ length pins → fits (take (suc (length old)) wishes) s (get_or (pins ++ pin ∷ []) s 0) ≡ true
        fit s low =
            fits_front wishes (suc (length old)) s (get_or (pins ++ pin ∷ []) s 0) (omega (arith, long, low))
            ∙ elim (cases_lt s (length pins)) [
              | inl less ↦
                  rw (get_or_append_left pins (pin ∷ []) 0 s less) (sym (fits_front wishes (length old) s (get_or pins s 0) (omega (arith, long, less))) ∙ now.placed.fit s (omega (arith, long, less, length_front)))
              | inr past ↦ (
                  let last : length pins ≡ s = omega (arith, long, low, past) in
                  rw (get_or_push pins pin 0 s last) (subst (λ x. fits wishes x pin ≡ true) (ap (λ k. get_or reached k 0) none ∙ (are.first ∙ (sym long ∙ last))) now.free.fit))
            ]

    -- ---- a placed signal takes it

    module _ (some : 0 < place) where
      abbrev signal : ℕ
      signal = get_or reached place 0

      pub signal_placed : get_or reached place 0 < length pins
      signal_placed =
          elim (cases_eq signal (length old)) [
            | inl same ↦ let e = same_place reached place 0 are.once now.within (let within = now.within in omega (arith, long, within)) (same ∙ sym are.first) in absurd (omega (arith, long, e, some))
            | inr other ↦ let le = are.inside signal (has_at reached place now.within) in omega (arith, long, le, other)
          ]

      abbrev moved : List ℕ
      moved = set pins signal pin

      length_moved : length moved ≡ length pins
      length_moved = length-set pins signal pin

      moved_same : get_or moved signal 0 ≡ pin
      moved_same = get_or-set_same pins signal pin 0 signal_placed

      moved_other : (s : ℕ) → (s ≡ signal → ⊥) → get_or moved s 0 ≡ get_or pins s 0
      moved_other s other = get_or-set_other pins signal s pin 0 other

      not_pin : (s : ℕ) → s < length pins → get_or pins s 0 ≡ pin → ⊥
      not_pin s low same = true≢false (sym (subst (λ p. has pins p ≡ true) same (has_at pins s low)) ∙ now.free.free)

      moved_once : IsDistinct eqb moved
      moved_once = once_by_places moved (λ i j i_in j_in same. at i j (omega (arith, long, i_in, length_moved)) (omega (arith, long, j_in, length_moved)) same)
        where
          at : (i j : ℕ) → i < length pins → j < length pins → get_or moved i 0 ≡ get_or moved j 0 → i ≡ j
          at i j i_in j_in same =
              elim (cases_eq i signal) [
                | inl i_is ↦
                    elim (cases_eq j signal) [
                      | inl j_is ↦ i_is ∙ sym j_is
                      | inr j_other ↦ absurd (not_pin j j_in (sym (moved_other j j_other) ∙ (sym same ∙ (ap (λ k. get_or moved k 0) i_is ∙ moved_same))))
                    ]
                | inr i_other ↦
                    elim (cases_eq j signal) [
                      | inl j_is ↦ absurd (not_pin i i_in (sym (moved_other i i_other) ∙ (same ∙ (ap (λ k. get_or moved k 0) j_is ∙ moved_same))))
                      | inr j_other ↦ same_place pins i j now.placed.once i_in j_in (sym (moved_other i i_other) ∙ (same ∙ moved_other j j_other))
                    ]
              ]

      moved_placed : IsAssignment (take (length old) wishes) moved
      moved_placed = record {
        each = omega (arith, long, length_front, length_moved);
        fit = λ s low. at s (omega (arith, long, low, length_front));
        once = moved_once;
      }
        where
          at : (s : ℕ) → s < length pins → fits (take (length old) wishes) s (get_or moved s 0) ≡ true
          at s low =
              elim (cases_eq s signal) [
                | inl same ↦
                    subst (λ x. fits (take (length old) wishes) x (get_or moved x 0) ≡ true) (sym same)
                    (rw moved_same (fits_front wishes (length old) signal pin (omega (arith, long, signal_placed)) ∙ now.free.fit))
                | inr other ↦ rw (moved_other s other) (now.placed.fit s (omega (arith, long, low, length_front)))
              ]

      -- the pin that it had is free now
      left_free : has moved (get_or pins signal 0) ≡ false
      left_free = has_none moved (get_or pins signal 0) (λ s low same. at s (omega (arith, long, low, length_moved)) same)
        where
          at : (s : ℕ) → s < length pins → get_or moved s 0 ≡ get_or pins signal 0 → ⊥
          at s low same =
              elim (cases_eq s signal) [
                | inl here ↦ not_pin signal signal_placed (sym (sym moved_same ∙ (ap (λ k. get_or moved k 0) (sym here) ∙ same)))
                | inr other ↦ other (same_place pins s signal now.placed.once low signal_placed (sym (moved_other s other) ∙ same))
              ]

      -- some signal before it fits that pin
      pub earlier : (j : ℕ) × (j < place) × (fits wishes (get_or reached j 0) (get_or pins signal 0) ≡ true)
      earlier = now.led place some (omega (arith, long)) now.within

      pub shifted : (next : ℕ) → IsFirstFitting wishes reached (get_or pins signal 0) next → (next < place) × IsShifting wishes (length old) reached moved next (get_or pins signal 0)
      shifted next found = (
        less,
        record {
          long = length_moved ∙ long;
          placed = moved_placed;
          within = found.within;
          free = record { fit = found.fit; free = left_free };
          led = λ i more_i low i_in.
              let there = now.led i more_i (omega (arith, long, low, less)) i_in in
              (there.0, there.1, rw (moved_other (get_or reached i 0) (λ same. let e = same_place reached i place are.once i_in now.within same in omega (arith, long, e, low, less))) there.2);
        },
      )
        where
          less : next < place
          less =
              elim (cases_lt earlier.0 next) [
                | inl before ↦ absurd (true≢false (sym earlier.2 ∙ found.first earlier.0 before))
                | inr le ↦ let low = earlier.1 in omega (arith, long, le, low)
              ]
