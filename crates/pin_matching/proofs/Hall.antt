-- Hall's condition: pins that fit a set, and a set that has fewer of them than members.
use Rattle.std.proofs.Common.{◌≡◌, ℕ, suc, ◌<◌, ◌≤◌, Bool, true, ◌||◌, eqb, List, [], ◌∷◌, ◌++◌, length, get_or, map, refl, ap, sym, ◌∙◌, subst, arith, inl, inr}
use Rattle.pin_matching.proofs.Common.{IsDistinct, list_any, flat_map, unique_keys, true≢false, or_cases, or_left, or_right, get_or-map, length-map, list_any-append, list_any_at, length-from_same_keys, nat_eq_equiv, has, wish_of, fits, places, IsAssignment, IsCrowded, eqb_same, place_of}
use Rattle.pin_matching.proofs.Lists.{has_at, fewer, all_of, unique_has, unique_once, same_place, once_by_places}

-- the pins that fit some signal of a set, one after the other
abbrev pub fitting : List (List ℕ) → List ℕ → List ℕ
fitting wishes set = flat_map (wish_of wishes) set

pub has_fitting : (wishes : List (List ℕ)) (set : List ℕ) (p : ℕ) → has (fitting wishes set) p ≡ list_any (λ s. fits wishes s p) set
has_fitting wishes [] p = refl
has_fitting wishes (s ∷ set) p = list_any-append (eqb p) (wish_of wishes s) (fitting wishes set) ∙ ap (λ b. fits wishes s p || b) (has_fitting wishes set p)

-- a pin that fits a member
pub fits_member : (wishes : List (List ℕ)) (set : List ℕ) (s p : ℕ) → has set s ≡ true → fits wishes s p ≡ true → has (fitting wishes set) p ≡ true
fits_member wishes set s p there fit =
    let place = place_of set s there in
    has_fitting wishes set p ∙ list_any_at (λ x. fits wishes x p) set place.0 0 place.1 (subst (λ x. fits wishes x p ≡ true) (sym place.2) fit)

-- and the member that it fits, by its place
pub member_fitted : (wishes : List (List ℕ)) (set : List ℕ) (p : ℕ) → list_any (λ s. fits wishes s p) set ≡ true → (k : ℕ) × (k < length set) × (fits wishes (get_or set k 0) p ≡ true)
member_fitted wishes [] p found = absurd (true≢false (sym found))
member_fitted wishes (s ∷ set) p found =
    elim (or_cases (fits wishes s p) (list_any (λ x. fits wishes x p) set) found) [
      | inl here ↦ (0, omega arith, here)
      | inr later ↦ let there = member_fitted wishes set p later in (suc there.0, omega (arith, there.1), there.2)
    ]

-- ---- how many they are

pub places_le : (wishes : List (List ℕ)) (set ys : List ℕ) → ((p : ℕ) → has (fitting wishes set) p ≡ true → has ys p ≡ true) → places wishes set ≤ length ys
places_le wishes set ys inside = fewer (unique_keys eqb (fitting wishes set)) ys (unique_once (fitting wishes set)) (λ p found. inside p (sym (unique_has (fitting wishes set) p) ∙ found))

pub le_places : (wishes : List (List ℕ)) (set xs : List ℕ) → IsDistinct eqb xs → ((p : ℕ) → has xs p ≡ true → has (fitting wishes set) p ≡ true) → length xs ≤ places wishes set
le_places wishes set xs once inside = fewer xs (unique_keys eqb (fitting wishes set)) once (λ p found. unique_has (fitting wishes set) p ∙ inside p found)

-- pins, each once, that are as many as fit a set are all that fit it
pub full_places : (wishes : List (List ℕ)) (set xs : List ℕ) → IsDistinct eqb xs → ((p : ℕ) → has xs p ≡ true → has (fitting wishes set) p ≡ true) → places wishes set ≤ length xs → (p : ℕ) → has (fitting wishes set) p ≡ true → has xs p ≡ true
full_places wishes set xs once inside long p found =
    all_of xs (unique_keys eqb (fitting wishes set)) once (λ q in_xs. unique_has (fitting wishes set) q ∙ inside q in_xs) long p (unique_has (fitting wishes set) p ∙ found)

-- sets with the same members have as many
pub same_places : (wishes : List (List ℕ)) (xs ys : List ℕ) → ((test : ℕ → Bool) → list_any test xs ≡ list_any test ys) → places wishes xs ≡ places wishes ys
same_places wishes xs ys same = length-from_same_keys nat_eq_equiv (unique_keys eqb (fitting wishes xs)) (unique_keys eqb (fitting wishes ys)) (unique_once (fitting wishes xs)) (unique_once (fitting wishes ys))
    (λ q. unique_has (fitting wishes xs) q ∙ (has_fitting wishes xs q ∙ (same (λ s. fits wishes s q) ∙ (sym (has_fitting wishes ys q) ∙ sym (unique_has (fitting wishes ys) q)))))

-- and so have wishes that are the same at the members
pub same_fitting : (a b : List (List ℕ)) (set : List ℕ) → ((s : ℕ) → has set s ≡ true → wish_of a s ≡ wish_of b s) → fitting a set ≡ fitting b set
same_fitting a b [] same = refl
same_fitting a b (s ∷ set) same =
    ap (λ xs. xs ++ fitting a set) (same s (or_left (eqb s s) (has set s) (eqb_same s)))
    ∙ ap (λ ys. wish_of b s ++ ys) (same_fitting a b set (λ x there. same x (or_right (eqb x s) (has set x) there)))

-- ---- the pins of a set

abbrev pub pins_of : List ℕ → List ℕ → List ℕ
pins_of pins set = map (λ s. get_or pins s 0) set

pub pin_at : (pins set : List ℕ) (k : ℕ) → k < length set → get_or (pins_of pins set) k 0 ≡ get_or pins (get_or set k 0) 0
pin_at pins set k low = get_or-map (λ s. get_or pins s 0) set k 0 0 low

pub length_pins_of : (pins set : List ℕ) → length (pins_of pins set) ≡ length set
length_pins_of pins set = length-map set (λ s. get_or pins s 0)

pub pins_once : (pins set : List ℕ) → IsDistinct eqb pins → IsDistinct eqb set → ((s : ℕ) → has set s ≡ true → s < length pins) → IsDistinct eqb (pins_of pins set)
pins_once pins set once set_once inside = once_by_places (pins_of pins set) (λ i j i_low j_low same.
    let i_in : i < length set = omega (arith, i_low, length_pins_of pins set) in
    let j_in : j < length set = omega (arith, j_low, length_pins_of pins set) in
    same_place set i j set_once i_in j_in
    (same_place pins (get_or set i 0) (get_or set j 0) once (inside (get_or set i 0) (has_at set i i_in)) (inside (get_or set j 0) (has_at set j j_in))
    (sym (pin_at pins set i i_in) ∙ (same ∙ pin_at pins set j j_in))))

-- the signal of a pin
pub signal_of : (pins set : List ℕ) (p : ℕ) → has (pins_of pins set) p ≡ true → (s : ℕ) × (has set s ≡ true) × (get_or pins s 0 ≡ p)
signal_of pins set p found =
    let place = place_of (pins_of pins set) p found in
    let low : place.0 < length set = omega (arith, place.1, length_pins_of pins set) in
    (get_or set place.0 0, has_at set place.0 low, sym (pin_at pins set place.0 low) ∙ place.2)

pub has_pin_of : (pins set : List ℕ) (s : ℕ) → has set s ≡ true → has (pins_of pins set) (get_or pins s 0) ≡ true
has_pin_of pins set s there =
    let place = place_of set s there in
    subst (λ p. has (pins_of pins set) p ≡ true) (pin_at pins set place.0 place.1 ∙ ap (λ x. get_or pins x 0) place.2)
    (has_at (pins_of pins set) place.0 (omega (arith, place.1, length_pins_of pins set)))

-- ---- a crowded set has no assignment

-- the pins of members of a set that an assignment has are among those that fit it
pub assigned_fit : (wishes : List (List ℕ)) (pins set members : List ℕ)
    → ((s : ℕ) → has members s ≡ true → has set s ≡ true)
    → ((s : ℕ) → has members s ≡ true → fits wishes s (get_or pins s 0) ≡ true)
    → (p : ℕ) → has (pins_of pins members) p ≡ true → has (fitting wishes set) p ≡ true
assigned_fit wishes pins set members inside fit p found =
    let there = signal_of pins members p found in
    fits_member wishes set there.0 p (inside there.0 there.1) (subst (λ q. fits wishes there.0 q ≡ true) there.2 (fit there.0 there.1))

pub not_crowded : (wishes : List (List ℕ)) (pins set : List ℕ) → IsAssignment wishes pins → IsCrowded wishes set → ⊥
not_crowded wishes pins set is crowded =
    let each = is.each in
    let long = le_places wishes set (pins_of pins set) (pins_once pins set is.once crowded.once (λ s there. let low = crowded.inside s there in omega (arith, low, each)))
    (assigned_fit wishes pins set set (λ s there. there) (λ s there. is.fit s (crowded.inside s there))) in
    let less = crowded.fewer in
    omega (arith, long, less, length_pins_of pins set)
