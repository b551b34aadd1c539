-- A text without the blanks at its ends, byte by byte.
use Rattle.std.proofs.Common.{◌≡◌, ℕ, suc, ◌+◌, ◌-◌, ◌≤◌, ◌<◌, inl, inr, Bool, true, false, List, [], ◌∷◌, ◌++◌, length, take, drop, get_or, refl, sym, ap, ◌∙◌, arith, length-take, ◌&&◌}
use Rattle.abel_macros.proofs.Common.{take-length, take-suc, joined, joined-push, list_all, prefix_len, drop-take, is_blank, bool_cases, not_all, trimmed, trimmed_end}
use Rattle.abel_macros.proofs.Passed.{take_within, and_false}

pub take_some : (n b : ℕ) (w x : List ℕ) → 0 < n → w ≡ b ∷ x → take n w ≡ b ∷ take (n - 1) x
take_some n b w x h e = let m : n ≡ suc (n - 1) = omega arith in ap (λ (v : List ℕ). take n v) e ∙ ap (λ (k : ℕ). take k (b ∷ x)) m

trim_dark : (u : List ℕ) (b : ℕ) → is_blank b ≡ false → trimmed_end (u ++ b ∷ []) ≡ u ++ b ∷ []
trim_dark [] b e = rw e refl
trim_dark (a ∷ u) b e = rw (not_all is_blank (a ∷ u) b [] e) (ap (λ (z : List ℕ). a ∷ z) (trim_dark u b e))

all_with : (u : List ℕ) (b : ℕ) → is_blank b ≡ true → list_all is_blank (u ++ b ∷ []) ≡ list_all is_blank u
all_with [] b e = rw e refl
all_with (a ∷ u) b e = ap (λ (t : Bool). is_blank a && t) (all_with u b e)

trim_blank : (u : List ℕ) (b : ℕ) → is_blank b ≡ true → trimmed_end (u ++ b ∷ []) ≡ trimmed_end u
trim_blank [] b e = rw e refl
trim_blank (a ∷ u) b e = rw (all_with (a ∷ u) b e) (elim (bool_cases (list_all is_blank (a ∷ u))) [
  | inl t ↦ rw t refl
  | inr f ↦ rw f (ap (λ (z : List ℕ). a ∷ z) (trim_blank u b e))
])

pub both_trimmed : (w u r : List ℕ) (blanks count : ℕ) → count ≤ length w → blanks ≡ prefix_len is_blank (take count w) → blanks ≤ count → u ≡ drop blanks w
    → r ≡ trimmed_end (take (count - blanks) u) → r ≡ trimmed (take count w)
both_trimmed w u r blanks count le b within e t =
    let sum : blanks + (count - blanks) ≡ count = omega arith in
    let same : drop blanks (take count w) ≡ take (count - blanks) u =
    sym (ap (λ (k : ℕ). drop blanks (take k w)) sum) ∙ drop-take blanks (count - blanks) w ∙ ap (take (count - blanks)) (sym e) in
    t ∙ ap trimmed_end (sym same) ∙ ap (λ (k : ℕ). trimmed_end (drop k (take count w))) b

-- ---- from the end

last_of : (w : List ℕ) → 0 < length w → w ≡ take (length w - 1) w ++ get_or w (length w - 1) 0 ∷ []
last_of w h =
    let e : suc (length w - 1) ≡ length w = omega arith in
    sym (ap (λ (n : ℕ). take n w) e ∙ take-length w) ∙ take-suc w (length w - 1) 0 (omega arith)

-- a byte at the end that is no blank, and one that is
pub dark_last : (w : List ℕ) → 0 < length w → is_blank (get_or w (length w - 1) 0) ≡ false → trimmed_end w ≡ w
dark_last w h d = let s = last_of w h in ap trimmed_end s ∙ trim_dark (take (length w - 1) w) (get_or w (length w - 1) 0) d ∙ sym s

pub blank_last : (w : List ℕ) → 0 < length w → is_blank (get_or w (length w - 1) 0) ≡ true → trimmed_end (take (length w - 1) w) ≡ trimmed_end w
blank_last w h d = sym (ap trimmed_end (last_of w h) ∙ trim_blank (take (length w - 1) w) (get_or w (length w - 1) 0) d)

-- of a part without its last byte, so many bytes are the front of the whole
pub one_fewer : (w whole : List ℕ) → 0 < length w → take (length w) whole ≡ w → take (length (take (length w - 1) w)) whole ≡ take (length w - 1) w
one_fewer w whole h e =
    let n : length (take (length w - 1) w) ≡ length w - 1 = omega (arith, length-take (length w - 1) w) in
    ap (λ (k : ℕ). take k whole) n ∙ sym (take_within (length w - 1) (length w) whole (omega arith)) ∙ ap (take (length w - 1)) e

chosen_all : (w : List ℕ) → trimmed_end w ≡ [] → list_all is_blank w ≡ true
chosen_all [] e = refl
chosen_all (b ∷ bs) e = elim (bool_cases (list_all is_blank (b ∷ bs))) [
  | inl t ↦ t
  | inr f ↦ absurd (let bad : b ∷ trimmed_end bs ≡ [] = sym (rw f refl) ∙ e in cc)
]

all_behind : (v w : List ℕ) → list_all is_blank w ≡ true → list_all is_blank (v ++ w) ≡ list_all is_blank v
all_behind [] w h = h
all_behind (a ∷ v) w h = ap (λ (t : Bool). is_blank a && t) (all_behind v w h)

-- a text after which nothing but blanks is
pub blanks_behind : (v w : List ℕ) → trimmed_end w ≡ [] → trimmed_end (v ++ w) ≡ trimmed_end v
blanks_behind [] w e = e
blanks_behind (a ∷ v) w e = rw (all_behind (a ∷ v) w (chosen_all w e)) (elim (bool_cases (list_all is_blank (a ∷ v))) [
  | inl t ↦ rw t refl
  | inr f ↦ rw f (ap (λ (z : List ℕ). a ∷ z) (blanks_behind v w e))
])

some_dark : (v w : List ℕ) → list_all is_blank w ≡ false → list_all is_blank (v ++ w) ≡ false
some_dark [] w h = h
some_dark (a ∷ v) w h = ap (λ (t : Bool). is_blank a && t) (some_dark v w h) ∙ and_false (is_blank a)

not_all_blank : (w : List ℕ) → 0 < length (trimmed_end w) → list_all is_blank w ≡ false
not_all_blank [] h = absurd (omega (arith, h))
not_all_blank (b ∷ bs) h = elim (bool_cases (list_all is_blank (b ∷ bs))) [
  | inl t ↦ absurd (let e : trimmed_end (b ∷ bs) ≡ [] = rw t refl in omega (arith, h, ap length e))
  | inr f ↦ f
]

-- a text after which something is
pub dark_behind : (v w : List ℕ) → 0 < length (trimmed_end w) → trimmed_end (v ++ w) ≡ v ++ trimmed_end w
dark_behind [] w h = refl
dark_behind (a ∷ v) w h = rw (some_dark (a ∷ v) w (not_all_blank w h)) (ap (λ (z : List ℕ). a ∷ z) (dark_behind v w h))

-- ---- pieces

pub piece_gone : (items more : List (List ℕ)) (p : List ℕ) (n : ℕ) (total : List ℕ) → items ≡ more ++ p ∷ [] → take n p ≡ trimmed_end p → n ≡ 0
    → trimmed_end (joined items) ≡ total → trimmed_end (joined more) ≡ total
piece_gone items more p n total e t z h =
    sym (blanks_behind (joined more) p (sym t ∙ ap (λ (k : ℕ). take k p) z)) ∙ ap trimmed_end (sym (joined-push more p)) ∙ ap (λ (ps : List (List ℕ)). trimmed_end (joined ps)) (sym e) ∙ h

pub piece_kept : (items more pushed : List (List ℕ)) (p q : List ℕ) (n : ℕ) (total : List ℕ) → items ≡ more ++ p ∷ [] → take n p ≡ trimmed_end p → 0 < n → n ≤ length p → q ≡ take n p
    → pushed ≡ more ++ q ∷ [] → trimmed_end (joined items) ≡ total → joined pushed ≡ total
piece_kept items more pushed p q n total e t s l f g h =
    let some : 0 < length (trimmed_end p) = omega (arith, s, l, ap length t, length-take n p) in
    ap joined g ∙ joined-push more q ∙ ap (λ (w : List ℕ). joined more ++ w) (f ∙ t) ∙ sym (dark_behind (joined more) p some)
    ∙ ap trimmed_end (sym (joined-push more p)) ∙ ap (λ (ps : List (List ℕ)). trimmed_end (joined ps)) (sym e) ∙ h
