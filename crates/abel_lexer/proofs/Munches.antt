-- The length of a shape, and of a listed word, at the front is that of the longest one there.
use Rattle.std.proofs.Common.{◌≡◌, ℕ, suc, ◌+◌, ◌≤◌, ◌<◌, inl, inr, Bool, true, false, cond, ltb, ◌⊎◌, List, [], ◌∷◌, ◌++◌, length, take, refl, sym, ap, subst, ◌∙◌, arith, add-one, ◌&&◌, ◌==◌, nat_le, nat_lt, nat_eq}
use Rattle.abel_lexer.proofs.Common.{list_all, list_any, prefix_len, starts_with, bytes_eq, str_eq_ignore_ascii_case, take_at, take_all, length-take, ltb-true, ltb-false, leb-true, eqb-true, starts, IsShaped, no_byte, directives, is_listed, shaped_end, shaped_len, listed_len, larger, directive_len}
use Rattle.std.proofs.lemmas.Slice.Eq.{bytes_eq-Decides}
use Rattle.abel_lexer.proofs.Booleans.{bool_cases, and_parts, and_both, or_cases, or_left, or_right}

-- the length at the front is that of the longest token of the kind
pub record Munches (Is : List ℕ → Type 0) (len : List ℕ → ℕ) : Type 0 where
  pub fits : (ts : List ℕ) → len ts ≤ length ts
  pub token : (ts : List ℕ) → 0 < len ts → Is (take (len ts) ts)
  pub longest : (w rest : List ℕ) → Is w → length w ≤ len (w ++ rest)
  pub some : (w : List ℕ) → Is w → 0 < length w

-- ---- runs

pub prefix_fits : (p : ℕ → Bool) (ts : List ℕ) → prefix_len p ts ≤ length ts
prefix_fits p [] = omega arith
prefix_fits p (b ∷ bs) = elim (p b) as (λ v. cond v (1 + prefix_len p bs) 0 ≤ suc (length bs)) [ true ↦ omega (arith, prefix_fits p bs) | false ↦ omega arith ]

pub prefix_passes : (p : ℕ → Bool) (ts : List ℕ) → list_all p (take (prefix_len p ts) ts) ≡ true
prefix_passes p [] = refl
prefix_passes p (b ∷ bs) =
    elim (bool_cases (p b)) [
      | inl e ↦ let one : 1 + prefix_len p bs ≡ suc (prefix_len p bs) = omega arith in rw (e, one) (and_both (p b) _ e (prefix_passes p bs))
      | inr e ↦ rw e refl
    ]

prefix_longest : (p : ℕ → Bool) (w rest : List ℕ) → list_all p w ≡ true → length w ≤ prefix_len p (w ++ rest)
prefix_longest p [] rest h = omega arith
prefix_longest p (b ∷ w) rest h = let q = and_parts (p b) (list_all p w) h in rw q.0 (omega (arith, prefix_longest p w rest q.1))

-- ---- shapes

module _ (later : ℕ → Bool) where
  shaped_fits : (at : ℕ) (tests : List (ℕ → Bool)) (ts : List ℕ) → shaped_end at tests later ts ≤ at + length ts
  shaped_fits at [] ts = omega (arith, prefix_fits later ts)
  shaped_fits at (t ∷ tests) [] = omega arith
  shaped_fits at (t ∷ tests) (b ∷ bs) =
      elim (t b) as (λ v. cond v (shaped_end (at + 1) tests later bs) 0 ≤ at + length (b ∷ bs)) [ true ↦ omega (arith, shaped_fits (at + 1) tests bs) | false ↦ omega arith ]

  -- so many bytes of the front have the shape
  abbrev Reached : ℕ → List (ℕ → Bool) → List ℕ → Type 0
  Reached at tests ts = (n : ℕ) × (shaped_end at tests later ts ≡ at + n) × IsShaped tests later (take n ts)

  reached : (at : ℕ) (tests : List (ℕ → Bool)) (ts : List ℕ) → 0 < shaped_end at tests later ts → Reached at tests ts
  reached at [] ts lt = (prefix_len later ts, refl, prefix_passes later ts)
  reached at (t ∷ tests) [] lt = absurd (omega arith)
  reached at (t ∷ tests) (b ∷ bs) lt =
      elim (bool_cases (t b)) [
        | inl e ↦
            let same : shaped_end at (t ∷ tests) later (b ∷ bs) ≡ shaped_end (at + 1) tests later bs = rw e refl in
            let r = reached (at + 1) tests bs (subst (λ (n : ℕ). 0 < n) same lt) in
            (suc r.0, omega (arith, same, r.1), (e, r.2))
        | inr e ↦ absurd (let none : shaped_end at (t ∷ tests) later (b ∷ bs) ≡ 0 = rw e refl in omega arith)
      ]

  shaped_token : (tests : List (ℕ → Bool)) (ts : List ℕ) → 0 < shaped_len tests later ts → IsShaped tests later (take (shaped_len tests later ts) ts)
  shaped_token tests ts lt =
      let r = reached 0 tests ts lt in
      let n : r.0 ≡ shaped_len tests later ts = omega (arith, r.1) in
      subst (λ (n : ℕ). IsShaped tests later (take n ts)) n r.2

  shaped_above : (at : ℕ) (tests : List (ℕ → Bool)) (w rest : List ℕ) → IsShaped tests later w → at + length w ≤ shaped_end at tests later (w ++ rest)
  shaped_above at [] w rest h = omega (arith, prefix_longest later w rest h)
  shaped_above at (t ∷ tests) [] rest h = absurd h
  shaped_above at (t ∷ tests) (b ∷ w) rest h = rw h.0 (omega (arith, shaped_above (at + 1) tests w rest h.1))

  -- a prefix ends if a byte fails
  prefix_ends : (w rest : List ℕ) → list_all later w ≡ true → starts later rest ≡ false → prefix_len later (w ++ rest) ≡ length w
  prefix_ends [] [] h s = refl
  prefix_ends [] (b ∷ bs) h s = rw s refl
  prefix_ends (b ∷ w) rest h s = let p = and_parts (later b) (list_all later w) h in rw p.0 (omega (arith, prefix_ends w rest p.1 s))

  end_at : (at : ℕ) (tests : List (ℕ → Bool)) (w rest : List ℕ) → IsShaped tests later w → starts later rest ≡ false → shaped_end at tests later (w ++ rest) ≡ at + length w
  end_at at [] w rest h s = omega (arith, prefix_ends w rest h s)
  end_at at (t ∷ tests) [] rest h s = absurd h
  end_at at (t ∷ tests) (b ∷ w) rest h s = rw h.0 (omega (arith, end_at (at + 1) tests w rest h.1 s))

  -- before a byte that fails a shape is all that is at the front
  pub shape_ends : (tests : List (ℕ → Bool)) (w rest : List ℕ) → IsShaped tests later w → starts later rest ≡ false → shaped_len tests later (w ++ rest) ≡ length w
  shape_ends tests w rest h s = omega (arith, end_at 0 tests w rest h s)

  shaped_some : (t : ℕ → Bool) (tests : List (ℕ → Bool)) (w : List ℕ) → IsShaped (t ∷ tests) later w → 0 < length w
  shaped_some t tests [] h = absurd h
  shaped_some t tests (b ∷ w) h = omega arith

  pub shaped_munches : (t : ℕ → Bool) (tests : List (ℕ → Bool)) → Munches (IsShaped (t ∷ tests) later) (shaped_len (t ∷ tests) later)
  shaped_munches t tests =
      record { fits = λ ts. omega (arith, shaped_fits 0 (t ∷ tests) ts); token = shaped_token (t ∷ tests); longest = λ w rest h. omega (arith, shaped_above 0 (t ∷ tests) w rest h); some = shaped_some t tests }

-- no byte at the front passes the test that none passes
pub none_passes : (ts : List ℕ) → prefix_len no_byte ts ≡ 0
none_passes [] = refl
none_passes (b ∷ bs) = refl

-- ---- one form or another

larger_is : (P : ℕ → Type 0) (a b : ℕ) → P a → P b → P (larger a b)
larger_is P a b p q = elim (ltb a b) as (λ v. P (cond v b a)) [ true ↦ q | false ↦ p ]

larger_above : (a b : ℕ) → (a ≤ larger a b) × (b ≤ larger a b)
larger_above a b =
    elim (bool_cases (ltb a b)) [
      | inl e ↦ rw e (let lt = ltb-true _ _ e in omega arith, omega arith)
      | inr e ↦ rw e (omega arith, let le = ltb-false _ _ e in omega arith)
    ]

pub either_munches : {P Q : List ℕ → Type 0} {f g : List ℕ → ℕ} → Munches P f → Munches Q g → Munches (λ w. P w ⊎ Q w) (λ ts. larger (f ts) (g ts))
either_munches {P} {Q} {f} {g} m n =
    record {
      fits = λ ts. larger_is (λ k. k ≤ length ts) (f ts) (g ts) (m.fits ts) (n.fits ts);
      token = λ ts. larger_is (λ k. 0 < k → P (take k ts) ⊎ Q (take k ts)) (f ts) (g ts) (λ lt. inl (m.token ts lt)) (λ lt. inr (n.token ts lt));
      longest = λ w rest h. elim h [
        | inl p ↦ let a = larger_above (f (w ++ rest)) (g (w ++ rest)) in omega (arith, m.longest w rest p, a.0)
        | inr q ↦ let a = larger_above (f (w ++ rest)) (g (w ++ rest)) in omega (arith, n.longest w rest q, a.1)
      ];
      some = λ w h. elim h [ inl p ↦ m.some w p | inr q ↦ n.some w q ];
    }

-- ---- words

-- the words are not empty, and none is after a shorter one
abbrev falling : ℕ → List (List ℕ) → Bool
falling n [] = true
falling n (s ∷ ss) = nat_le (length s) n && (nat_lt 0 (length s) && falling (length s) ss)

abbrev is_one_of : List (List ℕ) → List ℕ → Bool
is_one_of ws w = list_any (λ s. bytes_eq s w) ws

pub same_bytes : (s w : List ℕ) → bytes_eq s w ≡ true → s ≡ w
same_bytes s w e = (bytes_eq-Decides s w).0 e

listed_within : (n : ℕ) (ws : List (List ℕ)) (w : List ℕ) → falling n ws ≡ true → is_one_of ws w ≡ true → length w ≤ n
listed_within n [] w f h = absurd cc
listed_within n (s ∷ ss) w f h =
    let p = and_parts (nat_le (length s) n) _ f in
    let q = and_parts (nat_lt 0 (length s)) (falling (length s) ss) p.1 in
    let le : length s ≤ n = leb-true _ _ p.0 in
    elim (or_cases (bytes_eq s w) (is_one_of ss w) h) [
      | inl e ↦ omega (arith, ap length (same_bytes s w e))
      | inr e ↦ omega (arith, listed_within (length s) ss w q.1 e)
    ]

listed_starts : (s rest : List ℕ) → starts_with nat_eq (s ++ rest) s ≡ true
listed_starts s rest = (bytes_eq-Decides s (take (length s) (s ++ rest))).1 (sym (take_at s rest (length s) refl))

listed_longest : (n : ℕ) (ws : List (List ℕ)) (w rest : List ℕ) → falling n ws ≡ true → is_one_of ws w ≡ true → length w ≤ listed_len ws (w ++ rest)
listed_longest n [] w rest f h = absurd cc
listed_longest n (s ∷ ss) w rest f h =
    let p = and_parts (nat_le (length s) n) _ f in
    let q = and_parts (nat_lt 0 (length s)) (falling (length s) ss) p.1 in
    elim (or_cases (bytes_eq s w) (is_one_of ss w) h) [
      | inl e ↦ let is : s ≡ w = same_bytes s w e in
          let d : starts_with nat_eq (w ++ rest) s ≡ true = subst (λ (m : List ℕ). starts_with nat_eq (m ++ rest) s ≡ true) is (listed_starts s rest) in
          rw d (omega (arith, ap length is))
      | inr e ↦ elim (bool_cases (starts_with nat_eq (w ++ rest) s)) [
        | inl d ↦ rw d (listed_within (length s) ss w q.1 e)
        | inr d ↦ rw d (listed_longest (length s) ss w rest q.1 e)
      ]
    ]

listed_fits : (ws : List (List ℕ)) (ts : List ℕ) → listed_len ws ts ≤ length ts
listed_fits [] ts = omega arith
listed_fits (s ∷ ss) ts =
    elim (bool_cases (starts_with nat_eq ts s)) [
      | inl d ↦ rw d (let is : s ≡ take (length s) ts = (bytes_eq-Decides s (take (length s) ts)).0 d in omega (arith, ap length is, length-take (length s) ts))
      | inr d ↦ rw d (listed_fits ss ts)
    ]

listed_token : (ws : List (List ℕ)) (ts : List ℕ) → 0 < listed_len ws ts → is_one_of ws (take (listed_len ws ts) ts) ≡ true
listed_token [] ts lt = absurd (omega arith)
listed_token (s ∷ ss) ts lt =
    elim (bool_cases (starts_with nat_eq ts s)) [
      | inl d ↦
          let n : listed_len (s ∷ ss) ts ≡ length s = rw d refl in
          subst (λ (m : ℕ). is_one_of (s ∷ ss) (take m ts) ≡ true) (sym n) (or_left (bytes_eq s (take (length s) ts)) (is_one_of ss (take (length s) ts)) d)
      | inr d ↦
          let n : listed_len (s ∷ ss) ts ≡ listed_len ss ts = rw d refl in
          subst (λ (m : ℕ). is_one_of (s ∷ ss) (take m ts) ≡ true) (sym n) (or_right (bytes_eq s (take (listed_len ss ts) ts)) (is_one_of ss (take (listed_len ss ts) ts)) (listed_token ss ts (omega arith)))
    ]

listed_some : (n : ℕ) (ws : List (List ℕ)) (w : List ℕ) → falling n ws ≡ true → is_one_of ws w ≡ true → 0 < length w
listed_some n [] w f h = absurd cc
listed_some n (s ∷ ss) w f h =
    let p = and_parts (nat_le (length s) n) _ f in
    let q = and_parts (nat_lt 0 (length s)) (falling (length s) ss) p.1 in
    let lt : 0 < length s = ltb-true _ _ q.0 in
    elim (or_cases (bytes_eq s w) (is_one_of ss w) h) [
      | inl e ↦ omega (arith, ap length (same_bytes s w e))
      | inr e ↦ listed_some (length s) ss w q.1 e
    ]

pub listed_munches : (n : ℕ) (ws : List (List ℕ)) → falling n ws ≡ true → Munches (λ w. is_one_of ws w ≡ true) (listed_len ws)
listed_munches n ws f = record { fits = listed_fits ws; token = listed_token ws; longest = λ w rest h. listed_longest n ws w rest f h; some = λ w h. listed_some n ws w f h }

-- ---- words without regard to case

-- each of these words has so many bytes
abbrev each_has : ℕ → List (List ℕ) → Bool
each_has n ws = list_all (λ w. length w == n) ws

pub same_length : (s w : List ℕ) → str_eq_ignore_ascii_case s w ≡ true → length s ≡ length w
same_length [] [] e = refl
same_length [] (b ∷ w) e = absurd cc
same_length (a ∷ s) [] e = absurd cc
same_length (a ∷ s) (b ∷ w) e = let p = and_parts _ (str_eq_ignore_ascii_case s w) e in omega (arith, same_length s w p.1)

pub listed_length : (n : ℕ) (ws : List (List ℕ)) (w : List ℕ) → each_has n ws ≡ true → is_listed ws w ≡ true → length w ≡ n
listed_length n [] w f h = absurd cc
listed_length n (s ∷ ss) w f h =
    let p = and_parts (length s == n) (each_has n ss) f in
    elim (or_cases (str_eq_ignore_ascii_case s w) (is_listed ss w) h) [
      | inl e ↦ sym (same_length s w e) ∙ eqb-true _ _ p.0
      | inr e ↦ listed_length n ss w p.1 e
    ]

directive_is : (ts : List ℕ) → 0 < directive_len ts → (directive_len ts ≡ 6) × (is_listed directives (take 6 ts) ≡ true)
directive_is ts lt =
    elim (bool_cases (is_listed directives (take 6 ts))) [
      | inl e ↦ (rw e refl, e)
      | inr e ↦ absurd (let none : directive_len ts ≡ 0 = rw e refl in omega arith)
    ]

pub directive_munches : Munches (λ w. is_listed directives w ≡ true) directive_len
directive_munches =
    record {
      fits = λ ts. elim (bool_cases (is_listed directives (take 6 ts))) [
        | inl e ↦ rw e (omega (arith, listed_length 6 directives (take 6 ts) refl e, length-take 6 ts))
        | inr e ↦ rw e (omega arith)
      ];
      token = λ ts lt. let d = directive_is ts lt in subst (λ (n : ℕ). is_listed directives (take n ts) ≡ true) (sym d.0) d.1;
      longest = λ w rest h.
          let n = listed_length 6 directives w refl h in
          let front : is_listed directives (take 6 (w ++ rest)) ≡ true = subst (λ (v : List ℕ). is_listed directives v ≡ true) (sym (take_at w rest 6 n)) h in
          rw front (omega (arith, n));
      some = λ w h. omega (arith, listed_length 6 directives w refl h);
    }

-- a short text is its first six bytes
pub all_taken : (ts : List ℕ) → length ts < 6 → ts ≡ take 6 ts
all_taken ts lt = sym (take_all 6 ts (omega arith))
