-- Marks that names pass on, from the last one to the first: in the end a name is marked as it counts where something counted
-- that was marked at the beginning, or that names gave to which that occurs.
use Rattle.std.proofs.Common.{◌≡◌, ◌≢◌, ℕ, zero, suc, ◌==◌, ◌<◌, ◌≤◌, Bool, true, false, ◌||◌, ◌&&◌, List, [], ◌∷◌, ◌++◌, length, get_or, refl, sym, ap, ap₂, ◌∙◌, arith, replicate}
use Rattle.declared_names.proofs.Common.{list_any, list_any-append, eq-eqb, eqb-true, true≢false, nat_tests, fold-append, length-replicate, length-set, and-false, and-true, or-true, or-false, or_assoc, or_self, Assigned, Mark, all_marked, clear, hit, marked, passed, raised, get_or-replicate, get_or-set_other}
use Rattle.std.proofs.lemmas.Grind.{get_or-set_at}

abbrev pub at : List Mark → ℕ → Mark
at ms k = get_or ms k clear

-- what counts if it is named plainly, or strongly
abbrev pub weighs : (Bool → Bool) → Mark → Bool
weighs w m = (m.plain && w false) || (m.strong && w true)

pub strong_alone : (b : Bool) (m : Mark) → b ≡ true → m.strong ≡ weighs (λ c. b && (false || c)) m
strong_alone true m is = sym (ap₂ (λ p s. p || s) (and-false m.plain) (and-true m.strong))
strong_alone false m is = absurd cc

pub higher : (j k : ℕ) → k < j → (j == k) ≡ false
higher j k h = grind (arith, nat_tests)

pub lower : (j k : ℕ) → j < k → (j == k) ≡ false
lower j k h = grind (arith, nat_tests)

-- ---- marks by what is named

raised_weighs : (w : Bool → Bool) (c : Bool) (m : Mark) → weighs w (raised c m) ≡ (weighs w m || w c)
raised_weighs w true m = strongly m.strong (m.plain && w false) (w true)
  where
    strongly : (s a b : Bool) → (a || b) ≡ ((a || (s && b)) || b)
    strongly s true b = refl
    strongly true false b = sym (or_self b)
    strongly false false b = refl
raised_weighs w false m = plainly m.plain (w false) (m.strong && w true)
  where
    plainly : (p a b : Bool) → (a || b) ≡ (((p && a) || b) || a)
    plainly true true b = refl
    plainly true false b = sym (or-false b)
    plainly false a true = or-true a
    plainly false true false = refl
    plainly false false false = refl

hit_at : (w : Bool → Bool) (c : Bool) (ms : List Mark) (j k : ℕ) → k < length ms → weighs w (at (hit c ms j) k) ≡ (weighs w (at ms k) || ((j == k) && w c))
hit_at w c ms j k h = by (j == k) refl
  where
    by : (b : Bool) → (j == k) ≡ b → weighs w (at (hit c ms j) k) ≡ (weighs w (at ms k) || (b && w c))
    by true is =
        let same = eqb-true j k is in
        ap (weighs w) (get_or-set_at ms j k (raised c (at ms j)) clear (sym same) (omega (arith, h, same)))
        ∙ (raised_weighs w c (at ms j) ∙ ap (λ n. weighs w (at ms n) || w c) same)
    by false is =
        let apart : k ≢ j = λ same. true≢false (sym (eq-eqb j k (sym same)) ∙ is) in
        ap (weighs w) (get_or-set_other ms j k (raised c (at ms j)) clear apart) ∙ sym (or-false (weighs w (at ms k)))

-- what is named counts
abbrev pub counted : (ℕ → Bool → Bool) → Assigned → Bool
counted w a = w a.signal a.clocked

all_at : (w : Bool → Bool) (found : List Assigned) (ms : List Mark) (k : ℕ) → k < length ms → weighs w (at (all_marked ms found) k) ≡ (weighs w (at ms k) || list_any (counted (λ j c. (j == k) && w c)) found)
all_at w [] ms k h = sym (or-false (weighs w (at ms k)))
all_at w (a ∷ found) ms k h =
    let counts = λ (j : ℕ) (c : Bool). (j == k) && w c in
    let long = length-set ms a.signal (raised a.clocked (at ms a.signal)) in
    all_at w found (hit a.clocked ms a.signal) k (omega (arith, h, long))
    ∙ (ap (λ b. b || list_any (counted counts) found) (hit_at w a.clocked ms a.signal k h) ∙ or_assoc (weighs w (at ms k)) (counted counts a) (list_any (counted counts) found))

-- nothing is marked at the beginning
named_at : (w : Bool → Bool) (n : ℕ) (found : List Assigned) (k : ℕ) → k < n → weighs w (at (all_marked (replicate n clear) found) k) ≡ list_any (counted (λ j c. (j == k) && w c)) found
named_at w n found k h =
    all_at w found (replicate n clear) k (omega (arith, h, length-replicate n clear))
    ∙ ap (λ m. weighs w m || list_any (counted (λ j c. (j == k) && w c)) found) (get_or-replicate n k clear clear h)

-- ---- the names, from the last to the first

any_or : (p q : Assigned → Bool) (xs : List Assigned) → list_any (λ a. p a || q a) xs ≡ (list_any p xs || list_any q xs)
any_or p q [] = refl
any_or p q (x ∷ xs) = ap (λ b. (p x || q x) || b) (any_or p q xs) ∙ exchange (p x) (q x) (list_any p xs) (list_any q xs)
  where
    exchange : (a b c d : Bool) → ((a || b) || (c || d)) ≡ ((a || c) || (b || d))
    exchange false b true d = or-true b
    exchange _ _ _ d = refl

module _ (s : ℕ) (w : Bool → Bool) (each : ℕ → Bool → List Assigned) where
  -- the name s counts itself, one of the first so many where what it gives does
  abbrev pub reach : ℕ → ℕ → Bool → Bool
  reach zero j c = (j == s) && w c
  reach (suc k) j c = reach k j c || ((j == k) && list_any (counted (reach k)) (each k c))

  pub reach_beyond : (k j : ℕ) (c : Bool) → k ≤ j → reach k j c ≡ ((j == s) && w c)
  reach_beyond zero j c h = refl
  reach_beyond (suc k) j c h =
      ap₂ (λ a b. a || (b && list_any (counted (reach k)) (each k c))) (reach_beyond k j c (omega (arith, h))) (higher j k (omega (arith, h)))
      ∙ or-false ((j == s) && w c)

  module _ (n : ℕ) (low : s < n) (gives : ℕ → Mark → List Assigned) (by_mark : (v : ℕ → Bool → Bool) (k : ℕ) (m : Mark) → list_any (counted v) (gives k m) ≡ weighs (λ c. list_any (counted v) (each k c)) m) where
    pub found_in_the_end : (k : ℕ) (found : List Assigned) → k ≤ n → weighs w (at (passed gives k (all_marked (replicate n clear) found)) s) ≡ list_any (counted (reach k)) found
    found_in_the_end zero found h = named_at w n found s low
    found_in_the_end (suc k) found h =
        let ms = all_marked (replicate n clear) found in
        let more = gives k (at ms k) in
        let passes = λ (c : Bool). list_any (counted (reach k)) (each k c) in
        ap (λ l. weighs w (at (passed gives k l) s)) (sym (fold-append marked (replicate n clear) found more))
        ∙ (found_in_the_end k (found ++ more) (omega (arith, h))
        ∙ (list_any-append (counted (reach k)) found more
        ∙ (ap (λ b. list_any (counted (reach k)) found || b) (by_mark (reach k) k (at ms k) ∙ named_at passes n found k (omega (arith, h)))
        ∙ sym (any_or (counted (reach k)) (counted (λ j c. (j == k) && passes c)) found))))
