-- Signals that have to be given pins, with one name more; no more than 32 of them are kept.
use Rattle.std.proofs.Common.{◌≡◌, ℕ, suc, ◌+◌, ◌<◌, ◌≤◌, nat_lt, Bool, true, false, ◌&&◌, List, [], ◌∷◌, ◌++◌, if◌then◌else◌, map, take, length, get_or, min, refl, sym, ap, ◌∙◌, arith}
use Rattle.placer.proofs.Common.{append-nil, length-append, length-map, length-take, take_all, take-append-le, nat_tests, Table, Declared, Entry, view_declared, needs_pin, to_place, to_place_from, with_signal}
use Rattle.placer.proofs.Mapped.{mapped_more}

place_push : (t : Table) (s : ℕ) (es : List Entry) (e : Entry) → to_place_from t s (es ++ e ∷ []) ≡ to_place_from t s es ++ (if needs_pin t e then (s + length es) ∷ [] else [])
place_push t s [] e = by (needs_pin t e)
  where
    start : (n : ℕ) → n ≡ n + 0
    start n = omega arith

    by : (b : Bool) → (if b then s ∷ [] else []) ≡ (if b then (s + 0) ∷ [] else [])
    by true = ap (λ n. n ∷ []) (start s)
    by false = refl
place_push t s (x ∷ es) e = by (needs_pin t x) (place_push t (suc s) es e ∙ ap (λ n. to_place_from t (suc s) es ++ (if needs_pin t e then n ∷ [] else [])) (step s (length es)))
  where
    step : (n k : ℕ) → suc n + k ≡ n + suc k
    step n k = omega arith

    by : (b : Bool) → to_place_from t (suc s) (es ++ e ∷ []) ≡ to_place_from t (suc s) es ++ (if needs_pin t e then (s + length (x ∷ es)) ∷ [] else [])
        → (if b then s ∷ to_place_from t (suc s) (es ++ e ∷ []) else to_place_from t (suc s) (es ++ e ∷ [])) ≡ (if b then s ∷ to_place_from t (suc s) es else to_place_from t (suc s) es) ++ (if needs_pin t e then (s + length (x ∷ es)) ∷ [] else [])
    by true later = ap (λ l. s ∷ l) later
    by false later = later

-- ---- no more than so many

take_push : (n : ℕ) (xs : List ℕ) (y : ℕ) → length (take n xs) < n → take n xs ++ y ∷ [] ≡ take n (xs ++ y ∷ [])
take_push n xs y few =
    let long = length-take n xs in
    let short : length xs < n = less n (length xs) (length (take n xs)) long few in
    let more = length-append xs (y ∷ []) in
    ap (λ l. l ++ y ∷ []) (take_all n xs (omega (arith, short))) ∙ sym (take_all n (xs ++ y ∷ []) (omega (arith, short, more)))
  where
    less : (a b c : ℕ) → c ≡ min a b → c < a → b < a
    less a b c is low = omega (arith, is, low)

take_full : (n : ℕ) (xs ys : List ℕ) → n ≤ length (take n xs) → take n xs ≡ take n (xs ++ ys)
take_full n xs ys many = sym (take-append-le n xs ys (full n (length xs) (length (take n xs)) (length-take n xs) many))
  where
    full : (a b c : ℕ) → c ≡ min a b → a ≤ c → a ≤ b
    full a b c is low = omega (arith, is, low)

module _ (t : Table) (ds : List Declared) (k : ℕ) (d : Declared) (low : k < length ds) (at : d ≡ get_or ds k d) where
  abbrev so_far : List ℕ
  so_far = to_place t (map view_declared (take k ds))

  as_many : 0 + length (map view_declared (take k ds)) ≡ k
  as_many = plain (length (map view_declared (take k ds))) ∙ (length-map (take k ds) view_declared ∙ (length-take k ds ∙ less k (length ds) low))
    where
      plain : (n : ℕ) → 0 + n ≡ n
      plain n = omega arith

      less : (a b : ℕ) → a < b → min a b ≡ a
      less a b h = omega (arith, h)

  one_more : so_far ++ (if needs_pin t (view_declared d) then k ∷ [] else []) ≡ to_place t (map view_declared (take (k + 1) ds))
  one_more =
      sym (ap (to_place t) (mapped_more view_declared ds k d low at)
      ∙ (place_push t 0 (map view_declared (take k ds)) (view_declared d)
      ∙ ap (λ n. so_far ++ (if needs_pin t (view_declared d) then n ∷ [] else [])) as_many))

  pub needed : (xs : List ℕ) → xs ≡ take 32 so_far → length xs < 32 → needs_pin t (view_declared d) ≡ true → xs ++ k ∷ [] ≡ take 32 (to_place t (map view_declared (take (k + 1) ds)))
  needed xs is few needs =
      let count : length xs ≡ length (take 32 so_far) = ap length is in
      ap (λ l. l ++ k ∷ []) is
      ∙ (take_push 32 so_far k (omega (arith, few, count))
      ∙ ap (take 32) (sym (ap (λ b. so_far ++ (if b then k ∷ [] else [])) needs) ∙ one_more))

  pub not_needed : (xs : List ℕ) → xs ≡ take 32 so_far → needs_pin t (view_declared d) ≡ false → xs ≡ take 32 (to_place t (map view_declared (take (k + 1) ds)))
  not_needed xs is other =
      is ∙ ap (take 32) (sym (append-nil so_far) ∙ (sym (ap (λ b. so_far ++ (if b then k ∷ [] else [])) other) ∙ one_more))

  pub enough : (xs : List ℕ) → xs ≡ take 32 so_far → 32 ≤ length xs → xs ≡ take 32 (to_place t (map view_declared (take (k + 1) ds)))
  enough xs is many =
      let count : length xs ≡ length (take 32 so_far) = ap length is in
      is ∙ (take_full 32 so_far (if needs_pin t (view_declared d) then k ∷ [] else []) (omega (arith, many, count)) ∙ ap (take 32) one_more)

  pub one_signal : (xs : List ℕ) → xs ≡ take 32 so_far → with_signal t xs k (view_declared d) ≡ take 32 (to_place t (map view_declared (take (k + 1) ds)))
  one_signal xs is = by (nat_lt (length xs) 32) (needs_pin t (view_declared d)) refl refl
    where
      by : (a b : Bool) → nat_lt (length xs) 32 ≡ a → needs_pin t (view_declared d) ≡ b
          → (if a && b then xs ++ k ∷ [] else xs) ≡ take 32 (to_place t (map view_declared (take (k + 1) ds)))
      by true true room needs = needed xs is (grind (arith, nat_tests, room)) needs
      by true false room other = not_needed xs is other
      by false b full any = enough xs is (grind (arith, nat_tests, full))
