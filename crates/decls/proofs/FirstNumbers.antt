-- The first numbers of a declaration are the same however many are written out.
use Rattle.std.proofs.Common.{◌≡◌, ◌⊎◌, inl, inr, ℕ, zero, suc, ◌+◌, ◌-◌, ◌<◌, ◌≤◌, Bool, true, false, List, [], ◌∷◌, ◌++◌, Option, Some, None, map, fold, take, drop, length, get_or, refl, sym, ap, ap₂, ◌∙◌, append_assoc, arith, min}
use Rattle.decls.proofs.Common.{range_with_len, take-append-add, leb_tells, take-append-drop, take-append-le, drop-take, length-append, length-map, length-range_with_len, take-map-range_with_len, fold-append, Table, Item, Number, Span, Words, span_count, span_numbers, numbers_of, item_names, GivenName, given_names, number_at, HasNumbers, given_by, Progress, node_step, pin_step, with_numbers}
use Rattle.std.proofs.Math.Dec.{leb}
use Rattle.std.proofs.Math.Nat.{min-eq_left, min_comm}
use Rattle.decls.proofs.Folded.{given_more, ranged}

-- ---- the first numbers of spans

module _ (f : ℕ → ℕ) (m c : ℕ) where
  within : (r : ℕ) → m ≤ r → m ≤ c → m ≤ min r c
  within r h k = by (leb_tells r c)
    where
      by : ((leb r c ≡ true) × (r ≤ c)) ⊎ ((leb r c ≡ false) × (c < r)) → m ≤ min r c
      by (inl e) = let same = min-eq_left e.1 in omega (arith, same, h)
      by (inr e) = let below : c ≤ r = omega (arith, e.1) in let same = min_comm r c ∙ min-eq_left below in omega (arith, same, k)

  shorter : (r : ℕ) (rest : List ℕ) → m ≤ r → m ≤ c → take m (map f (range_with_len 0 (min r c)) ++ rest) ≡ map f (range_with_len 0 m)
  shorter r rest h k =
      let size : length (map f (range_with_len 0 (min r c))) ≡ min r c = length-map (range_with_len 0 (min r c)) f ∙ length-range_with_len 0 (min r c) in
      let fits = within r h k in
      take-append-le m (map f (range_with_len 0 (min r c))) rest (omega (arith, size, fits))
      ∙ take-map-range_with_len f 0 (min r c) m fits

  longer : (r : ℕ) (rest : List ℕ) → m ≤ r → c < m → take m (map f (range_with_len 0 (min r c)) ++ rest) ≡ map f (range_with_len 0 c) ++ take (m - c) rest
  longer r rest h k =
      let size : length (map f (range_with_len 0 c)) ≡ c = length-map (range_with_len 0 c) f ∙ length-range_with_len 0 c in
      let below : c ≤ r = omega (arith, h, k) in
      let all : m ≡ length (map f (range_with_len 0 c)) + (m - c) = omega (arith, size, k) in
      ap (λ n. take m (map f (range_with_len 0 n) ++ rest)) (min_comm r c ∙ min-eq_left below)
      ∙ (ap (λ n. take n (map f (range_with_len 0 c) ++ rest)) all
      ∙ take-append-add (map f (range_with_len 0 c)) rest (m - c))

  range_first : (a b : ℕ) (xs ys : List ℕ) → m ≤ a → m ≤ b → take (m - c) xs ≡ take (m - c) ys
      → take m (map f (range_with_len 0 (min a c)) ++ xs) ≡ take m (map f (range_with_len 0 (min b c)) ++ ys)
  range_first a b xs ys h k e = by (leb_tells m c)
    where
      by : ((leb m c ≡ true) × (m ≤ c)) ⊎ ((leb m c ≡ false) × (c < m)) → take m (map f (range_with_len 0 (min a c)) ++ xs) ≡ take m (map f (range_with_len 0 (min b c)) ++ ys)
      by (inl g) = shorter a xs h g.1 ∙ sym (shorter b ys k g.1)
      by (inr g) = longer a xs h g.1 ∙ (ap (λ l. map f (range_with_len 0 c) ++ l) e ∙ sym (longer b ys k g.1))

abbrev pub SameFirst : List Span → Type 0
SameFirst ss = (m a b : ℕ) → m ≤ a → m ≤ b → take m (numbers_of a ss) ≡ take m (numbers_of b ss)

one_first : (first : ℕ) (ss : List Span) (m a b : ℕ) → SameFirst ss → m ≤ a → m ≤ b → take m (first ∷ numbers_of (a - 1) ss) ≡ take m (first ∷ numbers_of (b - 1) ss)
one_first first ss zero a b ih h k = refl
one_first first ss (suc m) a b ih h k = ap (λ l. first ∷ l) (ih m (a - 1) (b - 1) (omega (arith, h)) (omega (arith, k)))

span_first : (first : ℕ) (last : Option Number) (ss : List Span) (m a b : ℕ) → SameFirst ss → m ≤ a → m ≤ b
    → take m (span_numbers a first last ++ numbers_of (a - span_count first last) ss) ≡ take m (span_numbers b first last ++ numbers_of (b - span_count first last) ss)
span_first first None ss m a b ih h k = one_first first ss m a b ih h k
span_first first (Some last) ss m a b ih h k =
    let c = span_count first (Some last) in
    ap (λ l. take m (l ++ numbers_of (a - c) ss)) (sym (ranged a first last))
    ∙ (range_first (number_at first last.value) m c a b (numbers_of (a - c) ss) (numbers_of (b - c) ss) h k (ih (m - c) (a - c) (b - c) (omega (arith, h)) (omega (arith, k)))
    ∙ ap (λ l. take m (l ++ numbers_of (b - c) ss)) (ranged b first last))

pub same_first : (ss : List Span) → SameFirst ss
same_first [] m a b h k = refl
same_first (s ∷ ss) m a b h k = span_first s.first.value s.last ss m a b (same_first ss) h k

-- all numbers, or the first of them
pub has_numbers : (skips : Bool) (room count : ℕ) (ss : List Span) → room ≤ count → (skips ≡ false → room ≡ count) → HasNumbers skips room (numbers_of room ss) (numbers_of count ss)
has_numbers skips room count ss h e = record {
  whole = λ k. ap (λ n. numbers_of n ss) (e k);
  first = λ m k. same_first ss m room count k (omega (arith, h, k));
}

-- ---- names with their numbers

with_first : (xs : List GivenName) (ns ms : List ℕ) → take (length xs) ns ≡ take (length xs) ms → with_numbers xs ns ≡ with_numbers xs ms
with_first [] ns ms e = refl
with_first (x ∷ xs) [] [] e = refl
with_first (x ∷ xs) [] (m ∷ ms) e = absurd cc
with_first (x ∷ xs) (n ∷ ns) [] e = absurd cc
with_first (x ∷ xs) (n ∷ ns) (m ∷ ms) e =
    let same : n ≡ m = cc in
    let rest : take (length xs) ns ≡ take (length xs) ms = cc in
    ap₂ (λ k l. (x, Some k) ∷ l) same (with_first xs ns ms rest)

drop_none : (n : ℕ) → ◌≡◌ {A = List ℕ} (drop n []) []
drop_none zero = refl
drop_none (suc n) = refl

pub with_append : (xs ys : List GivenName) (ns : List ℕ) → with_numbers (xs ++ ys) ns ≡ with_numbers xs ns ++ with_numbers ys (drop (length xs) ns)
with_append [] ys ns = refl
with_append (x ∷ xs) ys [] = ap (λ l. (x, None) ∷ l) (with_append xs ys [] ∙ ap (λ l. with_numbers xs [] ++ with_numbers ys l) (drop_none (length xs)))
with_append (x ∷ xs) ys (n ∷ ns) = ap (λ l. (x, Some n) ∷ l) (with_append xs ys ns)

pub numbers_enough : (skips : Bool) (room : ℕ) (numbers ns : List ℕ) (o left : ℕ) (xs : List GivenName) → HasNumbers skips room numbers ns → left ≡ room - o → (skips ≡ false) ⊎ (length xs ≤ left)
    → with_numbers xs (drop o numbers) ≡ with_numbers xs (drop o ns)
numbers_enough skips room numbers ns o left xs h e (inl k) = ap (λ l. with_numbers xs (drop o l)) (h.whole k)
numbers_enough skips room numbers ns o left [] h e (inr k) = refl
numbers_enough skips room numbers ns o left (x ∷ xs) h e (inr k) =
    let c = length (x ∷ xs) in
    with_first (x ∷ xs) (drop o numbers) (drop o ns)
    (sym (drop-take o c numbers) ∙ (ap (drop o) (h.first (o + c) (omega (arith, e, k))) ∙ drop-take o c ns))

-- ---- items one after the other

given_append : (xs ys : List Item) → given_names (xs ++ ys) ≡ given_names xs ++ given_names ys
given_append [] ys = refl
given_append (x ∷ xs) ys =
    ap (λ l. map (given_by x) (item_names x) ++ l) (given_append xs ys)
    ∙ sym (append_assoc (map (given_by x) (item_names x)) (given_names xs) (given_names ys))

given_parts : (k : ℕ) (xs : List Item) → given_names (take k xs) ++ given_names (drop k xs) ≡ given_names xs
given_parts k xs = sym (given_append (take k xs) (drop k xs)) ∙ ap given_names (take-append-drop k xs)

pub nodes_rest : (w : Words) (xs : List Item) (k : ℕ) (s : Progress) → fold (node_step w) (fold (node_step w) s (given_names (take k xs))) (given_names (drop k xs)) ≡ fold (node_step w) s (given_names xs)
nodes_rest w xs k s =
    sym (fold-append (node_step w) s (given_names (take k xs)) (given_names (drop k xs)))
    ∙ ap (fold (node_step w) s) (given_parts k xs)

pub nodes_more : (w : Words) (xs : List Item) (k : ℕ) (x : Item) (s : Progress) → k < length xs → x ≡ get_or xs k x
    → fold (node_step w) (fold (node_step w) s (given_names (take k xs))) (map (given_by x) (item_names x)) ≡ fold (node_step w) s (given_names (take (k + 1) xs))
nodes_more w xs k x s h i =
    sym (fold-append (node_step w) s (given_names (take k xs)) (map (given_by x) (item_names x)))
    ∙ ap (fold (node_step w) s) (sym (given_more xs k x h i))

pub pins_rest : (t : Table) (w : Words) (xs : List Item) (k : ℕ) (ns : List ℕ) (s : Progress)
    → fold (pin_step t w) (fold (pin_step t w) s (with_numbers (given_names (take k xs)) ns)) (with_numbers (given_names (drop k xs)) (drop (length (given_names (take k xs))) ns)) ≡ fold (pin_step t w) s (with_numbers (given_names xs) ns)
pins_rest t w xs k ns s =
    sym (fold-append (pin_step t w) s (with_numbers (given_names (take k xs)) ns) (with_numbers (given_names (drop k xs)) (drop (length (given_names (take k xs))) ns)))
    ∙ ap (fold (pin_step t w) s) (sym (with_append (given_names (take k xs)) (given_names (drop k xs)) ns) ∙ ap (λ l. with_numbers l ns) (given_parts k xs))

pub pins_more : (t : Table) (w : Words) (xs : List Item) (k : ℕ) (x : Item) (ns ms : List ℕ) (s : Progress) → k < length xs → x ≡ get_or xs k x
    → with_numbers (map (given_by x) (item_names x)) ms ≡ with_numbers (map (given_by x) (item_names x)) (drop (length (given_names (take k xs))) ns)
    → fold (pin_step t w) (fold (pin_step t w) s (with_numbers (given_names (take k xs)) ns)) (with_numbers (map (given_by x) (item_names x)) ms) ≡ fold (pin_step t w) s (with_numbers (given_names (take (k + 1) xs)) ns)
pins_more t w xs k x ns ms s h i e =
    let step = pin_step t w in
    let before = given_names (take k xs) in
    let here = map (given_by x) (item_names x) in
    ap (fold step (fold step s (with_numbers before ns))) e
    ∙ (sym (fold-append step s (with_numbers before ns) (with_numbers here (drop (length before) ns)))
    ∙ ap (fold step s) (sym (with_append before here ns) ∙ ap (λ l. with_numbers l ns) (sym (given_more xs k x h i))))

pub longer_by : (xs : List Item) (k : ℕ) (x : Item) → k < length xs → x ≡ get_or xs k x → length (given_names (take (k + 1) xs)) ≡ length (given_names (take k xs)) + length (map (given_by x) (item_names x))
longer_by xs k x h i = ap length (given_more xs k x h i) ∙ length-append (given_names (take k xs)) (map (given_by x) (item_names x))

pub drop_twice : (a b : ℕ) (l : List ℕ) → drop b (drop a l) ≡ drop (a + b) l
drop_twice zero b l = ap (λ n. drop n l) (plus_zero b)
  where
    plus_zero : (n : ℕ) → n ≡ zero + n
    plus_zero n = omega arith
drop_twice (suc a) b [] = drop_none b ∙ sym (drop_none (suc a + b))
drop_twice (suc a) b (x ∷ l) = drop_twice a b l ∙ ap (λ n. drop n (x ∷ l)) (suc_plus a b)
  where
    suc_plus : (m n : ℕ) → suc (m + n) ≡ suc m + n
    suc_plus m n = omega arith

pub enough_for : (skips : Bool) (left : ℕ) (own : Bool) (count size : ℕ) → own ≡ skips → count ≡ size → (own ≡ false) ⊎ (count ≤ left) → (skips ≡ false) ⊎ (size ≤ left)
enough_for skips left own count size e g (inl h) = inl (sym e ∙ h)
enough_for skips left own count size e g (inr h) = inr (omega (arith, g, h))
