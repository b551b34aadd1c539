-- The digits at the end of a name, and the numbers of a range.
use Rattle.std.proofs.Common.{◌≡◌, ℕ, zero, suc, ◌+◌, ◌-◌, ◌<◌, ◌≤◌, nat_le, Bool, true, false, List, [], ◌∷◌, ◌++◌, Some, None, map, take, drop, length, get_or, reverse, if◌then◌else◌, refl, sym, ap, ap₂, ◌∙◌, arith, cond}
use Rattle.name_uses.proofs.Common.{decimal, bytes_eq, take_more, take_rest, take-append-drop, reverse-append, reverse-reverse, length-append, length-map, length-range_with_len, range_with_len, take_while, prefix_len, is_digit, last_digits, stem, is_run, number_of, numbers_between, ends_agree, names_between, range_names, number_at, end_number, names_if_agree}
use Rattle.std.proofs.lemmas.List.Sums.{take_while-cons}
use Rattle.std.proofs.Math.Seq.{drop-append_seam}

-- one byte more
digits_chosen : (b : Bool) (x : ℕ) (xs ys : List ℕ) → reverse ys ≡ xs → reverse (cond b (x ∷ ys) []) ≡ cond b (xs ++ x ∷ []) []
digits_chosen true x xs ys e = reverse-append (x ∷ []) ys ∙ ap (λ l. l ++ x ∷ []) e
digits_chosen false x xs ys e = refl

digits_push : (xs : List ℕ) (x : ℕ) → last_digits (xs ++ x ∷ []) ≡ cond (is_digit x) (last_digits xs ++ x ∷ []) []
digits_push xs x =
    ap (λ r. reverse (take_while is_digit r)) (reverse-append xs (x ∷ []))
    ∙ (ap reverse (take_while-cons is_digit x (reverse xs))
    ∙ digits_chosen (is_digit x) x (last_digits xs) (take_while is_digit (reverse xs)) refl)

counted : (b : Bool) (ds : List ℕ) (x : ℕ) → length (cond b (ds ++ x ∷ []) []) ≡ (if b then length ds + 1 else 0)
counted true ds x = length-append ds (x ∷ [])
counted false ds x = refl

pub digits_more : (es : List ℕ) (k x : ℕ) → k < length es → x ≡ get_or es k x → length (last_digits (take (k + 1) es)) ≡ (if is_digit x then length (last_digits (take k es)) + 1 else 0)
digits_more es k x h i =
    ap (λ l. length (last_digits l)) (take_more es k x h ∙ ap (λ y. take k es ++ y ∷ []) (sym i))
    ∙ (ap length (digits_push (take k es) x) ∙ counted (is_digit x) (last_digits (take k es)) x)

-- a name is its stem and its digits
parted : (name : List ℕ) → reverse (drop (prefix_len is_digit (reverse name)) (reverse name)) ++ last_digits name ≡ name
parted name =
    sym (reverse-append (take (prefix_len is_digit (reverse name)) (reverse name)) (drop (prefix_len is_digit (reverse name)) (reverse name)))
    ∙ (ap reverse (take-append-drop (prefix_len is_digit (reverse name)) (reverse name)) ∙ reverse-reverse name)

dropped : (bs ds name : List ℕ) → bs ++ ds ≡ name → drop (length name - length ds) name ≡ ds
dropped bs ds name e =
    let n : length name - length ds ≡ length bs = omega (arith, ap length e, length-append bs ds) in
    ap (λ k. drop k name) n ∙ (ap (drop (length bs)) (sym e) ∙ drop-append_seam bs ds)

pub digits_behind : (name : List ℕ) → drop (length name - length (last_digits name)) name ≡ last_digits name
digits_behind name = dropped (reverse (drop (prefix_len is_digit (reverse name)) (reverse name))) (last_digits name) name (parted name)

-- they are what a slice from there on has
pub digits_sliced : (name : List ℕ) (n : ℕ) → n ≡ length (last_digits name) → take (length name - (length name - n)) (drop (length name - n) name) ≡ last_digits name
digits_sliced name n e = take_rest name (length name - n) ∙ (ap (λ k. drop (length name - k) name) e ∙ digits_behind name)

pub digits_within : (name : List ℕ) → length (last_digits name) ≤ length name
digits_within name = omega (arith, ap length (parted name), length-append (reverse (drop (prefix_len is_digit (reverse name)) (reverse name))) (last_digits name))

-- the numbers of a range by their places
shifted : (i a n : ℕ) → range_with_len (i + a) n ≡ map (λ k. i + k) (range_with_len a n)
shifted i a zero = refl
shifted i a (suc n) =
    let e : i + a + 1 ≡ i + (a + 1) = omega arith in
    ap (λ l. (i + a) ∷ l) (ap (λ b. range_with_len b n) e ∙ shifted i (a + 1) n)

abbrev pub span_length : (i j : ℕ) → ℕ
span_length i j = (if nat_le i j then j - i else i - j) + 1

placed : (b : Bool) (i j : ℕ) → (if b then range_with_len i (j - i + 1) else map (λ k. i - k) (range_with_len 0 (i - j + 1))) ≡ map (λ k. if b then i + k else i - k) (range_with_len 0 ((if b then j - i else i - j) + 1))
placed true i j = let e : i ≡ i + 0 = omega arith in ap (λ a. range_with_len a (j - i + 1)) e ∙ shifted i 0 (j - i + 1)
placed false i j = refl

pub numbers_by_place : (i j : ℕ) → numbers_between i j ≡ map (number_at i j) (range_with_len 0 (span_length i j))
numbers_by_place i j = placed (nat_le i j) i j

map_of_map : {A B C : Type 0} (f : B → C) (g : A → B) (xs : List A) → map f (map g xs) ≡ map (λ x. f (g x)) xs
map_of_map f g [] = refl
map_of_map f g (x ∷ xs) = ap (λ l. f (g x) ∷ l) (map_of_map f g xs)

pub names_by_place : (stem : List ℕ) (i j n : ℕ) → n ≡ span_length i j → map (λ k. stem ++ decimal (number_at i j k)) (range_with_len 0 n) ≡ map (λ k. stem ++ decimal k) (numbers_between i j)
names_by_place stem i j n e =
    ap (λ m. map (λ k. stem ++ decimal (number_at i j k)) (range_with_len 0 m)) e
    ∙ (sym (map_of_map (λ k. stem ++ decimal k) (number_at i j) (range_with_len 0 (span_length i j)))
    ∙ ap (map (λ k. stem ++ decimal k)) (sym (numbers_by_place i j)))

-- ---- ends that agree

run_true : (b : Bool) (n k : ℕ) → (if b then Some n else None) ≡ Some k → b ≡ true
run_true true n k e = refl
run_true false n k e = absurd cc

run_number : (b : Bool) (n k : ℕ) → (if b then Some n else None) ≡ Some k → n ≡ k
run_number true n k e = cc
run_number false n k e = absurd cc

pub agreed : (first last : List ℕ) (from to : ℕ) (names : List (List ℕ)) → end_number first ≡ Some from → end_number last ≡ Some to → bytes_eq (stem first) (stem last) ≡ true
    → names ≡ map (λ k. stem first ++ decimal k) (numbers_between from to) → Some names ≡ names_if_agree first last
agreed first last from to names e f g h =
    let a = run_true (is_run (last_digits first)) (number_of (last_digits first)) from e in
    let b = run_true (is_run (last_digits last)) (number_of (last_digits last)) to f in
    let n = run_number (is_run (last_digits first)) (number_of (last_digits first)) from e in
    let m = run_number (is_run (last_digits last)) (number_of (last_digits last)) to f in
    rw (a, b, g) (ap Some (h ∙ ap₂ (λ i j. map (λ k. stem first ++ decimal k) (numbers_between i j)) (sym n) (sym m)))

-- how many names there are
counted_names : (st : List ℕ) (from to : ℕ) → length (map (λ k. st ++ decimal k) (numbers_between from to)) ≡ span_length from to
counted_names st from to =
    length-map (numbers_between from to) (λ k. st ++ decimal k)
    ∙ (ap length (numbers_by_place from to)
    ∙ (length-map (range_with_len 0 (span_length from to)) (number_at from to) ∙ length-range_with_len 0 (span_length from to)))

some_counted : (b : Bool) (names found : List (List ℕ)) → Some found ≡ (if b then Some names else None) → length found ≡ length (if b then names else [])
some_counted true names found e = ap length cc
some_counted false names found e = absurd cc

pub counted_range : (first last : List ℕ) (from to n : ℕ) → end_number first ≡ Some from → end_number last ≡ Some to → bytes_eq (stem first) (stem last) ≡ true → n ≡ span_length from to → n ≡ length (range_names first last)
counted_range first last from to n e f g h =
    h
    ∙ (sym (counted_names (stem first) from to)
    ∙ some_counted (ends_agree first last) (names_between first last) (map (λ k. stem first ++ decimal k) (numbers_between from to)) (agreed first last from to (map (λ k. stem first ++ decimal k) (numbers_between from to)) e f g refl))
