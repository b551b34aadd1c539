-- An order that has each pin: its numbers are those of pins.
use Rattle.std.proofs.Common.{◌≡◌, ℕ, zero, suc, ◌+◌, ◌<◌, ◌≤◌, ◌==◌, nat_lt, nat_le, ◌^◌, Bool, true, false, ◌&&◌, List, [], ◌∷◌, length, Option, Some, None, option_and_then, option_map, if◌then◌else◌, inl, inr, refl, ◌∙◌, ap, arith}
use Rattle.jedec_reader.proofs.Common.{list_all, range_with_len, cases_Bool, eqb-true, nat_tests, Field, is_among, is_each_pin, number, each_of, order_field, Table, pin_number}
use Rattle.jedec_file.specs.declared.field.Field.TheVariants as field
use Rattle.jedec_reader.proofs.Ranges.{test_of_range}

and_split : (a b : Bool) → (a && b) ≡ true → (a ≡ true) × (b ≡ true)
and_split true b e = (refl, e)
and_split false b e = absurd cc

-- ---- a list with each number has no other

-- how many numbers pass
abbrev hits : (ℕ → Bool) → List ℕ → ℕ
hits test [] = 0
hits test (x ∷ xs) = if test x then 1 + hits test xs else hits test xs

hits_at_most : (test : ℕ → Bool) (xs : List ℕ) → hits test xs ≤ length xs
hits_at_most test [] = omega arith
hits_at_most test (x ∷ xs) = elim (cases_Bool (test x)) [
  | inl passes ↦ rw passes (omega (arith, hits_at_most test xs))
  | inr fails ↦ rw fails (omega (arith, hits_at_most test xs))
]

abbrev at_most : ℕ → List ℕ → ℕ
at_most n = hits (λ x. nat_le x n)

abbrev equal_to : ℕ → List ℕ → ℕ
equal_to n = hits (λ x. x == n)

at_most_more : (n : ℕ) (xs : List ℕ) → at_most (suc n) xs ≡ at_most n xs + equal_to (suc n) xs
at_most_more n [] = refl
at_most_more n (x ∷ xs) =
    let rest = at_most_more n xs in
    elim (cases_Bool (nat_le x n)) [
      | inl low ↦
          let still : nat_le x (suc n) ≡ true = grind (arith, nat_tests) in
          let other : (x == suc n) ≡ false = grind (arith, nat_tests) in
          rw (low, still, other) (omega (arith, rest))
      | inr high ↦ elim (cases_Bool (x == suc n)) [
        | inl same ↦
            let still : nat_le x (suc n) ≡ true = grind (arith, nat_tests) in
            rw (high, still, same) (omega (arith, rest))
        | inr other ↦
            let above : nat_le x (suc n) ≡ false = grind (arith, nat_tests) in
            rw (high, above, other) (omega (arith, rest))
      ]
    ]

some_equal : (n : ℕ) (xs : List ℕ) → is_among xs n ≡ true → 1 ≤ equal_to n xs
some_equal n [] among = absurd cc
some_equal n (x ∷ xs) among = elim (cases_Bool (x == n)) [
  | inl same ↦ rw same (omega arith)
  | inr other ↦ rw other (some_equal n xs (rw other at among))
]

many_below : (n : ℕ) (xs : List ℕ) → ((k : ℕ) → k < n → is_among xs (k + 1) ≡ true) → n ≤ at_most n xs
many_below zero xs each = omega arith
many_below (suc n) xs each =
    let fewer = many_below n xs (λ k low. each k (omega arith)) in
    let last = some_equal (suc n) xs (rw (let e : suc n ≡ n + 1 = omega arith in e) (each n (omega arith))) in
    omega (arith, fewer, last, at_most_more n xs)

all_pass : (test : ℕ → Bool) (xs : List ℕ) → length xs ≤ hits test xs → list_all test xs ≡ true
all_pass test [] full = refl
all_pass test (x ∷ xs) full = elim (cases_Bool (test x)) [
  | inl passes ↦ rw passes (all_pass test xs (omega (arith, rw passes at full)))
  | inr fails ↦ absurd (omega (arith, rw fails at full, hits_at_most test xs))
]

all_short : (n : ℕ) (xs : List ℕ) → n < 256 → list_all (λ x. nat_le x n) xs ≡ true → list_all (λ x. nat_lt x (2 ^ 8)) xs ≡ true
all_short n [] low all = refl
all_short n (x ∷ xs) low all = elim (cases_Bool (nat_le x n)) [
  | inl below ↦
      let short : nat_lt x 256 ≡ true = grind (arith, nat_tests) in
      rw short (all_short n xs low (rw below at all))
  | inr above ↦ absurd (let no_all = rw above at all in cc)
]

-- the pins of an order are short numbers
short_pins : (pins : ℕ) (order : List ℕ) → pins < 256 → is_each_pin pins order ≡ true → list_all (λ x. nat_lt x (2 ^ 8)) order ≡ true
short_pins pins order low each =
    let parts = and_split (length order == pins) (list_all (is_among order) (range_with_len 1 pins)) each in
    let many = many_below pins order (λ k below. test_of_range (is_among order) pins k parts.1 below) in
    let long : length order ≡ pins = eqb-true _ _ parts.0 in
    all_short pins order low (all_pass (λ x. nat_le x pins) order (omega (arith, many, long)))

-- ---- the same of a field's words

abbrev if_short : Option ℕ → Option ℕ
if_short found = option_and_then (λ n. if nat_lt n (2 ^ 8) then Some n else None) found

abbrev if_all_short : Option (List ℕ) → Option (List ℕ)
if_all_short found = option_and_then (λ order. if list_all (λ n. nat_lt n (2 ^ 8)) order then Some order else None) found

abbrev joined : Option ℕ → Option (List ℕ) → Option (List ℕ)
joined first rest = option_and_then (λ y. option_map (λ ys. y ∷ ys) rest) first

joined_short : (first : Option ℕ) (rest : Option (List ℕ)) → joined (if_short first) (if_all_short rest) ≡ if_all_short (joined first rest)
joined_short None rest = refl
joined_short (Some n) None = elim (cases_Bool (nat_lt n (2 ^ 8))) [ inl low ↦ rw low refl | inr high ↦ rw high refl ]
joined_short (Some n) (Some order) = elim (cases_Bool (nat_lt n (2 ^ 8))) [
  | inr high ↦ rw high refl
  | inl low ↦ elim (cases_Bool (list_all (λ n. nat_lt n (2 ^ 8)) order)) [ inl all ↦ rw (low, all) refl | inr some ↦ rw (low, some) refl ]
]

pin_numbers_are : (ws : List (List ℕ)) → each_of pin_number ws ≡ if_all_short (each_of number ws)
pin_numbers_are [] = refl
pin_numbers_are (w ∷ ws) = rw (pin_numbers_are ws) (joined_short (number w) (each_of number ws))

-- the field of an order
abbrev pub said_order : ℕ → Option (List ℕ) → Option Field
said_order pins found = option_and_then (λ order. if is_each_pin pins order then Some (field.PinOrder order) else None) found

said_short : (pins : ℕ) (found : Option (List ℕ)) → pins < 256 → said_order pins (if_all_short found) ≡ said_order pins found
said_short pins None low = refl
said_short pins (Some order) low = elim (cases_Bool (list_all (λ n. nat_lt n (2 ^ 8)) order)) [
  | inl all ↦ rw all refl
  | inr some ↦ elim (cases_Bool (is_each_pin pins order)) [
    | inl each ↦ let all = short_pins pins order low each in absurd cc
    | inr other ↦ rw (some, other) refl
  ]
]

pub order_field_is : (t : Table) (ws : List (List ℕ)) → t.pins < 256 → said_order t.pins (each_of pin_number ws) ≡ order_field t ws
order_field_is t ws low = rw (pin_numbers_are ws) (said_short t.pins (each_of number ws) low)

-- ---- what a field's words say of an order

pub order_none : (t : Table) (ws : List (List ℕ)) → t.pins < 256 → None ≡ each_of pin_number ws → None ≡ order_field t ws
order_none t ws low none = ap (said_order t.pins) none ∙ order_field_is t ws low

pub order_said : (t : Table) (ws : List (List ℕ)) (pins : ℕ) (order : List ℕ) → t.pins < 256 → pins ≡ t.pins → is_each_pin pins order ≡ true → Some order ≡ each_of pin_number ws → Some (field.PinOrder order) ≡ order_field t ws
order_said t ws pins order low same each is =
    let here : is_each_pin t.pins order ≡ true = rw same at each in
    let said : Some (field.PinOrder order) ≡ said_order t.pins (Some order) = rw here refl in
    said ∙ ap (said_order t.pins) is ∙ order_field_is t ws low

pub order_refused : (t : Table) (ws : List (List ℕ)) (pins : ℕ) (order : List ℕ) → t.pins < 256 → pins ≡ t.pins → is_each_pin pins order ≡ false → Some order ≡ each_of pin_number ws → None ≡ order_field t ws
order_refused t ws pins order low same other is =
    let here : is_each_pin t.pins order ≡ false = rw same at other in
    let said : None ≡ said_order t.pins (Some order) = rw here refl in
    said ∙ ap (said_order t.pins) is ∙ order_field_is t ws low
