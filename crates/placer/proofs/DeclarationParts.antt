-- Parts of declarations with pins that nothing is refused of: counts, strings and names.
use Rattle.std.proofs.Common.{◌≡◌, ℕ, suc, ◌-◌, ◌==◌, Bool, true, false, not, ◌||◌, ◌&&◌, List, [], ◌∷◌, ◌++◌, map, filter, length, if◌then◌else◌, refl, sym, ap, ap₂, ◌∙◌, arith, inl, inr, unwrap_or}
use Rattle.placer.proofs.Common.{list_any, list_all, true≢false, or_left, or_right, or_cases, nat_tests, Place, Item, Word, Words, Entry, is_signal, names_any, is_bad, numbers_of, count_numbers, GivenName, given_names, no_words, all_said, said_by_either, said_words, words_of, pin_entries, has_unknown, brings_clash, is_refused_string, strings_refused, words_named, words_of_names, counts_refused, counts_differ, has_numbers, items_refused, any_append, none_left, none_right, Pinned, register_string, item_at, spans_for}
use Rattle.decls.specs.declared.fault.NameFault.TheVariants as fault
use Rattle.placer.proofs.PlacedNames.{register_words}

-- ---- numbers, one for each name

pub single_numbers : (pins : Pinned) (xs : List GivenName) (room : ℕ) → numbers_of room (spans_for pins xs) ≡ map (λ (x : GivenName). unwrap_or (pins x.name) 0) xs
single_numbers pins [] room = refl
single_numbers pins (x ∷ xs) room = ap (λ l. unwrap_or (pins x.name) 0 ∷ l) (single_numbers pins xs (room - 1))

single_count : (pins : Pinned) (xs : List GivenName) → count_numbers (spans_for pins xs) ≡ length xs
single_count pins [] = refl
single_count pins (x ∷ xs) = let rest = single_count pins xs in omega (arith, rest)

same_number : (m n : ℕ) → m ≡ n → (m == n) ≡ true
same_number m n same = grind (arith, nat_tests)

-- as many numbers as names
pub counts_agree : (pins : Pinned) (names : List Item) → counts_differ names (spans_for pins (given_names names)) ≡ false
counts_agree pins names = by (has_numbers (spans_for pins (given_names names))) (not (list_any is_bad names)) (length (given_names names) == count_numbers (spans_for pins (given_names names)))
    (same_number (length (given_names names)) (count_numbers (spans_for pins (given_names names))) (sym (single_count pins (given_names names))))
  where
    by : (a b c : Bool) → c ≡ true → (a && b && not c) ≡ false
    by true true true is = refl
    by true false true is = refl
    by false b true is = refl
    by a b false is = absurd cc

pub counts_none : (b : Bool) (names : List Item) → b ≡ false → counts_refused b names ≡ []
counts_none b [] is = refl
counts_none b (i ∷ is') is = rw is refl

pub length_pins : (w : Words) (xs : List GivenName) (ns : List ℕ) → length (pin_entries w xs ns) ≡ length xs
length_pins w [] ns = refl
length_pins w (x ∷ xs) [] = ap suc (length_pins w xs [])
length_pins w (x ∷ xs) (n ∷ ns) = ap suc (length_pins w xs ns)

-- ---- strings

-- words of fewer names contradict no more
pub strings_fewer : (all some : List Words) (earlier : Words) (xs : List Word) → ((p : Words → Bool) → list_any p some ≡ true → list_any p all ≡ true) → strings_refused all earlier xs ≡ [] → strings_refused some earlier xs ≡ []
strings_fewer all some earlier [] fewer none = refl
strings_fewer all some earlier (x ∷ xs) fewer none =
    ap₂ (λ a b. a ++ b) (by (is_refused_string all earlier (words_of x.text)) (is_refused_string some earlier (words_of x.text)) less (none_left _ _ none)) (strings_fewer all some (said_by_either earlier (said_words (words_of x.text))) xs fewer (none_right _ _ none))
  where
    test : Words → Bool
    test before = brings_clash (said_words (words_of x.text)) (said_by_either before earlier)

    less : is_refused_string some earlier (words_of x.text) ≡ true → is_refused_string all earlier (words_of x.text) ≡ true
    less is =
        elim (or_cases (has_unknown (words_of x.text)) (list_any test some) is) [
          | inl here ↦ or_left (has_unknown (words_of x.text)) (list_any test all) here
          | inr later ↦ or_right (has_unknown (words_of x.text)) (list_any test all) (fewer test later)
        ]

    by : (a b : Bool) → (b ≡ true → a ≡ true) → (if a then fault.BadAttribute x.place ∷ [] else []) ≡ [] → (if b then fault.BadAttribute x.place ∷ [] else []) ≡ []
    by a false less h = refl
    by true true less h = absurd cc
    by false true less h = absurd (true≢false (sym (less refl)))

pub fewer_words : (es : List Entry) (keep : GivenName → Bool) (xs : List GivenName) (p : Words → Bool) → list_any p (words_of_names es (filter keep xs)) ≡ true → list_any p (words_of_names es xs) ≡ true
fewer_words es keep [] p some = some
fewer_words es keep (x ∷ xs) p some = any_append p (words_named es x.name) (words_of_names es xs) ∙ by (keep x) some (fewer_words es keep xs p)
  where
    by : (b : Bool) → list_any p (words_of_names es (if b then x ∷ filter keep xs else filter keep xs)) ≡ true → (list_any p (words_of_names es (filter keep xs)) ≡ true → list_any p (words_of_names es xs) ≡ true)
        → (list_any p (words_named es x.name) || list_any p (words_of_names es xs)) ≡ true
    by true there rest =
        elim (or_cases (list_any p (words_named es x.name)) (list_any p (words_of_names es (filter keep xs))) (sym (any_append p (words_named es x.name) (words_of_names es (filter keep xs))) ∙ there)) [
          | inl here ↦ or_left (list_any p (words_named es x.name)) (list_any p (words_of_names es xs)) here
          | inr later ↦ or_right (list_any p (words_named es x.name)) (list_any p (words_of_names es xs)) (rest later)
        ]
    by false there rest = or_right (list_any p (words_named es x.name)) (list_any p (words_of_names es xs)) (rest there)

-- the string of a node that becomes a pin
pub register_accepted : (p : Place) (dc : Bool) → strings_refused (no_words ∷ []) no_words (record { text = register_string dc; place = p } ∷ []) ≡ []
register_accepted p true = refl
register_accepted p false = refl

pub register_said : (p : Place) (dc : Bool) → all_said (record { text = register_string dc; place = p } ∷ []) ≡ register_words dc
register_said p true = refl
register_said p false = refl

-- ---- names one by one

pub given_single : (xs : List GivenName) → given_names (map (λ (x : GivenName). item_at x.place x.name x.negated) xs) ≡ xs
given_single [] = refl
given_single (x ∷ xs) = ap (λ l. x ∷ l) (given_single xs)

pub signals_accepted : (es : List Entry) (xs : List GivenName) → list_all (λ (x : GivenName). names_any is_signal es x.name) xs ≡ true → items_refused es (map (λ (x : GivenName). item_at x.place x.name x.negated) xs) ≡ []
signals_accepted es [] all = refl
signals_accepted es (x ∷ xs) all = by (names_any is_signal es x.name) refl all (signals_accepted es xs)
  where
    by : (b : Bool) → names_any is_signal es x.name ≡ b → (b && list_all (λ (y : GivenName). names_any is_signal es y.name) xs) ≡ true
        → (list_all (λ (y : GivenName). names_any is_signal es y.name) xs ≡ true → items_refused es (map (λ (y : GivenName). item_at y.place y.name y.negated) xs) ≡ [])
        → ((if b then [] else fault.Undeclared x.place x.name ∷ []) ++ items_refused es (map (λ (y : GivenName). item_at y.place y.name y.negated) xs)) ≡ []
    by true is rest later = later rest
    by false is rest later = absurd cc

pub all_kept : (p keep : GivenName → Bool) (xs : List GivenName) → list_all p xs ≡ true → list_all p (filter keep xs) ≡ true
all_kept p keep [] all = refl
all_kept p keep (x ∷ xs) all = by (p x) (keep x) refl all (all_kept p keep xs)
  where
    by : (a b : Bool) → p x ≡ a → (a && list_all p xs) ≡ true → (list_all p xs ≡ true → list_all p (filter keep xs) ≡ true) → list_all p (if b then x ∷ filter keep xs else filter keep xs) ≡ true
    by true true is rest later = ap₂ (λ c d. c && d) is (later rest)
    by true false is rest later = later rest
    by false b is rest later = absurd cc
