-- If the counts of names and numbers are not refused, there are as many of both.
use Rattle.std.proofs.Common.{◌≡◌, ℕ, zero, suc, ◌+◌, ◌-◌, ◌≤◌, ◌==◌, nat_le, Bool, true, false, not, ◌||◌, ◌&&◌, Option, Some, None, List, [], ◌∷◌, map, length, if◌then◌else◌, refl, ap, ap₂, ◌∙◌, arith, min}
use Rattle.placer.proofs.Common.{list_any, range_with_len, nat_tests, length-append, length-map, Item, Span, is_bad, numbers_of, span_numbers, span_count, count_numbers, given_names, refused_if, ranges_refused, counts_refused, counts_differ, none_left, none_right, not_refused}
use Rattle.abel_tree.specs.declared.words.Number.{Number}
use Rattle.decls.specs.declared.fault.NameFault.TheVariants as fault

no_bad : (is : List Item) → ranges_refused is ≡ [] → list_any is_bad is ≡ false
no_bad [] h = refl
no_bad (i ∷ is) h =
    ap₂ (λ a b. a || b) (not_refused (is_bad i) (fault.BadRange i.first.place) (none_left (refused_if (is_bad i) (fault.BadRange i.first.place)) _ h)) (no_bad is (none_right (refused_if (is_bad i) (fault.BadRange i.first.place)) _ h))

length_range : (i n : ℕ) → length (range_with_len i n) ≡ n
length_range i zero = refl
length_range i (suc n) = ap suc (length_range (i + 1) n)

length_span : (room first : ℕ) (last : Option Number) → span_count first last ≤ room → length (span_numbers room first last) ≡ span_count first last
length_span room first None h = refl
length_span room first (Some last) h = by (nat_le first last.value) h
  where
    fits : (a : ℕ) → a ≤ room → min room a ≡ a
    fits a g = omega (arith, g)

    by : (b : Bool) → (if b then last.value - first else first - last.value) + 1 ≤ room
        → length (if b then range_with_len first (min room (last.value - first + 1)) else map (λ k. first - k) (range_with_len 0 (min room (first - last.value + 1)))) ≡ (if b then last.value - first else first - last.value) + 1
    by true g = length_range first (min room (last.value - first + 1)) ∙ fits (last.value - first + 1) g
    by false g = length-map (range_with_len 0 (min room (first - last.value + 1))) (λ k. first - k) ∙ (length_range 0 (min room (first - last.value + 1)) ∙ fits (first - last.value + 1) g)

length_numbers : (room : ℕ) (ss : List Span) → count_numbers ss ≤ room → length (numbers_of room ss) ≡ count_numbers ss
length_numbers room [] h = refl
length_numbers room (x ∷ ss) h =
    length-append (span_numbers room x.first.value x.last) (numbers_of (room - span_count x.first.value x.last) ss)
    ∙ ap₂ (λ a b. a + b) (length_span room x.first.value x.last (omega (arith, h))) (length_numbers (room - span_count x.first.value x.last) ss (omega (arith, h)))

pub as_many : (names : List Item) (n : Span) (ns : List Span) → ranges_refused names ≡ [] → counts_refused (counts_differ names (n ∷ ns)) names ≡ [] → length (given_names names) ≤ length (numbers_of (length (given_names names)) (n ∷ ns))
as_many [] n ns ranges counts = omega arith
as_many (i ∷ is) n ns ranges counts =
    let names = i ∷ is in
    let same : length (given_names names) ≡ count_numbers (n ∷ ns) = equal (length (given_names names)) (count_numbers (n ∷ ns)) (list_any is_bad names) (no_bad names ranges) (not_refused (counts_differ names (n ∷ ns)) _ counts) in
    let long = length_numbers (length (given_names names)) (n ∷ ns) (omega (arith, same)) in
    omega (arith, same, long)
  where
    equal : (a b : ℕ) (bad : Bool) → bad ≡ false → (true && not bad && not (a == b)) ≡ false → a ≡ b
    equal a b true e f = absurd cc
    equal a b false e f = grind (arith, nat_tests)
