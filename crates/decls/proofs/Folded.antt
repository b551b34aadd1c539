-- One item more of a list that is gone through.
use Rattle.std.proofs.Common.{◌≡◌, ℕ, zero, suc, ◌+◌, ◌-◌, ◌<◌, ◌≤◌, ◌==◌, nat_le, Bool, true, false, ◌||◌, List, [], ◌∷◌, ◌++◌, map, fold, take, drop, length, get_or, if◌then◌else◌, Some, None, refl, sym, ap, ◌∙◌, append_assoc, arith, slice_get, min}
use Rattle.decls.proofs.Common.{list_any, range_with_len, nat_tests, append-nil, get_or_default, take_more, length-map, length-take-le, take-append-drop, fold-append, Item, Number, Span, Words, Entry, is_bad, item_names, span_count, count_numbers, span_numbers, numbers_of, GivenName, given_names, NameFault, words_named, words_of_names, refused_if, ranges_refused, item_refused, items_refused, given_by, number_at, Progress, refuse_all, with_numbers}
use Rattle.decls.specs.declared.fault.NameFault.TheVariants as fault
use Rattle.decls.specs.Spans.{range_length}
use Rattle.decls.proofs.Rows.{mapped_more}

pub folded_more : {S A B : Type 0} (f : S → B → S) (v : A → B) (s : S) (es : List A) (k : ℕ) (e : A) → k < length es → e ≡ get_or es k e
    → f (fold f s (map v (take k es))) (v e) ≡ fold f s (map v (take (k + 1) es))
folded_more f v s es k e h i = sym (ap (fold f s) (mapped_more v es k e h i) ∙ fold-append f s (map v (take k es)) (v e ∷ []))

-- a list of refusals, one item more
pub refused_more : {A : Type 0} (f : List A → List NameFault) (g : A → List NameFault) → ((xs : List A) (x : A) → f (xs ++ x ∷ []) ≡ f xs ++ g x) → (s : Progress) (es : List A) (k : ℕ) (e : A) → k < length es → e ≡ get_or es k e
    → refuse_all (g e) (refuse_all (f (take k es)) s) ≡ refuse_all (f (take (k + 1) es)) s
refused_more f g push s es k e h i =
    ap (λ fs. record s { faults = fs })
    (append_assoc s.faults (f (take k es)) (g e)
    ∙ ap (λ fs. s.faults ++ fs) (sym (ap f (take_more es k e h ∙ ap (λ y. take k es ++ y ∷ []) (sym i)) ∙ push (take k es) e)))

pub ranges_push : (xs : List Item) (x : Item) → ranges_refused (xs ++ x ∷ []) ≡ ranges_refused xs ++ refused_if (is_bad x) (fault.BadRange x.first.place)
ranges_push [] x = append-nil (refused_if (is_bad x) (fault.BadRange x.first.place))
ranges_push (y ∷ xs) x =
    ap (λ fs. refused_if (is_bad y) (fault.BadRange y.first.place) ++ fs) (ranges_push xs x)
    ∙ sym (append_assoc (refused_if (is_bad y) (fault.BadRange y.first.place)) (ranges_refused xs) (refused_if (is_bad x) (fault.BadRange x.first.place)))

pub items_push : (es : List Entry) (xs : List Item) (x : Item) → items_refused es (xs ++ x ∷ []) ≡ items_refused es xs ++ item_refused es x
items_push es [] x = append-nil (item_refused es x)
items_push es (y ∷ xs) x = ap (λ fs. item_refused es y ++ fs) (items_push es xs x) ∙ sym (append_assoc (item_refused es y) (items_refused es xs) (item_refused es x))

-- ---- names

given_push : (xs : List Item) (x : Item) → given_names (xs ++ x ∷ []) ≡ given_names xs ++ map (given_by x) (item_names x)
given_push [] x = append-nil (map (given_by x) (item_names x))
given_push (y ∷ xs) x =
    ap (λ gs. map (given_by y) (item_names y) ++ gs) (given_push xs x)
    ∙ sym (append_assoc (map (given_by y) (item_names y)) (given_names xs) (map (given_by x) (item_names x)))

pub given_more : (es : List Item) (k : ℕ) (e : Item) → k < length es → e ≡ get_or es k e → given_names (take (k + 1) es) ≡ given_names (take k es) ++ map (given_by e) (item_names e)
given_more es k e h i = ap given_names (take_more es k e h ∙ ap (λ y. take k es ++ y ∷ []) (sym i)) ∙ given_push (take k es) e

-- ---- numbers

counts_append : (xs ys : List Span) → count_numbers (xs ++ ys) ≡ count_numbers xs + count_numbers ys
counts_append [] ys = no_plus (count_numbers ys)
  where
    no_plus : (n : ℕ) → n ≡ 0 + n
    no_plus n = omega arith
counts_append (x ∷ xs) ys = ap (λ n. span_count x.first.value x.last + n) (counts_append xs ys) ∙ plus (span_count x.first.value x.last) (count_numbers xs) (count_numbers ys)
  where
    plus : (a b c : ℕ) → a + (b + c) ≡ a + b + c
    plus a b c = omega arith

pub counts_more : (es : List Span) (k : ℕ) (e : Span) → k < length es → e ≡ get_or es k e → count_numbers (take (k + 1) es) ≡ count_numbers (take k es) + span_count e.first.value e.last
counts_more es k e h i =
    ap count_numbers (take_more es k e h ∙ ap (λ y. take k es ++ y ∷ []) (sym i))
    ∙ (counts_append (take k es) (e ∷ []) ∙ ap (λ n. count_numbers (take k es) + n) (plus_zero (span_count e.first.value e.last)))
  where
    plus_zero : (n : ℕ) → n + 0 ≡ n
    plus_zero n = omega arith

pub counts_within : (es : List Span) (k : ℕ) → count_numbers (take k es) ≤ count_numbers es
counts_within es k = omega (arith, ap count_numbers (take-append-drop k es), counts_append (take k es) (drop k es))

numbers_push : (room : ℕ) (xs : List Span) (x : Span) → numbers_of room (xs ++ x ∷ []) ≡ numbers_of room xs ++ span_numbers (room - count_numbers xs) x.first.value x.last
numbers_push room [] x = append-nil (span_numbers room x.first.value x.last) ∙ ap (λ n. span_numbers n x.first.value x.last) (minus_zero room)
  where
    minus_zero : (n : ℕ) → n ≡ n - 0
    minus_zero n = omega arith
numbers_push room (y ∷ xs) x =
    ap (λ ns. span_numbers room y.first.value y.last ++ ns) (numbers_push (room - span_count y.first.value y.last) xs x ∙ ap (λ n. numbers_of (room - span_count y.first.value y.last) xs ++ span_numbers n x.first.value x.last) (minus room (span_count y.first.value y.last) (count_numbers xs)))
    ∙ sym (append_assoc (span_numbers room y.first.value y.last) (numbers_of (room - span_count y.first.value y.last) xs) (span_numbers (room - count_numbers (y ∷ xs)) x.first.value x.last))
  where
    minus : (a b c : ℕ) → a - b - c ≡ a - (b + c)
    minus a b c = omega arith

pub numbers_more : (room : ℕ) (es : List Span) (k : ℕ) (e : Span) → k < length es → e ≡ get_or es k e → numbers_of room (take (k + 1) es) ≡ numbers_of room (take k es) ++ span_numbers (room - count_numbers (take k es)) e.first.value e.last
numbers_more room es k e h i = ap (numbers_of room) (take_more es k e h ∙ ap (λ y. take k es ++ y ∷ []) (sym i)) ∙ numbers_push room (take k es) e

-- ---- names with numbers, names with values

numbered_push : (xs : List GivenName) (x : GivenName) (ns : List ℕ) → with_numbers (xs ++ x ∷ []) ns ≡ with_numbers xs ns ++ (x, slice_get ns (length xs)) ∷ []
numbered_push [] x [] = refl
numbered_push [] x (n ∷ ns) = refl
numbered_push (y ∷ xs) x [] = ap (λ ps. (y, None) ∷ ps) (numbered_push xs x [])
numbered_push (y ∷ xs) x (n ∷ ns) = ap (λ ps. (y, Some n) ∷ ps) (numbered_push xs x ns)

length_taken : {A : Type 0} (es : List A) (k : ℕ) → k < length es → length (take k es) ≡ k
length_taken es k h = length-take-le k es (omega (arith, h))

pub numbered_more : {A : Type 0} (v : A → GivenName) (es : List A) (ns : List ℕ) (k : ℕ) (e : A) → k < length es → e ≡ get_or es k e → with_numbers (map v (take (k + 1) es)) ns ≡ with_numbers (map v (take k es)) ns ++ (v e, slice_get ns k) ∷ []
numbered_more v es ns k e h i =
    ap (λ xs. with_numbers xs ns) (mapped_more v es k e h i)
    ∙ (numbered_push (map v (take k es)) (v e) ns
    ∙ ap (λ n. with_numbers (map v (take k es)) ns ++ (v e, slice_get ns n) ∷ []) (length-map (take k es) v ∙ length_taken es k h))

-- ---- words

or_assoc : (a b c : Bool) → ((a || b) || c) ≡ (a || (b || c))
or_assoc true b c = refl
or_assoc false b c = refl

or_false : (a : Bool) → a ≡ (a || false)
or_false true = refl
or_false false = refl

pub any_append : {A : Type 0} (p : A → Bool) (xs ys : List A) → list_any p (xs ++ ys) ≡ (list_any p xs || list_any p ys)
any_append p [] ys = refl
any_append p (x ∷ xs) ys = ap (λ b. p x || b) (any_append p xs ys) ∙ sym (or_assoc (p x) (list_any p xs) (list_any p ys))

words_push : (es : List Entry) (xs : List GivenName) (x : GivenName) → words_of_names es (xs ++ x ∷ []) ≡ words_of_names es xs ++ words_named es x.name
words_push es [] x = append-nil (words_named es x.name)
words_push es (y ∷ xs) x = ap (λ ws. words_named es y.name ++ ws) (words_push es xs x) ∙ sym (append_assoc (words_named es y.name) (words_of_names es xs) (words_named es x.name))

pub words_more : {A : Type 0} (p : Words → Bool) (es : List Entry) (v : A → GivenName) (xs : List A) (k : ℕ) (x : A) → k < length xs → x ≡ get_or xs k x → list_any p (words_of_names es (map v (take (k + 1) xs))) ≡ (list_any p (words_of_names es (map v (take k xs))) || list_any p (words_named es (v x).name))
words_more p es v xs k x h i =
    ap (λ ys. list_any p (words_of_names es ys)) (mapped_more v xs k x h i)
    ∙ (ap (list_any p) (words_push es (map v (take k xs)) (v x)) ∙ any_append p (words_of_names es (map v (take k xs))) (words_named es (v x).name))

pub fewer : (a b : ℕ) → a < b → false ≡ (a == b)
fewer a b h = grind (arith, nat_tests)

-- ---- the numbers of a span

shifted : (i a n : ℕ) → range_with_len (i + a) n ≡ map (λ k. i + k) (range_with_len a n)
shifted i a zero = refl
shifted i a (suc n) =
    let e : i + a + 1 ≡ i + (a + 1) = omega arith in
    ap (λ l. (i + a) ∷ l) (ap (λ b. range_with_len b n) e ∙ shifted i (a + 1) n)

up : (i n : ℕ) → map (λ k. i + k) (range_with_len 0 n) ≡ range_with_len i n
up i n =
    let e : i + 0 ≡ i = omega arith in
    sym (shifted i 0 n) ∙ ap (λ j. range_with_len j n) e

pub ranged : (room first : ℕ) (last : Number) → map (number_at first last.value) (range_with_len 0 (range_length room first last.value)) ≡ span_numbers room first (Some last)
ranged room first last = by (nat_le first last.value)
  where
    by : (b : Bool) → map (λ k. if b then first + k else first - k) (range_with_len 0 (min room ((if b then last.value - first else first - last.value) + 1))) ≡ (if b then range_with_len first (min room (last.value - first + 1)) else map (λ k. first - k) (range_with_len 0 (min room (first - last.value + 1))))
    by true = up first (min room (last.value - first + 1))
    by false = refl

-- what a read after a list's end gives
abbrev pub no_span : Span
no_span = record { first = record { value = 0; place = record { line = 0; column = 0 } }; last = None }

abbrev pub span_at : List Span → ℕ → Span
span_at es k = get_or es k no_span

pub counts_at : (es : List Span) (k : ℕ) → k < length es → count_numbers (take (k + 1) es) ≡ count_numbers (take k es) + span_count (span_at es k).first.value (span_at es k).last
counts_at es k h = counts_more es k (span_at es k) h (get_or_default es k no_span (span_at es k) h)

pub numbers_at : (room : ℕ) (es : List Span) (k : ℕ) → k < length es → numbers_of room (take (k + 1) es) ≡ numbers_of room (take k es) ++ span_numbers (room - count_numbers (take k es)) (span_at es k).first.value (span_at es k).last
numbers_at room es k h = numbers_more room es k (span_at es k) h (get_or_default es k no_span (span_at es k) h)
