-- Lists of a declaration's names, with one name more.
use Rattle.std.proofs.Common.{◌≡◌, ℕ, ◌==◌, Bool, true, false, not, None, Some, List, [], ◌∷◌, ◌++◌, filter, if◌then◌else◌, length, map, refl, sym, ap, ◌∙◌, arith, is_some, unwrap_or}
use Rattle.placer.proofs.Common.{true≢false, nat_tests, map-append, filter-append, Item, Span, Word, GivenName, given_names, items_left, Pinned, item_at, node_alone, node_declaration, node_pinned, numbers_for, span_at, spans_for}

pub spans_push : (pin : Pinned) (xs : List GivenName) (x : GivenName) → spans_for pin (xs ++ x ∷ []) ≡ spans_for pin xs ++ span_at x.place (unwrap_or (pin x.name) 0) ∷ []
spans_push pin [] x = refl
spans_push pin (y ∷ xs) x = ap (λ l. span_at y.place (unwrap_or (pin y.name) 0) ∷ l) (spans_push pin xs x)

-- those of some names, and of one name more
pub left_push : (pin : Pinned) (xs : List GivenName) (x : GivenName) → items_left pin (xs ++ x ∷ []) ≡ items_left pin xs ++ items_left pin (x ∷ [])
left_push pin xs x =
    ap (map (λ (y : GivenName). item_at y.place y.name y.negated)) (filter-append (λ (y : GivenName). not (is_some (pin y.name))) xs (x ∷ []))
    ∙ map-append (λ (y : GivenName). item_at y.place y.name y.negated) (filter (λ (y : GivenName). not (is_some (pin y.name))) xs) (filter (λ (y : GivenName). not (is_some (pin y.name))) (x ∷ []))

-- a name with a pin is left out, and any other one is there
pub left_none : (pin : Pinned) (x : GivenName) → is_some (pin x.name) ≡ true → items_left pin (x ∷ []) ≡ []
left_none pin x some = ap (λ b. map (λ (y : GivenName). item_at y.place y.name y.negated) (if not b then x ∷ [] else [])) some

pub left_one : (pin : Pinned) (x : GivenName) → is_some (pin x.name) ≡ false → items_left pin (x ∷ []) ≡ item_at x.place x.name x.negated ∷ []
left_one pin x none = ap (λ b. map (λ (y : GivenName). item_at y.place y.name y.negated) (if not b then x ∷ [] else [])) none

-- numbers are, if there are some
pub none_given : (pin : Pinned) (names : List Item) (ns : List Span) → (length ns == 0) ≡ true → numbers_for pin names ns ≡ spans_for pin (given_names names)
none_given pin names [] none = refl
none_given pin names (n ∷ ns) none = let some : (length (n ∷ ns) == 0) ≡ false = grind (arith, nat_tests) in absurd (true≢false (sym none ∙ some))

pub given_stand : (pin : Pinned) (names : List Item) (ns : List Span) → (length ns == 0) ≡ false → numbers_for pin names ns ≡ ns
given_stand pin names [] some = absurd (true≢false some)
given_stand pin names (n ∷ ns) some = refl

-- ---- the declaration of a node

pub declared_alone : (pin : Pinned) (dc : List ℕ → Bool) (attributes : List Word) (x : GivenName) → pin x.name ≡ None → node_declaration pin dc attributes x ≡ node_alone attributes x
declared_alone pin dc attributes x none = rw none refl

pub declared_pinned : (pin : Pinned) (dc : List ℕ → Bool) (attributes : List Word) (x : GivenName) (n : ℕ) → pin x.name ≡ Some n → node_declaration pin dc attributes x ≡ node_pinned (dc x.name) x n
declared_pinned pin dc attributes x n some = rw some refl
