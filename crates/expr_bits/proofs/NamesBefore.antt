-- What a name represents among the first names, by its place.
use Rattle.std.proofs.Common.{◌≡◌, ℕ, zero, suc, ◌+◌, ◌<◌, ◌≤◌, Bool, true, false, Option, None, Some, List, [], ◌∷◌, ◌++◌, if◌then◌else◌, length, map, take, get_or, slice_get, option_map, cond, not, bytes_eq, ltb, min, refl, sym, ap, ◌∙◌, subst, arith}
use Rattle.expr_bits.proofs.Common.{position_or_len, ltb-false, ltb-true, length-map, slice_get-get_or, slice_get-map, take-length, Names, Entry, entries_of, find, view_declared, Term, Known, term_named, term_meant, known_after, known_of, here_term, Declared}
use Rattle.abel_meaning.specs.Terms.{Number}

-- what a name represents among the first n of these entries, after those that are known
abbrev among : (known : List Known) (s n : ℕ) → List Entry → List ℕ → Term
among ks s (suc n) (e ∷ es) w = if bytes_eq w e.name then term_meant ks s e.kind else among (ks ++ record { name = e.name; term = term_meant ks s e.kind } ∷ []) (suc s) n es w
among ks s _ _ w = Number 0

-- what a name represents, and this if it is unknown
abbrev named_or : List Known → List ℕ → Term → Term
named_or [] w t = t
named_or (k ∷ ks) w t = if bytes_eq w k.name then k.term else named_or ks w t

or_number : (ks : List Known) (w : List ℕ) → term_named ks w ≡ named_or ks w (Number 0)
or_number [] w = refl
or_number (k ∷ ks) w = ap (λ t. if bytes_eq w k.name then k.term else t) (or_number ks w)

or_last : (ks : List Known) (k : Known) (w : List ℕ) (t : Term) → named_or (ks ++ k ∷ []) w t ≡ named_or ks w (if bytes_eq w k.name then k.term else t)
or_last [] k w t = refl
or_last (x ∷ ks) k w t = ap (λ u. if bytes_eq w x.name then x.term else u) (or_last ks k w t)

after_among : (ks : List Known) (s n : ℕ) (es : List Entry) (w : List ℕ) → named_or (known_after ks s (take n es)) w (Number 0) ≡ named_or ks w (among ks s n es w)
after_among ks s (suc n) (e ∷ es) w =
    let k : Known = record { name = e.name; term = term_meant ks s e.kind } in
    after_among (ks ++ k ∷ []) (suc s) n es w ∙ or_last ks k w (among (ks ++ k ∷ []) (suc s) n es w)
after_among ks s _ _ w = refl

named_among : (n : ℕ) (es : List Entry) (w : List ℕ) → term_named (known_of (take n es)) w ≡ among [] 0 n es w
named_among n es w = or_number (known_of (take n es)) w ∙ after_among [] 0 n es w

-- ---- by place

-- the place of a name, past all of them if it is not declared
abbrev place : List Entry → List ℕ → ℕ
place es w = position_or_len (λ (e : Entry). bytes_eq w e.name) es

-- a name that is found is at its place, and any other past all of them
abbrev IsPlace : List Entry → List ℕ → Option ℕ → Type 0
IsPlace es w None = length es ≤ place es w
IsPlace es w (Some k) = (place es w ≡ k) × (k < length es)

found_as : (es : List Entry) (w : List ℕ) (o : Option ℕ) → find es w ≡ o → IsPlace es w o
found_as es w o e = subst (IsPlace es w) e (by (ltb (place es w) (length es)) refl)
  where
    by : (b : Bool) → ltb (place es w) (length es) ≡ b → IsPlace es w (cond b (Some (place es w)) None)
    by true h = (refl, ltb-true (place es w) (length es) h)
    by false h = ltb-false (place es w) (length es) h

-- a name that is not among the first n
outside : (ks : List Known) (s n : ℕ) (es : List Entry) (w : List ℕ) → min n (length es) ≤ place es w → among ks s n es w ≡ Number 0
outside ks s (suc n) (e ∷ es) w h = by (bytes_eq w e.name) h (outside more (suc s) n es w)
  where
    more : List Known
    more = ks ++ record { name = e.name; term = term_meant ks s e.kind } ∷ []

    by : (b : Bool) → min (suc n) (suc (length es)) ≤ cond (not b) (1 + place es w) 0 → (min n (length es) ≤ place es w → among more (suc s) n es w ≡ Number 0) → (if b then term_meant ks s e.kind else among more (suc s) n es w) ≡ Number 0
    by true h others = absurd (omega (arith, h))
    by false h others = others (omega (arith, h))
outside ks s _ _ w h = refl

-- what a declared name represents over those that are known, a number if there isn't one
abbrev meant_at : List Known → ℕ → Option Entry → Term
meant_at ks k None = Number 0
meant_at ks k (Some e) = term_meant ks k e.kind

placed : (ks : List Known) (s n : ℕ) (es : List Entry) (w : List ℕ) → place es w < n → among ks s n es w ≡ meant_at (known_after ks s (take (place es w) es)) (s + place es w) (slice_get es (place es w))
placed ks s zero es w h = absurd (omega (arith, h))
placed ks s (suc n) [] w h = refl
placed ks s (suc n) (x ∷ es) w h = by (bytes_eq w x.name) h (placed more (suc s) n es w)
  where
    more : List Known
    more = ks ++ record { name = x.name; term = term_meant ks s x.kind } ∷ []

    at : ℕ → Term
    at k = meant_at (known_after ks s (take k (x ∷ es))) (s + k) (slice_get (x ∷ es) k)

    by : (b : Bool) → cond (not b) (1 + place es w) 0 < suc n → (place es w < n → among more (suc s) n es w ≡ meant_at (known_after more (suc s) (take (place es w) es)) (suc s + place es w) (slice_get es (place es w)))
        → (if b then term_meant ks s x.kind else among more (suc s) n es w) ≡ at (cond (not b) (1 + place es w) 0)
    by true h others = ap (λ j. term_meant ks j x.kind) (omega arith)
    by false h others =
        let next : suc (place es w) ≡ 1 + place es w = omega arith in
        let here : suc s + place es w ≡ s + suc (place es w) = omega arith in
        others (omega (arith, h)) ∙ ap (λ j. meant_at (known_after more (suc s) (take (place es w) es)) j (slice_get es (place es w))) here ∙ ap at next

-- ---- what a name represents: nothing past the first n, else what it is declared as over the names before it

pub named_none : (n : ℕ) (es : List Entry) (w : List ℕ) → find es w ≡ None → term_named (known_of (take n es)) w ≡ Number 0
named_none n es w e = named_among n es w ∙ outside [] 0 n es w (omega (arith, found_as es w None e))

pub named_past : (n k : ℕ) (es : List Entry) (w : List ℕ) → find es w ≡ Some k → n ≤ k → term_named (known_of (take n es)) w ≡ Number 0
named_past n k es w e h = named_among n es w ∙ outside [] 0 n es w (omega (arith, (found_as es w (Some k) e).0, h))

pub here_is : (n k : ℕ) (es : List Entry) (w : List ℕ) → find es w ≡ Some k → k < n → term_named (known_of (take n es)) w ≡ here_term es k (slice_get es k)
here_is n k es w f h =
    let at : place es w ≡ k = (found_as es w (Some k) f).0 in
    let plain : 0 + place es w ≡ place es w = omega arith in
    named_among n es w ∙ placed [] 0 n es w (omega (arith, at, h))
    ∙ ap (λ j. meant_at (known_of (take (place es w) es)) j (slice_get es (place es w))) plain
    ∙ ap (λ j. meant_at (known_of (take j es)) j (slice_get es j)) at ∙ by (slice_get es k)
  where
    by : (o : Option Entry) → meant_at (known_of (take k es)) k o ≡ here_term es k o
    by None = refl
    by (Some x) = refl

pub whole_is : (k : ℕ) (es : List Entry) (w : List ℕ) → find es w ≡ Some k → term_named (known_of es) w ≡ here_term es k (slice_get es k)
whole_is k es w f = ap (λ xs. term_named (known_of xs) w) (sym (take-length es)) ∙ here_is (length es) k es w f (found_as es w (Some k) f).1

-- ---- entries

pub none_past : {A : Type 0} (es : List A) (k : ℕ) → slice_get es k ≡ None → length es ≤ k
none_past [] k e = omega arith
none_past (x ∷ es) zero e = absurd cc
none_past (x ∷ es) (suc k) e = omega (arith, none_past es k e)

-- the entry of a declared name
pub entry_at : (names : Names) (list : List Declared) (k : ℕ) (x : Declared) → list ≡ names.list → k < length list → x ≡ get_or list k x → slice_get (entries_of names) k ≡ Some (view_declared x)
entry_at names list k x e lt here =
    ap (λ (l : List Declared). slice_get (map view_declared l) k) (sym e) ∙ slice_get-map view_declared list k
    ∙ ap (option_map view_declared) (slice_get-get_or list k x lt ∙ ap Some (sym here))

pub entries_long : (names : Names) (list : List Declared) → list ≡ names.list → length (entries_of names) ≡ length list
entries_long names list e = length-map names.list view_declared ∙ ap length (sym e)
