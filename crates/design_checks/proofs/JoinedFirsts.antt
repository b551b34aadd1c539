-- What is refused first of several, one after another.
use Rattle.std.proofs.Common.{◌≡◌, ℕ, ◌+◌, ◌<◌, Bool, true, false, cond, if◌then◌else◌, Option, Some, None, List, [], ◌∷◌, ◌++◌, length, map, take, get_or, refl, sym, ap, ◌∙◌, arith, append-nil, filter}
use Rattle.design_checks.proofs.Common.{option_or, flat_map, nat_tests, flat_map-append, map-append, Place, earlier, first_refusal, sooner, before_by, first_append, Context, name_at, SignalUse, front_more, first_read, first_refused, first_signal, PlacedUse, all_at, is_refused, part_uses, refuses_use, first_use, told, use_at, use_order, RefusedUse, UseRule, PartTree, PartedSection}
use Rattle.std.proofs.lemmas.List.Elements.{filter-append}

-- ---- signals

signal_append : (test : SignalUse → Bool) (us vs : List SignalUse) → first_signal test (us ++ vs) ≡ option_or (first_signal test us) (first_signal test vs)
signal_append test [] vs = refl
signal_append test (u ∷ us) vs = by (test u) (signal_append test us vs)
  where
    by : (b : Bool) → first_signal test (us ++ vs) ≡ option_or (first_signal test us) (first_signal test vs)
        → (if b then Some u.signal else first_signal test (us ++ vs)) ≡ option_or (if b then Some u.signal else first_signal test us) (first_signal test vs)
    by true e = refl
    by false e = e

pub read_append : (r : UseRule) (d : Context) (us vs : List SignalUse) → first_read r d (us ++ vs) ≡ option_or (first_read r d us) (first_read r d vs)
read_append r d us vs = signal_append (λ (u : SignalUse). refuses_use d.device r (name_at d u.signal) u.extension) us vs

-- ---- uses

pub uses_append : (r : UseRule) (d : Context) (us vs : List PlacedUse) → first_refused r d (us ++ vs) ≡ earlier use_order (first_refused r d us) (first_refused r d vs)
uses_append r d us vs =
    let test = is_refused r d in
    ap first_use (filter-append test us vs)
    ∙ (ap (first_refusal use_order) (map-append told (filter test us) (filter test vs))
    ∙ first_append use_order (map told (filter test us)) (map told (filter test vs)))

-- the parts of a section that is gone through
abbrev pub parts_in : PartedSection → List PartTree
parts_in s = s.parts

pub parts_append : (r : UseRule) (d : Context) (ps qs : List PartTree)
    → first_refused r d (flat_map (part_uses d) (ps ++ qs)) ≡ earlier use_order (first_refused r d (flat_map (part_uses d) ps)) (first_refused r d (flat_map (part_uses d) qs))
parts_append r d ps qs = ap (first_refused r d) (flat_map-append (part_uses d) ps qs) ∙ uses_append r d (flat_map (part_uses d) ps) (flat_map (part_uses d) qs)

-- of two at one place the left one stays
stays : (p : Place) (s : ℕ) (o : Option ℕ) → earlier use_order (Some (record { place = p; name = s })) (use_at p o) ≡ Some (record { place = p; name = s })
stays p s None = refl
stays p s (Some r) =
    let x : RefusedUse = record { place = p; name = s } in
    let y : RefusedUse = record { place = p; name = r } in
    ap (λ b. if b then Some y else Some x) (before_by use_order y x ∙ never_sooner p.line p.column)
  where
    never_sooner : (a b : ℕ) → sooner a b 0 a b 0 ≡ false
    never_sooner a b = grind (arith, nat_tests)

use_placed : (p : Place) (test : SignalUse → Bool) (us : List SignalUse) → use_at p (first_signal test us) ≡ first_use (filter (λ (u : PlacedUse). test u.read) (all_at p us))
use_placed p test [] = refl
use_placed p test (u ∷ us) = by (test u) (use_placed p test us)
  where
    here : PlacedUse
    here = record { read = u; place = p }

    rest : List PlacedUse
    rest = filter (λ (u : PlacedUse). test u.read) (all_at p us)

    by : (b : Bool) → use_at p (first_signal test us) ≡ first_use rest → use_at p (if b then Some u.signal else first_signal test us) ≡ first_use (cond b (here ∷ rest) rest)
    by true e = sym (stays p u.signal (first_signal test us)) ∙ ap (earlier use_order (Some (told here))) e
    by false e = e

-- what is read at one place
pub uses_placed : (r : UseRule) (d : Context) (p : Place) (us : List SignalUse) → use_at p (first_read r d us) ≡ first_refused r d (all_at p us)
uses_placed r d p us = use_placed p (λ (u : SignalUse). refuses_use d.device r (name_at d u.signal) u.extension) us

-- ---- lists

-- the first of what the items of a list give, one item more
pub one_more : {Y A R : Type 0} (first : List A → R) (join : R → R → R) → ((us vs : List A) → first (us ++ vs) ≡ join (first us) (first vs)) → (g : List Y → List A) (ys zs : List Y) (y : Y) (us : List A)
    → zs ≡ ys ++ y ∷ [] → g (ys ++ y ∷ []) ≡ g ys ++ us → join (first (g ys)) (first us) ≡ first (g zs)
one_more first join append g ys zs y us more push = sym (append (g ys) us) ∙ ap first (sym (ap g more ∙ push))

pub flat_push : {Y A : Type 0} (uses : Y → List A) (ys : List Y) (y : Y) → flat_map uses (ys ++ y ∷ []) ≡ flat_map uses ys ++ uses y
flat_push uses ys y = flat_map-append uses ys (y ∷ []) ∙ ap (λ us. flat_map uses ys ++ us) (append-nil (uses y))

-- so if each item gives its own
pub joined_more : {X Y A R : Type 0} (first : List A → R) (join : R → R → R) → ((us vs : List A) → first (us ++ vs) ≡ join (first us) (first vs)) → (v : X → Y) (uses : Y → List A) (xs : List X) (k : ℕ) (x : X) → k < length xs → x ≡ get_or xs k x
    → join (first (flat_map uses (map v (take k xs)))) (first (uses (v x))) ≡ first (flat_map uses (map v (take (k + 1) xs)))
joined_more first join append v uses xs k x low is =
    one_more first join append (flat_map uses) (map v (take k xs)) (map v (take (k + 1) xs)) (v x) (uses (v x)) (front_more v xs k x low is) (flat_push uses (map v (take k xs)) (v x))
