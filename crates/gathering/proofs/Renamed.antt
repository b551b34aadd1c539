-- Vertices by other names: a graph and a larger one, of whose vertices only those of the first graph read or are read, have
-- the same loops and paths.
use Rattle.std.proofs.Common.{◌≡◌, ◌≢◌, ℕ, ◌<◌, ◌≤◌, Bool, true, false, ◌==◌, eqb, List, [], ◌∷◌, ◌++◌, map, get_or, refl, ap, ap₂, sym, ◌∙◌, subst, arith, eqb-true, ne_eqb, inl, inr}
use Rattle.gathering.proofs.Common.{IsDistinct, AllByRecursion, true≢false, cases_eq, cases_lt, eq-eqb, or_cases, or_left, or_right, map-append, has, IsChain, IsLoop, IsLeastLoop, HasNoLoop, IsPath, HasNoPath, eqb_same, has_push}
use Rattle.pld_order.proofs.DoneSets.{has_more}

first_in : (x : ℕ) (xs : List ℕ) → has (x ∷ xs) x ≡ true
first_in x xs = or_left (eqb x x) (has xs x) (eqb_same x)

later_in : (x : ℕ) (xs : List ℕ) (v : ℕ) → has xs v ≡ true → has (x ∷ xs) v ≡ true
later_in x xs v there = or_right (eqb v x) (has xs v) there

-- what a mapped list has is the image of what the list has
image : (up : ℕ → ℕ) (xs : List ℕ) (v : ℕ) → has (map up xs) v ≡ true → (x : ℕ) × (has xs x ≡ true) × (up x ≡ v)
image up [] v there = absurd (true≢false (sym there))
image up (x ∷ xs) v there =
    elim (or_cases (eqb v (up x)) (has (map up xs) v) there) [
      | inl same ↦ (x, first_in x xs, sym (eqb-true v (up x) same))
      | inr later ↦ let of = image up xs v later in (of.0, later_in x xs of.0 of.1, of.2)
    ]

imaged : (up : ℕ → ℕ) (xs : List ℕ) (x : ℕ) → has xs x ≡ true → has (map up xs) (up x) ≡ true
imaged up [] x there = absurd (true≢false (sym there))
imaged up (y ∷ ys) x there =
    elim (or_cases (eqb x y) (has ys x) there) [
      | inl same ↦ subst (λ z. has (up y ∷ map up ys) (up z) ≡ true) (sym (eqb-true x y same)) (first_in (up y) (map up ys))
      | inr later ↦ later_in (up y) (map up ys) (up x) (imaged up ys x later)
    ]

before_in : (before : List ℕ) (last v : ℕ) → has before v ≡ true → has (before ++ last ∷ []) v ≡ true
before_in before last v there = has_more before last v ∙ or_right (v == last) (has before v) there

last_in : (before : List ℕ) (last : ℕ) → has (before ++ last ∷ []) last ≡ true
last_in before last = has_more before last last ∙ or_left (last == last) (has before last) (eqb_same last)

begin_in : (before : List ℕ) (last : ℕ) → has (before ++ last ∷ []) (get_or (before ++ last ∷ []) 0 0) ≡ true
begin_in [] last = first_in last []
begin_in (x ∷ xs) last = first_in x (xs ++ last ∷ [])

-- ---- other names for some vertices, which stay apart

module _ (D : ℕ → Type 0) (name : ℕ → ℕ) (apart : (v w : ℕ) → D v → D w → name v ≡ name w → v ≡ w) where
  abbrev pub AllIn : List ℕ → Type 0
  AllIn xs = (v : ℕ) → has xs v ≡ true → D v

  apart_from : (x : ℕ) (ys : List ℕ) → D x → AllIn ys → AllByRecursion (λ y. eqb x y ≡ false) ys → AllByRecursion (λ y. eqb (name x) y ≡ false) (map name ys)
  apart_from x [] x_in inside once = once
  apart_from x (y ∷ ys) x_in inside once = (
    ne_eqb (name x) (name y) (λ e. true≢false (sym (eq-eqb x y (apart x y x_in (inside y (first_in y ys)) e)) ∙ once.0)),
    apart_from x ys x_in (λ z there. inside z (later_in y ys z there)) once.1,
  )

  named_once : (ys : List ℕ) → AllIn ys → IsDistinct eqb ys → IsDistinct eqb (map name ys)
  unfolding IsDistinct
  named_once [] inside once = once
  named_once (y ∷ ys) inside once = (apart_from y ys (inside y (first_in y ys)) (λ z there. inside z (later_in y ys z there)) once.0, named_once ys (λ z there. inside z (later_in y ys z there)) once.1)

  -- which read as those of another graph
  module _ (g h : ℕ → ℕ → Bool) (same : (v w : ℕ) → D v → D w → g v w ≡ h (name v) (name w)) (m n : ℕ) (within : (v : ℕ) → D v → name v < n) where
    named_chain : (xs : List ℕ) (end : ℕ) → AllIn xs → D end → IsChain g xs end → IsChain h (map name xs) (name end)
    named_chain [] end inside end_in chain = tt
    named_chain (x ∷ []) end inside end_in chain = (sym (same x end (inside x (first_in x [])) end_in) ∙ chain.0, tt)
    named_chain (x ∷ y ∷ xs) end inside end_in chain = (
      sym (same x y (inside x (first_in x (y ∷ xs))) (inside y (later_in x (y ∷ xs) y (first_in y xs)))) ∙ chain.0,
      named_chain (y ∷ xs) end (λ v there. inside v (later_in x (y ∷ xs) v there)) end_in chain.1,
    )

    named_within : (xs : List ℕ) → AllIn xs → (v : ℕ) → has (map name xs) v ≡ true → v < n
    named_within xs inside v there = let of = image name xs v there in subst (λ k. k < n) of.2 (within of.0 (inside of.0 of.1))

    pub named_loop : (chain : List ℕ) → AllIn chain → IsLoop m g chain → IsLoop n h (map name chain)
    named_loop [] inside is = absurd (is.some refl)
    named_loop (x ∷ xs) inside is = record {
      some = λ e. absurd cc;
      inside = named_within (x ∷ xs) inside;
      once = named_once (x ∷ xs) inside is.once;
      returns = named_chain (x ∷ xs) x inside (inside x (first_in x xs)) is.returns;
    }

    module _ (starts ends begins stops : ℕ → Bool) (same_starts : (v : ℕ) → D v → starts v ≡ begins (name v)) (same_ends : (v : ℕ) → D v → ends v ≡ stops (name v)) where
      first_of : (before : List ℕ) (last : ℕ) → get_or (map name (before ++ last ∷ [])) 0 0 ≡ name (get_or (before ++ last ∷ []) 0 0)
      first_of [] last = refl
      first_of (x ∷ xs) last = refl

      pub named_path : (path : List ℕ) → AllIn path → IsPath m g starts ends path → IsPath n h begins stops (map name path)
      named_path path inside is =
          let all : AllIn (is.before ++ is.last ∷ []) = (λ v there. inside v (subst (λ p. has p v ≡ true) (sym is.is) there)) in
          record {
            before = map name is.before;
            last = name is.last;
            is = ap (map name) is.is ∙ map-append name is.before (is.last ∷ []);
            inside = named_within path inside;
            begins = ap begins (ap (λ p. get_or (map name p) 0 0) is.is ∙ first_of is.before is.last)
                ∙ sym (same_starts (get_or (is.before ++ is.last ∷ []) 0 0) (all (get_or (is.before ++ is.last ∷ []) 0 0) (begin_in is.before is.last)))
                ∙ ap (λ p. starts (get_or p 0 0)) (sym is.is) ∙ is.begins;
            leads = named_chain is.before is.last (λ v there. all v (before_in is.before is.last v there)) (all is.last (last_in is.before is.last)) is.leads;
            arrives = sym (same_ends is.last (all is.last (last_in is.before is.last))) ∙ is.arrives;
          }

-- ---- a graph within a larger one

module _ (up down : ℕ → ℕ) (count n : ℕ) (rises : (v w : ℕ) → v < w → w < count → up v < up w) (up_in : (v : ℕ) → v < count → up v < n)
    (g h : ℕ → ℕ → Bool) (same : (v w : ℕ) → v < count → w < count → g v w ≡ h (up v) (up w)) where
  abbrev IsInside : ℕ → Type 0
  IsInside v = v < count

  -- a vertex of the larger graph that is one of the first
  abbrev pub IsImage : ℕ → Type 0
  IsImage s = (down s < count) × (up (down s) ≡ s)

  injective : (v w : ℕ) → v < count → w < count → up v ≡ up w → v ≡ w
  injective v w v_in w_in is =
      elim (cases_eq v w) [
        | inl e ↦ e
        | inr other ↦ elim (cases_lt v w) [
          | inl less ↦ absurd (omega (arith, rises v w less w_in, is))
          | inr high ↦ let less : w < v = omega (arith, high, other) in absurd (omega (arith, rises w v less v_in, is))
        ]
      ]

  down_apart : (s r : ℕ) → IsImage s → IsImage r → down s ≡ down r → s ≡ r
  down_apart s r i j e = sym i.1 ∙ ap up e ∙ j.1

  down_same : (s r : ℕ) → IsImage s → IsImage r → h s r ≡ g (down s) (down r)
  down_same s r i j = ap₂ h (sym i.1) (sym j.1) ∙ sym (same (down s) (down r) i.0 j.0)

  module _ (reader : (s r : ℕ) → h s r ≡ true → IsImage s) (readee : (s r : ℕ) → h s r ≡ true → IsImage r) where
    readers : (xs : List ℕ) (end : ℕ) → IsChain h xs end → (s : ℕ) → has xs s ≡ true → IsImage s
    readers [] end chain s there = absurd (true≢false (sym there))
    readers (x ∷ xs) end chain s there =
        elim (or_cases (eqb s x) (has xs s) there) [
          | inl here ↦ subst IsImage (sym (eqb-true s x here)) (reader x (get_or xs 0 end) chain.0)
          | inr later ↦ readers xs end chain.1 s later
        ]

    loop_down : (chain : List ℕ) → IsLoop n h chain → IsLoop count g (map down chain)
    loop_down chain is = named_loop IsImage down down_apart h g down_same n count (λ s i. i.0) chain (readers chain (get_or chain 0 0) is.returns) is

    pub no_loop_up : HasNoLoop count g → HasNoLoop n h
    no_loop_up none chain is = none (map down chain) (loop_down chain is)

    rises_weakly : (v w : ℕ) → v ≤ w → w < count → up v ≤ up w
    rises_weakly v w low w_in =
        elim (cases_eq v w) [
          | inl is ↦ omega (arith, ap up is)
          | inr other ↦ let less : v < w = omega (arith, low, other) in omega (arith, rises v w less w_in)
        ]

    first_up : (chain : List ℕ) → chain ≢ [] → get_or (map up chain) 0 0 ≡ up (get_or chain 0 0)
    first_up [] some = absurd (some refl)
    first_up (x ∷ xs) some = refl

    pub least_up : (chain : List ℕ) → IsLeastLoop count g chain → IsLeastLoop n h (map up chain)
    least_up chain is = record {
      is_loop = named_loop IsInside up injective g h same count n up_in chain is.is_loop.inside is.is_loop;
      least = λ other loop v there.
          let of = readers other (get_or other 0 0) loop.returns v there in
          let below = rises_weakly (get_or chain 0 0) (down v) (is.least (map down other) (loop_down other loop) (down v) (imaged down other v there)) of.0 in
          omega (arith, first_up chain is.is_loop.some, below, of.1);
    }

    module _ (starts ends begins stops : ℕ → Bool) (same_starts : (v : ℕ) → v < count → starts v ≡ begins (up v)) (same_ends : (v : ℕ) → v < count → ends v ≡ stops (up v))
        (starter : (s : ℕ) → begins s ≡ true → IsImage s) where
      pub path_up : (path : List ℕ) → IsPath count g starts ends path → IsPath n h begins stops (map up path)
      path_up path is = named_path IsInside up injective g h same count n up_in starts ends begins stops same_starts same_ends path is.inside is

      -- the last of a chain is read, or it is the first
      last_image : (before : List ℕ) (last : ℕ) → IsChain h before last → begins (get_or (before ++ last ∷ []) 0 0) ≡ true → IsImage last
      last_image [] last chain first = starter last first
      last_image (x ∷ []) last chain first = readee x last chain.0
      last_image (x ∷ y ∷ xs) last chain first = last_read y xs last chain.1
        where
          last_read : (y : ℕ) (xs : List ℕ) (last : ℕ) → IsChain h (y ∷ xs) last → IsImage last
          last_read y [] last chain = readee y last chain.0
          last_read y (z ∷ xs) last chain = last_read z xs last chain.1

      path_images : (path : List ℕ) → IsPath n h begins stops path → (s : ℕ) → has path s ≡ true → IsImage s
      path_images path is s there =
          elim (has_push is.before is.last s (subst (λ p. has p s ≡ true) is.is there)) [
            | inl early ↦ readers is.before is.last is.leads s early
            | inr last ↦ subst IsImage (sym last) (last_image is.before is.last is.leads (ap (λ p. begins (get_or p 0 0)) (sym is.is) ∙ is.begins))
          ]

      pub no_path_up : HasNoPath count g starts ends → HasNoPath n h begins stops
      no_path_up none path is =
          none (map down path)
          (named_path IsImage down down_apart h g down_same n count (λ s i. i.0) begins stops starts ends
          (λ s i. ap begins (sym i.1) ∙ sym (same_starts (down s) i.0)) (λ s i. ap stops (sym i.1) ∙ sym (same_ends (down s) i.0)) path (path_images path is) is)
