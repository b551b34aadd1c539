-- Names that are among those of declarations.
use Rattle.std.proofs.Common.{◌≡◌, ℕ, Bool, true, false, ◌&&◌, ◌||◌, List, [], ◌∷◌, ◌++◌, filter, cond, refl, sym, ap, ◌∙◌}
use Rattle.decls.proofs.Common.{list_all, list_any, bytes_eq, or_left, or_right, true≢false, list_any-append, GivenName}
use Rattle.decls.proofs.FirstNames.{same_bytes}
use Rattle.decls.proofs.Placed.{same_name}

-- the name is one of these
abbrev pub is_among : List GivenName → List ℕ → Bool
is_among xs name = list_any (λ (x : GivenName). bytes_eq name x.name) xs

pub among_left : (xs ys : List GivenName) (name : List ℕ) → is_among xs name ≡ true → is_among (xs ++ ys) name ≡ true
among_left xs ys name e = list_any-append (λ (x : GivenName). bytes_eq name x.name) xs ys ∙ or_left (is_among xs name) (is_among ys name) e

pub among_right : (xs ys : List GivenName) (name : List ℕ) → is_among ys name ≡ true → is_among (xs ++ ys) name ≡ true
among_right xs ys name e = list_any-append (λ (x : GivenName). bytes_eq name x.name) xs ys ∙ or_right (is_among xs name) (is_among ys name) e

-- the names are among these
abbrev pub AreAmong : List GivenName → List GivenName → Type 0
AreAmong all xs = (name : List ℕ) → is_among xs name ≡ true → is_among all name ≡ true

pub rest_among : (all : List GivenName) (x : GivenName) (xs : List GivenName) → AreAmong all (x ∷ xs) → AreAmong all xs
rest_among all x xs are name is = are name (or_right (bytes_eq name x.name) (is_among xs name) is)

pub first_among : (all : List GivenName) (x : GivenName) (xs : List GivenName) → AreAmong all (x ∷ xs) → is_among all x.name ≡ true
first_among all x xs are = are x.name (or_left (bytes_eq x.name x.name) (is_among xs x.name) (same_name x.name))

-- what holds of all of them holds of one
pub of_among : (test : List ℕ → Bool) (xs : List GivenName) (name : List ℕ) → list_all (λ (x : GivenName). test x.name) xs ≡ true → is_among xs name ≡ true → test name ≡ true
of_among test [] name all is = absurd cc
of_among test (x ∷ xs) name all is = by (bytes_eq name x.name) refl (test x.name) refl (of_among test xs name)
  where
    rest : Bool
    rest = list_all (λ (y : GivenName). test y.name) xs

    by : (b : Bool) → bytes_eq name x.name ≡ b → (c : Bool) → test x.name ≡ c → (rest ≡ true → is_among xs name ≡ true → test name ≡ true) → test name ≡ true
    by b same false fails more = absurd (true≢false (sym all ∙ ap (λ d. d && rest) fails))
    by true same true holds more = ap test (same_bytes name x.name same) ∙ holds
    by false other true holds more = more (sym (ap (λ d. d && rest) holds) ∙ all) (sym (ap (λ d. d || is_among xs name) other) ∙ is)

-- a name that passes stays among them
pub among_kept : (test : List ℕ → Bool) (xs : List GivenName) (name : List ℕ) → is_among xs name ≡ true → test name ≡ true → is_among (filter (λ (x : GivenName). test x.name) xs) name ≡ true
among_kept test [] name is holds = absurd cc
among_kept test (x ∷ xs) name is holds = by (bytes_eq name x.name) refl is (test x.name) refl (among_kept test xs name)
  where
    kept : List GivenName
    kept = filter (λ (y : GivenName). test y.name) xs

    by : (b : Bool) → bytes_eq name x.name ≡ b → (b || is_among xs name) ≡ true → (c : Bool) → test x.name ≡ c → (is_among xs name ≡ true → test name ≡ true → is_among kept name ≡ true) → is_among (cond c (x ∷ kept) kept) name ≡ true
    by true same is true h more = ap (λ b. b || is_among kept name) same
    by true same is false h more = absurd (true≢false (sym holds ∙ (ap test (same_bytes name x.name same) ∙ h)))
    by false other is true h more = ap (λ b. b || is_among kept name) other ∙ more is holds
    by false other is false h more = more is holds
