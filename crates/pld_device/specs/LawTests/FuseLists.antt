-- That a test over lists of fuses distinguishes their entries (private: for the laws of tables).
use Rattle.std.proofs.Common.{◌≡◌, ℕ, zero, suc, Bool, true, not, Option, Some, None, List, [], ◌∷◌, ◌++◌, get_or, refl, ap, sym, subst, ◌∙◌, arith, eq-eqb}
use Rattle.std.specs.Prelude.{◌==◌, Contains, slice_get, map}
use Rattle.std.specs.List.{list_all}
use Rattle.std.proofs.lemmas.Bool.{and_parts}
use Rattle.std.proofs.lemmas.List.Folds.{list_all-append}
use Rattle.pld_device.specs.declared.fuse_bit.FuseBit.{FuseBit}
use Rattle.pld_device.specs.ControlFuses.{fuses_named}
use Rattle.pld_device.specs.Laws.{fuse_if_any}
use Rattle.pld_device.specs.LawTests.Lists.{apart, not_both, get_all}

-- a test that a list's parts pass if the whole does
both_pass : {X : Type 0} (test : X → Bool) (xs ys : List X) → list_all test (xs ++ ys) ≡ true → (list_all test xs ≡ true) × (list_all test ys ≡ true)
both_pass test xs ys all = and_parts (list_all test xs) (list_all test ys) (sym (list_all-append test xs ys) ∙ all)

-- no number of the list is this one
abbrev is_absent : ℕ → List ℕ → Bool
is_absent n ns = list_all (λ m. not (n == m)) ns

-- no two numbers of the list are the same
abbrev pub are_apart : List ℕ → Bool
are_apart ns = apart (λ a b. a == b) ns

absent : (n : ℕ) (ns : List ℕ) → is_absent n ns ≡ true → Contains ns n → ⊥
absent n ns test (k, within, same) =
    let here : not (n == n) ≡ true = subst (λ m. not (n == m) ≡ true) same (get_all (λ m. not (n == m)) ns k n test within) in
    not_both (n == n) here (eq-eqb n n refl)

pub apart_parts : (ns ms : List ℕ) → are_apart (ns ++ ms) ≡ true → (are_apart ns ≡ true) × (are_apart ms ≡ true)
apart_parts [] ms test = (refl, test)
apart_parts (n ∷ ns) ms test =
    let parts = and_parts (is_absent n (ns ++ ms)) (are_apart (ns ++ ms)) test in
    let rest = apart_parts ns ms parts.1 in
    let none = both_pass (λ m. not (n == m)) ns ms parts.0 in
    (rw (none.0, rest.0) refl, rest.1)

pub in_one_part : (ns ms : List ℕ) (n : ℕ) → are_apart (ns ++ ms) ≡ true → Contains ns n → Contains ms n → ⊥
in_one_part [] ms n test (k, within, same) there = absurd (omega arith)
in_one_part (m ∷ ns) ms n test (zero, within, same) there =
    let parts = and_parts (is_absent m (ns ++ ms)) (are_apart (ns ++ ms)) test in
    let none = both_pass (λ k. not (m == k)) ns ms parts.0 in
    absent m ms none.1 (rw same there)
in_one_part (m ∷ ns) ms n test (suc k, within, same) there =
    let parts = and_parts (is_absent m (ns ++ ms)) (are_apart (ns ++ ms)) test in
    in_one_part ns ms n parts.1 (k, omega arith, same) there

-- a number that an entry names, and which entry names it
later : (m n : ℕ) (ns : List ℕ) → Contains ns n → Contains (m ∷ ns) n
later m n ns (k, within, same) = (suc k, omega arith, same)

pub named : (entries : List (Option FuseBit)) (c fuse : ℕ) → fuse_if_any (get_or entries c None) ≡ Some fuse → Contains (fuses_named entries) fuse
named [] c fuse found = absurd cc
named (None ∷ entries) zero fuse found = absurd cc
named (None ∷ entries) (suc c) fuse found = named entries c fuse found
named (Some bit ∷ entries) zero fuse found = (0, omega arith, same found)
  where
    same : Some bit.fuse ≡ Some fuse → bit.fuse ≡ fuse
    same e = cc
named (Some bit ∷ entries) (suc c) fuse found = later bit.fuse fuse (fuses_named entries) (named entries c fuse found)

first_absent : (bit : FuseBit) (entries : List (Option FuseBit)) → are_apart (fuses_named (Some bit ∷ entries)) ≡ true → (fuse : ℕ) → Some bit.fuse ≡ Some fuse → Contains (fuses_named entries) fuse → ⊥
first_absent bit entries test fuse here there =
    let same : bit.fuse ≡ fuse = cc in
    absent bit.fuse (fuses_named entries) ((and_parts (is_absent bit.fuse (fuses_named entries)) (are_apart (fuses_named entries)) test).0) (rw same there)

pub named_once : (entries : List (Option FuseBit)) → are_apart (fuses_named entries) ≡ true → (c d fuse : ℕ) → fuse_if_any (get_or entries c None) ≡ Some fuse → fuse_if_any (get_or entries d None) ≡ Some fuse → c ≡ d
named_once [] test c d fuse here there = absurd cc
named_once (None ∷ entries) test zero d fuse here there = absurd cc
named_once (None ∷ entries) test (suc c) zero fuse here there = absurd cc
named_once (None ∷ entries) test (suc c) (suc d) fuse here there = ap suc (named_once entries test c d fuse here there)
named_once (Some bit ∷ entries) test zero zero fuse here there = refl
named_once (Some bit ∷ entries) test zero (suc d) fuse here there =
    absurd (first_absent bit entries test fuse here (named entries d fuse there))
named_once (Some bit ∷ entries) test (suc c) zero fuse here there =
    absurd (first_absent bit entries test fuse there (named entries c fuse here))
named_once (Some bit ∷ entries) test (suc c) (suc d) fuse here there =
    ap suc (named_once entries ((and_parts (is_absent bit.fuse (fuses_named entries)) (are_apart (fuses_named entries)) test).1) c d fuse here there)

-- the same of a list of fuses
pub listed : (ns : List ℕ) (i n : ℕ) → slice_get ns i ≡ Some n → Contains ns n
listed [] i n found = absurd cc
listed (m ∷ ns) zero n found = (0, omega arith, same found)
  where
    same : Some m ≡ Some n → m ≡ n
    same e = cc
listed (m ∷ ns) (suc i) n found = later m n ns (listed ns i n found)

pub listed_once : (ns : List ℕ) → are_apart ns ≡ true → (i j n : ℕ) → slice_get ns i ≡ Some n → slice_get ns j ≡ Some n → i ≡ j
listed_once [] test i j n here there = absurd cc
listed_once (m ∷ ns) test zero zero n here there = refl
listed_once (m ∷ ns) test zero (suc j) n here there =
    let same : m ≡ n = cc in
    absurd (absent m ns ((and_parts (is_absent m ns) (are_apart ns) test).0) (rw same (listed ns j n there)))
listed_once (m ∷ ns) test (suc i) zero n here there =
    let same : m ≡ n = cc in
    absurd (absent m ns ((and_parts (is_absent m ns) (are_apart ns) test).0) (rw same (listed ns i n here)))
listed_once (m ∷ ns) test (suc i) (suc j) n here there = ap suc (listed_once ns ((and_parts (is_absent m ns) (are_apart ns) test).1) i j n here there)

-- the same of the fixed ones
abbrev pub fixed_fuses : List FuseBit → List ℕ
fixed_fuses bits = map (λ (bit : FuseBit). bit.fuse) bits

pub fixed_at : (bits : List FuseBit) (i n : ℕ) → fuse_if_any (slice_get bits i) ≡ Some n → slice_get (fixed_fuses bits) i ≡ Some n
fixed_at [] i n found = absurd cc
fixed_at (bit ∷ bits) zero n found = found
fixed_at (bit ∷ bits) (suc i) n found = fixed_at bits i n found
