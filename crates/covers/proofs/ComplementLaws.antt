-- The points of a literal's cofactor and of a cube's complement.
use Rattle.std.proofs.Common.{◌≡◌, ℕ, zero, suc, ◌+◌, ◌<◌, ◌≤◌, min, Bool, true, false, not, ◌&&◌, ◌||◌, ◌==◌, if◌then◌else◌, inl, inr, List, [], ◌∷◌, ◌++◌, length, slice_range, refl, sym, ap, ◌∙◌, arith, append_assoc, append-nil, length-append}
use Rattle.covers.proofs.Common.{bit_at, cases_eq, ne_eqb, and_parts, and_from, list_any-append, bit_at-lt, is_on, same_level, Cube, asks, fits, has_point, covers, is_empty, literal_cube, cofactor_of, complement_of, opposites_at, IsCofactor}
use Rattle.covers.proofs.CubeBits.{literal_below, single_each}
use Rattle.covers.proofs.CubePoints.{fits_at, has_point_each, literal_has, literal_points}
use Rattle.covers.proofs.CofactorLists.{appended}
use Rattle.covers.proofs.MovedPoints.{covers-cofactor}

-- ---- the cofactor by a literal

pub literal_cofactor : (vars v from to : ℕ) (level : Bool) (by : Cube) (old new cubes : List Cube) → vars ≤ 22 → v < vars → by ≡ literal_cube v level
    → new ≡ old ++ cofactor_of by cubes → from ≡ length old → to ≡ length new → IsCofactor cubes v level vars (slice_range new from to)
literal_cofactor vars v from to level by old new cubes few lt by-is grown start end = λ p len is.
    let part = appended old new (cofactor_of by cubes) from to grown start end in
    rw (part, by-is) (covers-cofactor (literal_cube v level) cubes p (omega (arith, len, few)) (rw len (literal_below v vars level lt)) (literal_has v level p is))

-- ---- the complement

-- the opposites of the literals of one variable have the points that don't fit there
opposites_bits : (a b : ℕ) (x y z : Bool) → a < 2 → b < 2 → y ≡ same_level false x → z ≡ same_level true x
    → ((if a == 1 then y || false else false) || (if b == 1 then z || false else false)) ≡ not (fits a b x)
opposites_bits zero zero true y z la lb e f = refl
opposites_bits zero zero false y z la lb e f = refl
opposites_bits (suc zero) zero true y z la lb e f = rw e refl
opposites_bits (suc zero) zero false y z la lb e f = rw e refl
opposites_bits zero (suc zero) true y z la lb e f = rw f refl
opposites_bits zero (suc zero) false y z la lb e f = rw f refl
opposites_bits (suc zero) (suc zero) true y z la lb e f = rw (e, f) refl
opposites_bits (suc zero) (suc zero) false y z la lb e f = rw e refl
opposites_bits (suc (suc a)) b x y z la lb e f = absurd (omega arith)
opposites_bits a (suc (suc b)) x y z la lb e f = absurd (omega arith)

any_if : (b : Bool) (c : Cube) (p : List Bool) → covers (if b then c ∷ [] else []) p ≡ (if b then has_point c p || false else false)
any_if true c p = refl
any_if false c p = refl

opposites_points : (c : Cube) (v : ℕ) (p : List Bool) → v < length p → covers (opposites_at c v) p ≡ not (fits (bit_at c.yes v) (bit_at c.no v) (is_on p v))
opposites_points c v p lt =
    list_any-append (λ d. has_point d p) (if asks v true c then literal_cube v false ∷ [] else []) (if asks v false c then literal_cube v true ∷ [] else [])
    ∙ rw (any_if (asks v true c) (literal_cube v false) p, any_if (asks v false c) (literal_cube v true) p)
    (opposites_bits (bit_at c.yes v) (bit_at c.no v) (is_on p v) (has_point (literal_cube v false) p) (has_point (literal_cube v true) p) (bit_at-lt c.yes v) (bit_at-lt c.no v) (literal_points v false p lt) (literal_points v true p lt))

-- the point fits the cube at the first variables
fits_first : Cube → List Bool → ℕ → Bool
fits_first c p zero = true
fits_first c p (suc n) = fits_first c p n && fits (bit_at c.yes n) (bit_at c.no n) (is_on p n)

not_and : (a b : Bool) → (not a || not b) ≡ not (a && b)
not_and true b = refl
not_and false b = refl

complement_first : (c : Cube) (p : List Bool) (n : ℕ) → n ≤ length p → covers (complement_of c n) p ≡ not (fits_first c p n)
unfolding complement_of fits_first
complement_first c p zero few = refl
complement_first c p (suc n) few =
    list_any-append (λ d. has_point d p) (complement_of c n) (opposites_at c n)
    ∙ rw (complement_first c p n (omega arith), opposites_points c n p (omega arith)) (not_and (fits_first c p n) (fits (bit_at c.yes n) (bit_at c.no n) (is_on p n)))

first_each : (c : Cube) (p : List Bool) (n : ℕ) → fits_first c p n ≡ true → (v : ℕ) → v < n → fits (bit_at c.yes v) (bit_at c.no v) (is_on p v) ≡ true
unfolding fits_first
first_each c p zero is v lt = absurd (omega arith)
first_each c p (suc n) is v lt =
    let parts = and_parts (fits_first c p n) (fits (bit_at c.yes n) (bit_at c.no n) (is_on p n)) is in
    elim (cases_eq v n) [ inl same ↦ rw same parts.1 | inr other ↦ first_each c p n parts.0 v (omega arith) ]

first_from : (c : Cube) (p : List Bool) (n : ℕ) → ((v : ℕ) → v < n → fits (bit_at c.yes v) (bit_at c.no v) (is_on p v) ≡ true) → fits_first c p n ≡ true
unfolding fits_first
first_from c p zero each = refl
first_from c p (suc n) each = and_from (fits_first c p n) (fits (bit_at c.yes n) (bit_at c.no n) (is_on p n)) (first_from c p n (λ v lt. each v (omega arith))) (each n (omega arith))

same_test : (a b : Bool) → (a ≡ true → b ≡ true) → (b ≡ true → a ≡ true) → a ≡ b
same_test true b f g = sym (f refl)
same_test false true f g = g refl
same_test false false f g = refl

pub complement_points : (c : Cube) (vars : ℕ) (p : List Bool) → length p ≡ vars → covers (complement_of c vars) p ≡ not (has_point c p)
complement_points c vars p len =
    complement_first c p vars (omega (arith, len))
    ∙ ap not (same_test (fits_first c p vars) (has_point c p)
    (λ is. has_point_each c p (λ v lt. first_each c p vars is v (omega (arith, lt, len))))
    (λ is. first_from c p vars (λ v lt. fits_at c p v is (omega (arith, lt, len)))))

-- ---- how long it is

few_if : (b : Bool) (c : Cube) → length (if b then c ∷ [] else []) ≤ 1
few_if true c = omega arith
few_if false c = omega arith

few_opposites : (a b : ℕ) (c d : Cube) → min a b ≡ 0 → length ((if a == 1 then c ∷ [] else []) ++ (if b == 1 then d ∷ [] else [])) ≤ 1
few_opposites zero zero c d single = omega arith
few_opposites zero (suc zero) c d single = omega arith
few_opposites zero (suc (suc b)) c d single = few_if (suc (suc b) == 1) d
few_opposites (suc zero) zero c d single = omega arith
few_opposites (suc (suc a)) zero c d single = let none : (suc (suc a) == 1) ≡ false = ne_eqb (suc (suc a)) 1 (λ e. absurd (omega (arith, e))) in rw none (omega arith)
few_opposites (suc a) (suc b) c d single = absurd (omega arith)

-- one opposite at most for each variable
pub opposites_few : (c : Cube) (v : ℕ) → is_empty c ≡ false → length (opposites_at c v) ≤ 1
opposites_few c v single = few_opposites (bit_at c.yes v) (bit_at c.no v) (literal_cube v false) (literal_cube v true) (single_each c single v)

pub complement_few : (c : Cube) (n : ℕ) → is_empty c ≡ false → length (complement_of c n) ≤ n
unfolding complement_of
complement_few c zero single = omega arith
complement_few c (suc n) single = omega (arith, length-append (complement_of c n) (opposites_at c n), complement_few c n single, opposites_few c n single)

pub complement_start : (c : Cube) (old : List Cube) → old ≡ old ++ complement_of c 0
unfolding complement_of
complement_start c old = sym (append-nil old)

pub complement_more : (c : Cube) (n m : ℕ) (old new grown : List Cube) → m ≡ n + 1 → new ≡ old ++ complement_of c n → grown ≡ new ++ opposites_at c n → grown ≡ old ++ complement_of c m
unfolding complement_of
complement_more c n m old new grown next so_far more =
    let after : m ≡ suc n = omega arith in
    rw (after, more, so_far) (append_assoc old (complement_of c n) (opposites_at c n))
