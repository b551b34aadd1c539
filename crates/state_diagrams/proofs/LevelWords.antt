-- Words of levels, which fold without a node.
use Rattle.std.proofs.Common.{◌≡◌, true, false, [], ◌∷◌, map, refl, arith}
use Rattle.state_diagrams.proofs.Common.{Const, Formula, Made, free, ◌>>=◌, make_and, make_not}
use Rattle.abel_meaning.specs.BitWords.{Word, each_not, less_bit, next_carry, sum_bit, sum_bits, difference_bits, equal_bits, less_bits, word_by_position}
unfoldable use Rattle.bit_expr.specs.Folding.{make_or, make_xor}

-- a formula that is a level
abbrev pub IsLevel : Formula → Type 0
IsLevel (Const level) = Unit {0}
IsLevel _ = ⊥

abbrev pub AreLevels : Word → Type 0
AreLevels [] = Unit {0}
AreLevels (f ∷ fs) = IsLevel f × AreLevels fs

-- made of what was there
abbrev pub IsStill : {A : Type 0} → (A → Type 0) → Made A → Type 0
IsStill P m = (m.nodes ≡ 0) × P m.what

-- one thing of another
pub then_still : {A B : Type 0} (P : A → Type 0) (Q : B → Type 0) (m : Made A) (f : A → Made B) → IsStill P m → ((a : A) → P a → IsStill Q (f a)) → IsStill Q (m >>= f)
then_still P Q m f h g = let n = g m.what h.1 in (omega (arith, h.0, n.0), n.1)

-- ---- one position

pub not_still : (f : Formula) → IsLevel f → IsStill IsLevel (make_not f)
unfolding make_not
not_still (Const a) l = (refl, tt)
not_still _ l = absurd l

pub and_still : (f g : Formula) → IsLevel f → IsLevel g → IsStill IsLevel (make_and f g)
unfolding make_and
and_still (Const false) g l m = (refl, tt)
and_still (Const true) g l m = (refl, m)
and_still _ g l m = absurd l

pub or_still : (f g : Formula) → IsLevel f → IsLevel g → IsStill IsLevel (make_or f g)
unfolding make_or
or_still (Const true) g l m = (refl, tt)
or_still (Const false) g l m = (refl, m)
or_still _ g l m = absurd l

pub xor_still : (f g : Formula) → IsLevel f → IsLevel g → IsStill IsLevel (make_xor f g)
unfolding make_xor
xor_still (Const false) g l m = (refl, m)
xor_still (Const true) g l m = not_still g m
xor_still _ g l m = absurd l

pub xnor_still : (f g : Formula) → IsLevel f → IsLevel g → IsStill IsLevel (make_xor f g >>= make_not)
xnor_still f g l m = then_still IsLevel IsLevel (make_xor f g) make_not (xor_still f g l m) not_still

sum_still : (x y c : Formula) → IsLevel x → IsLevel y → IsLevel c → IsStill IsLevel (sum_bit x y c)
sum_still x y c l m n = then_still IsLevel IsLevel (make_xor x y) (λ p. make_xor p c) (xor_still x y l m) (λ p k. xor_still p c k n)

carry_still : (x y c : Formula) → IsLevel x → IsLevel y → IsLevel c → IsStill IsLevel (next_carry x y c)
carry_still x y c l m n =
    then_still IsLevel IsLevel (make_and x y) (λ p. make_or x y >>= λ q. make_and q c >>= λ r. make_or p r) (and_still x y l m) (λ p i.
    then_still IsLevel IsLevel (make_or x y) (λ q. make_and q c >>= λ r. make_or p r) (or_still x y l m) (λ q j.
    then_still IsLevel IsLevel (make_and q c) (λ r. make_or p r) (and_still q c j n) (λ r k. or_still p r i k)))

less_still : (x y less : Formula) → IsLevel x → IsLevel y → IsLevel less → IsStill IsLevel (less_bit x y less)
less_still x y less l m n =
    then_still IsLevel IsLevel (make_not x) (λ a. make_and a y >>= λ p. make_not x >>= λ b. make_or b y >>= λ q. make_and q less >>= λ r. make_or p r) (not_still x l) (λ a g.
    then_still IsLevel IsLevel (make_and a y) (λ p. make_not x >>= λ b. make_or b y >>= λ q. make_and q less >>= λ r. make_or p r) (and_still a y g m) (λ p h.
    then_still IsLevel IsLevel (make_not x) (λ b. make_or b y >>= λ q. make_and q less >>= λ r. make_or p r) (not_still x l) (λ b i.
    then_still IsLevel IsLevel (make_or b y) (λ q. make_and q less >>= λ r. make_or p r) (or_still b y i m) (λ q j.
    then_still IsLevel IsLevel (make_and q less) (λ r. make_or p r) (and_still q less j n) (λ r k. or_still p r h k)))))

-- ---- words

one_before : (m : Made Formula) (w : Made Word) → IsStill IsLevel m → IsStill AreLevels w → IsStill AreLevels (m >>= λ x. w >>= λ xs. free (x ∷ xs))
one_before m w h k =
    then_still IsLevel AreLevels m (λ x. w >>= λ xs. free (x ∷ xs)) h (λ x i.
    then_still AreLevels AreLevels w (λ xs. free (x ∷ xs)) k (λ xs j. (refl, (i, j))))

pub nots_still : (xs : Word) → AreLevels xs → IsStill AreLevels (each_not xs)
nots_still [] l = (refl, tt)
nots_still (x ∷ xs) l = one_before (make_not x) (each_not xs) (not_still x l.0) (nots_still xs l.1)

pub zeros : (xs : Word) → AreLevels (map (λ x. Const false) xs)
zeros [] = tt
zeros (x ∷ xs) = (tt, zeros xs)

pub positions_still : (f : Formula → Formula → Made Formula) → ((x y : Formula) → IsLevel x → IsLevel y → IsStill IsLevel (f x y))
    → (xs ys : Word) → AreLevels xs → AreLevels ys → IsStill AreLevels (word_by_position f xs ys)
positions_still f each [] ys l m = (refl, tt)
positions_still f each (x ∷ xs) [] l m = (refl, tt)
positions_still f each (x ∷ xs) (y ∷ ys) l m =
    one_before (f x y) (word_by_position f xs ys) (each x y l.0 m.0) (positions_still f each xs ys l.1 m.1)

pub sums_still : (xs ys : Word) (c : Formula) → AreLevels xs → AreLevels ys → IsLevel c → IsStill AreLevels (sum_bits xs ys c)
sums_still [] ys c l m n = (refl, tt)
sums_still (x ∷ xs) [] c l m n = (refl, tt)
sums_still (x ∷ []) (y ∷ ys) c l m n =
    then_still IsLevel AreLevels (sum_bit x y c) (λ s. free (s ∷ [])) (sum_still x y c l.0 m.0 n) (λ s k. (refl, (k, tt)))
sums_still (x ∷ x1 ∷ xs) (y ∷ ys) c l m n =
    then_still IsLevel AreLevels (sum_bit x y c) (λ s. next_carry x y c >>= λ d. sum_bits (x1 ∷ xs) ys d >>= λ ss. free (s ∷ ss)) (sum_still x y c l.0 m.0 n) (λ s i.
    then_still IsLevel AreLevels (next_carry x y c) (λ d. sum_bits (x1 ∷ xs) ys d >>= λ ss. free (s ∷ ss)) (carry_still x y c l.0 m.0 n) (λ d j.
    then_still AreLevels AreLevels (sum_bits (x1 ∷ xs) ys d) (λ ss. free (s ∷ ss)) (sums_still (x1 ∷ xs) ys d l.1 m.1 j) (λ ss k. (refl, (i, k)))))

pub difference_still : (xs ys : Word) → AreLevels xs → AreLevels ys → IsStill AreLevels (difference_bits xs ys)
difference_still xs ys l m =
    then_still AreLevels AreLevels (each_not ys) (λ ns. sum_bits xs ns (Const true)) (nots_still ys m) (λ ns k. sums_still xs ns (Const true) l k tt)

pub equals_still : (found : Formula) (xs ys : Word) → IsLevel found → AreLevels xs → AreLevels ys → IsStill IsLevel (equal_bits found xs ys)
equals_still found [] ys n l m = (refl, n)
equals_still found (x ∷ xs) [] n l m = (refl, n)
equals_still found (x ∷ xs) (y ∷ ys) n l m =
    then_still IsLevel IsLevel (make_xor x y) (λ p. make_not p >>= λ q. make_and found q >>= λ r. equal_bits r xs ys) (xor_still x y l.0 m.0) (λ p i.
    then_still IsLevel IsLevel (make_not p) (λ q. make_and found q >>= λ r. equal_bits r xs ys) (not_still p i) (λ q j.
    then_still IsLevel IsLevel (make_and found q) (λ r. equal_bits r xs ys) (and_still found q n j) (λ r k. equals_still r xs ys k l.1 m.1)))

pub lesses_still : (less : Formula) (xs ys : Word) → IsLevel less → AreLevels xs → AreLevels ys → IsStill IsLevel (less_bits less xs ys)
lesses_still less [] ys n l m = (refl, n)
lesses_still less (x ∷ xs) [] n l m = (refl, n)
lesses_still less (x ∷ xs) (y ∷ ys) n l m =
    then_still IsLevel IsLevel (less_bit x y less) (λ k. less_bits k xs ys) (less_still x y less l.0 m.0 n) (λ k i. lesses_still k xs ys i l.1 m.1)
