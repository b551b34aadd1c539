-- Words of the positions of others: their loops, and the formulas of their ids.
use Rattle.std.proofs.Common.{◌≡◌, ℕ, zero, suc, ◌/◌, ◌%◌, ◌<◌, ◌≤◌, ◌==◌, Bool, true, false, List, [], ◌∷◌, ◌++◌, min, length, map, get_or, take, replicate, Ok, refl, sym, ap, ap₂, ◌∙◌, subst, arith, append-nil}
use Rattle.expr_bits.proofs.Common.{ExprId, Node, arena, formula_at, Formula, Const, resized, kept_bits, digits_low_first, Vec, free, AllIn, word_at, ShowsAll, ShowsItems, Makes, bit_id, digit_ids, resized_ids, kept_ids}
use Rattle.expr_bits.proofs.Making.{nothing_made}
use Rattle.expr_bits.proofs.AlongWords.{zero_there, one_there, zero_is, one_is}

-- ---- loops: what is there of the first positions

-- one more
pub next : {A : Type 0} (ids some more : List A) (id : A) → more ≡ some ++ id ∷ [] → ids ≡ some → ids ++ id ∷ [] ≡ more
next ids some more id e f = ap (λ xs. xs ++ id ∷ []) f ∙ sym e

-- a number without its last i digits
abbrev pub halved : ℕ → ℕ → ℕ
halved zero n = n
halved (suc i) n = halved i (n / 2)

pub halved_next : (i n : ℕ) → halved i n / 2 ≡ halved (suc i) n
halved_next zero n = refl
halved_next (suc i) n = halved_next i (n / 2)

pub digits_next : (i n : ℕ) → digit_ids (suc i) n ≡ digit_ids i n ++ bit_id (halved i n % 2 == 1) ∷ []
digits_next zero n = refl
digits_next (suc i) n = ap (λ ids. bit_id (n % 2 == 1) ∷ ids) (digits_next i (n / 2))

pub resized_next : (i : ℕ) (xs : List ExprId) → resized_ids (suc i) xs ≡ resized_ids i xs ++ get_or xs i (record { 0 = 0 }) ∷ []
resized_next zero [] = refl
resized_next zero (x ∷ xs) = refl
resized_next (suc i) [] = ap (λ ys. bit_id false ∷ ys) (resized_next i [])
resized_next (suc i) (x ∷ xs) = ap (λ ys. x ∷ ys) (resized_next i xs)

-- one position, if it is not dropped
abbrev kept_one : Bool → ExprId → List ExprId
kept_one true x = []
kept_one false x = x ∷ []

kept_next : (bs : List Bool) (xs : List ExprId) (i : ℕ) (b : Bool) (x : ExprId) → i < length bs → i < length xs → kept_ids (take (suc i) bs) (take (suc i) xs) ≡ kept_ids (take i bs) (take i xs) ++ kept_one (get_or bs i b) (get_or xs i x)
kept_next [] xs i b x h k = absurd (omega (arith, h))
kept_next (c ∷ bs) [] i b x h k = absurd (omega (arith, k))
kept_next (true ∷ bs) (y ∷ xs) zero b x h k = refl
kept_next (false ∷ bs) (y ∷ xs) zero b x h k = refl
kept_next (true ∷ bs) (y ∷ xs) (suc i) b x h k = kept_next bs xs i b x (omega (arith, h)) (omega (arith, k))
kept_next (false ∷ bs) (y ∷ xs) (suc i) b x h k = ap (λ ys. y ∷ ys) (kept_next bs xs i b x (omega (arith, h)) (omega (arith, k)))

pub kept_dropped : (bs : List Bool) (xs : List ExprId) (i : ℕ) (b : Bool) (x : ExprId) → i < length bs → i < length xs → get_or bs i b ≡ true → kept_ids (take (suc i) bs) (take (suc i) xs) ≡ kept_ids (take i bs) (take i xs)
kept_dropped bs xs i b x h k e = kept_next bs xs i b x h k ∙ ap (λ c. kept_ids (take i bs) (take i xs) ++ kept_one c (get_or xs i x)) e ∙ append-nil (kept_ids (take i bs) (take i xs))

pub kept_stays : (bs : List Bool) (xs : List ExprId) (i : ℕ) (b : Bool) (x : ExprId) → i < length bs → i < length xs → get_or bs i b ≡ false → kept_ids (take (suc i) bs) (take (suc i) xs) ≡ kept_ids (take i bs) (take i xs) ++ get_or xs i x ∷ []
kept_stays bs xs i b x h k e = kept_next bs xs i b x h k ∙ ap (λ c. kept_ids (take i bs) (take i xs) ++ kept_one c (get_or xs i x)) e

pub kept_all : (bs : List Bool) (xs : List ExprId) (i : ℕ) → min (length xs) (length bs) ≤ i → kept_ids (take i bs) (take i xs) ≡ kept_ids bs xs
kept_all [] xs (suc i) h = refl
kept_all (b ∷ bs) [] (suc i) h = refl
kept_all (b ∷ bs) (x ∷ xs) zero h = absurd (omega (arith, h))
kept_all (true ∷ bs) (x ∷ xs) (suc i) h = kept_all bs xs i (omega (arith, h))
kept_all (false ∷ bs) (x ∷ xs) (suc i) h = ap (λ ys. x ∷ ys) (kept_all bs xs i (omega (arith, h)))
kept_all [] xs zero h = refl
kept_all (b ∷ bs) [] zero h = refl

-- ---- formulas of these ids

bit_in : (ns : List Node) (b : Bool) → (bit_id b).0 < length (arena ns)
bit_in ns false = zero_there ns
bit_in ns true = one_there ns

bit_is : (ns : List Node) (b : Bool) → formula_at (arena ns) (bit_id b) ≡ Const b
bit_is ns false = zero_is ns
bit_is ns true = one_is ns

pub digits_in : (ns : List Node) (w n : ℕ) → AllIn (length (arena ns)) (digit_ids w n)
digits_in ns zero n = tt
digits_in ns (suc w) n = (bit_in ns (n % 2 == 1), digits_in ns w (n / 2))

pub digits_at : (ns : List Node) (w n : ℕ) → word_at (arena ns) (digit_ids w n) ≡ map Const (digits_low_first w n)
digits_at ns zero n = refl
digits_at ns (suc w) n = ap₂ (λ y ys. y ∷ ys) (bit_is ns (n % 2 == 1)) (digits_at ns w (n / 2))

pub resized_in : (ns : List Node) (w : ℕ) (xs : List ExprId) → AllIn (length (arena ns)) xs → AllIn (length (arena ns)) (resized_ids w xs)
resized_in ns zero xs a = tt
resized_in ns (suc w) [] a = (zero_there ns, resized_in ns w [] tt)
resized_in ns (suc w) (x ∷ xs) a = (a.0, resized_in ns w xs a.1)

pub resized_at : (ns : List Node) (w : ℕ) (xs : List ExprId) → word_at (arena ns) (resized_ids w xs) ≡ resized w (word_at (arena ns) xs)
resized_at ns zero xs = refl
resized_at ns (suc w) [] = ap₂ (λ y ys. y ∷ ys) (zero_is ns) (resized_at ns w [])
resized_at ns (suc w) (x ∷ xs) = ap (λ ys. formula_at (arena ns) x ∷ ys) (resized_at ns w xs)

pub spread_in : (count w : ℕ) (x : ExprId) → x.0 < count → AllIn count (replicate w x)
spread_in count zero x h = tt
spread_in count (suc w) x h = (h, spread_in count w x h)

pub spread_at : (fs : List Formula) (w : ℕ) (x : ExprId) → word_at fs (replicate w x) ≡ replicate w (formula_at fs x)
spread_at fs zero x = refl
spread_at fs (suc w) x = ap (λ ys. formula_at fs x ∷ ys) (spread_at fs w x)

pub kept_in : (count : ℕ) (bs : List Bool) (xs : List ExprId) → AllIn count xs → AllIn count (kept_ids bs xs)
kept_in count (true ∷ bs) (x ∷ xs) a = kept_in count bs xs a.1
kept_in count (false ∷ bs) (x ∷ xs) a = (a.0, kept_in count bs xs a.1)
kept_in count _ _ a = tt

pub kept_at : (fs : List Formula) (bs : List Bool) (xs : List ExprId) → word_at fs (kept_ids bs xs) ≡ kept_bits bs (word_at fs xs)
kept_at fs (true ∷ bs) (x ∷ xs) = kept_at fs bs xs
kept_at fs (false ∷ bs) (x ∷ xs) = ap (λ ys. formula_at fs x ∷ ys) (kept_at fs bs xs)
kept_at fs _ _ = refl

pub kept_length : (bs : List Bool) (xs ys : List ExprId) → length xs ≡ length ys → length (kept_ids bs xs) ≡ length (kept_ids bs ys)
kept_length (b ∷ bs) [] (y ∷ ys) e = absurd (omega (arith, e))
kept_length (b ∷ bs) (x ∷ xs) [] e = absurd (omega (arith, e))
kept_length (true ∷ bs) (x ∷ xs) (y ∷ ys) e = kept_length bs xs ys (omega (arith, e))
kept_length (false ∷ bs) (x ∷ xs) (y ∷ ys) e = ap suc (kept_length bs xs ys (omega (arith, e)))
kept_length _ _ _ e = refl

-- a word of zeros, as wide as another
pub zeros_at : (ns : List Node) (xs : List ExprId) → word_at (arena ns) (replicate (length xs) (record { 0 = 0 })) ≡ map (λ x. Const false) (word_at (arena ns) xs)
zeros_at ns [] = refl
zeros_at ns (x ∷ xs) = ap₂ (λ y ys. y ∷ ys) (zero_is ns) (zeros_at ns xs)

pub zeros_in : (ns : List Node) (w : ℕ) → AllIn (length (arena ns)) (replicate w (record { 0 = 0 }))
zeros_in ns w = spread_in (length (arena ns)) w (record { 0 = 0 }) (zero_there ns)

pub zeros_made : (old : List Node) (xs : List ExprId) (ids : Vec ExprId) → ids.items ≡ replicate (length xs) (record { 0 = 0 }) → Makes ShowsItems old old (Ok ids) (free (map (λ x. Const false) (word_at (arena old) xs)))
zeros_made old xs ids z = nothing_made ShowsItems old ids _ (subst (λ ys. ShowsAll (arena old) ys (map (λ x. Const false) (word_at (arena old) xs))) (sym z) (zeros_in old (length xs), zeros_at old xs))
