-- Turned lists of rows stay prime and irredundant.
use Rattle.std.proofs.Common.{◌≡◌, ℕ, zero, suc, ◌+◌, ◌^◌, ◌<◌, ◌≤◌, Bool, true, false, not, if◌then◌else◌, List, [], ◌∷◌, ◌++◌, length, refl, sym, ◌∙◌, ap, ap₂, subst, arith, ◌==◌, remove, take, drop, get_or}
use Rattle.fit_plans.proofs.Common.{bit_at, length-map, map-append, All-map, Cube, CoversList, covers, has_point, literal_cube, without, all_turned, turned, levels_turned}
use Rattle.covers.specs.Prime.{IsIrredundant, IsPrime, IsPrimeIrredundant}
use Rattle.fit_plans.specs.TurnedCovers.{IsExchangedMask, TurnedAgain, TurnedStaysPrime}
use Rattle.fit_plans.proofs.TurnedCubes.{covers_turned, length_turned}
use Rattle.fit_plans.proofs.TurnedLiterals.{asks_turned, left_turned, turned_level}

back_if : (b x : Bool) → (if b then not (if b then not x else x) else (if b then not x else x)) ≡ x
back_if true true = refl
back_if true false = refl
back_if false x = refl

back_from : (mask v : ℕ) (p : List Bool) → levels_turned mask v (levels_turned mask v p) ≡ p
back_from mask v [] = refl
back_from mask v (x ∷ p) = ap₂ (λ y ys. y ∷ ys) (back_if (bit_at mask v == 1) x) (back_from mask (suc v) p)

-- turning twice is nothing
pub turned_back : (mask : ℕ) (p : List Bool) → levels_turned mask 0 (levels_turned mask 0 p) ≡ p
turned_back mask p = back_from mask 0 p

take_map : (mask k : ℕ) (rows : List Cube) → take k (all_turned mask rows) ≡ all_turned mask (take k rows)
take_map mask zero rows = refl
take_map mask (suc k) [] = refl
take_map mask (suc k) (c ∷ rows) = ap (λ cs. turned mask c ∷ cs) (take_map mask k rows)

drop_map : (mask k : ℕ) (rows : List Cube) → drop k (all_turned mask rows) ≡ all_turned mask (drop k rows)
drop_map mask zero rows = refl
drop_map mask (suc k) [] = refl
drop_map mask (suc k) (c ∷ rows) = drop_map mask k rows

remove_map : (mask k : ℕ) (rows : List Cube) → remove (all_turned mask rows) k ≡ all_turned mask (remove rows k)
remove_map mask k rows =
    ap₂ (λ a b. a ++ b) (take_map mask k rows) (drop_map mask (suc k) rows) ∙ sym (map-append (turned mask) (take k rows) (drop (suc k) rows))

module _ (mask vars : ℕ) (low : mask < 2 ^ 32) (few : vars ≤ 32) where
  short : (p : List Bool) → length p ≡ vars → length p ≤ 32
  short p long = omega (arith, long, few)

  long_turned : (p : List Bool) → length p ≡ vars → length (levels_turned mask 0 p) ≡ vars
  long_turned p long = length_turned mask 0 p ∙ long

  -- a turned list has the points of the list, turned
  here : (cs : List Cube) (p : List Bool) → length p ≡ vars → covers (all_turned mask cs) p ≡ covers cs (levels_turned mask 0 p)
  here cs p long = covers_turned mask cs p low (short p long)

  there : (cs : List Cube) (p : List Bool) → length p ≡ vars → covers cs p ≡ covers (all_turned mask cs) (levels_turned mask 0 p)
  there cs p long = sym (here cs (levels_turned mask 0 p) (long_turned p long) ∙ ap (covers cs) (turned_back mask p))

  list_to : (rows others : List Cube) → CoversList rows others vars → CoversList (all_turned mask rows) (all_turned mask others) vars
  list_to rows others all p long in_it = here rows p long ∙ all (levels_turned mask 0 p) (long_turned p long) (sym (here others p long) ∙ in_it)

  list_from : (rows others : List Cube) → CoversList (all_turned mask rows) (all_turned mask others) vars → CoversList rows others vars
  list_from rows others all p long in_it = there rows p long ∙ all (levels_turned mask 0 p) (long_turned p long) (sym (there others p long) ∙ in_it)

  prime_to : (allowed : List Cube) (c : Cube) → IsPrime allowed vars c → IsPrime (all_turned mask allowed) vars (turned mask c)
  prime_to allowed c prime v level v_in asked all =
      prime v (turned_level mask v level) v_in (sym (asks_turned mask low c v level (omega (arith, v_in, few))) ∙ asked) (λ p long in_it.
      there allowed p long
      ∙ all (levels_turned mask 0 p) (long_turned p long)
      (left_turned mask low v level c (levels_turned mask 0 p) (omega (arith, v_in, few)) (short (levels_turned mask 0 p) (long_turned p long))
      ∙ (ap (has_point (without (literal_cube v (turned_level mask v level)) c)) (turned_back mask p) ∙ in_it)))

  irredundant_to : (needed rows : List Cube) → IsIrredundant needed vars rows → IsIrredundant (all_turned mask needed) vars (all_turned mask rows)
  irredundant_to needed rows each k within all =
      each k (subst (λ n. k < n) (length-map rows (turned mask)) within)
      (list_from (remove rows k) needed (subst (λ cs. CoversList cs (all_turned mask needed) vars) (remove_map mask k rows) all))

  pub stays_prime : (needed allowed rows : List Cube) → IsPrimeIrredundant needed allowed vars rows → IsPrimeIrredundant (all_turned mask needed) (all_turned mask allowed) vars (all_turned mask rows)
  stays_prime needed allowed rows is = record {
    at_needed = list_to rows needed is.at_needed;
    at_allowed = list_to allowed rows is.at_allowed;
    prime = All-map (IsPrime (all_turned mask allowed) vars) (turned mask) rows (λ k d within. prime_to allowed (get_or rows k d) (is.prime k d within));
    irredundant = irredundant_to needed rows is.irredundant;
  }

pub turned_stays_prime : TurnedStaysPrime
turned_stays_prime mask vars needed allowed rows low few is = stays_prime mask vars low few needed allowed rows is

-- ---- another mask

-- lists with the same points
module _ (vars : ℕ) (a b : List Cube) (same : (p : List Bool) → length p ≡ vars → covers a p ≡ covers b p) where
  needed_same : (rows : List Cube) → CoversList rows a vars → CoversList rows b vars
  needed_same rows all p long in_it = all p long (same p long ∙ in_it)

  allowed_same : (rows : List Cube) → CoversList a rows vars → CoversList b rows vars
  allowed_same rows all p long in_it = sym (same p long) ∙ all p long in_it

same_between : (vars : ℕ) (a b x y rows : List Cube) → ((p : List Bool) → length p ≡ vars → covers a p ≡ covers b p) → ((p : List Bool) → length p ≡ vars → covers x p ≡ covers y p)
    → IsPrimeIrredundant a x vars rows → IsPrimeIrredundant b y vars rows
same_between vars a b x y rows needs allows is = record {
  at_needed = needed_same vars a b needs rows is.at_needed;
  at_allowed = allowed_same vars x y allows rows is.at_allowed;
  prime = λ k d within v level v_in asked all. is.prime k d within v level v_in asked (λ p long in_it. allows p long ∙ all p long in_it);
  irredundant = λ k within all. is.irredundant k within (needed_same vars b a (λ p long. sym (needs p long)) (remove rows k) all);
}

module _ (mask other both vars : ℕ) (mask_low : mask < 2 ^ 32) (other_low : other < 2 ^ 32) (both_low : both < 2 ^ 32) (few : vars ≤ 32) (is : IsExchangedMask vars mask other both) where
  twice_if : (m o b x : Bool) → b ≡ (if o then not m else m) → (if b then not x else x) ≡ (if m then not (if o then not x else x) else (if o then not x else x))
  twice_if true true b true same = rw same refl
  twice_if true true b false same = rw same refl
  twice_if true false b x same = rw same refl
  twice_if false true b x same = rw same refl
  twice_if false false b x same = rw same refl

  both_from : (v : ℕ) (p : List Bool) → v + length p ≤ vars → levels_turned both v p ≡ levels_turned mask v (levels_turned other v p)
  both_from v [] low = refl
  both_from v (x ∷ p) low =
      ap₂ (λ y ys. y ∷ ys) (twice_if (bit_at mask v == 1) (bit_at other v == 1) (bit_at both v == 1) x (is v (omega (arith, low)))) (both_from (suc v) p (omega (arith, low)))

  both_covers : (cs : List Cube) (p : List Bool) → length p ≡ vars → covers (all_turned other (all_turned mask cs)) p ≡ covers (all_turned both cs) p
  both_covers cs p long =
      here other vars other_low few (all_turned mask cs) p long
      ∙ (here mask vars mask_low few cs (levels_turned other 0 p) (long_turned other vars other_low few p long)
      ∙ (ap (covers cs) (sym (both_from 0 p (omega (arith, long)))) ∙ sym (here both vars both_low few cs p long)))

  pub turned_too : (needed allowed rows : List Cube) → IsPrimeIrredundant (all_turned mask needed) (all_turned mask allowed) vars rows
      → IsPrimeIrredundant (all_turned both needed) (all_turned both allowed) vars (all_turned other rows)
  turned_too needed allowed rows prime =
      same_between vars (all_turned other (all_turned mask needed)) (all_turned both needed) (all_turned other (all_turned mask allowed)) (all_turned both allowed) (all_turned other rows)
      (both_covers needed) (both_covers allowed) (stays_prime other vars other_low few (all_turned mask needed) (all_turned mask allowed) rows prime)

pub turned_again : TurnedAgain
turned_again mask other both vars needed allowed rows mask_low other_low both_low few is prime = turned_too mask other both vars mask_low other_low both_low few is needed allowed rows prime
