-- Cubes over the column pairs that are gathered pair by pair.
use Rattle.std.proofs.Common.{◌≡◌, ℕ, ◌+◌, ◌*◌, ◌^◌, ◌<◌, Bool, true, false, not, ◌&&◌, ◌||◌, List, length, refl, ap, sym, ◌∙◌, subst, arith}
use Rattle.device_logic.proofs.Common.{length-map, or_lt, pow_pos, is_on, same_level, Levels, IsDevice, carried, pair_values, row_fuses, Table, is_live, passes, Cube, AsksBelow, full_cube, has_point, literal_cube, union, literal_below, full_has_all, AsksBesides, IsPairCube}
use Rattle.std.proofs.Math.Pow.{pow-lt}
use Rattle.device_logic.proofs.LiveRows.{dead_value}
use Rattle.device_logic.proofs.MaskedPoints.{never_has}
use Rattle.device_logic.proofs.Walked.{PassesBelow, passes_more, passes_row}

-- ---- one pair more

and_true : (x : Bool) → x ≡ (x && true)
and_true true = refl
and_true false = refl

-- an opened column asks nothing
pub besides_none : (pair : ℕ) (cube : Cube) (level : Bool) → AsksBesides pair cube cube (λ p. true || same_level level (is_on p pair))
besides_none pair cube level = record { below = λ vars low below. below; points = λ p within. and_true (has_point cube p) }

union_below : (vars : ℕ) (c d : Cube) → AsksBelow vars c → AsksBelow vars d → AsksBelow vars (union c d)
union_below vars c d first second = (or_lt vars c.yes d.yes first.0 second.0, or_lt vars c.no d.no first.1 second.1)

-- a connected one asks one level
module _ (pair : ℕ) (cube literal more : Cube) (level : Bool) (literal_is : literal ≡ literal_cube pair level) (more_is : more ≡ union cube literal) where
  pub besides_literal : ((p : List Bool) → pair < length p → has_point literal p ≡ same_level level (is_on p pair))
      → ((p : List Bool) → has_point more p ≡ (has_point cube p && has_point literal p)) → AsksBesides pair cube more (λ p. false || same_level level (is_on p pair))
  besides_literal asks both = record {
    below = λ vars low below.
        subst (AsksBelow vars) (sym more_is) (union_below vars cube literal below (subst (AsksBelow vars) (sym literal_is) (literal_below pair vars level low)));
    points = λ p within. both p ∙ ap (λ x. has_point cube p && x) (asks p within);
  }

-- both columns of a pair
pub besides_pair : (fuses : List Bool) (pair : ℕ) (cube mid more : Cube) (lower higher : Bool) → lower ≡ is_on fuses (2 * pair) → higher ≡ is_on fuses (2 * pair + 1)
    → AsksBesides pair cube mid (λ p. lower || same_level true (is_on p pair)) → AsksBesides pair mid more (λ p. higher || same_level false (is_on p pair))
    → AsksBesides pair cube more (λ values. passes fuses values pair)
besides_pair fuses pair cube mid more lower higher lower_is higher_is first second = record {
  below = λ vars low below. second.below vars low (first.below vars low below);
  points = λ p within.
      second.points p within
      ∙ (ap (λ x. x && (higher || not (is_on p pair))) (first.points p within)
      ∙ (grouped (has_point cube p) (lower || is_on p pair) (higher || not (is_on p pair))
      ∙ rw (lower_is, higher_is) refl));
}
  where
    grouped : (a b c : Bool) → ((a && b) && c) ≡ (a && (b && c))
    grouped true b c = refl
    grouped false b c = refl

-- ---- the pairs so far

abbrev pub has_values : Table → List Bool → Cube → Levels → Bool
has_values t fuses cube at = has_point cube (pair_values t fuses at)

pub record CubeBelow (t : Table) (fuses : List Bool) (row pairs : ℕ) (cube : Cube) : Type 0 where
  pub below : AsksBelow (length t.pairs) cube
  pub passes : PassesBelow t fuses row pairs (has_values t fuses cube)

pub cube_none : (t : Table) (fuses : List Bool) (row : ℕ) (cube : Cube) → cube ≡ full_cube → CubeBelow t fuses row 0 cube
cube_none t fuses row cube is = record {
  below = subst (AsksBelow (length t.pairs)) (sym is) (pow_pos (length t.pairs), pow_pos (length t.pairs));
  passes = record {
    from = λ at point has p low. absurd (omega (arith, low));
    to = λ at point all. subst (λ (c : Cube). has_values t fuses c at ≡ true) (sym is) (full_has_all (pair_values t fuses at));
  };
}

pub cube_more : (t : Table) (fuses : List Bool) (row pair : ℕ) (cube more : Cube) → pair < length t.pairs → CubeBelow t fuses row pair cube
    → AsksBesides pair cube more (λ values. passes (row_fuses t fuses row) values pair) → CubeBelow t fuses row (pair + 1) more
cube_more t fuses row pair cube more within below besides = record {
  below = besides.below (length t.pairs) within below.below;
  passes = passes_more t fuses row pair (has_values t fuses cube) (has_values t fuses more) below.passes
      (λ at point. besides.points (pair_values t fuses at) (subst (λ n. pair < n) (sym (length-map t.pairs (carried t fuses at))) within));
}

-- ---- the cube of a row

pub live_cube : (t : Table) → IsDevice t → (fuses : List Bool) (row : ℕ) → length fuses ≡ t.fuses → row < t.rows → (cube : Cube) → CubeBelow t fuses row (length t.pairs) cube
    → is_live t fuses row ≡ true → IsPairCube t fuses row cube
live_cube t laws fuses row long within cube below live = record {
  below = below.below;
  points = passes_row t laws fuses row long within (has_values t fuses cube) below.passes live;
}

pub dead_cube : (t : Table) → IsDevice t → (fuses : List Bool) (row : ℕ) → is_live t fuses row ≡ false → IsPairCube t fuses row (record { yes = 1; no = 1 })
dead_cube t laws fuses row dead = record {
  below = (low, low);
  points = λ at point.
      never_has (pair_values t fuses at) (subst (λ n. 0 < n) (sym (length-map t.pairs (carried t fuses at))) some)
      ∙ sym (dead_value t fuses row at (omega (arith, laws.sizes.columns_even)) dead);
}
  where
    some : 0 < length t.pairs
    some = omega (arith, laws.sizes.columns_even, laws.sizes.columns_low)

    low : 1 < 2 ^ length t.pairs
    low = pow-lt some
