-- The rows of a group as cubes over the column pairs, one after another, and what they have together.
use Rattle.std.proofs.Common.{◌≡◌, ℕ, zero, suc, ◌+◌, Bool, true, false, ◌||◌, List, [], ◌∷◌, ◌++◌, map, length, slice_range, refl, ap, sym, ◌∙◌, subst, arith, length-append}
use Rattle.fuse_compare.proofs.Common.{list_any, range_with_len, All, length-map, All-head, All-nil, All-push, All-tail, IsPoint, Levels, Carry, IsDevice, IsPair, carried, pair_values, row_value, Table, Cube, IsPairCube, IsGroupCover, StoreSame, some_row, Group}
use Rattle.std.proofs.lemmas.List.Folds.{list_any-append}
use Rattle.std.proofs.lemmas.Slice.{between_from_start}
use Rattle.std.proofs.Math.Seq.{take-length}
use Rattle.pld_device.specs.declared.carry.Carry.TheVariants as carry
use Rattle.covers.specs.Covers.{CoversCube}
use Rattle.covers.specs.Cubes.{AsksBelow, covers, has_point}

-- ---- a pair carries the same with both fuse lists

module _ (t : Table) (laws : IsDevice t) (a b : List Bool) (same : StoreSame t a b) (at : Levels) where
  same_value : (x : Carry) → IsPair t x → carried t a at x ≡ carried t b at x
  same_value (carry.Pin p) is = refl
  same_value (carry.Cell c) is = rw (same c is) refl

  same_values_of : (carries : List Carry) → All (IsPair t) carries → map (carried t a at) carries ≡ map (carried t b at) carries
  same_values_of [] all = refl
  same_values_of (x ∷ carries) all =
      rw (same_value x (All-head (IsPair t) x carries all), same_values_of carries (All-tail (IsPair t) x carries all)) refl

  pub same_values : pair_values t a at ≡ pair_values t b at
  same_values = same_values_of t.pairs laws.pairs

-- ---- the rows of a group, one after another

any_more : (test : ℕ → Bool) (first n : ℕ) → list_any test (range_with_len first (suc n)) ≡ (list_any test (range_with_len first n) || test (first + n))
any_more test first zero = at_end (test first) ∙ ap test here
  where
    here : first ≡ first + 0
    here = omega arith

    at_end : (x : Bool) → (x || false) ≡ x
    at_end true = refl
    at_end false = refl
any_more test first (suc n) =
    let shifted : first + 1 + n ≡ first + suc n = omega arith in
    ap (λ x. test first || x) (any_more test (first + 1) n ∙ ap (λ k. list_any test (range_with_len (first + 1) n) || test k) shifted)
    ∙ grouped (test first) (list_any test (range_with_len (first + 1) n)) (test (first + suc n))
  where
    grouped : (x y z : Bool) → (x || (y || z)) ≡ ((x || y) || z)
    grouped true y z = refl
    grouped false y z = refl

-- the cubes are those of the rows up to this one
pub record CoverBelow (t : Table) (fuses : List Bool) (rows : Group) (row : ℕ) (cubes : List Cube) : Type 0 where
  pub count : row ≡ rows.first + length cubes
  pub cover : IsGroupCover t fuses (record { first = rows.first; room = length cubes }) cubes

pub cover_none : (t : Table) (fuses : List Bool) (rows : Group) (cubes : List Cube) → cubes ≡ [] → CoverBelow t fuses rows rows.first cubes
cover_none t fuses rows cubes empty = subst (CoverBelow t fuses rows rows.first) (sym empty) none
  where
    none : CoverBelow t fuses rows rows.first []
    none = record { count = omega arith; cover = record { below = All-nil (AsksBelow (length t.pairs)); points = λ at point. refl } }

module _ (t : Table) (fuses : List Bool) (rows : Group) (row : ℕ) (cubes : List Cube) (cube : Cube) (below : CoverBelow t fuses rows row cubes) (is : IsPairCube t fuses row cube) where
  long : length (cubes ++ cube ∷ []) ≡ suc (length cubes)
  long = omega (arith, length-append cubes (cube ∷ []))

  module _ (at : Levels) (point : IsPoint at) where
    rows_more : some_row t fuses (record { first = rows.first; room = length (cubes ++ cube ∷ []) }) at
        ≡ (some_row t fuses (record { first = rows.first; room = length cubes }) at || row_value t fuses at row)
    rows_more =
        ap (λ n. list_any (row_value t fuses at) (range_with_len rows.first n)) long
        ∙ (any_more (row_value t fuses at) rows.first (length cubes)
        ∙ ap (λ r. some_row t fuses (record { first = rows.first; room = length cubes }) at || row_value t fuses at r) (sym below.count))

    points_more : covers (cubes ++ cube ∷ []) (pair_values t fuses at) ≡ (covers cubes (pair_values t fuses at) || has_point cube (pair_values t fuses at))
    points_more =
        list_any-append (λ (c : Cube). has_point c (pair_values t fuses at)) cubes (cube ∷ [])
        ∙ ap (λ x. covers cubes (pair_values t fuses at) || x) (at_end (has_point cube (pair_values t fuses at)))
      where
        at_end : (x : Bool) → (x || false) ≡ x
        at_end true = refl
        at_end false = refl

    same_more : covers (cubes ++ cube ∷ []) (pair_values t fuses at) ≡ some_row t fuses (record { first = rows.first; room = length (cubes ++ cube ∷ []) }) at
    same_more = points_more ∙ (rw (below.cover.points at point, is.points at point) refl ∙ sym rows_more)

  pub cover_more : CoverBelow t fuses rows (row + 1) (cubes ++ cube ∷ [])
  cover_more = record {
    count = omega (arith, below.count, long);
    cover = record {
      below = All-push (AsksBelow (length t.pairs)) cubes cube below.cover.below is.below;
      points = same_more;
    };
  }

pub cover_all : (t : Table) (fuses : List Bool) (rows : Group) (row : ℕ) (cubes : List Cube) → row ≡ rows.first + rows.room → CoverBelow t fuses rows row cubes
    → (length cubes ≡ rows.room) × IsGroupCover t fuses rows cubes
cover_all t fuses rows row cubes end below =
    let count : length cubes ≡ rows.room = omega (arith, end, below.count) in
    (count, subst (λ n. IsGroupCover t fuses (record { first = rows.first; room = n }) cubes) count below.cover)

-- ---- what the cover has

pub whole_range : (cubes : List Cube) → slice_range cubes 0 (length cubes) ≡ cubes
whole_range cubes = between_from_start cubes (length cubes) ∙ take-length cubes

-- if the cover has each point of a row's cube, the row is true only if some row of the group is
pub covered_row : (t : Table) → IsDevice t → (a b : List Bool) → StoreSame t a b → (rows : Group) (row : ℕ) (cubes : List Cube) (cube : Cube) → IsGroupCover t b rows cubes
    → IsPairCube t a row cube → CoversCube cubes cube (length t.pairs) → (at : Levels) → IsPoint at → row_value t a at row ≡ true → some_row t b rows at ≡ true
covered_row t laws a b same rows row cubes cube cover is all at point on =
    sym (cover.points at point)
    ∙ (ap (covers cubes) (sym (same_values t laws a b same at))
    ∙ all (pair_values t a at) (length-map t.pairs (carried t a at)) (is.points at point ∙ on))
