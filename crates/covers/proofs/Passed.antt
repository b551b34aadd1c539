-- The rows of a pool between passes.
use Rattle.std.proofs.Common.{◌≡◌, ℕ, ◌≤◌, List, ◌++◌, length, get_or, take, drop, sym, ap, ◌∙◌, arith, All, Contains}
use Rattle.covers.proofs.Common.{length-append, take_all, length-take, take-append-le, take-take, All-contains, Cube, AsksBelow, AllAskBelow, Pool, HasRows}
use Rattle.std.proofs.Math.Seq.{drop-append_seam}
use Rattle.covers.specs.declared.pool.Range.{Range}
use Rattle.covers.specs.declared.allowed.Allowed.{Allowed}
use Rattle.covers.proofs.LeftOut.{slice_same}

-- pools that are the same up to a place are so up to a lower one
pub take-lower : (old new : List Cube) (low high : ℕ) → low ≤ high → take high new ≡ take high old → take low new ≡ take low old
take-lower old new low high le same =
    sym (take-take low high new le) ∙ ap (λ (xs : List Cube). take low xs) same ∙ take-take low high old le

pub take-whole : (xs : List Cube) (n : ℕ) → n ≡ length xs → xs ≡ take n xs
take-whole xs n is = rw is (sym (take_all (length xs) xs (omega arith)))

-- one that grew is the same below
pub take-grown : (old new : List Cube) (low : ℕ) → low ≤ length old → take (length old) new ≡ old → take low new ≡ take low old
take-grown old new low le kept = sym (take-take low (length old) new le) ∙ ap (λ (xs : List Cube). take low xs) kept

-- what moved down is past the place, and what is below is as before
pub moved_parts : (old new : List Cube) (place from : ℕ) → place ≤ length old → new ≡ take place old ++ drop from old
    → (take place new ≡ take place old) × (drop place new ≡ drop from old) × (place ≤ length new)
moved_parts old new place from le is =
    let front = take place old in
    let long : length front ≡ place = let e = length-take place old in omega (arith, e, le) in
    let kept : take place (front ++ drop from old) ≡ take place old = take-append-le place front (drop from old) (omega (arith, long)) ∙ take-take place place old (omega arith) in
    let moved : drop place (front ++ drop from old) ≡ drop from old = rw long at (drop-append_seam front (drop from old)) in
    (ap (λ (xs : List Cube). take place xs) is ∙ kept, ap (λ (xs : List Cube). drop place xs) is ∙ moved, rw is (place_within front (drop from old) place long))
  where
    place_within : (xs ys : List Cube) (n : ℕ) → length xs ≡ n → n ≤ length (xs ++ ys)
    place_within xs ys n is = let e = length-append xs ys in omega (arith, e, is)

-- rows among others ask no more
pub among_below : (vars : ℕ) (first rows : List Cube) → All (Contains first) rows → AllAskBelow vars first → AllAskBelow vars rows
among_below vars first rows among below = λ k d lt. All-contains (AsksBelow vars) first (get_or rows k d) below (among k d lt)

-- the rows of another pool, which has the lists at the same places
pub has_rows_moved : (needed : Range) (allowed : Allowed) (vars same a b : ℕ) (old new : Pool) → HasRows needed allowed vars a old
    → needed.to ≤ same → allowed.range.to ≤ same → take same new.cubes ≡ take same old.cubes
    → same ≤ b → b ≤ length new.cubes → drop b new.cubes ≡ drop a old.cubes → HasRows needed allowed vars b new
has_rows_moved needed allowed vars same a b old new rows needs allows kept le within moved =
    let needed-same = slice_same old.cubes new.cubes same needed.from needed.to kept needs in
    let allowed-same = slice_same old.cubes new.cubes same allowed.range.from allowed.range.to kept allows in
    record {
      within = within;
      needed_order = rows.needed_order;
      needed_within = omega (arith, needs, le);
      allowed_order = rows.allowed_order;
      allowed_within = omega (arith, allows, le);
      needed_below = rw needed-same rows.needed_below;
      allowed_below = rw allowed-same rows.allowed_below;
      off = rw allowed-same rows.off;
      below = rw moved rows.below;
      rows = rw (needed-same, allowed-same, moved) rows.rows;
    }
