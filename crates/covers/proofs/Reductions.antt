-- Rows that are reduced one after another, at the end of a pool.
use Rattle.std.proofs.Common.{◌≡◌, ℕ, ◌+◌, ◌<◌, Bool, true, inl, inr, List, [], ◌∷◌, ◌++◌, length, get_or, take, ap, ◌∙◌, arith}
use Rattle.covers.proofs.Common.{swap, cases_Bool, cases_eq, All-push, All-take, length-swap, Cube, covers, full_cube, has_point, AsksBelow, AllAskBelow, CoversList, IsReduced}
use Rattle.covers.proofs.ExpandedRows.{push_cases, push_first, push_last}
use Rattle.covers.proofs.LeftOut.{All-swap}
use Rattle.covers.proofs.RowsOthers.{some_of, some_covers, some_take, swapped_back, swapped_covers, take_covers}

-- true at every needed point, and only at points of the first rows
pub record AreReduced (needed first : List Cube) (vars : ℕ) (rows : List Cube) : Type 0 where
  pub at_needed : CoversList rows needed vars
  pub inside : CoversList first rows vars
  pub below : AllAskBelow vars rows

-- the last row is reduced
reduced_covers : (rows needed : List Cube) (m vars : ℕ) (c d : Cube) → m + 1 ≡ length rows → get_or rows m full_cube ≡ c → IsReduced (take m rows) needed vars c d
    → CoversList rows needed vars → CoversList (take m rows ++ d ∷ []) needed vars
reduced_covers rows needed m vars c d long is reduced all = λ p len has.
    elim (cases_Bool (covers (take m rows) p)) [
      | inl others ↦ push_first (take m rows) d p others
      | inr none ↦
          let found = some_of rows p (all p len has) in
          elim (cases_eq found.0 m) [
            | inl own ↦ push_last (take m rows) d p (reduced p len has (rw (ap (λ n. get_or rows n full_cube) own ∙ is) at found.2) none)
            | inr other ↦ push_first (take m rows) d p (some_take rows m found.0 p (omega (arith, long)) (omega (arith, long, found.1, other)) found.2)
          ]
    ]

-- a row is put last, and what is left of it in its place
pub reduced_more : (needed first rows : List Cube) (vars j m : ℕ) (c d : Cube) → j < length rows → m + 1 ≡ length rows
    → AreReduced needed first vars rows → get_or (swap rows j m) m full_cube ≡ c → IsReduced (take m (swap rows j m)) needed vars c d
    → ((p : List Bool) → has_point d p ≡ true → has_point c p ≡ true) → AsksBelow vars d
    → AreReduced needed first vars (take m (swap rows j m) ++ d ∷ [])
reduced_more needed first rows vars j m c d lj long before is reduced inside below =
    let lm : m < length rows = omega (arith, long) in
    let same-length = length-swap rows j m in
    record {
      at_needed = reduced_covers (swap rows j m) needed m vars c d (omega (arith, long, same-length)) is reduced (λ p len has. swapped_covers rows j m p lj lm (before.at_needed p len has));
      inside = λ p len has. before.inside p len (swapped_back rows j m p lj lm (elim (push_cases (take m (swap rows j m)) d p has) [
        | inl others ↦ take_covers (swap rows j m) m p (omega (arith, long, same-length)) others
        | inr own ↦ some_covers (swap rows j m) p (m, omega (arith, long, same-length), rw is (inside p own))
      ]));
      below = All-push (AsksBelow vars) (take m (swap rows j m)) d (All-take (AsksBelow vars) m (swap rows j m) (All-swap (AsksBelow vars) rows j m lj lm before.below)) below;
    }
