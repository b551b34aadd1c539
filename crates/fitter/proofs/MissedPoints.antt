-- Points of rows that a cover misses.
use Rattle.std.proofs.Common.{◌≡◌, ◌≢◌, ℕ, ◌+◌, ◌<◌, ◌≤◌, Bool, true, false, List, [], ◌∷◌, ◌++◌, length, get_or, take, Option, Some, None, refl, sym, ap, ◌∙◌, subst, arith, inl, inr}
use Rattle.fitter.proofs.Common.{cases_lt, true≢false, get_or-take, length-take, take_more, take_all, list_any_at, bits, Cube, covers, full_cube, has_point, CoversCube, CoversList, some_of, FindsApart, FindsMissed, IsApart, IsMissed}
use Rattle.covers.specs.Outside.{IsOutside}

pub missed_at : (rows cubes : List Cube) (index vars point : ℕ) (row : Cube) → index < length rows → get_or rows index full_cube ≡ row → IsOutside cubes row vars point → IsMissed rows cubes vars point
missed_at rows cubes index vars point row within is outside = record {
  low = outside.low;
  here = list_any_at (λ c. has_point c (bits vars point)) rows index full_cube within (ap (λ (c : Cube). has_point c (bits vars point)) is ∙ outside.inside);
  missed = outside.missed;
}

pub none_covered : (rows cubes : List Cube) (vars : ℕ) → CoversList cubes (take 0 rows) vars
none_covered rows cubes vars p long on = absurd (true≢false (sym on))

pub one_covered : (rows cubes : List Cube) (index vars : ℕ) (row : Cube) → index < length rows → get_or rows index full_cube ≡ row → CoversList cubes (take index rows) vars → CoversCube cubes row vars
    → CoversList cubes (take (index + 1) rows) vars
one_covered rows cubes index vars row within is before here p long on =
    let found = some_of (take (index + 1) rows) p on in
    let low : found.0 < index + 1 = omega (arith, found.1, length-take (index + 1) rows) in
    let at : has_point (get_or rows found.0 full_cube) p ≡ true = sym (ap (λ (c : Cube). has_point c p) (get_or-take (index + 1) rows found.0 full_cube low)) ∙ found.2 in
    elim (cases_lt found.0 index) [
      | inl less ↦
          before p long (list_any_at (λ c. has_point c p) (take index rows) found.0 full_cube (omega (arith, less, within, length-take index rows))
          (ap (λ (c : Cube). has_point c p) (get_or-take index rows found.0 full_cube less) ∙ at))
      | inr more ↦
          let same : found.0 ≡ index = omega (arith, low, more) in
          here p long (ap (λ (c : Cube). has_point c p) (sym is ∙ ap (λ i. get_or rows i full_cube) (sym same)) ∙ at)
    ]

pub all_covered : (rows cubes : List Cube) (index vars : ℕ) → length rows ≤ index → CoversList cubes (take index rows) vars → CoversList cubes rows vars
all_covered rows cubes index vars done so_far = subst (λ (xs : List Cube). CoversList cubes xs vars) (take_all index rows done) so_far

pub apart_first : (first second : List Cube) (vars point : ℕ) → IsMissed first second vars point → IsApart first second vars point
apart_first first second vars point missed = record { low = missed.low; differ = λ same. true≢false (sym missed.here ∙ (same ∙ missed.missed)) }

pub apart_second : (first second : List Cube) (vars : ℕ) (found : Option ℕ) → CoversList second first vars → FindsMissed second first vars found → FindsApart first second vars found
apart_second first second vars None there back = (there, back)
apart_second first second vars (Some point) there missed = record { low = missed.low; differ = λ same. true≢false (sym missed.here ∙ (sym same ∙ missed.missed)) }
