-- Rows at the end of a pool that are tried one after another, from the last to the first.
use Rattle.std.proofs.Common.{◌≡◌, ℕ, ◌+◌, ◌-◌, ◌<◌, ◌≤◌, Bool, true, false, inl, inr, List, length, get_or, set, take, drop, Some, slice_get, slice_range, sym, ap, ◌∙◌, arith, All, Contains, IsTrue, ◌↔◌}
use Rattle.covers.proofs.Common.{remove, swap, cases_eq, false≢true, drop-set-add, take-set-le, drop-take, length-drop, length-take, take-take, get_or-drop, get_or_from_slice_get, between_is, All-set, All-take, All-get_or, length-swap, swap_is, Cube, covers, full_cube, AsksBelow, AllAskBelow, CoversList, CoversCommon}
use Rattle.covers.proofs.RowsOthers.{exchanged, exchange_case, remove_last, swapped_covers, swapped_others, take_others, some_of, some_take}

-- no row from a place on can be left out
abbrev pub IsIrredundantFrom : List Cube → ℕ → ℕ → List Cube → Type 0
IsIrredundantFrom needed vars n rows = (k : ℕ) → n ≤ k → k < length rows → CoversList (remove rows k) needed vars → ⊥

-- ---- the rows of a pool

pub drop-swap : (cubes : List Cube) (from i j : ℕ) → from + i < length cubes → from + j < length cubes → drop from (swap cubes (from + i) (from + j)) ≡ swap (drop from cubes) i j
drop-swap cubes from i j li lj =
    let long = length-drop from cubes in
    let first : get_or (drop from cubes) i full_cube ≡ get_or cubes (from + i) full_cube = get_or-drop from cubes i full_cube in
    let second : get_or (drop from cubes) j full_cube ≡ get_or cubes (from + j) full_cube = get_or-drop from cubes j full_cube in
    let once = set cubes (from + i) (get_or cubes (from + j) full_cube) in
    ap (λ (xs : List Cube). drop from xs) (sym (swap_is cubes (from + i) (from + j) full_cube li lj))
    ∙ drop-set-add from once j (get_or cubes (from + i) full_cube)
    ∙ ap (λ (xs : List Cube). set xs j (get_or cubes (from + i) full_cube)) (drop-set-add from cubes i (get_or cubes (from + j) full_cube))
    ∙ rw (← first, ← second) (swap_is (drop from cubes) i j full_cube (omega (arith, li, long)) (omega (arith, lj, long)))

pub take-swap : (cubes : List Cube) (from i j : ℕ) → from ≤ i → from ≤ j → i < length cubes → j < length cubes → take from (swap cubes i j) ≡ take from cubes
take-swap cubes from i j le-i le-j li lj =
    ap (λ (xs : List Cube). take from xs) (sym (swap_is cubes i j full_cube li lj))
    ∙ take-set-le from (set cubes i (get_or cubes j full_cube)) j (get_or cubes i full_cube) le-j
    ∙ take-set-le from cubes i (get_or cubes j full_cube) le-i

pub All-swap : (P : Cube → Type 0) (rows : List Cube) (i j : ℕ) → i < length rows → j < length rows → All P rows → All P (swap rows i j)
All-swap P rows i j li lj all =
    rw (← swap_is rows i j full_cube li lj)
    (All-set P (set rows i (get_or rows j full_cube)) j (get_or rows i full_cube) (All-get_or P rows i full_cube li all) (All-set P rows i (get_or rows j full_cube) (All-get_or P rows j full_cube lj all) all))

-- ---- one row tried

-- every needed point is in the rows before the last if the last row's are
pub others_cover : (rows needed : List Cube) (m vars : ℕ) (last : Cube) → m + 1 ≡ length rows → get_or rows m full_cube ≡ last → CoversList rows needed vars → CoversCommon (take m rows) needed last vars → CoversList (take m rows) needed vars
others_cover rows needed m vars last long is all common = λ p len has.
    let found = some_of rows p (all p len has) in
    elim (cases_eq found.0 m) [
      | inl own ↦ common p len has (rw (ap (λ n. get_or rows n full_cube) own ∙ is) at found.2)
      | inr other ↦ some_take rows m found.0 p (omega (arith, long)) (omega (arith, long, found.1, other)) found.2
    ]

-- the others of a row, once it was put last
pub tried_swapped : (rows needed : List Cube) (vars j m : ℕ) → j < length rows → m + 1 ≡ length rows
    → IsIrredundantFrom needed vars (j + 1) rows → (CoversList (take m (swap rows j m)) needed vars → ⊥)
    → IsIrredundantFrom needed vars j (swap rows j m)
tried_swapped rows needed vars j m lj long tried never = λ k le lt all.
    let same-length = length-swap rows j m in
    let lm : m < length rows = omega (arith, long) in
    let lk : k < length rows = omega (arith, lt, same-length) in
    elim (cases_eq k m) [
      | inl last ↦ never (λ p len has. remove_last (swap rows j m) m p (omega (arith, long, same-length)) (rw last at (all p len has)))
      | inr other ↦
          let there : (p : List Bool) → length p ≡ vars → covers needed p ≡ true → covers (remove rows (exchanged j m k)) p ≡ true = λ p len has. swapped_others rows j m k p lj lm lk (all p len has) in
          elim (exchange_case j m k) [
            | inl a ↦ tried m (omega (arith, a.0, other, lk, long)) lm (rw a.1 at there)
            | inr (inl b) ↦ other b.1
            | inr (inr d) ↦ tried k (omega (arith, le, d.0)) lk (rw d.2 at there)
          ]
    ]

-- a row that goes
pub tried_goes : (rows needed : List Cube) (vars j m : ℕ) → j < length rows → m + 1 ≡ length rows
    → IsIrredundantFrom needed vars (j + 1) rows
    → IsIrredundantFrom needed vars j (take m (swap rows j m))
tried_goes rows needed vars j m lj long tried = λ k le lt all.
    let same-length = length-swap rows j m in
    let lm : m < length rows = omega (arith, long) in
    let lk : k < m = omega (arith, lt, length-take m (swap rows j m)) in
    let there : (p : List Bool) → length p ≡ vars → covers needed p ≡ true → covers (remove rows (exchanged j m k)) p ≡ true =
    λ p len has. swapped_others rows j m k p lj lm (omega (arith, lk, long)) (take_others (swap rows j m) m k p (omega (arith, long, same-length)) lk (all p len has)) in
    elim (exchange_case j m k) [
      | inl a ↦ tried m (omega (arith, a.0, lk)) lm (rw a.1 at there)
      | inr (inl b) ↦ absurd (omega (arith, b.1, lk))
      | inr (inr d) ↦ tried k (omega (arith, le, d.0)) (omega (arith, lk, long)) (rw d.2 at there)
    ]

-- ---- the rows while they are tried

-- true at every needed point, among the first rows, and none from a place on can be left out
pub record RowsLeft (needed first : List Cube) (vars n : ℕ) (rows : List Cube) : Type 0 where
  pub at_needed : CoversList rows needed vars
  pub tried : IsIrredundantFrom needed vars n rows
  pub among : All (Contains first) rows
  pub below : AllAskBelow vars rows

-- a row that stays
pub left_stays : (needed first rows : List Cube) (vars n j m : ℕ) (row : Cube) (r : Bool) → j < length rows → m + 1 ≡ length rows → n ≡ j + 1
    → RowsLeft needed first vars n rows
    → IsTrue r ↔ CoversCommon (take m (swap rows j m)) needed row vars → r ≡ false
    → RowsLeft needed first vars j (swap rows j m)
left_stays needed first rows vars n j m row r lj long next left answer no-cover =
    let lm : m < length rows = omega (arith, long) in
    let never : CoversList (take m (swap rows j m)) needed vars → ⊥ = λ all. false≢true (sym no-cover ∙ answer.1 (λ p len has own. all p len has)) in
    record {
      at_needed = λ p len has. swapped_covers rows j m p lj lm (left.at_needed p len has);
      tried = tried_swapped rows needed vars j m lj long (λ k le lt. left.tried k (omega (arith, le, next)) lt) never;
      among = All-swap (Contains first) rows j m lj lm left.among;
      below = All-swap (AsksBelow vars) rows j m lj lm left.below;
    }

-- a row that goes
pub left_goes : (needed first rows : List Cube) (vars n j m : ℕ) (row : Cube) (r : Bool) → j < length rows → m + 1 ≡ length rows → n ≡ j + 1
    → RowsLeft needed first vars n rows → get_or (swap rows j m) m full_cube ≡ row
    → IsTrue r ↔ CoversCommon (take m (swap rows j m)) needed row vars → r ≡ true
    → RowsLeft needed first vars j (take m (swap rows j m))
left_goes needed first rows vars n j m row r lj long next left is answer yes-cover =
    let lm : m < length rows = omega (arith, long) in
    let same-length = length-swap rows j m in
    record {
      at_needed = others_cover (swap rows j m) needed m vars row (omega (arith, long, same-length)) is (λ p len has. swapped_covers rows j m p lj lm (left.at_needed p len has)) (answer.0 yes-cover);
      tried = tried_goes rows needed vars j m lj long (λ k le lt. left.tried k (omega (arith, le, next)) lt);
      among = All-take (Contains first) m (swap rows j m) (All-swap (Contains first) rows j m lj lm left.among);
      below = All-take (AsksBelow vars) m (swap rows j m) (All-swap (AsksBelow vars) rows j m lj lm left.below);
    }

-- ---- the rows in the pool

pub rows_swapped : (cubes : List Cube) (from place last : ℕ) → from ≤ place → place < length cubes → last + 1 ≡ length cubes → drop from (swap cubes place last) ≡ swap (drop from cubes) (place - from) (last - from)
rows_swapped cubes from place last le lt end =
    let one : from + (place - from) ≡ place = omega arith in
    let two : from + (last - from) ≡ last = omega (arith, le, lt, end) in
    rw (one, two) at (drop-swap cubes from (place - from) (last - from) (omega (arith, one, lt)) (omega (arith, two, end)))

pub others_swapped : (cubes : List Cube) (from place last : ℕ) → from ≤ place → place < length cubes → last + 1 ≡ length cubes → slice_range (swap cubes place last) from last ≡ take (last - from) (swap (drop from cubes) (place - from) (last - from))
others_swapped cubes from place last le lt end = ap (λ (xs : List Cube). take (last - from) xs) (rows_swapped cubes from place last le lt end)

pub last_swapped : (cubes : List Cube) (from place last : ℕ) (row : Cube) → from ≤ place → place < length cubes → last + 1 ≡ length cubes → slice_get (swap cubes place last) last ≡ Some row → get_or (swap (drop from cubes) (place - from) (last - from)) (last - from) full_cube ≡ row
last_swapped cubes from place last row le lt end read =
    let two : from + (last - from) ≡ last = omega (arith, le, lt, end) in
    let there : get_or (swap cubes place last) (from + (last - from)) full_cube ≡ row = rw two (get_or_from_slice_get (swap cubes place last) last row full_cube read) in
    rw (← rows_swapped cubes from place last le lt end) (get_or-drop from (swap cubes place last) (last - from) full_cube ∙ there)

pub rows_cut : (cubes : List Cube) (from last : ℕ) → from ≤ last → drop from (take last cubes) ≡ take (last - from) (drop from cubes)
rows_cut cubes from last le = let two : from + (last - from) ≡ last = omega arith in rw two at (drop-take from (last - from) cubes)

-- a range below the rows is as before
pub slice_same : (old new : List Cube) (from a b : ℕ) → take from new ≡ take from old → b ≤ from → slice_range new a b ≡ slice_range old a b
slice_same old new from a b same within =
    between_is new a b ∙ ap (λ (xs : List Cube). drop a xs) (sym (take-take b from new within) ∙ ap (λ (xs : List Cube). take b xs) same ∙ take-take b from old within) ∙ sym (between_is old a b)

-- a row of the pool
pub row_below : (vars m : ℕ) (rows : List Cube) (row : Cube) → m < length rows → get_or rows m full_cube ≡ row → AllAskBelow vars rows → AsksBelow vars row
row_below vars m rows row lt is below = rw is at (All-get_or (AsksBelow vars) rows m full_cube lt below)
