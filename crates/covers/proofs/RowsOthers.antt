-- A list without one row: it has the points of the other rows.
use Rattle.std.proofs.Common.{◌≡◌, ◌≢◌, ℕ, suc, ◌+◌, ◌-◌, ◌<◌, ◌≤◌, Bool, true, ◌==◌, if◌then◌else◌, ◌⊎◌, inl, inr, List, [], ◌∷◌, length, get_or, set, take, refl, sym, ap, ◌∙◌, arith}
use Rattle.covers.proofs.Common.{remove, swap, cases_eq, cases_lt, eq-eqb, ne_eqb, or_cases, length-take, length-set, get_or-take, get_or-set_same, get_or-set_other, length-remove, length-swap, get_or-remove_below, get_or-remove_above, swap_is, list_any_at, Cube, has_point, covers, full_cube}

-- another row of the list has the point
abbrev pub HasOther : List Cube → ℕ → List Bool → Type 0
HasOther rows k p = (i : ℕ) × (i < length rows) × (i ≢ k) × (has_point (get_or rows i full_cube) p ≡ true)

-- some row of the list does
abbrev pub HasSome : List Cube → List Bool → Type 0
HasSome rows p = (i : ℕ) × (i < length rows) × (has_point (get_or rows i full_cube) p ≡ true)

pub some_of : (rows : List Cube) (p : List Bool) → covers rows p ≡ true → HasSome rows p
some_of [] p is = absurd cc
some_of (c ∷ rows) p is =
    elim (or_cases (has_point c p) (covers rows p) is) [
      | inl here ↦ (0, omega arith, here)
      | inr later ↦ let found = some_of rows p later in (suc found.0, omega (arith, found.1), found.2)
    ]

pub some_covers : (rows : List Cube) (p : List Bool) → HasSome rows p → covers rows p ≡ true
some_covers rows p some = list_any_at (λ d. has_point d p) rows some.0 full_cube some.1 some.2

pub other_of : (rows : List Cube) (k : ℕ) (p : List Bool) → k < length rows → covers (remove rows k) p ≡ true → HasOther rows k p
other_of rows k p lt is =
    let found = some_of (remove rows k) p is in
    let long = length-remove rows k lt in
    elim (cases_lt found.0 k) [
      | inl below ↦ (found.0, omega (arith, below, lt), (λ e. absurd (omega (arith, e, below))), rw (get_or-remove_below rows k full_cube found.0 below lt) at found.2)
      | inr above ↦ (found.0 + 1, omega (arith, found.1, long), (λ e. absurd (omega (arith, e, above))), rw (get_or-remove_above rows k full_cube found.0 above lt) at found.2)
    ]

pub other_covers : (rows : List Cube) (k : ℕ) (p : List Bool) → k < length rows → HasOther rows k p → covers (remove rows k) p ≡ true
other_covers rows k p lt other =
    let long = length-remove rows k lt in
    elim (cases_lt other.0 k) [
      | inl below ↦ some_covers (remove rows k) p (other.0, omega (arith, below, lt, long), rw (get_or-remove_below rows k full_cube other.0 below lt) other.3)
      | inr past ↦
          let ne = other.2 in
          let above : k ≤ other.0 - 1 = omega (arith, past, ne) in
          let same : other.0 - 1 + 1 ≡ other.0 = omega (arith, past, ne) in
          some_covers (remove rows k) p (other.0 - 1, omega (arith, other.1, long, past, ne), rw (get_or-remove_above rows k full_cube (other.0 - 1) above lt, same) other.3)
    ]

-- ---- two rows each in the other's place

-- the place that the row of a place had before the exchange
abbrev pub exchanged : ℕ → ℕ → ℕ → ℕ
exchanged i j k = if k == i then j else (if k == j then i else k)

abbrev pub ExchangeCase : ℕ → ℕ → ℕ → Type 0
ExchangeCase i j k = ((k ≡ i) × (exchanged i j k ≡ j)) ⊎ (((k ≢ i) × (k ≡ j) × (exchanged i j k ≡ i)) ⊎ ((k ≢ i) × (k ≢ j) × (exchanged i j k ≡ k)))

pub exchange_case : (i j k : ℕ) → ExchangeCase i j k
exchange_case i j k = elim (cases_eq k i) [
  | inl first ↦ inl (first, rw (eq-eqb k i first) refl)
  | inr other ↦ elim (cases_eq k j) [
    | inl second ↦ inr (inl (other, second, rw (ne_eqb k i other, eq-eqb k j second) refl))
    | inr none ↦ inr (inr (other, none, rw (ne_eqb k i other, ne_eqb k j none) refl))
  ]
]

exchanged_within : (n i j k : ℕ) → i < n → j < n → k < n → exchanged i j k < n
exchanged_within n i j k li lj lk = elim (exchange_case i j k) [
  | inl a ↦ omega (arith, a.1)
  | inr (inl b) ↦ omega (arith, b.2)
  | inr (inr c) ↦ omega (arith, c.2)
]

exchanged_apart : (i j k l : ℕ) → k ≢ l → exchanged i j k ≢ exchanged i j l
exchanged_apart i j k l ne same = elim (exchange_case i j k) [
  | inl a ↦ elim (exchange_case i j l) [
    | inl d ↦ ne (omega (arith, a.0, d.0))
    | inr (inl e) ↦ ne (omega (arith, a.0, a.1, e.1, e.2, same))
    | inr (inr f) ↦ absurd (f.1 (omega (arith, a.1, f.2, same)))
  ]
  | inr (inl b) ↦ elim (exchange_case i j l) [
    | inl d ↦ ne (omega (arith, b.1, b.2, d.0, d.1, same))
    | inr (inl e) ↦ ne (omega (arith, b.1, e.1))
    | inr (inr f) ↦ absurd (f.0 (omega (arith, b.2, f.2, same)))
  ]
  | inr (inr c) ↦ elim (exchange_case i j l) [
    | inl d ↦ absurd (c.1 (omega (arith, c.2, d.1, same)))
    | inr (inl e) ↦ absurd (c.0 (omega (arith, c.2, e.2, same)))
    | inr (inr f) ↦ ne (omega (arith, c.2, f.2, same))
  ]
]

exchanged_back : (i j k : ℕ) → exchanged i j (exchanged i j k) ≡ k
exchanged_back i j k = elim (exchange_case i j k) [
  | inl a ↦ rw a.1 (elim (exchange_case i j j) [ inl d ↦ omega (arith, a.0, d.0, d.1) | inr (inl e) ↦ omega (arith, a.0, e.2) | inr (inr f) ↦ absurd (f.1 refl) ])
  | inr (inl b) ↦ rw b.2 (elim (exchange_case i j i) [ inl d ↦ omega (arith, b.1, d.1) | inr (inl e) ↦ absurd (e.0 refl) | inr (inr f) ↦ absurd (f.0 refl) ])
  | inr (inr c) ↦ rw c.2 c.2
]

pub get_or-swap : (rows : List Cube) (i j k : ℕ) → i < length rows → j < length rows → k < length rows → get_or (swap rows i j) k full_cube ≡ get_or rows (exchanged i j k) full_cube
get_or-swap rows i j k li lj lk =
    let once = set rows i (get_or rows j full_cube) in
    let is : get_or (swap rows i j) k full_cube ≡ get_or (set once j (get_or rows i full_cube)) k full_cube = ap (λ (xs : List Cube). get_or xs k full_cube) (sym (swap_is rows i j full_cube li lj)) in
    is ∙ elim (exchange_case i j k) [
      | inl a ↦ rw a.1 (elim (cases_eq k j) [
        | inl both ↦ rw both (get_or-set_same once j (get_or rows i full_cube) full_cube (omega (arith, lj, length-set rows i (get_or rows j full_cube))) ∙ ap (λ n. get_or rows n full_cube) (sym a.0 ∙ both))
        | inr other ↦ get_or-set_other once j k (get_or rows i full_cube) full_cube other ∙ rw a.0 (get_or-set_same rows i (get_or rows j full_cube) full_cube li)
      ])
      | inr (inl b) ↦ rw b.2 (rw b.1 (get_or-set_same once j (get_or rows i full_cube) full_cube (omega (arith, lj, length-set rows i (get_or rows j full_cube)))))
      | inr (inr c) ↦ rw c.2 (get_or-set_other once j k (get_or rows i full_cube) full_cube c.1 ∙ get_or-set_other rows i k (get_or rows j full_cube) full_cube c.0)
    ]

-- the other rows after the exchange are the other rows before it
pub swapped_others : (rows : List Cube) (i j k : ℕ) (p : List Bool) → i < length rows → j < length rows → k < length rows
    → covers (remove (swap rows i j) k) p ≡ true → covers (remove rows (exchanged i j k)) p ≡ true
swapped_others rows i j k p li lj lk is =
    let long = length-swap rows i j in
    let found = other_of (swap rows i j) k p (omega (arith, lk, long)) is in
    let lf : found.0 < length rows = omega (arith, found.1, long) in
    let there = exchanged_within (length rows) i j k li lj lk in
    other_covers rows (exchanged i j k) p there (exchanged i j found.0, exchanged_within (length rows) i j found.0 li lj lf, exchanged_apart i j found.0 k found.2, rw (get_or-swap rows i j found.0 li lj lf) at found.3)

-- ---- the last row apart

take_some : (rows : List Cube) (m : ℕ) (p : List Bool) → m ≤ length rows → covers (take m rows) p ≡ true → (i : ℕ) × (i < m) × (has_point (get_or rows i full_cube) p ≡ true)
take_some rows m p le is =
    let found = some_of (take m rows) p is in
    let lt : found.0 < m = omega (arith, found.1, length-take m rows) in
    (found.0, lt, rw (get_or-take m rows found.0 full_cube lt) at found.2)

pub some_take : (rows : List Cube) (m i : ℕ) (p : List Bool) → m ≤ length rows → i < m → has_point (get_or rows i full_cube) p ≡ true → covers (take m rows) p ≡ true
some_take rows m i p le lt has = some_covers (take m rows) p (i, omega (arith, lt, le, length-take m rows), rw (get_or-take m rows i full_cube lt) has)

-- the rows before the last, once a row was put there, have the points of the others
pub put_last : (rows : List Cube) (j m : ℕ) (p : List Bool) → j < length rows → m + 1 ≡ length rows → covers (remove rows j) p ≡ true → covers (take m (swap rows j m)) p ≡ true
put_last rows j m p lj last is =
    let found = other_of rows j p lj is in
    let long = length-swap rows j m in
    let lm : m < length rows = omega (arith, last) in
    let there = exchanged_within (length rows) j m found.0 lj lm found.1 in
    let apart = exchanged_apart j m found.0 j found.2 in
    let own : exchanged j m j ≡ m = elim (exchange_case j m j) [ inl a ↦ a.1 | inr (inl b) ↦ absurd (b.0 refl) | inr (inr c) ↦ absurd (c.0 refl) ] in
    let ne : exchanged j m found.0 ≢ m = λ e. apart (e ∙ sym own) in
    some_take (swap rows j m) m (exchanged j m found.0) p (omega (arith, last, long)) (omega (arith, there, last, ne))
    (rw (get_or-swap rows j m (exchanged j m found.0) lj lm there, exchanged_back j m found.0) found.3)

-- a list without its last row
pub remove_last : (rows : List Cube) (m : ℕ) (p : List Bool) → m + 1 ≡ length rows → covers (remove rows m) p ≡ true → covers (take m rows) p ≡ true
remove_last rows m p last is =
    let found = other_of rows m p (omega (arith, last)) is in
    let ne = found.2 in
    some_take rows m found.0 p (omega (arith, last)) (omega (arith, found.1, last, ne)) found.3

-- fewer rows have fewer other rows
pub take_others : (rows : List Cube) (m k : ℕ) (p : List Bool) → m ≤ length rows → k < m → covers (remove (take m rows) k) p ≡ true → covers (remove rows k) p ≡ true
take_others rows m k p le lt is =
    let long = length-take m rows in
    let found = other_of (take m rows) k p (omega (arith, lt, le, long)) is in
    let lf : found.0 < m = omega (arith, found.1, le, long) in
    other_covers rows k p (omega (arith, lt, le)) (found.0, omega (arith, lf, le), found.2, rw (get_or-take m rows found.0 full_cube lf) at found.3)

pub take_covers : (rows : List Cube) (m : ℕ) (p : List Bool) → m ≤ length rows → covers (take m rows) p ≡ true → covers rows p ≡ true
take_covers rows m p le is = let found = take_some rows m p le is in some_covers rows p (found.0, omega (arith, found.1, le), found.2)

pub swapped_covers : (rows : List Cube) (i j : ℕ) (p : List Bool) → i < length rows → j < length rows → covers rows p ≡ true → covers (swap rows i j) p ≡ true
swapped_covers rows i j p li lj is =
    let found = some_of rows p is in
    let long = length-swap rows i j in
    let there = exchanged_within (length rows) i j found.0 li lj found.1 in
    some_covers (swap rows i j) p (exchanged i j found.0, omega (arith, there, long), rw (get_or-swap rows i j (exchanged i j found.0) li lj there, exchanged_back i j found.0) found.2)

pub swapped_back : (rows : List Cube) (i j : ℕ) (p : List Bool) → i < length rows → j < length rows → covers (swap rows i j) p ≡ true → covers rows p ≡ true
swapped_back rows i j p li lj is =
    let found = some_of (swap rows i j) p is in
    let lf : found.0 < length rows = omega (arith, found.1, length-swap rows i j) in
    some_covers rows p (exchanged i j found.0, exchanged_within (length rows) i j found.0 li lj lf, rw (get_or-swap rows i j found.0 li lj lf) at found.2)
