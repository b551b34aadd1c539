-- More words for a name in the table.
use Rattle.std.proofs.Common.{◌≡◌, ℕ, zero, suc, ◌+◌, ◌-◌, ◌≤◌, Bool, true, false, List, [], ◌∷◌, Option, Some, None, map, if◌then◌else◌, refl, sym, ap, ap₂, ◌∙◌, cond, arith, slice_get}
use Rattle.decls.proofs.Common.{Vec, position_from, values_of, bytes_eq, position_from-zero, Table, Words, Entry, find, said_by_either, Said, Known, kept, view_known, view_said, said_of}
use Rattle.indexmap.specs.IndexMap.{set_value_at}

abbrev pub is_name : List ℕ → Entry → Bool
is_name name e = bytes_eq name e.name

head_of : (x y : Entry) (xs ys : List Entry) → x ∷ xs ≡ y ∷ ys → x ≡ y
head_of x y xs ys e = cc

tail_of : (x y : Entry) (xs ys : List Entry) → x ∷ xs ≡ y ∷ ys → xs ≡ ys
tail_of x y xs ys e = cc

same : (x y : Known) → ◌≡◌ {A = Option Known} (Some x) (Some y) → x ≡ y
same x y e = cc

some_same : (x y : ℕ) → ◌≡◌ {A = Option ℕ} (Some x) (Some y) → x ≡ y
some_same x y e = cc

-- the first that is found has a place; the others follow
abbrev told_at : Words → ℕ → List Entry → List Entry
told_at w k [] = []
told_at w zero (e ∷ es) = (record e { words = said_by_either e.words w }) ∷ es
told_at w (suc k) (e ∷ es) = e ∷ told_at w k es

late : (name : List ℕ) (i k : ℕ) (es : List Entry) → position_from (is_name name) i es ≡ Some k → i ≤ k
late name i k [] h = absurd cc
late name i k (e ∷ es) h = by (bytes_eq name e.name) h (late name (i + 1) k es)
  where
    by : (b : Bool) → cond b (Some i) (position_from (is_name name) (i + 1) es) ≡ Some k → (position_from (is_name name) (i + 1) es ≡ Some k → i + 1 ≤ k) → i ≤ k
    by true g f = omega (arith, some_same i k g)
    by false g f = omega (arith, f g)

told_from : (w : Words) (name : List ℕ) (i k : ℕ) (es : List Entry) → position_from (is_name name) i es ≡ Some k → said_of w es name ≡ told_at w (k - i) es
told_from w name i k [] h = absurd cc
told_from w name i k (e ∷ es) h = by (bytes_eq name e.name) h (λ g. late name (i + 1) k es g) (told_from w name (i + 1) k es)
  where
    by : (b : Bool) → cond b (Some i) (position_from (is_name name) (i + 1) es) ≡ Some k → (position_from (is_name name) (i + 1) es ≡ Some k → i + 1 ≤ k) → (position_from (is_name name) (i + 1) es ≡ Some k → said_of w es name ≡ told_at w (k - (i + 1)) es)
        → (if b then (record e { words = said_by_either e.words w }) ∷ es else e ∷ said_of w es name) ≡ told_at w (k - i) (e ∷ es)
    by true g f t =
        let z : k - i ≡ zero = omega (arith, some_same i k g) in
        sym (ap (λ n. told_at w n (e ∷ es)) z)
    by false g f t =
        let z : k - i ≡ suc (k - (i + 1)) = omega (arith, f g) in
        ap (λ (xs : List Entry). e ∷ xs) (t g) ∙ sym (ap (λ n. told_at w n (e ∷ es)) z)

told : (w : Words) (name : List ℕ) (k : ℕ) (es : List Entry) → find es name ≡ Some k → said_of w es name ≡ told_at w k es
told w name k es h = told_from w name 0 k es (sym (position_from-zero (is_name name) es) ∙ h) ∙ ap (λ n. told_at w n es) (less k)
  where
    less : (n : ℕ) → n - 0 ≡ n
    less n = omega arith

none_from : (w : Words) (name : List ℕ) (i : ℕ) (es : List Entry) → position_from (is_name name) i es ≡ None → said_of w es name ≡ es
none_from w name i [] h = refl
none_from w name i (e ∷ es) h = by (bytes_eq name e.name) h (none_from w name (i + 1) es)
  where
    by : (b : Bool) → cond b (Some i) (position_from (is_name name) (i + 1) es) ≡ None → (position_from (is_name name) (i + 1) es ≡ None → said_of w es name ≡ es) → (if b then (record e { words = said_by_either e.words w }) ∷ es else e ∷ said_of w es name) ≡ e ∷ es
    by true g f = absurd cc
    by false g f = ap (λ (xs : List Entry). e ∷ xs) (f g)

pub none_told : (w : Words) (es : List Entry) (name : List ℕ) → find es name ≡ None → es ≡ said_of w es name
none_told w es name h = sym (none_from w name 0 es (sym (position_from-zero (is_name name) es) ∙ h))

-- ---- rows

told_row : (t : Table) (key : Vec ℕ) (v d : Known) (x : Entry) (w : Words) (r : Said) → v ≡ d → view_known (key, v) ≡ kept t x → view_said r ≡ said_by_either (view_said d.said) w
    → view_known (key, record { place = d.place; meaning = d.meaning; said = r }) ≡ kept t (record x { words = said_by_either x.words w })
told_row t key v d x w r e g f =
    let h : view_known (key, d) ≡ kept t x = ap (λ (y : Known). view_known (key, y)) (sym e) ∙ g in
    ap (λ (u : Words). record (view_known (key, d)) { words = u }) f ∙ ap (λ (y : Entry). record y { words = said_by_either y.words w }) h

rows_set : (t : Table) (rows : List (Vec ℕ × Known)) (es : List Entry) (k : ℕ) (d : Known) (w : Words) (r : Said) → map view_known rows ≡ map (kept t) es → slice_get (values_of rows) k ≡ Some d → view_said r ≡ said_by_either (view_said d.said) w
    → map view_known (set_value_at rows k (record { place = d.place; meaning = d.meaning; said = r })) ≡ map (kept t) (told_at w k es)
rows_set t [] [] k d w r g h f = refl
rows_set t [] (x ∷ es) k d w r g h f = absurd cc
rows_set t (y ∷ rows) [] k d w r g h f = absurd cc
rows_set t (y ∷ rows) (x ∷ es) zero d w r g h f =
    ap₂ (λ (a : Entry) (as2 : List Entry). a ∷ as2) (told_row t y.0 y.1 d x w r (same y.1 d h) (head_of _ _ _ _ g) f) (tail_of _ _ _ _ g)
rows_set t (y ∷ rows) (x ∷ es) (suc k) d w r g h f =
    ap₂ (λ (a : Entry) (as2 : List Entry). a ∷ as2) (head_of _ _ _ _ g) (rows_set t rows es k d w r (tail_of _ _ _ _ g) h f)

pub rows_told : (t : Table) (rows : List (Vec ℕ × Known)) (es : List Entry) (name : List ℕ) (k : ℕ) (d : Known) (w : Words) (r : Said) → map view_known rows ≡ map (kept t) es → find es name ≡ Some k → slice_get (values_of rows) k ≡ Some d → view_said r ≡ said_by_either (view_said d.said) w
    → map view_known (set_value_at rows k (record { place = d.place; meaning = d.meaning; said = r })) ≡ map (kept t) (said_of w es name)
rows_told t rows es name k d w r g i h f = rows_set t rows es k d w r g h f ∙ ap (map (kept t)) (sym (told w name k es i))
