-- The numbers of names: of those below a limit, in a map, and with one name more.
use Rattle.std.proofs.Common.{◌≡◌, ℕ, suc, ◌+◌, ◌<◌, ◌≤◌, Bool, true, false, Option, Some, None, List, [], ◌∷◌, ◌++◌, map, length, get_or, if◌then◌else◌, refl, sym, ap, ap₂, ◌∙◌, arith, cond, inl, inr, is_some, nat_lt, option_copied, option_map, slice_get}
use Rattle.declared_names.proofs.Common.{position_or_len, bytes_eq, cases_lt, lt-ltb, le-ltb, true≢false, length-map, get_or_from_slice_get, Declared, Entry, find, view_declared, no_name, below, number_in, earlier_number, number_of_name, fails_before_first, passes_at_first, slice_get-map, slice_get_read}
use Rattle.decls.proofs.Told.{is_name}
use Rattle.std.specs.Global.{Vec}
use denote.Ref.{Bor}
use Rattle.decls.proofs.FirstNames.{same_bytes}

-- ---- below a limit

module _ (name : List ℕ) (es : List Entry) where
  abbrev place : ℕ
  place = position_or_len (is_name name) es

  found : place < length es → find es name ≡ Some place
  found h = ap (λ b. cond b (Some place) None) (lt-ltb place (length es) h)

  not_found : length es ≤ place → find es name ≡ None
  not_found h = ap (λ b. cond b (Some place) None) (le-ltb place (length es) h)

  within : (k : ℕ) → place < k → place < length es → below k (find es name) ≡ Some place
  within k h low = ap (below k) (found low) ∙ ap (λ b. if b then Some place else None) (lt-ltb place k h)

  pub beyond : (k : ℕ) → k ≤ place → below k (find es name) ≡ None
  beyond k h = by (nat_lt place (length es))
    where
      by : (b : Bool) → below k (cond b (Some place) None) ≡ None
      by true = ap (λ b. if b then Some place else None) (le-ltb place k h)
      by false = refl

  pub below_all : (k : ℕ) → length es ≤ k → below k (find es name) ≡ find es name
  below_all k h =
      elim (cases_lt place (length es)) [
        | inl less ↦ within k (omega (arith, less, h)) less ∙ sym (found less)
        | inr past ↦ ap (below k) (not_found past) ∙ sym (not_found past)
      ]

  -- one name more
  pub below_more : (k : ℕ) → k < length es → below (suc k) (find es name) ≡ earlier_number (below k (find es name)) (number_of_name (get_or es k no_name).name k name)
  below_more k h =
      let one = λ (o : Option ℕ) (b : Bool). earlier_number o (if b then Some k else None) in
      elim (cases_lt place k) [
        | inl less ↦
            within (suc k) (omega (arith, less)) (omega (arith, less, h))
            ∙ ap (λ o. one o (bytes_eq name (get_or es k no_name).name)) (sym (within k less (omega (arith, less, h))))
        | inr most ↦
            elim (cases_lt k place) [
              | inl past ↦ beyond (suc k) (omega (arith, past)) ∙ ap₂ one (sym (beyond k most)) (sym (fails_before_first (is_name name) es k no_name past))
              | inr least ↦
                  let same : place ≡ k = omega (arith, most, least) in
                  let passes = ap (λ n. is_name name (get_or es n no_name)) (sym same) ∙ passes_at_first (is_name name) es no_name (omega (arith, same, h)) in
                  within (suc k) (omega (arith, same)) (omega (arith, same, h)) ∙ (ap Some same ∙ ap₂ one (sym (beyond k most)) (sym passes))
            ]
      ]

-- ---- the map

pub number_behind : (rows : List (Vec ℕ × ℕ)) (key : Vec ℕ) (n : ℕ) (other : List ℕ) → number_in (rows ++ (key, n) ∷ []) other ≡ earlier_number (number_in rows other) (number_of_name key.items n other)
number_behind [] key n other = only (bytes_eq other key.items)
  where
    only : (b : Bool) → cond b (Some n) None ≡ earlier_number None (if b then Some n else None)
    only true = refl
    only false = refl
number_behind (x ∷ rows) key n other = behind (bytes_eq other x.0.items) x.1 _ _ _ (number_behind rows key n other)
  where
    behind : (b : Bool) (v : ℕ) (o p q : Option ℕ) → o ≡ earlier_number p q → cond b (Some v) o ≡ earlier_number (cond b (Some v) p) q
    behind true v o p q e = refl
    behind false v o p q e = e

pub none_found : (r : Option (Bor ℕ)) → is_some r ≡ false → option_copied r ≡ None
none_found None e = refl
none_found (Some x) e = absurd cc

pub some_copied : (r : Option (Bor ℕ)) → is_some (option_copied r) ≡ is_some r
some_copied None = refl
some_copied (Some x) = refl

-- ---- one name more

-- a name that has a number already keeps it
pub known_again : (numbers : List ℕ → Option ℕ) (name w : List ℕ) (n : ℕ) → is_some (numbers w) ≡ true → numbers name ≡ earlier_number (numbers name) (number_of_name w n name)
known_again numbers name w n known = by (bytes_eq name w) refl (numbers name) refl
  where
    by : (b : Bool) → bytes_eq name w ≡ b → (o : Option ℕ) → numbers name ≡ o → o ≡ earlier_number o (if b then Some n else None)
    by b same (Some j) found = refl
    by true same None found = absurd (true≢false (sym known ∙ ap is_some (ap numbers (sym (same_bytes name w same)) ∙ found)))
    by false same None found = refl

pub names_more : (name : List ℕ) (ds : List Declared) (k : ℕ) (d : Declared) → k < length ds → d ≡ get_or ds k d → below (k + 1) (find (map view_declared ds) name) ≡ earlier_number (below k (find (map view_declared ds) name)) (number_of_name d.name k name)
names_more name ds k d h i =
    let es = map view_declared ds in
    let one : k + 1 ≡ suc k = omega arith in
    let here : slice_get es k ≡ Some (view_declared d) = slice_get-map view_declared ds k ∙ ap (option_map view_declared) (slice_get_read ds (length ds) k d refl h i) in
    ap (λ n. below n (find es name)) one
    ∙ (below_more name es k (omega (arith, h, length-map ds view_declared))
    ∙ ap (λ (e : Entry). earlier_number (below k (find es name)) (number_of_name e.name k name)) (get_or_from_slice_get es k (view_declared d) no_name here))
