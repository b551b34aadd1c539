-- Paths of one vertex, with one more before them, and from a vertex that is a start.
use Rattle.std.proofs.Common.{◌≡◌, ℕ, ◌<◌, Bool, true, false, eqb, List, [], ◌∷◌, ◌++◌, get_or, refl, ap, sym, subst, inl, inr, eqb-true}
use Rattle.pld_order.proofs.Common.{or_cases, true≢false, has, IsPath}

pub path_from : (count : ℕ) (reads : ℕ → ℕ → Bool) (starts ends : ℕ → Bool) (v : ℕ) (path : List ℕ) → starts v ≡ true → IsPath count reads (eqb v) ends path → IsPath count reads starts ends path
path_from count reads starts ends v path start is = record {
  before = is.before;
  last = is.last;
  is = is.is;
  inside = is.inside;
  begins = subst (λ x. starts x ≡ true) (eqb-true v (get_or path 0 0) is.begins) start;
  leads = is.leads;
  arrives = is.arrives;
}

pub path_one : (count : ℕ) (reads : ℕ → ℕ → Bool) (starts ends : ℕ → Bool) (v : ℕ) → v < count → starts v ≡ true → ends v ≡ true → IsPath count reads starts ends (v ∷ [])
path_one count reads starts ends v within start end = record {
  before = [];
  last = v;
  is = refl;
  inside = λ x found. elim (or_cases (eqb x v) false found) [ inl here ↦ subst (λ y. y < count) (sym (eqb-true x v here)) within | inr never ↦ absurd (true≢false (sym never)) ];
  begins = start;
  leads = tt;
  arrives = end;
}

pub path_step : (count : ℕ) (reads : ℕ → ℕ → Bool) (starts ends : ℕ → Bool) (v w : ℕ) (path : List ℕ) → v < count → starts v ≡ true → reads v w ≡ true → IsPath count reads (eqb w) ends path → IsPath count reads starts ends (v ∷ path)
path_step count reads starts ends v w path within start on is = record {
  before = v ∷ is.before;
  last = is.last;
  is = ap (λ xs. v ∷ xs) is.is;
  inside = λ x found. elim (or_cases (eqb x v) (has path x) found) [ inl here ↦ subst (λ y. y < count) (sym (eqb-true x v here)) within | inr later ↦ is.inside x later ];
  begins = start;
  leads = (first is.before (subst (λ p. eqb w (get_or p 0 0) ≡ true) is.is is.begins), is.leads);
  arrives = is.arrives;
}
  where
    first : (xs : List ℕ) → eqb w (get_or (xs ++ is.last ∷ []) 0 0) ≡ true → reads v (get_or xs 0 is.last) ≡ true
    first [] here = subst (λ y. reads v y ≡ true) (eqb-true w is.last here) on
    first (x ∷ xs) here = subst (λ y. reads v y ≡ true) (eqb-true w x here) on
