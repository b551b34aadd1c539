-- The cell of the least name is found from the front.
use Rattle.std.proofs.Common.{◌≡◌, ◌<◌, ◌≤◌, ℕ, zero, suc, ◌+◌, Bool, true, false, nat_lt, ◌&&◌, if◌then◌else◌, List, [], ◌∷◌, length, drop, get_or, map, Option, Some, None, refl, sym, ap, ◌∙◌, subst, arith, inl, inr, Contains, IfSome, is_some}
use Rattle.fitter.proofs.Common.{option_map, cases_Bool, nat_tests, drop_more, drop_all, get_or_from_slice_get, slice_get-get_or, same_Some, CellWanted, Control, Const, Formula, Wanted, earlier_name, first_with, own_of, plain_control, plain_wanted, SharedControl, Preset, Reset, better_of, is_earlier, own_control, own_formula}

pub own_is : (fs : List Formula) (which : SharedControl) (w : CellWanted) → own_formula which (plain_wanted fs w) ≡ plain_control fs (own_control which w)
own_is fs Reset w = refl
own_is fs Preset w = refl

some_is : (fs : List Formula) (which : SharedControl) (w : CellWanted) → is_some (own_formula which (plain_wanted fs w)) ≡ is_some (own_control which w)
some_is fs which w = ap is_some (own_is fs which w) ∙ mapped (own_control which w)
  where
    mapped : (o : Option Control) → is_some (plain_control fs o) ≡ is_some o
    mapped None = refl
    mapped (Some c) = refl

-- the best so far, or one of the rest that precedes it
abbrev pub merged : Option Wanted → Option Wanted → Option Wanted
merged None rest = rest
merged (Some best) rest = Some (earlier_name best rest)

abbrev plain : List Formula → Option CellWanted → Option Wanted
plain fs o = option_map (plain_wanted fs) o

two_of : (b w : Wanted) (rest : Option Wanted) (less : Bool) → nat_lt w.name b.name ≡ less → earlier_name b (Some (earlier_name w rest)) ≡ (if less then earlier_name w rest else earlier_name b rest)
two_of b w None true is = rw is refl
two_of b w None false is = rw is refl
two_of b w (Some v) true is =
    elim (cases_Bool (nat_lt v.name w.name)) [
      | inl first ↦ let also : nat_lt v.name b.name ≡ true = grind (arith, nat_tests, is, first) in rw (first, also) refl
      | inr second ↦ rw (second, is) refl
    ]
two_of b w (Some v) false is =
    elim (cases_Bool (nat_lt v.name w.name)) [
      | inl first ↦ rw first refl
      | inr second ↦ let also : nat_lt v.name b.name ≡ false = grind (arith, nat_tests, is, second) in rw (second, is, also) refl
    ]

-- one cell more
pub better_step : (fs : List Formula) (which : SharedControl) (best : Option CellWanted) (w : CellWanted) (ws : List Wanted)
    → merged (plain fs best) (first_with (own_formula which) (plain_wanted fs w ∷ ws)) ≡ merged (plain fs (better_of which best w)) (first_with (own_formula which) ws)
better_step fs which None w ws =
    elim (cases_Bool (is_some (own_control which w))) [
      | inl has ↦ rw (some_is fs which w, has) refl
      | inr none ↦ rw (some_is fs which w, none) refl
    ]
better_step fs which (Some b) w ws =
    elim (cases_Bool (is_some (own_control which w))) [
      | inl has ↦ elim (cases_Bool (nat_lt w.name b.name)) [
        | inl less ↦ rw (some_is fs which w, has, less) (ap (λ (x : Wanted). Some x) (two_of (plain_wanted fs b) (plain_wanted fs w) (first_with (own_formula which) ws) true less))
        | inr more ↦ rw (some_is fs which w, has, more) (ap (λ (x : Wanted). Some x) (two_of (plain_wanted fs b) (plain_wanted fs w) (first_with (own_formula which) ws) false more))
      ]
      | inr none ↦ rw (some_is fs which w, none) refl
    ]

-- the best so far and the rest give the first of all
abbrev pub IsFirstSoFar : List Formula → SharedControl → List CellWanted → Option CellWanted → ℕ → Type 0
IsFirstSoFar fs which cells best place =
    first_with (own_formula which) (map (plain_wanted fs) cells) ≡ merged (plain fs best) (first_with (own_formula which) (map (plain_wanted fs) (drop place cells)))

at_same : (cells held : List CellWanted) (i : ℕ) (d : CellWanted) → held ≡ cells → i < length cells → get_or held i d ≡ get_or cells i (get_or held i d)
at_same cells held i d same within =
    ap (λ (xs : List CellWanted). get_or xs i d) same ∙ sym (get_or_from_slice_get cells i (get_or cells i d) (get_or held i d) (slice_get-get_or cells i d within))

pub so_far_more : (fs : List Formula) (which : SharedControl) (cells held : List CellWanted) (best result : Option CellWanted) (place : ℕ) (d : CellWanted)
    → held ≡ cells → place < length held → result ≡ better_of which best (get_or held place d) → IsFirstSoFar fs which cells best place → IsFirstSoFar fs which cells result (place + 1)
so_far_more fs which cells held best result place d same within is before =
    let low : place < length cells = subst (λ (xs : List CellWanted). place < length xs) same within in
    let w = get_or held place d in
    subst (λ (b : Option CellWanted). IsFirstSoFar fs which cells b (place + 1)) (sym is)
    (before
    ∙ (ap (λ (xs : List CellWanted). merged (plain fs best) (first_with (own_formula which) (map (plain_wanted fs) xs)))
    (drop_more cells place w low ∙ ap (λ (x : CellWanted). x ∷ drop (place + 1) cells) (sym (at_same cells held place d same low)))
    ∙ better_step fs which best w (map (plain_wanted fs) (drop (place + 1) cells))))

-- the best is one of the cells
pub better_among : (which : SharedControl) (cells held : List CellWanted) (best result : Option CellWanted) (place : ℕ) (d : CellWanted) → held ≡ cells → place < length held
    → result ≡ better_of which best (get_or held place d) → IfSome best (Contains cells) → IfSome result (Contains cells)
better_among which cells held best result place d same within is before =
    let low : place < length cells = subst (λ (xs : List CellWanted). place < length xs) same within in
    subst (λ (b : Option CellWanted). IfSome b (Contains cells)) (sym is)
    (either (is_some (own_control which (get_or held place d)) && is_earlier (get_or held place d) best) (place, low, sym (at_same cells held place d same low)))
  where
    either : (b : Bool) → Contains cells (get_or held place d) → IfSome (if b then Some (get_or held place d) else best) (Contains cells)
    either true here = here
    either false here = before

pub so_far_all : (fs : List Formula) (which : SharedControl) (cells : List CellWanted) (best : Option CellWanted) (place : ℕ) → length cells ≤ place
    → IsFirstSoFar fs which cells best place → first_with (own_formula which) (map (plain_wanted fs) cells) ≡ plain fs best
so_far_all fs which cells best place done before =
    before ∙ (ap (λ (xs : List CellWanted). merged (plain fs best) (first_with (own_formula which) (map (plain_wanted fs) xs))) (drop_all place cells done) ∙ last best)
  where
    last : (b : Option CellWanted) → merged (plain fs b) None ≡ plain fs b
    last None = refl
    last (Some w) = refl

-- ---- none and some

pub none_first : (fs : List Formula) (which : SharedControl) (cells : List CellWanted) → first_with (own_formula which) (map (plain_wanted fs) cells) ≡ None
    → (k : ℕ) (d : CellWanted) → k < length cells → own_control which (get_or cells k d) ≡ None
none_first fs which [] is k d within = absurd (omega arith)
none_first fs which (w ∷ ws) is k d within = by_own (own_control which w) refl (λ rest j low. none_first fs which ws rest j d low) k within
  where
    by_own : (o : Option Control) → own_control which w ≡ o
        → (first_with (own_formula which) (map (plain_wanted fs) ws) ≡ None → (j : ℕ) → j < length ws → own_control which (get_or ws j d) ≡ None)
        → (j : ℕ) → j < length (w ∷ ws) → own_control which (get_or (w ∷ ws) j d) ≡ None
    by_own (Some control) has rest j low = absurd (some_none (rw (some_is fs which w, has) at is))
      where
        some_none : {x : Wanted} → Some x ≡ None → ⊥
        some_none e = absurd cc
    by_own None has rest zero low = has
    by_own None has rest (suc j) low = rest (rw (some_is fs which w, has) at is) j (omega (arith, low))

earlier_has : (which : SharedControl) (w : Wanted) (rest : Option Wanted) → is_some (own_formula which w) ≡ true → ((v : Wanted) → rest ≡ Some v → is_some (own_formula which v) ≡ true)
    → is_some (own_formula which (earlier_name w rest)) ≡ true
earlier_has which w None here there = here
earlier_has which w (Some v) here there = elim (cases_Bool (nat_lt v.name w.name)) [ inl less ↦ rw less (there v refl) | inr more ↦ rw more here ]

first_has : (which : SharedControl) (ws : List Wanted) (x : Wanted) → first_with (own_formula which) ws ≡ Some x → is_some (own_formula which x) ≡ true
first_has which [] x e = absurd cc
first_has which (w ∷ ws) x e =
    elim (cases_Bool (is_some (own_formula which w))) [
      | inl some ↦
          let same : earlier_name w (first_with (own_formula which) ws) ≡ x = same_Some _ x (rw some at e) in
          subst (λ (y : Wanted). is_some (own_formula which y) ≡ true) same
          (earlier_has which w (first_with (own_formula which) ws) some (λ v there. first_has which ws v there))
      | inr none ↦ first_has which ws x (rw none at e)
    ]

pub has_first : (fs : List Formula) (which : SharedControl) (cells : List CellWanted) (found : CellWanted) → first_with (own_formula which) (map (plain_wanted fs) cells) ≡ Some (plain_wanted fs found)
    → is_some (own_control which found) ≡ true
has_first fs which cells found is = sym (some_is fs which found) ∙ first_has which (map (plain_wanted fs) cells) (plain_wanted fs found) is
