-- What is shown at each vector of a run.
use Rattle.std.proofs.Common.{◌≡◌, ℕ, suc, ◌-◌, ◌<◌, ◌≤◌, Bool, Option, None, Some, List, [], ◌∷◌, ◌++◌, length, take, drop, slice_get, get_or, flat_map, ◌+◌, add-one, drop-cons, append_assoc, append-nil, refl, ap, sym, ◌∙◌, subst}
use Rattle.device_sim.proofs.Common.{drop_all, take-map, Trace, Vector, Levels, device_logic, Table, all_chars, Lookups, logic_of, IsOrdered, device_lookups, same_logic, outsides_of, chars_at, all_chars_at, points_after, last_after, ShownAfter}
use Rattle.device_sim.specs.Traced.{IsShown, AreShown, IsTraced}
use Rattle.device_sim.proofs.Loaded.{narrow}
use Rattle.device_sim.proofs.OneList.{vectors_run}
use Rattle.device_sim.proofs.Vectors.{point_between, points_behind, some_outside}

module _ (m : Lookups) (pins : ℕ) (default : Bool) (vectors : List Vector) where
  -- a vector's trace, and those of the vectors after it
  pub more_shown : (i : ℕ) (v : Vector) (before : Option Levels) (at : Levels) (list more : List Trace) (t : Trace) → i < length vectors
      → last_after m before (outsides_of default (chars_at pins (get_or vectors i v))) ≡ Some at → IsShown (logic_of m) (Some at) t → more ≡ list ++ t ∷ []
      → ((ts : List Trace) → ShownAfter m default before (all_chars_at pins (drop i vectors)) ts → ShownAfter m default None (all_chars_at pins vectors) (list ++ ts))
      → (ts : List Trace) → ShownAfter m default (Some at) (all_chars_at pins (drop (i + 1) vectors)) ts → ShownAfter m default None (all_chars_at pins vectors) (more ++ ts)
  more_shown i v before at list more t within last shown more_is old ts h =
      let chars : List ℕ = chars_at pins (get_or vectors i v) in
      let front : all_chars_at pins (drop i vectors) ≡ chars ∷ all_chars_at pins (drop (suc i) vectors) = rw (drop-cons vectors i v within) refl in
      let behind : drop (i + 1) vectors ≡ drop (suc i) vectors = ap (λ n. drop n vectors) (add-one i) in
      let later : ShownAfter m default (last_after m before (outsides_of default chars)) (all_chars_at pins (drop (suc i) vectors)) ts =
      subst (λ (p : Option Levels). ShownAfter m default p (all_chars_at pins (drop (suc i) vectors)) ts) (sym last)
      (subst (λ (vs : List Vector). ShownAfter m default (Some at) (all_chars_at pins vs) ts) behind h) in
      let here : IsShown (logic_of m) (last_after m before (outsides_of default chars)) t = subst (λ (p : Option Levels). IsShown (logic_of m) p t) (sym last) shown in
      let whole = old (t ∷ ts) (subst (λ (vs : List (List ℕ)). ShownAfter m default before vs (t ∷ ts)) (sym front) (here, later)) in
      subst (λ (xs : List Trace). ShownAfter m default None (all_chars_at pins vectors) xs) (sym (ap (λ (xs : List Trace). xs ++ ts) more_is ∙ append_assoc list (t ∷ []) ts)) whole

  -- after the last vector all are shown
  pub all_shown : (i : ℕ) (before : Option Levels) (list : List Trace) → length vectors ≤ i
      → ((ts : List Trace) → ShownAfter m default before (all_chars_at pins (drop i vectors)) ts → ShownAfter m default None (all_chars_at pins vectors) (list ++ ts))
      → ShownAfter m default None (all_chars_at pins vectors) list
  all_shown i before list past old =
      let end : drop i vectors ≡ [] = drop_all i vectors past in
      subst (λ (xs : List Trace). ShownAfter m default None (all_chars_at pins vectors) xs) (append-nil list)
      (old [] (subst (λ (vs : List Vector). ShownAfter m default before (all_chars_at pins vs) []) (sym end) refl))

-- what is shown after each vector is shown at the points of the run
points_shown : (m : Lookups) (default : Bool) (before : Option Levels) (vectors : List (List ℕ)) (traces : List Trace) → ShownAfter m default before vectors traces
    → AreShown (logic_of m) default vectors (points_after m before (flat_map (outsides_of default) vectors)) traces
points_shown m default before [] traces h = h
points_shown m default before (chars ∷ vectors) [] h = absurd h
points_shown m default before (chars ∷ vectors) (trace ∷ traces) h =
    let some = some_outside m default chars in
    let later : List (List Bool) = flat_map (outsides_of default) vectors in
    let here : slice_get (points_after m before (outsides_of default chars ++ later)) (length (outsides_of default chars) - 1) ≡ last_after m before (outsides_of default chars) =
    rw some.2 (point_between m before some.0 some.1 later) in
    let behind = points_behind m before (outsides_of default chars) later in (
      subst (λ (p : Option Levels). IsShown (logic_of m) p trace) (sym here) h.0,
      subst (λ (ps : List Levels). AreShown (logic_of m) default vectors ps traces) (sym behind) (points_shown m default (last_after m before (outsides_of default chars)) vectors traces h.1),
    )

-- a loaded device's traces are those of the device with its fuses
pub is_device_trace : (t : Table) (default : Bool) (vectors : List Vector) (most : ℕ) (fuses loaded : List Bool) (order : List ℕ) (pins : ℕ) (slice : List Vector) (items list : List Trace)
    → t.pins ≤ 24 → loaded ≡ fuses → pins ≡ t.pins → slice ≡ take most vectors → IsOrdered (device_lookups t loaded order)
    → ShownAfter (device_lookups t loaded order) default None (all_chars_at pins slice) items → list ≡ items
    → IsTraced (device_logic t fuses) default (take most (all_chars t vectors)) list
is_device_trace t default vectors most fuses loaded order pins slice items list few same_fuses same_pins same_vectors ordered shown list_is =
    let m : Lookups = device_lookups t loaded order in
    let vs : List (List ℕ) = all_chars_at pins slice in
    let here : vs ≡ take most (all_chars t vectors) = rw (same_pins, same_vectors) (sym (take-map (chars_at t.pins) most vectors)) in
    let traced : IsTraced (logic_of m) default vs items = record {
      points = points_after m None (flat_map (outsides_of default) vs);
      runs = vectors_run m ordered default vs (narrow pins slice (subst (λ n. n ≤ 24) (sym same_pins) few));
      shows = points_shown m default None vs items shown;
    } in
    rw list_is
    (subst (λ fs. IsTraced (device_logic t fs) default (take most (all_chars t vectors)) items) same_fuses
    (subst (λ l. IsTraced l default (take most (all_chars t vectors)) items) (same_logic t loaded order)
    (subst (λ xs. IsTraced (logic_of m) default xs items) here traced)))
