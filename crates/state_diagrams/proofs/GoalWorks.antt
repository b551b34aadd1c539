-- What registers are given, one after another, and the unit of a goal.
use Rattle.std.proofs.Common.{◌≡◌, ℕ, ◌+◌, ◌<◌, ◌≤◌, false, true, None, List, [], ◌∷◌, Result, Ok, Err, length, drop, get_or, refl, sym, ap, ap₂, ◌∙◌, subst, subst₂, arith, add-one}
use Rattle.state_diagrams.proofs.Common.{drop_all, drop-cons, Place, make_and, Formula, Goal, view, contribution, guard_nodes, term_nodes, Context, goal_gives, formulas, match_of, term_of, Contributions, stops_longer, SectionFault, Aim, StopsWith, IsBuilt, Builds, part, units_nodes, builds_then, builds_stop, AreParts, one_unit, signals_of, IsDone, Work, before, AfterStep, DoesWork, IsLeft, left_done, left_step, length-map, Const, ExprId, arena, formula_at, Guard, view_guard, Walked, AreBits, standing, bits_length, goal_parts, goal_unit, goal_work, goal_places}
use Rattle.abel_meaning.specs.Contributions as meant
use Rattle.section_targets.proofs.Gives.{stops_nodes}
use Rattle.state_diagrams.proofs.StateBits.{bit_at}

-- ---- one register

-- one, and a match after it
pub register_given : (d : Context) (h k : meant.Guard Formula) (p : Place) (a : Aim) (w : Formula) (old mid new : Contributions) (r : Result Unit SectionFault) → k ≡ h
    → IsBuilt (part p (make_and h.holds w).nodes ∷ []) (contribution d h None false true meant.One a.signal (make_and h.holds w).what ∷ []) (a.place ∷ []) old mid
    → Builds [] (contribution d k None false true meant.Match a.signal k.holds ∷ []) (a.place ∷ []) mid new r
    → DoesWork (goal_work d h p (a ∷ []) (w ∷ [])) old new r
register_given d h k p a w old mid new r e b c =
    builds_then (part p (make_and h.holds w).nodes ∷ []) [] (contribution d h None false true meant.One a.signal (make_and h.holds w).what ∷ []) (match_of d h false true a.signal ∷ []) (a.place ∷ []) (a.place ∷ []) old mid new r b
    (subst (λ (x : meant.Guard Formula). Builds [] (contribution d x None false true meant.Match a.signal x.holds ∷ []) (a.place ∷ []) mid new r) e c)

pub register_stops : (d : Context) (h : meant.Guard Formula) (p : Place) (a : Aim) (w : Formula) (old new : Contributions) (f : SectionFault)
    → StopsWith (part p (make_and h.holds w).nodes ∷ []) (contribution d h None false true meant.One a.signal (make_and h.holds w).what ∷ []) (a.place ∷ []) old new f
    → DoesWork {R = Unit} (goal_work d h p (a ∷ []) (w ∷ [])) old new (Err f)
register_stops d h p a w old new f s =
    builds_stop (part p (make_and h.holds w).nodes ∷ []) [] (contribution d h None false true meant.One a.signal (make_and h.holds w).what ∷ []) (match_of d h false true a.signal ∷ []) (a.place ∷ []) (a.place ∷ []) old new f s

-- ---- all registers

-- there is a signal for each register
pub sized : (xs : List Aim) → length xs ≡ length (signals_of xs)
sized xs = sym (length-map xs (λ (x : Aim). x.signal))

-- the bits of a goal's value for so many registers
abbrev pub goal_word : Context → List Aim → Goal → List Formula
goal_word d xs g = (formulas d).word (length xs) (term_of d.known (view g.value))

-- the value, and the registers after it, in parts of the goal's unit
abbrev pub goal_parted : Context → meant.Guard Formula → List Aim → Goal → Work
goal_parted d h xs g =
    before (record { units = part g.place (term_nodes d (view g.value)) ∷ []; gives = []; places = [] }) (goal_work d h g.place xs (goal_word d xs g))

-- the registers from this one on
abbrev pub goals_from : Context → meant.Guard Formula → List Aim → Goal → ℕ → Work
goals_from d h xs g i = goal_work d h g.place (drop i xs) (drop i (goal_word d xs g))

pub value_made : (d : Context) (h : meant.Guard Formula) (xs : List Aim) (g : Goal) (old mid : Contributions) → IsBuilt (part g.place (term_nodes d (view g.value)) ∷ []) [] [] old mid → IsLeft (goal_parted d h xs g) (goals_from d h xs g 0) old mid
value_made d h xs g old mid b =
    left_step (goal_parted d h xs g) (record { units = part g.place (term_nodes d (view g.value)) ∷ []; gives = []; places = [] }) (goals_from d h xs g 0) old old mid (Ok tt) (λ later r k. k) b

-- one register more, or what stops it
pub register_step : (d : Context) (k : Guard) (h : meant.Guard Formula) (xs : List Aim) (a : Aim) (g : Goal) (ids : List ExprId) (id : ExprId) (i : ℕ) (old : Contributions) (mid new : Walked) (r : Result Unit SectionFault)
    → i < length xs → length ids ≡ length xs → AreBits (arena mid.exprs) ids (goal_word d xs g) → id ≡ get_or ids i id → view_guard (arena mid.exprs) k ≡ h
    → IsLeft (goal_parted d h xs g) (goals_from d h xs g i) old (standing mid)
    → DoesWork (goal_work d (view_guard (arena mid.exprs) k) g.place (get_or xs i a ∷ []) (formula_at (arena mid.exprs) id ∷ [])) (standing mid) (standing new) r
    → AfterStep (goal_parted d h xs g) (goals_from d h xs g (i + 1)) old (standing new) r
register_step d k h xs a g ids id i old mid new r lt each bits is same left one =
    let ws = goal_word d xs g in
    let le : i < length ids = omega (arith, lt, each) in
    let lw : i < length ws = omega (arith, le, bits_length (arena mid.exprs) ids ws bits) in
    let bit : formula_at (arena mid.exprs) id ≡ get_or ws i (Const false) = ap (formula_at (arena mid.exprs)) is ∙ (bit_at (arena mid.exprs) ids ws i id bits le).1 in
    let first = goal_work d h g.place (get_or xs i a ∷ []) (get_or ws i (Const false) ∷ []) in
    let here : goals_from d h xs g i ≡ before first (goals_from d h xs g (i + 1)) = ap₂ (goal_work d h g.place) (drop-cons xs i a lt) (drop-cons ws i (Const false) lw)
    ∙ ap (λ n. before first (goals_from d h xs g n)) (sym (add-one i)) in
    left_step (goal_parted d h xs g) first (goals_from d h xs g (i + 1)) old (standing mid) (standing new) r
    (subst (λ z. IsLeft (goal_parted d h xs g) z old (standing mid)) here left)
    (subst₂ (λ y f. DoesWork (goal_work d y g.place (get_or xs i a ∷ []) (f ∷ [])) (standing mid) (standing new) r) same bit one)

pub registers_done : (d : Context) (h : meant.Guard Formula) (xs : List Aim) (g : Goal) (i : ℕ) (old new : Contributions) → length xs ≤ i → IsLeft (goal_parted d h xs g) (goals_from d h xs g i) old new → IsDone (goal_parted d h xs g) old new
registers_done d h xs g i old new e b =
    left_done (goal_parted d h xs g) (goals_from d h xs g i) old new (ap (λ ys. goal_work d h g.place ys (drop i (goal_word d xs g))) (drop_all i xs e)) b

-- ---- the unit

parts_of : (p : Place) (g : Formula) (xs : List Aim) (ws : List Formula) → AreParts p (goal_parts p g xs ws)
parts_of p g (x ∷ xs) (w ∷ ws) = (refl, parts_of p g xs ws)
parts_of p g _ _ = tt

parts_nodes : (p : Place) (g : Formula) (xs : List Aim) (ws : List Formula) → length xs ≡ length ws → units_nodes (goal_parts p g xs ws) ≡ guard_nodes g ws
parts_nodes p g [] [] e = refl
parts_nodes p g (x ∷ xs) (w ∷ ws) e = ap (λ n. (make_and g w).nodes + n) (parts_nodes p g xs ws (omega (arith, e)))
parts_nodes p g _ _ e = absurd (omega (arith, e))

-- its parts are the unit
pub goal_built : (d : Context) (h : meant.Guard Formula) (xs : List Aim) (g : Goal) (old new : Contributions) (r : Result Unit SectionFault) → length xs ≡ length (goal_word d xs g) → DoesWork (goal_parted d h xs g) old new r → DoesWork (goal_unit d h xs g []) old new r
goal_built d h xs g old new r e b =
    let ws = goal_word d xs g in
    let gs = λ (n : ℕ). goal_gives (formulas d) d h (signals_of xs) ((formulas d).word n (term_of d.known (view g.value))) in
    subst₂ (λ (n k : ℕ). Builds (part g.place (term_nodes d (view g.value) + n) ∷ []) (gs k) (goal_places xs) old new r) (parts_nodes g.place h.holds xs ws e) (sized xs)
    (one_unit g.place (part g.place (term_nodes d (view g.value)) ∷ goal_parts g.place h.holds xs ws) (gs (length xs)) (goal_places xs) old new r (refl, parts_of g.place h.holds xs ws) b)

-- the value stops
pub value_stops : (d : Context) (h : meant.Guard Formula) (xs : List Aim) (g : Goal) (old new : Contributions) (f : SectionFault) → StopsWith (part g.place (term_nodes d (view g.value)) ∷ []) [] [] old new f → DoesWork {R = Unit} (goal_unit d h xs g []) old new (Err f)
value_stops d h xs g old new f s =
    stops_nodes _ (goal_unit d h xs g []).gives (goal_places xs) old new f
    (stops_longer g.place [] (term_nodes d (view g.value)) (guard_nodes h.holds (goal_word d xs g)) old new f s)
