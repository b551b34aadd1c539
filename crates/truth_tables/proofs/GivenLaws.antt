-- What outputs are given, position by position.
use Rattle.std.proofs.Common.{◌≡◌, ℕ, zero, suc, ◌+◌, ◌<◌, min, Bool, true, false, Option, None, Some, List, [], ◌∷◌, ◌++◌, Result, length, drop, get_or, refl, sym, ap, ap₂, ◌∙◌, subst, arith, append_assoc, append-nil}
use Rattle.truth_tables.proofs.Common.{at, ExprId, Node, arena, formula_at, Made, free, make_and, Formula, Const, Names, Context, formulas, level_gives, match_of, no_matches, outputs_given, Contributions, Guard, SectionFault, view_gives, view_guard, Aim, IsBuilt, Builds, AreNamed, part, builds_then, low_bit, given_output, high_bit, some_aims, places_for, places_of, row_places, Assigning, signals_of, matched_guard, GivesOutput, Work, before, given_freely, nothing, next_of}
use Rattle.set_expr.specs.declared.contributions.Contribution.{Contribution}
use Rattle.abel_meaning.specs.Contributions as meant
use Rattle.abel_meaning.specs.Contributions.{contribution}
use Rattle.set_expr.specs.declared.contributions.Gives.{Gives}
use Rattle.set_expr.specs.declared.contributions.Gives.TheVariants as gives
use Rattle.bit_expr.proofs.FoldingCases.{and_one_right}
use Rattle.section_targets.specs.declared.giving.Giving.{Giving}
use Rattle.section_targets.specs.Gives.{GivesOne}
use Rattle.truth_tables.proofs.WorkLaws.{AfterStep, DoesWork, IsLeft, free_part, left_step}

-- ---- one output

-- under the guard of its bit
abbrev pub giving_of : Assigning → Gives → ExprId → Giving
giving_of m what id =
    record {
      unit = m.unit;
      guard = record { when = id; dontcare = m.guard.dontcare; block = m.guard.block };
      extension = None;
      complement = false;
      clocked = m.clocked;
      what = what;
    }

pub output_given : (n : Names) (m : Assigning) (what : Gives) (a : Aim) (id one : ExprId) (old new : List Node) (list more : List Contribution) (r : Result Unit SectionFault) → one.0 ≡ 1 → GivesOne n (giving_of m what id) a one old new list more r → GivesOutput n m what a id old new list more r
output_given n m what a id one old new list more r e h = λ d s.
    let f = formula_at (arena old) id in
    let alone : make_and f (formula_at (arena old) one) ≡ free f = ap (make_and f) (high_bit old one e).1 ∙ and_one_right f (Const true) refl in
    free_part m.unit (given_output d (arena old) m what a id ∷ []) (a.place ∷ []) (at old list) (at new more) r
    (subst (λ (x : Made Formula). Builds (part m.unit x.nodes ∷ []) (contribution d (matched_guard (arena old) m.guard id) None false m.clocked (view_gives what) a.signal x.what ∷ []) (a.place ∷ []) (at old list) (at new more) r)
    alone (h d s))

-- ---- one position

-- a match after what was given
pub match_given : (d : Context) (m : Assigning) (what : Gives) (a : Aim) (id : ExprId) (old mid new : Contributions) (r : Result Unit SectionFault) → formula_at (arena mid.exprs) id ≡ formula_at (arena old.exprs) id
    → IsBuilt [] (given_output d (arena old.exprs) m what a id ∷ []) (a.place ∷ []) old mid
    → Builds [] (given_output d (arena mid.exprs) m gives.Match a id ∷ []) (a.place ∷ []) mid new r
    → Builds [] (given_output d (arena old.exprs) m what a id ∷ given_output d (arena old.exprs) m gives.Match a id ∷ []) (a.place ∷ a.place ∷ []) old new r
match_given d m what a id old mid new r k b c =
    builds_then [] [] (given_output d (arena old.exprs) m what a id ∷ []) (given_output d (arena old.exprs) m gives.Match a id ∷ []) (a.place ∷ []) (a.place ∷ []) old mid new r b
    (subst (λ f. Builds [] (contribution d (record { holds = f; dontcare = m.guard.dontcare; block = m.guard.block }) None false m.clocked meant.Match a.signal f ∷ []) (a.place ∷ []) mid new r) k c)

-- ---- all positions

abbrev pub positions_work : Context → meant.Guard Formula → (clocked : Bool) → List (Option Aim) → List (Option Bool) → Work
positions_work d h k xs ls = given_freely (outputs_given d h k (signals_of xs) ls) (row_places xs ls)

positions_step : (d : Context) (h : meant.Guard Formula) (k : Bool) (x : Option Aim) (xs : List (Option Aim)) (l : Option Bool) (ls : List (Option Bool)) → positions_work d h k (x ∷ xs) (l ∷ ls) ≡ before (positions_work d h k (x ∷ []) (l ∷ [])) (positions_work d h k xs ls)
positions_step d h k None xs l ls = refl
positions_step d h k (Some a) xs l ls =
    ap₂ given_freely
    (sym (append_assoc (level_gives d h k a.signal l) (match_of d h false k a.signal ∷ []) (outputs_given d h k (signals_of xs) ls)))
    (ap (λ ps. ps ++ row_places xs ls) (sym (append-nil (places_for a l))))

-- one position more, over any arena in which the bit is the same
pub positions_step_at : (d : Context) (g : Guard) (k : Bool) (id : ExprId) (i : ℕ) (xs : List (Option Aim)) (ls : List (Option Bool)) (fs : List Formula) (old mid new : Contributions) (r : Result Unit SectionFault)
    → i < min (length xs) (length ls) → formula_at (arena mid.exprs) id ≡ formula_at fs id
    → IsLeft (positions_work d (matched_guard fs g id) k xs ls) (positions_work d (matched_guard fs g id) k (drop i xs) (drop i ls)) old mid
    → DoesWork (positions_work d (matched_guard (arena mid.exprs) g id) k (get_or xs i None ∷ []) (get_or ls i None ∷ [])) mid new r
    → AfterStep (positions_work d (matched_guard fs g id) k xs ls) (positions_work d (matched_guard fs g id) k (drop (i + 1) xs) (drop (i + 1) ls)) old new r
positions_step_at d g k id i xs ls fs old mid new r lt kept b s =
    let h = matched_guard fs g id in
    let x = get_or xs i None in
    let l = get_or ls i None in
    let next = ap₂ (positions_work d h k) (next_of xs i None (omega (arith, lt))) (next_of ls i None (omega (arith, lt)))
    ∙ positions_step d h k x (drop (i + 1) xs) l (drop (i + 1) ls) in
    left_step (positions_work d h k xs ls) (positions_work d h k (x ∷ []) (l ∷ [])) (positions_work d h k (drop (i + 1) xs) (drop (i + 1) ls)) old mid new r
    (subst (λ w. IsLeft (positions_work d h k xs ls) w old mid) next b)
    (subst (λ f. DoesWork (positions_work d (record { holds = f; dontcare = g.dontcare; block = g.block }) k (x ∷ []) (l ∷ [])) mid new r) kept s)

pub positions_none : (d : Context) (h : meant.Guard Formula) (k : Bool) (xs : List (Option Aim)) (ls : List (Option Bool)) → min (length xs) (length ls) ≡ 0 → positions_work d h k xs ls ≡ nothing
positions_none d h k (x ∷ xs) (l ∷ ls) e = absurd (omega (arith, e))
positions_none d h k _ _ e = refl

-- ---- no matches

abbrev pub no_work : Context → meant.Guard Formula → (clocked : Bool) → List (Option Aim) → Work
no_work d g k xs = given_freely (no_matches (formulas d) d g false k (signals_of xs)) (places_of (some_aims xs))

no_step : (d : Context) (g : meant.Guard Formula) (k : Bool) (x : Option Aim) (xs : List (Option Aim)) → no_work d g k (x ∷ xs) ≡ before (no_work d g k (x ∷ [])) (no_work d g k xs)
no_step d g k None xs = refl
no_step d g k (Some a) xs = refl

-- one output more, by the constant 0 over any arena
pub no_step_at : (d : Context) (g : Guard) (k : Bool) (id : ExprId) (i : ℕ) (xs : List (Option Aim)) (fs : List Formula) (old mid new : Contributions) (r : Result Unit SectionFault)
    → i < length xs → id.0 ≡ 0 → IsLeft (no_work d (view_guard fs g) k xs) (no_work d (view_guard fs g) k (drop i xs)) old mid
    → DoesWork (positions_work d (matched_guard (arena mid.exprs) g id) k (get_or xs i None ∷ []) (Some false ∷ [])) mid new r
    → AfterStep (no_work d (view_guard fs g) k xs) (no_work d (view_guard fs g) k (drop (i + 1) xs)) old new r
no_step_at d g k id i xs fs old mid new r lt e b s =
    let h = view_guard fs g in
    let x = get_or xs i None in
    let next = ap (no_work d h k) (next_of xs i None lt) ∙ no_step d h k x (drop (i + 1) xs) in
    left_step (no_work d h k xs) (no_work d h k (x ∷ [])) (no_work d h k (drop (i + 1) xs)) old mid new r
    (subst (λ w. IsLeft (no_work d h k xs) w old mid) next b) (by_output x s)
  where
    by_output : (x : Option Aim) → DoesWork (positions_work d (matched_guard (arena mid.exprs) g id) k (x ∷ []) (Some false ∷ [])) mid new r → DoesWork (no_work d (view_guard fs g) k (x ∷ [])) mid new r
    by_output None s = s
    by_output (Some a) s =
        subst (λ f. Builds [] (contribution d (record { holds = f; dontcare = g.dontcare; block = g.block }) None false k meant.Match a.signal f ∷ []) (a.place ∷ []) mid new r) (low_bit mid.exprs id e).1 s

-- ---- names

pub named_one : (count : ℕ) (a : Aim) → AreNamed count (some_aims (Some a ∷ [])) → a.signal < count
named_one count a h = h 0 a (omega arith)

pub named_at : (count : ℕ) (xs : List (Option Aim)) (i : ℕ) → i < length xs → AreNamed count (some_aims xs) → AreNamed count (some_aims (get_or xs i None ∷ []))
named_at count [] i lt h = absurd (omega (arith, lt))
named_at count (None ∷ xs) zero lt h = λ k d le. absurd (omega (arith, le))
named_at count (Some a ∷ xs) zero lt h = only
  where
    only : AreNamed count (a ∷ [])
    only zero d le = h zero d (omega arith)
    only (suc k) d le = absurd (omega (arith, le))
named_at count (None ∷ xs) (suc i) lt h = named_at count xs i (omega (arith, lt)) h
named_at count (Some a ∷ xs) (suc i) lt h = named_at count xs i (omega (arith, lt)) (λ k d le. h (suc k) d (omega (arith, le)))
