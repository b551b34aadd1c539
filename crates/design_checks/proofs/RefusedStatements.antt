-- Equations that are refused, one more.
use Rattle.std.proofs.Common.{◌≡◌, ℕ, suc, ◌+◌, ◌<◌, ◌≤◌, nat_lt, Bool, true, false, List, [], ◌∷◌, ◌++◌, length, map, refl, rules, sym, ap, ◌∙◌, arith, append_assoc, append-nil, Option, Some, not, option_map}
use Rattle.design_checks.proofs.Common.{and_right, nat_tests, Extension, Entry, first_refusal, AWhen, Statement, AGroup, statements_of, otherwise_of, view, view_stmt, Table, Context, name_at, RefusedUse, told_if, use_order, is_compared_of, list_refused, may_be_compared, Written, else_refused, aim_refused, aims_refused, is_written_at, narrow, statement_refused}
use Rattle.abel_tree.specs.declared.statements.Stmt.{Stmt, the_lemmas as stmt_lemmas}
use Rattle.abel_tree.specs.declared.statements.Stmt as stmt
use Rattle.abel_tree.specs.declared.statements.When.{When}
use Rattle.abel_tree.specs.declared.words.Extension.TheVariants as extension
use Rattle.section_targets.specs.declared.aim.Aim.{Aim}

-- ---- signals of a target

abbrev pub aim_at : Context → Option Extension → Written → ℕ → Aim → List RefusedUse
aim_at d e w i a = aim_refused d e (is_written_at w i) a

pub aims_push : (d : Context) (e : Option Extension) (w : Written) (i j : ℕ) (aims : List Aim) (a : Aim) → j ≡ i + length aims
    → aims_refused d e w i (aims ++ a ∷ []) ≡ aims_refused d e w i aims ++ aim_at d e w j a
aims_push d e w i j [] a at = append-nil (aim_at d e w i a) ∙ ap (λ n. aim_at d e w n a) (let same : i ≡ j = omega (arith, at) in same)
aims_push d e w i j (x ∷ aims) a at =
    ap (λ rs. aim_at d e w i x ++ rs) (aims_push d e w (suc i) j aims a (omega (arith, at)))
    ∙ sym (append_assoc (aim_at d e w i x) (aims_refused d e w (suc i) aims) (aim_at d e w j a))

pub aim_same : (d : Context) (e : Option Extension) {b c : Bool} (a : Aim) → b ≡ c → first_refusal use_order (aim_refused d e b a) ≡ first_refusal use_order (aim_refused d e c a)
aim_same d e a s = ap (λ (w : Bool). first_refusal use_order (aim_refused d e w a)) s

-- if nothing is compared, nothing is refused
pub none_compared : (d : Context) (e : Option Extension) (w : Written) (i : ℕ) (aims : List Aim) → may_be_compared e ≡ false → aims_refused d e w i aims ≡ []
none_compared d e w i [] never = refl
none_compared d e w i (a ∷ aims) never =
    ap (λ b. told_if b (record { place = a.place; name = a.signal }) ++ aims_refused d e w (suc i) aims) (and_right (not (is_written_at w i)) (is_compared_of d.device e (name_at d a.signal)) (not_compared e d.device (name_at d a.signal) never))
    ∙ none_compared d e w (suc i) aims never
  where
    not_compared : (e : Option Extension) (t : Table) (x : Entry) → may_be_compared e ≡ false → is_compared_of t e x ≡ false
    not_compared (Some extension.Clk) t x never = absurd cc
    not_compared (Some extension.Oe) t x never = absurd cc
    not_compared _ t x never = refl

pub narrow_all : (aims : List Aim) → length aims ≤ 32 → narrow aims ≡ aims
narrow_all aims low = let e : nat_lt 32 (length aims) ≡ false = grind (arith, nat_tests, low) in rw e refl

pub narrow_none : (aims : List Aim) → 32 < length aims → narrow aims ≡ []
narrow_none aims high = let e : nat_lt 32 (length aims) ≡ true = grind (arith, nat_tests, high) in rw e refl

-- ---- lists

pub list_push : (d : Context) (guarded : Bool) (xs : List Statement) (x : Statement) → list_refused d guarded (xs ++ x ∷ []) ≡ list_refused d guarded xs ++ statement_refused d guarded x
list_push d guarded [] x = append-nil (statement_refused d guarded x)
list_push d guarded (y ∷ xs) x =
    ap (λ rs. statement_refused d guarded y ++ rs) (list_push d guarded xs x)
    ∙ sym (append_assoc (statement_refused d guarded y) (list_refused d guarded xs) (statement_refused d guarded x))

-- ---- trees of the code by their parts

when_is : (w : When) → view_stmt (stmt.When w) ≡ AWhen w.place (view w.condition) (view_stmt w.then) (otherwise_of (option_map view_stmt w.otherwise))
when_is w = search (rules, stmt_lemmas)

-- what is refused of a WHEN
pub refused_of_when : (d : Context) (guarded : Bool) (x : Stmt) (w : When) (o : Option Stmt) → x ≡ stmt.When w → w.otherwise ≡ o
    → statement_refused d true (view_stmt w.then) ++ else_refused d (otherwise_of (option_map view_stmt o)) ≡ statement_refused d guarded (view_stmt x)
refused_of_when d guarded x w o e i =
    ap (λ y. statement_refused d true (view_stmt w.then) ++ else_refused d (otherwise_of (option_map view_stmt y))) (sym i)
    ∙ sym (ap (λ y. statement_refused d guarded (view_stmt y)) e ∙ ap (statement_refused d guarded) (when_is w))

view_group : (list : List Stmt) → view_stmt (stmt.Group list) ≡ AGroup (statements_of (map view_stmt list))
view_group list = search (rules, stmt_lemmas)

-- what is refused of a group
pub refused_of_group : (d : Context) (guarded : Bool) (x : Stmt) (list : List Stmt) → x ≡ stmt.Group list → list_refused d guarded (map view_stmt list) ≡ statement_refused d guarded (view_stmt x)
refused_of_group d guarded x list e = sym (ap (λ y. statement_refused d guarded (view_stmt y)) e ∙ ap (statement_refused d guarded) (view_group list))
