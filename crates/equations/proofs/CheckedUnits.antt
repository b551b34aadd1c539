-- The first refusal of units of statements, part by part.
use Rattle.std.proofs.Common.{◌≡◌, Bool, Option, Some, List, [], ◌∷◌, ◌++◌, length, refl, sym, ap, ap₂, ◌∙◌, subst, append-nil, rules, option_map}
use Rattle.equations.proofs.Common.{Place, Table, Names, Stmt, the_lemmas, Extension, Sign, is_clocked, earlier, first_refusal, first_append, AGroup, AWhen, otherwise_of, view, view_stmt, Context, known_of, SectionFault, IsContextOf, SumsUp, Found, section_order, Aim, Manner, aims_refused, TargetFound, value_refused, view_assign, view_list, view_when, assign_refused, taken_refused, unless_any, When}
use Rattle.abel_tree.specs.declared.statements.Assign.{Assign}
use Rattle.abel_tree.specs.declared.statements.Stmt.TheVariants as stmt
use Rattle.set_expr.specs.declared.checked.Checked.{Checked}

abbrev first : List SectionFault → Option SectionFault
first rs = first_refusal section_order rs

-- ---- designs

pub known_by_names : (t : Table) (n : Names) (d : Context) → IsContextOf t n d → d.known ≡ known_of d.names
known_by_names t n d is = is.known ∙ ap known_of (sym is.names)

-- ---- assignments

pub behind_refused : (d : Context) (before : List Manner) (e : Option Extension) (c : Bool) (s : Sign) (q : Place) (t : TargetFound) (f : Found) (x : SectionFault) (v : Checked) → Some x ≡ first t.refusals → SumsUp v f
    → earlier section_order (Some x) (earlier section_order v.fault v.special) ≡ first (assign_refused d before e c s q t f)
behind_refused d before e c s q t f x v h k = by_refusals t.refusals h
  where
    by_refusals : (rs : List SectionFault) → Some x ≡ first rs → earlier section_order (Some x) (earlier section_order v.fault v.special) ≡ first (rs ++ (taken_refused rs q (length t.aims) f ++ aims_refused d before e c (is_clocked s) (unless_any rs t.aims)))
    by_refusals [] h = absurd cc
    by_refusals (r ∷ rs) h =
        ap₂ (earlier section_order) h (ap₂ (earlier section_order) k.fault k.special ∙ sym (first_append section_order f.refusals f.specials) ∙ ap first (sym (append-nil (f.refusals ++ f.specials))))
        ∙ sym (first_append section_order (r ∷ rs) ((f.refusals ++ f.specials) ++ []))

pub accepted_refused : (d : Context) (before : List Manner) (e : Option Extension) (c : Bool) (s : Sign) (q : Place) (t : TargetFound) (f : Found) (aims : List Aim) → t.refusals ≡ [] → aims ≡ t.aims
    → first (value_refused q (length aims) f ++ aims_refused d before e c (is_clocked s) aims) ≡ first (assign_refused d before e c s q t f)
accepted_refused d before e c s q t f aims h a =
    ap (λ xs. first (value_refused q (length xs) f ++ aims_refused d before e c (is_clocked s) xs)) a
    ∙ subst (λ rs. first (value_refused q (length t.aims) f ++ aims_refused d before e c (is_clocked s) t.aims) ≡ first (rs ++ (taken_refused rs q (length t.aims) f ++ aims_refused d before e c (is_clocked s) (unless_any rs t.aims)))) (sym h) refl

-- ---- WHEN

pub view_parts : (w : When) → view_when w ≡ AWhen w.place (view w.condition) (view_stmt w.then) (otherwise_of (option_map view_stmt w.otherwise))
view_parts w = search (rules, the_lemmas)

-- ---- statements by their kinds

pub view_assigned : (a : Assign) → view_stmt (stmt.Assign a) ≡ view_assign a
view_assigned a = search (rules, the_lemmas)

pub view_whened : (w : When) → view_stmt (stmt.When w) ≡ view_when w
view_whened w = search (rules, the_lemmas)

pub view_grouped : (list slice : List Stmt) → list ≡ slice → view_stmt (stmt.Group list) ≡ AGroup (view_list slice)
view_grouped list slice e = subst (λ (xs : List Stmt). view_stmt (stmt.Group list) ≡ AGroup (view_list xs)) e (search (rules, the_lemmas))
