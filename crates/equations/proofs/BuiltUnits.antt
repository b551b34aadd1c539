-- Units of statements that were built one after another.
use Rattle.std.proofs.Common.{◌≡◌, ◌+◌, Bool, Option, Some, List, [], ◌∷◌, ◌++◌, Result, length, map, refl, sym, ap, ◌∙◌, subst, arith}
use Rattle.equations.proofs.Common.{length-map, Place, ExprId, arena, formula_at, Formula, Extension, Sign, is_clocked, Tree, guarded, guard_nodes, term_nodes, value_nodes, Context, formulas, given_each, targets_of, term_of, Contributions, Guard, SectionFault, view_guard, view_gives, Aim, Manner, Found, IsBuilt, Builds, AreBits, places_of, aims_refused, TargetFound, value_width, part, units_nodes, left_empty, right_empty, builds_then, AreParts, one_unit, positions_of, assign_refused, assigned_aims, taken_refused, unless_any}
use Rattle.bit_expr.specs.declared.node.Node.{Node}
use Rattle.set_expr.specs.declared.contributions.Contribution.{Contribution}
use Rattle.abel_meaning.specs.Contributions as meant
use Rattle.section_targets.specs.declared.giving.Giving.{Giving}
use Rattle.section_targets.specs.GivenUnits.{one_given, each_given, each_part, guard_bit}

-- an arena and a list of contributions over it
abbrev pub at : List Node → List Contribution → Contributions
at ns cs = record { exprs = ns; list = cs }

-- ---- assignments

-- signals that all have positions are each given a bit
pub each_as_given : (d : Context) (fs : List Formula) (g : Giving) (aims : List Aim) (bs : List Formula) →
    given_each (formulas d) d (view_guard fs g.guard) g.extension g.complement g.clocked (view_gives g.what) (positions_of aims) bs ≡ each_given d fs g aims bs
each_as_given d fs g (a ∷ aims) (b ∷ bs) = ap (λ xs. one_given d fs g a b ∷ xs) (each_as_given d fs g aims bs)
each_as_given d fs g _ _ = refl

pub each_nodes : (fs : List Formula) (g : Giving) (bs : List Formula) → units_nodes (each_part fs g bs) ≡ guard_nodes (guard_bit fs g) bs
each_nodes fs g [] = refl
each_nodes fs g (b ∷ bs) = omega (arith, each_nodes fs g bs)

pub each_parts_of : (fs : List Formula) (g : Giving) (bs : List Formula) → AreParts g.unit (each_part fs g bs)
each_parts_of fs g [] = tt
each_parts_of fs g (b ∷ bs) = (refl, each_parts_of fs g bs)

-- ---- assignments as units

-- what an assignment's signals are given after the nodes of its value
pub assign_built : (d : Context) (old mid new : Contributions) (g : Giving) (target value : Tree) (t : TargetFound) (aims : List Aim) (ids : List ExprId) (e : Option Extension) (k : Bool) (what : meant.Gives) (r : Result Unit SectionFault)
    → t.refusals ≡ [] → aims ≡ t.aims → targets_of (term_of d.known target) ≡ positions_of t.aims
    → g.extension ≡ e → g.clocked ≡ k → view_gives g.what ≡ what
    → IsBuilt (part g.unit (term_nodes d value) ∷ []) [] [] old mid
    → formula_at (arena mid.exprs) g.guard.when ≡ formula_at (arena old.exprs) g.guard.when
    → AreBits (arena mid.exprs) ids ((formulas d).word (length aims) (term_of d.known value))
    → Builds (each_part (arena mid.exprs) g (map (formula_at (arena mid.exprs)) ids)) (each_given d (arena mid.exprs) g aims (map (formula_at (arena mid.exprs)) ids)) (places_of aims) mid new r
    → Builds (part g.unit (value_nodes d (formula_at (arena old.exprs) g.guard.when) (length (targets_of (term_of d.known target))) value) ∷ [])
    (given_each (formulas d) d (view_guard (arena old.exprs) g.guard) e g.complement k what (targets_of (term_of d.known target)) ((formulas d).word (length (targets_of (term_of d.known target))) (term_of d.known value)))
    (places_of (assigned_aims t)) old new r
assign_built d old mid new g target value t aims ids e k what r q a s he hk hw b w h m =
    let fs = arena mid.exprs in
    let v = term_of d.known value in
    let ws = (formulas d).word (length aims) v in
    let given = subst (λ bs. Builds (each_part fs g bs) (each_given d fs g aims bs) (places_of aims) mid new r) h.1 m in
    let one = one_unit g.unit (part g.unit (term_nodes d value) ∷ each_part fs g ws) (each_given d fs g aims ws) (places_of aims) old new r (refl, each_parts_of fs g ws)
    (builds_then (part g.unit (term_nodes d value) ∷ []) (each_part fs g ws) [] (each_given d fs g aims ws) [] (places_of aims) old mid new r b given) in
    let counted = subst (λ n. Builds (part g.unit (term_nodes d value + n) ∷ []) (each_given d fs g aims ws) (places_of aims) old new r) (each_nodes fs g ws) one in
    let named : targets_of (term_of d.known target) ≡ positions_of aims = s ∙ ap positions_of (sym a) in
    let assigned : assigned_aims t ≡ aims = ap (λ rs. unless_any rs t.aims) q ∙ sym a in
    rw (named, length-map aims (λ (x : Aim). Some x.signal), assigned, ← he, ← hk, ← hw, ← w, each_as_given d fs g aims ws) counted

-- an assignment of which nothing is refused
pub accepted_assign : (d : Context) (all : List Manner) (e : Option Extension) (c : Bool) (s : Sign) (q : Place) (t : TargetFound) (f : Found) → assign_refused d all e c s q t f ≡ [] → (t.refusals ≡ []) × (f.refusals ≡ [])
accepted_assign d all e c s q t f h =
    let taken = taken_refused t.refusals q (length t.aims) f in
    let later = aims_refused d all e c (is_clocked s) (assigned_aims t) in
    let target = left_empty t.refusals (taken ++ later) h in
    let value = left_empty taken later (right_empty t.refusals (taken ++ later) h) in
    (target, left_empty f.refusals (f.specials ++ value_width q (length t.aims) f.value) (subst (λ xs. taken_refused xs q (length t.aims) f ≡ []) target value))

-- ---- guards

-- the guard of a statement of WHEN, with its bit made
pub guard_view : (d : Context) (fs old : List Formula) (g h : Guard) (c : Formula) → h.dontcare ≡ g.dontcare → h.block ≡ g.block → formula_at fs h.when ≡ (formulas d).both (formula_at old g.when) c → view_guard fs h ≡ guarded (formulas d) (view_guard old g) c
guard_view d fs old g h c e f w = rw (e, f, w) refl

pub guard_kept : (old new : List Formula) (g : Guard) → formula_at new g.when ≡ formula_at old g.when → view_guard new g ≡ view_guard old g
guard_kept old new g e = rw e refl
