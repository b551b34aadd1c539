-- Transitions of the code by their kinds; the unit of the conditions of CASE, and the guards of its arms.
use Rattle.std.proofs.Common.{◌≡◌, ℕ, zero, suc, ◌<◌, false, Option, None, List, [], ◌∷◌, ◌++◌, Result, Ok, length, map, get_or, refl, sym, ap, ◌∙◌, subst, arith, rules, option_map}
use Rattle.state_diagrams.proofs.Common.{get_or-map, length-map, Place, ExprId, formula_at, Formula, Const, Names, entries_of, first_refusal, earlier, CaseArm, view, view_choice, choices_of, Tree, Branch, guarded, choices_nodes, choice_nodes, condition_of, guard_then, Context, formulas, Contributions, SectionFault, Guard, refusal_of, view_guard, section_order, expression_found, AreBits, IsBuilt, StopsWith, Builds, part, value_width, builds_none, left_empty, right_empty, one_unit, two_parts, condition_refused, bits_length, stops_longer, choices_refused, BuildsConditions, arm_guards, case_unit, is_some, Choices, arena, Node, Manner, Walked, AreFirsts, AfterMaking, Walks, earlier_assoc, first_append, the_lemmas, Goal, If, AnIf, ACase, other_of, view_arm, case_choices, case_place, view_goal, view_if}
use Rattle.abel_tree.specs.declared.diagrams.Arm.TheVariants as arm
use Rattle.abel_tree.specs.declared.diagrams.Case.{Case}
use Rattle.state_diagrams.proofs.AnyGuards.{nodes_made}
use Rattle.state_diagrams.proofs.StateBits.{bit_at}

-- ---- transitions of the code at each kind

pub view_goaled : (g : Goal) → view_arm (arm.Goal g) ≡ view_goal g
view_goaled g = search (rules, the_lemmas)

pub view_iffed : (i : If) → view_arm (arm.If i) ≡ view_if i
view_iffed i = search (rules, the_lemmas)

pub if_parts : (i : If) → view_if i ≡ AnIf i.place (view i.condition) (view_arm i.then) (other_of (option_map view_arm i.otherwise))
if_parts i = search (rules, the_lemmas)

pub choice_parts : (c : CaseArm) → view_choice c ≡ (view c.condition, (c.colon, view_arm c.result))
choice_parts c = search (rules, the_lemmas)

pub view_cased : (x : Case) → view_arm (arm.Case x) ≡ ACase (case_place x) (case_choices x)
view_cased x = search (rules, the_lemmas)

-- ---- refusals

abbrev pub first : List SectionFault → Option SectionFault
first rs = first_refusal section_order rs

abbrev pub Choice : Type 0
Choice = Tree × (Place × Branch)

-- a condition before others, after what was found
pub conditions_next : (d : Context) (f : Option SectionFault) (c : Choice) (cs : List Choice)
    → earlier section_order (earlier section_order f (first (condition_refused d c.1.0 c.0))) (first (choices_refused d (choices_of cs))) ≡ earlier section_order f (first (choices_refused d (choices_of (c ∷ cs))))
conditions_next d f c cs =
    earlier_assoc section_order f (first (condition_refused d c.1.0 c.0)) (first (choices_refused d (choices_of cs)))
    ∙ ap (earlier section_order f) (sym (first_append section_order (condition_refused d c.1.0 c.0) (choices_refused d (choices_of cs))))

-- ---- conditions

pub clear_at : (d : Context) (cs : List Choice) (i : ℕ) (c : Choice) → choices_refused d (choices_of cs) ≡ [] → i < length cs → condition_refused d (get_or cs i c).1.0 (get_or cs i c).0 ≡ []
clear_at d [] i c e lt = absurd (omega (arith, lt))
clear_at d (x ∷ cs) zero c e lt = left_empty (condition_refused d x.1.0 x.0) (choices_refused d (choices_of cs)) e
clear_at d (x ∷ cs) (suc i) c e lt = clear_at d cs i c (right_empty (condition_refused d x.1.0 x.0) (choices_refused d (choices_of cs)) e) (omega (arith, lt))

-- no arm makes no node
pub no_nodes : (p : Place) (out : Contributions) → IsBuilt (part p 0 ∷ []) [] [] out out
no_nodes p out = one_unit {R = Unit} p [] [] [] out out (Ok tt) tt (builds_none out)

-- the condition of an arm of the code, before those of others
pub conditions_then : {R : Type 0} (d : Context) (g h : Formula) (p : Place) (x : CaseArm) (cs : List Choice) (old mid new : Contributions) (r : Result R SectionFault) → h ≡ g
    → IsBuilt (part p (choice_nodes d h (view x.condition) false) ∷ []) [] [] old mid
    → Builds (part p (choices_nodes d g (choices_of cs)) ∷ []) [] [] mid new r
    → Builds (part p (choices_nodes d g (choices_of (view_choice x ∷ cs))) ∷ []) [] [] old new r
conditions_then d g h p x cs old mid new r same b a =
    subst (λ (z : Choice). Builds (part p (choices_nodes d g (choices_of (z ∷ cs))) ∷ []) [] [] old new r) (sym (choice_parts x))
    (two_parts p (choice_nodes d g (view x.condition) false) (choices_nodes d g (choices_of cs)) old mid new r
    (subst (λ (f : Formula). IsBuilt (part p (choice_nodes d f (view x.condition) false) ∷ []) [] [] old mid) same b) a)

-- if it stops, those after it aren't made
pub conditions_stop : (d : Context) (g h : Formula) (p : Place) (x : CaseArm) (cs : List Choice) (old new : Contributions) (f : SectionFault) → h ≡ g
    → StopsWith (part p (choice_nodes d h (view x.condition) false) ∷ []) [] [] old new f
    → StopsWith (part p (choices_nodes d g (choices_of (view_choice x ∷ cs))) ∷ []) [] [] old new f
conditions_stop d g h p x cs old new f same s =
    subst (λ (z : Choice). StopsWith (part p (choices_nodes d g (choices_of (z ∷ cs))) ∷ []) [] [] old new f) (sym (choice_parts x))
    (stops_longer p [] (choice_nodes d g (view x.condition) false) (choices_nodes d g (choices_of cs)) old new f
    (subst (λ (k : Formula). StopsWith (part p (choice_nodes d k (view x.condition) false) ∷ []) [] [] old new f) same s))

-- the unit of conditions, made or stopped if nothing is refused so far
pub conditions_made : (d : Context) (g : ExprId) (p : Place) (cs : Choices) (f : Option SectionFault) (old now new : Walked) (ns : List Node) (r : Result Unit SectionFault)
    → f ≡ first (choices_refused d cs) → now ≡ record old { fault = earlier section_order old.fault f } → is_some now.fault ≡ false → BuildsConditions d (formula_at (arena now.exprs) g) p cs now.exprs ns r → AfterMaking r (record now { exprs = ns }) new
    → (all : List Manner) → AreFirsts old.before all → Walks all (case_unit d (formula_at (arena old.exprs) g) p cs ∷ []) [] [] [] old new
conditions_made d g p cs f old now new ns r e k s b m =
    nodes_made p (choices_refused d cs) (choices_nodes d (formula_at (arena old.exprs) g) cs) f old now new ns r e k s (subst (λ (w : Walked). BuildsConditions d (formula_at (arena w.exprs) g) p cs w.exprs ns r) k b) m

-- the condition of an arm of which nothing is refused is an expression of which nothing is refused
pub arm_clear : (d : Context) (n : Names) (arms : List CaseArm) (i : ℕ) (x : CaseArm) → d.names ≡ entries_of n → choices_refused d (choices_of (map view_choice arms)) ≡ [] → i < length arms → x ≡ get_or arms i x → refusal_of n (view x.condition) ≡ None
arm_clear d n arms i x k e lt at_x =
    let y = view_choice x in
    let here : get_or (map view_choice arms) i y ≡ y = get_or-map view_choice arms i x y lt ∙ ap view_choice (sym at_x) in
    let clear = ap (λ (z : Choice). condition_refused d z.1.0 z.0) (sym (choice_parts x) ∙ sym here) ∙ clear_at d (map view_choice arms) i y e (omega (arith, lt, length-map arms view_choice)) in
    let f = expression_found d.names (view x.condition) in
    ap (λ es. first_refusal section_order (expression_found es (view x.condition)).refusals) (sym k)
    ∙ ap (first_refusal section_order) (left_empty f.refusals (f.specials ++ value_width x.colon 1 f.value) clear)

-- the guard of the arm of the code at a place
pub arm_holds : (d : Context) (g k : Guard) (fs : List Formula) (arms : List CaseArm) (ids : List ExprId) (i : ℕ) (x : CaseArm) → AreBits fs ids (arm_guards d (formula_at fs g.when) arms) → i < length arms → x ≡ get_or arms i x
    → k.when ≡ get_or ids i g.when → k.dontcare ≡ g.dontcare → k.block ≡ g.block → view_guard fs k ≡ guarded (formulas d) (view_guard fs g) (condition_of d (view x.condition))
arm_holds d g k fs arms ids i x h lt at_x w e b =
    let guard_of = λ (y : CaseArm). (guard_then (formula_at fs g.when) (condition_of d (view y.condition))).what in
    let le : i < length ids = omega (arith, lt, bits_length fs ids (arm_guards d (formula_at fs g.when) arms) h, length-map arms guard_of) in
    let bit : formula_at fs (get_or ids i g.when) ≡ guard_of x =
    (bit_at fs ids (arm_guards d (formula_at fs g.when) arms) i g.when h le).1 ∙ get_or-map guard_of arms i x (Const false) lt ∙ ap guard_of (sym at_x) in
    rw (w, e, b, bit) refl
