-- The literals of a row, position by position.
use Rattle.std.proofs.Common.{◌≡◌, ℕ, zero, suc, ◌+◌, ◌<◌, ◌≤◌, min, Bool, false, Option, None, Some, List, [], ◌∷◌, Result, Ok, Err, length, drop, get_or, refl, sym, ap, ap₂, ◌∙◌, subst, subst₂, arith, IfOk}
use Rattle.truth_tables.proofs.Common.{at, bits_at, drop-cons, free, row_literals, unknown_at, Place, ExprId, Node, arena, formula_at, Made, Formula, Const, SectionFault, AreIn, Keeps, StopsWith, Builds, BuildsNodes, IsBit, part, builds_none, kept_formula, two_parts, stops_longer, position_literal, literals, length-drop, next_of}

-- ---- positions in an arena

pub in_drop : (count k : ℕ) (ps : List (Option ExprId)) → AreIn count ps → AreIn count (drop k ps)
in_drop count zero ps h = h
in_drop count (suc k) [] h = tt
in_drop count (suc k) (None ∷ ps) h = in_drop count k ps h
in_drop count (suc k) (Some id ∷ ps) h = in_drop count k ps h.1

pub in_longer : (m n : ℕ) (ps : List (Option ExprId)) → m ≤ n → AreIn m ps → AreIn n ps
in_longer m n [] le h = tt
in_longer m n (None ∷ ps) le h = in_longer m n ps le h
in_longer m n (Some id ∷ ps) le h = (omega (arith, le, h.0), in_longer m n ps le h.1)

pub in_first : (count : ℕ) (p : Option ExprId) (ps : List (Option ExprId)) → AreIn count (p ∷ ps) → AreIn count (p ∷ [])
in_first count None ps h = tt
in_first count (Some id) ps h = (h.0, tt)

-- ---- one position

literal_what : (fs : List Formula) (f : Formula) (p : Option ExprId) (ps : List (Option ExprId)) (l : Option Bool) (ls : List (Option Bool)) → (literals fs f (p ∷ ps) (l ∷ ls)).what ≡ (literals fs (position_literal fs f p l).what ps ls).what
literal_what fs f (Some id) ps (Some level) ls = refl
literal_what fs f _ ps _ ls = refl

literal_nodes : (fs : List Formula) (f : Formula) (p : Option ExprId) (ps : List (Option ExprId)) (l : Option Bool) (ls : List (Option Bool)) → (literals fs f (p ∷ ps) (l ∷ ls)).nodes ≡ (position_literal fs f p l).nodes + (literals fs (position_literal fs f p l).what ps ls).nodes
literal_nodes fs f (Some id) ps (Some level) ls = refl
literal_nodes fs f _ ps _ ls = omega arith

-- in a longer arena they are the same
pub bits_kept : (old new : List Formula) (ps : List (Option ExprId)) → Keeps old new → AreIn (length old) ps → bits_at new ps ≡ bits_at old ps
bits_kept old new [] k h = refl
bits_kept old new (None ∷ ps) k h = ap (λ fs. Const false ∷ fs) (bits_kept old new ps k h)
bits_kept old new (Some id ∷ ps) k h = ap₂ (λ f fs. f ∷ fs) (kept_formula old new id k h.0) (bits_kept old new ps k h.1)

literals_kept : (old new : List Formula) (f : Formula) (ps : List (Option ExprId)) (ls : List (Option Bool)) → Keeps old new → AreIn (length old) ps → literals new f ps ls ≡ literals old f ps ls
literals_kept old new f ps ls k h = ap (λ fs. row_literals f (unknown_at ps) fs ls) (bits_kept old new ps k h)

no_literals : (fs : List Formula) (f : Formula) (ps : List (Option ExprId)) (ls : List (Option Bool)) → min (length ps) (length ls) ≡ 0 → literals fs f ps ls ≡ free f
no_literals fs f (p ∷ ps) (l ∷ ls) e = absurd (omega (arith, e))
no_literals fs f (Some id ∷ ps) [] e = refl
no_literals fs f _ _ e = refl

-- ---- what is left

-- no nodes are made
pub free_nodes : {R : Type 0} (p : Place) (r : R) (ns : List Node) → BuildsNodes (part p 0 ∷ []) ns ns (Ok r)
free_nodes p r ns = λ list.
    let b = builds_none (record { exprs = ns; list = list }) in
    record { accepted = refl; within = refl; made = record { grew = record { keeps = b.made.grew.keeps; count = omega (arith, b.made.grew.count) }; more = b.made.more; whole = b.made.whole } }

-- what is left by the literals from here on is left by all
abbrev pub LiteralsLeft : (old now : List Node) → Place → (all rest : Made Formula) → Type 0
LiteralsLeft old now unit all rest =
    (later : List Node) (r : Result ExprId SectionFault) → BuildsNodes (part unit rest.nodes ∷ []) now later r → IfOk r (λ id. IsBit (arena later) id rest.what)
    → BuildsNodes (part unit all.nodes ∷ []) old later r × IfOk r (λ id. IsBit (arena later) id all.what)

-- what is left by one position more
abbrev pub AfterLiteral : (old new : List Node) → Place → (all : Made Formula) → List (Option ExprId) → List (Option Bool) → Result ExprId SectionFault → Type 0
AfterLiteral old new unit all ps ls (Ok id) = LiteralsLeft old new unit all (literals (arena new) (formula_at (arena new) id) ps ls)
AfterLiteral old new unit all ps ls (Err f) = BuildsNodes {R = ExprId} (part unit all.nodes ∷ []) old new (Err f)

-- its literal is a part of the unit
after_literal : (old mid new : List Node) (unit : Place) (all : Made Formula) (f : Formula) (p : Option ExprId) (ps : List (Option ExprId)) (l : Option Bool) (ls : List (Option Bool)) (r : Result ExprId SectionFault)
    → AreIn (length (arena mid)) ps → LiteralsLeft old mid unit all (literals (arena mid) f (p ∷ ps) (l ∷ ls))
    → BuildsNodes (part unit (position_literal (arena mid) f p l).nodes ∷ []) mid new r
    → IfOk r (λ id. IsBit (arena new) id (position_literal (arena mid) f p l).what)
    → AfterLiteral old new unit all ps ls r
after_literal old mid new unit all f p ps l ls (Ok id) h left b e = λ later r c w.
    let one = position_literal (arena mid) f p l in
    let rest = literals (arena mid) one.what ps ls in
    let same : literals (arena new) (formula_at (arena new) id) ps ls ≡ rest =
    ap (λ g. literals (arena new) g ps ls) e.1 ∙ literals_kept (arena mid) (arena new) one.what ps ls (b []).made.grew.keeps h in
    left later r
    (λ list. subst (λ n. Builds (part unit n ∷ []) [] [] (at mid list) (at later list) r) (sym (literal_nodes (arena mid) f p ps l ls))
    (two_parts unit one.nodes rest.nodes (at mid list) (at new list) (at later list) r (b list)
    (subst (λ (m : Made Formula). Builds (part unit m.nodes ∷ []) [] [] (at new list) (at later list) r) same (c list))))
    (subst (λ g. IfOk r (λ x. IsBit (arena later) x g)) (ap (λ (m : Made Formula). m.what) same ∙ sym (literal_what (arena mid) f p ps l ls)) w)
after_literal old mid new unit all f p ps l ls (Err x) h left b e =
    let one = position_literal (arena mid) f p l in
    let rest = literals (arena mid) one.what ps ls in
    (left new (Err x)
    (λ list. subst (λ n. StopsWith (part unit n ∷ []) [] [] (at mid list) (at new list) x) (sym (literal_nodes (arena mid) f p ps l ls))
    (stops_longer unit [] one.nodes rest.nodes (at mid list) (at new list) x (b list))) tt).0

-- ---- at an index

pub in_at : (count : ℕ) (ps : List (Option ExprId)) (i : ℕ) → i < length ps → AreIn count ps → AreIn count (get_or ps i None ∷ [])
in_at count ps i lt h = in_first count (get_or ps i None) (drop (suc i) ps) (subst (AreIn count) (drop-cons ps i None lt) (in_drop count i ps h))

pub after_at : (old mid new : List Node) (unit : Place) (all : Made Formula) (f : Formula) (ps : List (Option ExprId)) (ls : List (Option Bool)) (i : ℕ) (r : Result ExprId SectionFault)
    → i < min (length ps) (length ls) → AreIn (length (arena mid)) ps → LiteralsLeft old mid unit all (literals (arena mid) f (drop i ps) (drop i ls))
    → BuildsNodes (part unit (position_literal (arena mid) f (get_or ps i None) (get_or ls i None)).nodes ∷ []) mid new r
    → IfOk r (λ id. IsBit (arena new) id (position_literal (arena mid) f (get_or ps i None) (get_or ls i None)).what)
    → AfterLiteral old new unit all (drop (i + 1) ps) (drop (i + 1) ls) r
after_at old mid new unit all f ps ls i r lt h left b e =
    after_literal old mid new unit all f (get_or ps i None) (drop (i + 1) ps) (get_or ls i None) (drop (i + 1) ls) r (in_drop (length (arena mid)) (i + 1) ps h)
    (subst₂ (λ qs ms. LiteralsLeft old mid unit all (literals (arena mid) f qs ms)) (next_of ps i None (omega (arith, lt))) (next_of ls i None (omega (arith, lt))) left) b e

-- no position is left
pub literals_done : (old new : List Node) (unit : Place) (found : ExprId) (all : Made Formula) (ps : List (Option ExprId)) (ls : List (Option Bool)) (i : ℕ) → min (length ps) (length ls) ≤ i → found.0 < length (arena new)
    → LiteralsLeft old new unit all (literals (arena new) (formula_at (arena new) found) (drop i ps) (drop i ls)) → BuildsNodes (part unit all.nodes ∷ []) old new (Ok found) × IsBit (arena new) found all.what
literals_done old new unit found all ps ls i h inside left =
    let none = no_literals (arena new) (formula_at (arena new) found) (drop i ps) (drop i ls) (omega (arith, length-drop i ps, length-drop i ls, h)) in
    (subst (LiteralsLeft old new unit all) none left) new (Ok found) (free_nodes unit found new) (inside, refl)
