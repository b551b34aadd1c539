-- The parts of units that statements make.
use Rattle.std.proofs.Common.{◌≡◌, ℕ, zero, suc, ◌+◌, ◌<◌, ◌≤◌, Bool, true, false, Option, None, Some, List, [], ◌∷◌, Result, Err, length, reverse, get_or, refl, sym, ap, ◌∙◌, subst, subst₂, arith}
use Rattle.equations.proofs.Common.{length-map, length-replicate, Place, Table, ExprId, arena, formula_at, Made, Formula, Const, Names, entries_of, first_refusal, Tree, choice_nodes, condition_of, guard_else, Context, formulas, resized, met_by, met_word, term_of, Contributions, SectionFault, expression_found, section_order, IsContextOf, IsShaped, Keeps, refusal_of, bits_at, positions, context_for, StopsWith, IsBuilt, Builds, IsBit, AreBits, CountedUnit, part, builds_stop, stops_on, kept_inside, kept_formula, one_unit, two_parts}
pub use Rattle.expr_bits.proofs.Contexts.{is_context}
use Rattle.std.proofs.lemmas.List.Sorted.{IsPermutation-reverse, All-permutation}
use Rattle.abel_meaning.specs.BitWords.{Word}
use Rattle.abel_meaning.specs.Numbers.{Value, Single, digits_low_first}
use Rattle.abel_meaning.proofs.DigitLaws.{length_digits}
use Rattle.abel_meaning.proofs.RelationWords.{map_reverse}
use Rattle.set_expr.specs.declared.shaped.Shape.{Shape}
use Rattle.set_expr.specs.declared.shaped.Shape.TheVariants as shape
use Rattle.set_expr.specs.declared.shaped.Shaped.{Shaped}
use Rattle.set_expr.specs.Shapes.{HasShape}

-- the names of a scope are those of the scope that was asked for them
pub same_context : (t : Table) (m n : Names) → m ≡ n → IsContextOf t m (context_for t n)
same_context t m n e = subst (λ k. IsContextOf t m (context_for t k)) e (is_context t m)

-- ---- bits

pub bits_reversed : (fs : List Formula) (ids : List ExprId) (gs : List Formula) → AreBits fs ids gs → AreBits fs (reverse ids) (reverse gs)
bits_reversed fs ids gs h =
    (All-permutation (λ (id : ExprId). id.0 < length fs) ids (reverse ids) (IsPermutation-reverse ids) h.0, map_reverse (formula_at fs) ids ∙ ap reverse h.1)

-- ---- how many bits

length_at : (fs : List Formula) (ps : List (Option ExprId)) → length (bits_at fs ps) ≡ length ps
length_at fs [] = refl
length_at fs (None ∷ ps) = ap suc (length_at fs ps)
length_at fs (Some id ∷ ps) = ap suc (length_at fs ps)

length_resized : (n : ℕ) (w : Word) → length (resized n w) ≡ n
length_resized zero w = refl
length_resized (suc n) [] = ap suc (length_resized n [])
length_resized (suc n) (x ∷ w) = ap suc (length_resized n w)

length_single : (n : ℕ) (w : Word) → length w ≡ 1 → length (met_by n Single 0 w) ≡ n
length_single n [] e = absurd (omega (arith, e))
length_single n (x ∷ w) e = length-replicate n x

-- a value meets as many signals as it is to
pub met_length : (n : ℕ) (fs : List Formula) (s : Shaped) (v : Value) (w : Word) → IsShaped fs s v w → length (met_word n v w) ≡ n
met_length n fs s v w h = by_shape s.shape h.shape (ap length (sym h.bits) ∙ length_at fs s.places ∙ h.positions)
  where
    by_shape : (x : Shape) → HasShape x v → length w ≡ positions x → length (met_word n v w) ≡ n
    by_shape (shape.Number k) q e = ap (λ y. length (met_by n y v.number w)) q.0 ∙ length-map (digits_low_first n v.number) Const ∙ length_digits n v.number
    by_shape shape.Single q e = ap (λ y. length (met_by n y v.number w)) q ∙ length_single n w e
    by_shape (shape.Set k) q e = ap (λ y. length (met_by n y v.number w)) q ∙ length_resized n w

pub bits_length : (fs : List Formula) (ids : List ExprId) (gs : List Formula) → AreBits fs ids gs → length ids ≡ length gs
bits_length fs ids gs h = sym (length-map ids (formula_at fs)) ∙ ap length h.1

-- ---- one unit, part by part

-- a unit by its place, refusals and nodes
abbrev pub whole : Place → List SectionFault → ℕ → CountedUnit
whole p rs n = record { place = p; refusals = rs; nodes = n }

-- what stops a front of a unit stops the unit
pub stops_longer : (p : Place) (rs : List SectionFault) (m k : ℕ) (old new : Contributions) (f : SectionFault) → StopsWith (whole p rs m ∷ []) [] [] old new f → StopsWith (whole p rs (m + k) ∷ []) [] [] old new f
stops_longer p [] m k old new f s =
    subst (λ n. StopsWith (part p n ∷ []) [] [] old new f) (omega arith)
    (one_unit {R = Unit} p (part p m ∷ part p k ∷ []) [] [] old new (Err f) (refl, (refl, tt)) (builds_stop (part p m ∷ []) (part p k ∷ []) [] [] [] [] old new f s))
stops_longer p (r ∷ rs) m k old new f s =
    (stops_on f (length (arena old.exprs)) (length (arena old.exprs)) (whole p (r ∷ rs) m ∷ []) (whole p (r ∷ rs) (m + k) ∷ []) (λ h. absurd cc) s.0, s.1)

-- what is made of a guard and a bit, after a part of its unit that was made
pub guard_behind : (p : Place) (m : ℕ) (make : Formula → Formula → Made Formula) (g f g1 f1 : Formula) (old mid new : Contributions) (r : Result ExprId SectionFault)
    → g1 ≡ g → f1 ≡ f → IsBuilt (part p m ∷ []) [] [] old mid → Builds (part p (make g1 f1).nodes ∷ []) [] [] mid new r → Builds (part p (m + (make g f).nodes) ∷ []) [] [] old new r
guard_behind p m make g f g1 f1 old mid new r e h a b =
    two_parts p m (make g f).nodes old mid new r a (subst₂ (λ x y. Builds (part p (make x y).nodes ∷ []) [] [] mid new r) e h b)

-- what stops a condition with its And stops its unit, with an ELSE or without one
pub choice_stops : (p : Place) (d : Context) (g : Formula) (c : Tree) (other : Bool) (old new : Contributions) (f : SectionFault) → StopsWith (part p (choice_nodes d g c false) ∷ []) [] [] old new f → StopsWith (part p (choice_nodes d g c other) ∷ []) [] [] old new f
choice_stops p d g c false old new f s = s
choice_stops p d g c true old new f s = stops_longer p [] (choice_nodes d g c false) (guard_else g (condition_of d c)).nodes old new f s

-- the guard of ELSE, after a condition with its And
pub choice_else : (p : Place) (d : Context) (g : Formula) (c : Tree) (other : Bool) (g1 f1 : Formula) (old mid new : Contributions) (r : Result ExprId SectionFault)
    → other ≡ true → g1 ≡ g → f1 ≡ condition_of d c → IsBuilt (part p (choice_nodes d g c false) ∷ []) [] [] old mid → Builds (part p (guard_else g1 f1).nodes ∷ []) [] [] mid new r
    → Builds (part p (choice_nodes d g c other) ∷ []) [] [] old new r
choice_else p d g c other g1 f1 old mid new r o e h a b =
    subst (λ x. Builds (part p (choice_nodes d g c x) ∷ []) [] [] old new r) (sym o)
    (guard_behind p (choice_nodes d g c false) guard_else g (condition_of d c) g1 f1 old mid new r e h a b)

-- the first bit of a word, and the one of a condition
first_bit : (fs : List Formula) (ids : List ExprId) (id : ExprId) (gs : List Formula) → 0 < length ids → AreBits fs ids gs → IsBit fs (get_or ids 0 id) (get_or gs 0 (Const false))
first_bit fs [] id gs lt h = absurd (omega (arith, lt))
first_bit fs (x ∷ ids) id gs lt h = (h.0 0 x (omega arith), ap (λ xs. get_or xs 0 (Const false)) h.1)

pub condition_made : (d : Context) (c : Tree) (fs : List Formula) (ids : List ExprId) (bit x : ExprId) → length ids ≡ 1 → bit ≡ get_or ids 0 x → AreBits fs ids ((formulas d).word 1 (term_of d.known c)) → IsBit fs bit (condition_of d c)
condition_made d c fs ids bit x n e h = subst (λ id. IsBit fs id (condition_of d c)) (sym e) (first_bit fs ids x ((formulas d).word 1 (term_of d.known c)) (omega (arith, n)) h)

-- a bit stays if its node stays
pub kept_bit : (old new : List Formula) (id : ExprId) (f : Formula) → Keeps old new → IsBit old id f → IsBit new id f
kept_bit old new id f k h = (kept_inside old new id k h.0, kept_formula old new id k h.0 ∙ h.1)

pub value_accepted : (n : Names) (t : Tree) → (expression_found (entries_of n) t).refusals ≡ [] → refusal_of n t ≡ None
value_accepted n t e = ap (first_refusal section_order) e

-- an arena in which what was there stays is no shorter
pub keeps_longer : (old new : List Formula) → Keeps old new → length old ≤ length new
keeps_longer [] new k = omega arith
keeps_longer (f ∷ fs) new k = omega (arith, kept_inside (f ∷ fs) new (record { 0 = length fs }) k (omega arith))
