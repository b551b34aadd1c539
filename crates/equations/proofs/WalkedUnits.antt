-- The walk over one unit.
use Rattle.std.proofs.Common.{◌≡◌, ℕ, false, true, Option, None, List, [], ◌∷◌, ◌++◌, Result, Err, refl, sym, ap, ◌∙◌, subst, subst₂, append-nil}
use Rattle.equations.proofs.Common.{is_some, Place, Formula, earlier, first_refusal, none_refused, SectionFault, section_order, Manner, Walked, Builds, AreFirsts, CountedUnit, part, AfterMaking, Walks, standing, both_clear, walks_made, walks_refused}
use Rattle.abel_meaning.specs.Contributions as meant
use Rattle.equations.proofs.BuiltParts.{whole}

-- one that is refused, or follows what is; how it assigns signals was noted
pub noted_refused : (all ms : List Manner) (u : CountedUnit) (gs : List (meant.Contribution Formula)) (ps : List Place) (f : Option SectionFault) (before : List Manner) (old new : Walked)
    → f ≡ first_refusal section_order u.refusals → new ≡ record old { before = before; fault = earlier section_order old.fault f } → is_some new.fault ≡ true → AreFirsts before (all ++ ms)
    → Walks all (u ∷ []) gs ps ms old new
noted_refused all ms u gs ps f before old new e k s a =
    walks_refused all ms u gs ps f old new (e ∙ ap (first_refusal section_order) (sym (append-nil u.refusals))) (ap (λ (w : Walked). w.fault) k) s (ap (λ (w : Walked). w.exprs) k)
    (subst (λ (w : Walked). AreFirsts w.before (all ++ ms)) (sym k) a)

-- if nothing is refused so far
pub noted_clear : (rs : List SectionFault) (f : Option SectionFault) (old kept : Walked)
    → f ≡ first_refusal section_order rs → kept.fault ≡ earlier section_order old.fault f → is_some kept.fault ≡ false
    → (old.fault ≡ None) × ((f ≡ None) × (rs ≡ []))
noted_clear rs f old kept e k s =
    let c = both_clear old.fault f (sym (ap is_some k) ∙ s) in
    (c.0, (c.1, none_refused section_order rs (sym c.1 ∙ e)))

-- one that is made
pub noted_made : (all ms : List Manner) (p : Place) (rs : List SectionFault) (n : ℕ) (gs : List (meant.Contribution Formula)) (ps : List Place) (f : Option SectionFault) (before : List Manner) (old kept made new : Walked) (r : Result Unit SectionFault)
    → f ≡ first_refusal section_order rs → kept ≡ record old { before = before; fault = earlier section_order old.fault f } → is_some kept.fault ≡ false → AreFirsts before (all ++ ms)
    → made.fault ≡ kept.fault → made.before ≡ kept.before → Builds (part p n ∷ []) gs ps (standing old) (standing made) r → AfterMaking r made new
    → Walks all (whole p rs n ∷ []) gs ps ms old new
noted_made all ms p rs n gs ps f before old kept made new r e k s a mf mb b m =
    let told = ap (λ (w : Walked). w.fault) k in
    let c = noted_clear rs f old kept e told s in
    walks_made all ms (whole p rs n ∷ []) gs ps old made new r c.0
    (mf ∙ told ∙ subst₂ (λ x i. earlier section_order x i ≡ None) (sym c.0) (sym c.1.0) refl) (append-nil rs ∙ c.1.1)
    (subst (λ ns. AreFirsts ns (all ++ ms)) (sym (mb ∙ ap (λ (w : Walked). w.before) k)) a) (subst (λ xs. Builds (whole p xs n ∷ []) gs ps (standing old) (standing made) r) (sym c.1.1) b) m

-- ---- units that assign no signal

still : (all : List Manner) (out : Walked) → AreFirsts out.before all → AreFirsts out.before (all ++ [])
still all out a = subst (AreFirsts out.before) (sym (append-nil all)) a

pub unit_refused : (all : List Manner) (u : CountedUnit) (gs : List (meant.Contribution Formula)) (ps : List Place) (f : Option SectionFault) (old new : Walked)
    → f ≡ first_refusal section_order u.refusals → new ≡ record old { fault = earlier section_order old.fault f } → is_some new.fault ≡ true → AreFirsts old.before all
    → Walks all (u ∷ []) gs ps [] old new
unit_refused all u gs ps f old new e k s a = noted_refused all [] u gs ps f old.before old new e k s (still all old a)

pub unit_clear : (rs : List SectionFault) (f : Option SectionFault) (old kept : Walked)
    → f ≡ first_refusal section_order rs → kept ≡ record old { fault = earlier section_order old.fault f } → is_some kept.fault ≡ false
    → (old.fault ≡ None) × ((f ≡ None) × (rs ≡ []))
unit_clear rs f old kept e k s = noted_clear rs f old kept e (ap (λ (w : Walked). w.fault) k) s

pub unit_made : (all : List Manner) (p : Place) (rs : List SectionFault) (n : ℕ) (gs : List (meant.Contribution Formula)) (ps : List Place) (f : Option SectionFault) (old kept made new : Walked) (r : Result Unit SectionFault)
    → f ≡ first_refusal section_order rs → kept ≡ record old { fault = earlier section_order old.fault f } → is_some kept.fault ≡ false → AreFirsts old.before all
    → made.fault ≡ kept.fault → made.before ≡ kept.before → Builds (part p n ∷ []) gs ps (standing old) (standing made) r → AfterMaking r made new
    → Walks all (whole p rs n ∷ []) gs ps [] old new
unit_made all p rs n gs ps f old kept made new r e k s a = noted_made all [] p rs n gs ps f old.before old kept made new r e k s (still all old a)

-- where making a unit failed, something is refused
pub limit_kept : (f : SectionFault) (made new : Walked) → AfterMaking (Err f) made new → new.fault ≡ None → ⊥
limit_kept f made new k e =
    let fault = ap (λ (w : Walked). w.fault) k.1 in
    cc
