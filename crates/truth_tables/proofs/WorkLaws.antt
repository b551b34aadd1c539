-- Works that are built one after another.
use Rattle.std.proofs.Common.{◌≡◌, List, [], ◌∷◌, Result, Ok, Err, length, refl, sym, subst, arith}
use Rattle.truth_tables.proofs.Common.{Place, arena, Formula, Contributions, SectionFault, StopsWith, Builds, part, builds_none, builds_then, builds_stop, stops_on, Work, before, nothing, IsDone}
use Rattle.abel_meaning.specs.Contributions as meant

-- what is left by building a work
abbrev pub DoesWork : {R : Type 0} → Work → (old new : Contributions) → Result R SectionFault → Type 0
DoesWork w old new r = Builds w.units w.gives w.places old new r

-- a step after what is built
pub step_then : {R : Type 0} (v w : Work) (old mid new : Contributions) (r : Result R SectionFault) → IsDone v old mid → DoesWork w mid new r → DoesWork (before v w) old new r
step_then v w old mid new r b c = builds_then v.units w.units v.gives w.gives v.places w.places old mid new r b c

pub step_stops : (v w : Work) (old new : Contributions) (f : SectionFault) → StopsWith v.units v.gives v.places old new f → StopsWith (before v w).units (before v w).gives (before v w).places old new f
step_stops v w old new f s = builds_stop v.units w.units v.gives w.gives v.places w.places old new f s

-- what is left by the rest from here on is left by all
abbrev pub IsLeft : (all rest : Work) → (old now : Contributions) → Type 0
IsLeft all rest old now = (later : Contributions) (r : Result Unit SectionFault) → DoesWork rest now later r → DoesWork all old later r

-- what is left by a step, whether it is made or stops
abbrev pub AfterStep : (all rest : Work) → (old new : Contributions) → Result Unit SectionFault → Type 0
AfterStep all rest old new (Ok t) = IsLeft all rest old new
AfterStep all rest old new (Err f) = StopsWith all.units all.gives all.places old new f

pub left_step : (all step rest : Work) (old mid new : Contributions) (r : Result Unit SectionFault) → IsLeft all (before step rest) old mid → DoesWork step mid new r → AfterStep all rest old new r
left_step all step rest old mid new (Ok t) l s = λ later r k. l later r (step_then step rest mid new later r s k)
left_step all step rest old mid new (Err f) l s = l new (Err f) (step_stops step rest mid new f s)

pub left_done : (all rest : Work) (old new : Contributions) → rest ≡ nothing → IsLeft all rest old new → IsDone all old new
left_done all rest old new e l = l new (Ok tt) (subst (λ (w : Work). IsDone w new new) (sym e) (builds_none new))

-- ---- no nodes

-- a part without nodes is no part
pub free_part : {R : Type 0} (p : Place) (gs : List (meant.Contribution Formula)) (ps : List Place) (old new : Contributions) (r : Result R SectionFault) → Builds (part p 0 ∷ []) gs ps old new r → Builds [] gs ps old new r
free_part p gs ps old new (Ok r) b =
    record { accepted = refl; within = refl; made = record { grew = record { keeps = b.made.grew.keeps; count = omega (arith, b.made.grew.count) }; more = b.made.more; whole = b.made.whole } }
free_part p gs ps old new (Err f) b = (stops_on f (length (arena old.exprs)) (length (arena old.exprs)) (part p 0 ∷ []) [] (λ h. absurd cc) b.0, b.1)
