-- Walks over the rows of a table, part by part.
use Rattle.std.proofs.Common.{◌≡◌, Bool, true, false, Option, None, Some, List, [], ◌∷◌, ◌++◌, if◌then◌else◌, Result, Ok, Err, refl, sym, ap, subst, append-nil}
use Rattle.truth_tables.proofs.Common.{is_some, OnOk, Vec, Place, ExprId, Formula, Names, earlier, first_refusal, is_before, SectionFault, section_order, Manner, context_for, AreFirsts, CountedUnit, units_refused, AfterMaking, Walks, standing, walks_alike, walks_made, walks_none, walks_then, whole, IsOver, StillStands, StandsWork, WalksWork, stands_less, stands_made, stands_same, stands_then, nodes_left, units_behind, Work, before, given_freely, limit_kept, noted_refused}
use Rattle.pld_device.specs.Table as device
use Rattle.abel_meaning.specs.Contributions as meant
use Rattle.section_targets.specs.declared.walked.Walked.{Walked}
use Rattle.truth_tables.specs.declared.rows.Headed.{Headed}
use Rattle.truth_tables.proofs.WorkLaws.{DoesWork}

pub is_over : (v : device.Table) (n : Names) → IsOver n (context_for v n)
is_over v n = record { names = refl; known = refl }

-- the names of a scope are those of the scope that was asked for them
pub over_same : (v : device.Table) (m n : Names) → m ≡ n → IsOver m (context_for v n)
over_same v m n e = subst (λ k. IsOver m (context_for v k)) e (is_over v m)

pub no_fault : {A : Type 0} (f : Option A) → is_some f ≡ false → f ≡ None
no_fault None e = refl
no_fault (Some f) e = absurd cc

pub not_clear : {A : Type 0} (f : Option SectionFault) → is_some f ≡ true → f ≡ None → A
not_clear None e h = absurd cc
not_clear (Some f) e h = absurd cc

-- if a refusal is reported, something is refused
pub some_refused : (f : Option SectionFault) (x : SectionFault) → is_some (earlier section_order f (Some x)) ≡ true
some_refused None x = refl
some_refused (Some f) x = by_order (is_before section_order x f)
  where
    by_order : (b : Bool) → is_some (if b then Some x else Some f) ≡ true
    by_order true = refl
    by_order false = refl

-- ---- works

pub work_then : (v w : Work) (old mid new : Walked) → WalksWork v old mid → WalksWork w mid new → WalksWork (before v w) old new
work_then v w old mid new a b = λ all x.
    let front = a all x in
    walks_then all [] [] v.units w.units v.gives w.gives v.places w.places old mid new front (b (all ++ []) front.manners)

-- what is given without nodes counts only if nothing is refused
pub free_refused : (gs : List (meant.Contribution Formula)) (ps : List Place) (out : Walked) → is_some out.fault ≡ true → WalksWork (given_freely gs ps) out out
free_refused gs ps out e = by_fault out.fault refl e
  where
    by_fault : (f : Option SectionFault) → out.fault ≡ f → is_some f ≡ true → WalksWork (given_freely gs ps) out out
    by_fault None k h = absurd cc
    by_fault (Some f) k h = λ all a. walks_alike all [] [] [] [] gs [] ps out out f k refl (walks_none all out a)

-- a work of which nothing is refused
pub work_made : (w : Work) (old made new : Walked) (r : Result Unit SectionFault) → old.fault ≡ None → made.fault ≡ None → units_refused w.units ≡ [] → made.before ≡ old.before
    → DoesWork w (standing old) (standing made) r → AfterMaking r made new → WalksWork w old new
work_made w old made new r o m e b h k = λ all a.
    walks_made all [] w.units w.gives w.places old made new r o m e
    (subst (λ ms. AreFirsts ms (all ++ [])) (sym b) (subst (AreFirsts old.before) (sym (append-nil all)) a)) h k

-- what is after works one after another, and if the walk ends at the first
pub stands_before : (v w : Work) (old mid new : Walked) → WalksWork v old mid → StandsWork v old mid → StandsWork w mid new → StandsWork (before v w) old new
stands_before v w old mid new a b c =
    stands_then old.before [] v.units v.gives w.gives v.places w.places old mid new (a old.before (λ s p. refl)) b c

pub stands_first : (v w : Work) (old new : Walked) → StandsWork v old new → StandsWork (before v w) old new
stands_first v w old new s = stands_less v.gives w.gives v.places w.places old new s

-- what is checked alone
pub stands_still : (w : Work) (old new : Walked) → standing new ≡ standing old → StandsWork w old new
stands_still w old new e = stands_same w.gives w.places old new e

pub stands_done : (w : Work) (old made new : Walked) (r : Result Unit SectionFault) → old.fault ≡ None → DoesWork w (standing old) (standing made) r → standing new ≡ standing made → StandsWork w old new
stands_done w old made new r o b e = stands_made w.units w.gives w.places old made new r o b e

-- making a unit changes nothing after it but what is refused
pub after_exprs : (r : Result Unit SectionFault) (made new : Walked) → AfterMaking r made new → new.exprs ≡ made.exprs
after_exprs (Ok t) made new k = ap (λ (w : Walked). w.exprs) k
after_exprs (Err f) made new k = ap (λ (w : Walked). w.exprs) k.1

-- what holds of a unit that was made holds if nothing is refused
pub after_made : {P : Type 0} (r : Result Unit SectionFault) (made new : Walked) → AfterMaking r made new → new.fault ≡ None → OnOk r P → P
after_made (Ok t) made new k e p = p
after_made (Err f) made new k e p = absurd (limit_kept f made new k e)

-- bits that are there aren't left to make
pub none_left : {D : Type 0} (v : device.Table) (h : Headed D) (made : Option (Vec (Option ExprId))) → is_some made ≡ true → nodes_left v h made ≡ 0
none_left v h None e = absurd cc
none_left v h (Some ps) e = refl

-- ---- a header

-- a header that is refused is the one unit
pub header_stands : (all ms before : List Manner) (rs : List SectionFault) (p : Place) (us : List CountedUnit) (gs : List (meant.Contribution Formula)) (ps : List Place) (fault : SectionFault) (old new : Walked)
    → Some fault ≡ first_refusal section_order rs → new ≡ record old { before = before; fault = earlier section_order old.fault (Some fault) } → is_some new.fault ≡ true → AreFirsts before (all ++ ms)
    → Walks all (units_behind rs p us) gs ps ms old new
header_stands all ms before [] p us gs ps fault old new e k s a = absurd cc
header_stands all ms before (r ∷ rs) p us gs ps fault old new e k s a = noted_refused all ms (whole p (r ∷ rs) 0) gs ps (Some fault) before old new e k s a

-- its manners were noted before the rows
pub header_noted : (all ms firsts : List Manner) (us : List CountedUnit) (gs : List (meant.Contribution Formula)) (ps : List Place) (old new : Walked) → Walks (all ++ ms) us gs ps [] (record old { before = firsts }) new → Walks all us gs ps ms old new
header_noted all ms firsts us gs ps old new w =
    record { keeps = w.keeps; fault = w.fault; manners = subst (AreFirsts new.before) (append-nil (all ++ ms)) w.manners; given = w.given }

pub header_still : (gs : List (meant.Contribution Formula)) (ps : List Place) (firsts : List Manner) (old new : Walked) → StillStands gs ps (record old { before = firsts }) new → StillStands gs ps old new
header_still gs ps firsts old new s = record { front = s.front; stays = s.stays }
