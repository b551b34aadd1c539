-- Walks one after another, and the walk over one unit.
use Rattle.std.proofs.Common.{◌≡◌, ℕ, ◌+◌, Bool, true, false, Option, None, Some, List, [], ◌∷◌, ◌++◌, Result, Ok, Err, length, refl, sym, ap, ap₂, ◌∙◌, subst, append_assoc, append-nil}
use Rattle.section_targets.proofs.Common.{cond_both, none-some, is_some, Place, arena, Formula, is_before, earlier, first_refusal, earlier_assoc, first_append, none_refused, SectionFault, Keeps, section_order, Manner, Contributed, Stops, NoMemory, AtLimit, Builds, AreFirsts, CountedUnit, is_past, limit_at, limit_refused, units_refused, units_nodes, all_refused, AfterMaking, Walks, fault_behind, standing}
use Rattle.abel_meaning.specs.Contributions as meant
use Rattle.section_targets.specs.declared.walked.Walked.{Walked}
use Rattle.section_targets.proofs.Built.{left_empty, right_empty, both_empty, refused_append, nodes_append, limit_append, limit_stays, keeps_on, made_then, builds_none}

-- ---- the first refusal of units after others

-- the first refusal of two lists of units, of which something of the first is refused
refused_front : (count : ℕ) (us vs : List CountedUnit) (y : SectionFault) → Some y ≡ first_refusal section_order (all_refused count us)
    → earlier section_order (Some y) (first_refusal section_order (units_refused vs)) ≡ first_refusal section_order (all_refused count (us ++ vs))
refused_front count us vs y e =
    ap (λ x. earlier section_order x (first_refusal section_order (units_refused vs))) e
    ∙ sym (first_append section_order (all_refused count us) (units_refused vs))
    ∙ ap (first_refusal section_order)
    (append_assoc (limit_refused count us) (units_refused us) (units_refused vs)
    ∙ ap₂ (λ ls rs. ls ++ rs) (sym (limit_stays count us vs (λ k. none-some y (sym (e ∙ ap (first_refusal section_order) k))))) (sym (refused_append us vs)))

-- nothing of the first units is refused
accepted_front : (count : ℕ) (us vs : List CountedUnit) → None ≡ first_refusal section_order (all_refused count us)
    → all_refused (count + units_nodes us) vs ≡ all_refused count (us ++ vs)
accepted_front count us vs e =
    let clear = none_refused section_order (all_refused count us) e in
    let l = left_empty (limit_refused count us) (units_refused us) clear in
    let a = right_empty (limit_refused count us) (units_refused us) clear in
    ap₂ (λ ls rs. ls ++ rs) (sym (limit_append count us vs a l)) (sym (refused_append us vs ∙ ap (λ rs. rs ++ units_refused vs) a))

-- what is refused stays refused
stays_refused : (x : SectionFault) (g : Option SectionFault) → is_some (earlier section_order (Some x) g) ≡ true
stays_refused x None = refl
stays_refused x (Some g) = cond_both (is_before section_order g x) (Some g) (Some x) (λ f. is_some f ≡ true) (λ e. refl) (λ e. refl)

never : ◌≡◌ {A = Bool} true false → ⊥
never k = cc

never_clear : (x : SectionFault) (g : Option SectionFault) → None ≡ earlier section_order (Some x) g → ⊥
never_clear x g k = never (sym (stays_refused x g) ∙ ap is_some (sym k))

pub clear_before : (f : Option SectionFault) (count : ℕ) (us : List CountedUnit) → None ≡ fault_behind f count us → f ≡ None
clear_before None count us e = refl
clear_before (Some x) count us e = absurd (never_clear x (first_refusal section_order (units_refused us)) e)

fault_append : (f m : Option SectionFault) (count later : ℕ) (us vs : List CountedUnit) → m ≡ fault_behind f count us → (m ≡ None → later ≡ count + units_nodes us)
    → fault_behind m later vs ≡ fault_behind f count (us ++ vs)
fault_append None None count later us vs e h =
    ap (λ n. first_refusal section_order (all_refused n vs)) (h refl) ∙ ap (first_refusal section_order) (accepted_front count us vs e)
fault_append None (Some y) count later us vs e h = refused_front count us vs y e
fault_append (Some x) None count later us vs e h = absurd (never_clear x (first_refusal section_order (units_refused us)) e)
fault_append (Some x) (Some y) count later us vs e h =
    let a = first_refusal section_order (units_refused us) in
    let b = first_refusal section_order (units_refused vs) in
    ap (λ z. earlier section_order z b) e ∙ earlier_assoc section_order (Some x) a b
    ∙ ap (earlier section_order (Some x)) (sym (ap (first_refusal section_order) (refused_append us vs) ∙ first_append section_order (units_refused us) (units_refused vs)))

-- ---- walks one after another

-- units after others
pub walks_then : (all ms ns : List Manner) (us vs : List CountedUnit) (gs hs : List (meant.Contribution Formula)) (ps qs : List Place) (old mid new : Walked)
    → Walks all us gs ps ms old mid → Walks (all ++ ms) vs hs qs ns mid new → Walks all (us ++ vs) (gs ++ hs) (ps ++ qs) (ms ++ ns) old new
walks_then all ms ns us vs gs hs ps qs old mid new a b =
    record {
      keeps = keeps_on (arena old.exprs) (arena mid.exprs) (arena new.exprs) a.keeps b.keeps;
      fault = b.fault ∙ fault_append old.fault mid.fault (length (arena old.exprs)) (length (arena mid.exprs)) us vs a.fault (λ e. (a.given e).grew.count);
      manners = subst (AreFirsts new.before) (append_assoc all ms ns) b.manners;
      given = λ e. subst (Contributed (standing old) (standing new) (gs ++ hs) (ps ++ qs)) (sym (nodes_append us vs))
          (made_then (standing old) (standing mid) (standing new) gs hs ps qs (units_nodes us) (units_nodes vs) (a.given (clear_before mid.fault (length (arena mid.exprs)) vs (sym e ∙ b.fault))) (b.given e));
    }

-- no unit
stands : (f : Option SectionFault) (count : ℕ) → f ≡ fault_behind f count []
stands None count = refl
stands (Some x) count = refl

pub walks_none : (all : List Manner) (out : Walked) → AreFirsts out.before all → Walks all [] [] [] [] out out
walks_none all out a =
    record {
      keeps = λ i f e. e;
      fault = stands out.fault (length (arena out.exprs));
      manners = subst (AreFirsts out.before) (sym (append-nil all)) a;
      given = λ e. (builds_none (standing out)).made;
    }

-- after what is refused only refusals count
pub walks_alike : (all ms : List Manner) (us vs : List CountedUnit) (gs hs : List (meant.Contribution Formula)) (ps qs : List Place) (old new : Walked) (f : SectionFault)
    → old.fault ≡ Some f → units_refused us ≡ units_refused vs → Walks all us gs ps ms old new → Walks all vs hs qs ms old new
walks_alike all ms us vs gs hs ps qs old new f e r w =
    record {
      keeps = w.keeps;
      fault = told;
      manners = w.manners;
      given = λ n. absurd (none-some f (sym (clear_before old.fault (length (arena old.exprs)) vs (sym n ∙ told)) ∙ e));
    }
  where
    told : new.fault ≡ fault_behind old.fault (length (arena old.exprs)) vs
    told = w.fault ∙ ap (λ x. fault_behind x (length (arena old.exprs)) us) e
        ∙ ap (λ rs. earlier section_order (Some f) (first_refusal section_order rs)) r
        ∙ ap (λ x. fault_behind x (length (arena old.exprs)) vs) (sym e)

-- ---- one unit

-- a unit that is refused, or one after what is refused
unit_fault : (f : Option SectionFault) (count : ℕ) (u : CountedUnit) → is_some (earlier section_order f (first_refusal section_order (units_refused (u ∷ [])))) ≡ true
    → earlier section_order f (first_refusal section_order (units_refused (u ∷ []))) ≡ fault_behind f count (u ∷ [])
unit_fault (Some x) count u h = refl
unit_fault None count u h = by_refusals u.refusals refl
  where
    by_refusals : (rs : List SectionFault) → u.refusals ≡ rs → first_refusal section_order (units_refused (u ∷ [])) ≡ first_refusal section_order (all_refused count (u ∷ []))
    by_refusals [] e = absurd (never (sym h ∙ ap (λ rs. is_some (first_refusal section_order (rs ++ []))) e))
    by_refusals (r ∷ rs) e =
        ap (λ ls. first_refusal section_order (ls ++ units_refused (u ∷ []))) (sym (ap (λ xs. limit_at xs u.place (is_past count u.nodes) []) e))

pub walks_refused : (all ms : List Manner) (u : CountedUnit) (gs : List (meant.Contribution Formula)) (ps : List Place) (fault : Option SectionFault) (old new : Walked)
    → fault ≡ first_refusal section_order (units_refused (u ∷ [])) → new.fault ≡ earlier section_order old.fault fault → is_some new.fault ≡ true → new.exprs ≡ old.exprs → AreFirsts new.before (all ++ ms)
    → Walks all (u ∷ []) gs ps ms old new
walks_refused all ms u gs ps fault old new e h s x a =
    record {
      keeps = subst (λ es. Keeps (arena old.exprs) (arena es)) (sym x) (λ i f k. k);
      fault = told ∙ unit_fault old.fault (length (arena old.exprs)) u (sym (ap is_some told) ∙ s);
      manners = a;
      given = λ n. absurd (never (sym s ∙ ap is_some n));
    }
  where
    told : new.fault ≡ earlier section_order old.fault (first_refusal section_order (units_refused (u ∷ [])))
    told = h ∙ ap (earlier section_order old.fault) e

-- if nothing is refused so far, and nothing of a unit, neither was before
pub both_clear : (f g : Option SectionFault) → is_some (earlier section_order f g) ≡ false → (f ≡ None) × (g ≡ None)
both_clear None None h = (refl, refl)
both_clear None (Some y) h = absurd cc
both_clear (Some x) g h = absurd (never (sym (stays_refused x g) ∙ h))

-- units of which nothing is refused are made, or the first that passes the limit is refused
pub walks_made : (all ms : List Manner) (us : List CountedUnit) (gs : List (meant.Contribution Formula)) (ps : List Place) (old made new : Walked) (r : Result Unit SectionFault)
    → old.fault ≡ None → made.fault ≡ None → units_refused us ≡ [] → AreFirsts made.before (all ++ ms)
    → Builds us gs ps (standing old) (standing made) r → AfterMaking r made new
    → Walks all us gs ps ms old new
walks_made all ms us gs ps old made new (Ok t) o m e a b k =
    subst (Walks all us gs ps ms old) (sym k)
    (record {
      keeps = b.made.grew.keeps;
      fault = m ∙ sym (ap (λ f. fault_behind f (length (arena old.exprs)) us) o ∙ ap (first_refusal section_order) (both_empty (limit_refused (length (arena old.exprs)) us) (units_refused us) b.within b.accepted));
      manners = a;
      given = λ n. b.made;
    })
walks_made all ms us gs ps old made new (Err f) o m e a b k =
    subst (Walks all us gs ps ms old) (sym k.1)
    (record {
      keeps = b.1.keeps;
      fault = stopped b.0;
      manners = a;
      given = λ n. absurd (none-some f (sym n));
    })
  where
    stopped : Stops f (length (arena old.exprs)) us → Some f ≡ fault_behind old.fault (length (arena old.exprs)) us
    stopped (NoMemory h) = absurd (k.0 h)
    stopped (AtLimit h) = sym (ap (λ g. fault_behind g (length (arena old.exprs)) us) o ∙ ap (first_refusal section_order) (ap₂ (λ ls rs. ls ++ rs) h e))
