-- What is after walks one after another, whatever they answer.
use Rattle.std.proofs.Common.{◌≡◌, ℕ, false, Option, None, Some, List, [], ◌++◌, Result, Ok, Err, length, refl, sym, ap, ◌∙◌, subst, arith}
use Rattle.section_targets.proofs.Common.{append-nil, none-some, Place, arena, Formula, Contributions, SectionFault, section_order, earlier, is_some, Manner, Contributed, Leaves, Builds, CountedUnit, units_nodes, Walks, standing}
use Rattle.abel_meaning.specs.Contributions as meant
use Rattle.section_targets.specs.declared.walked.Walked.{Walked}
use Rattle.section_targets.specs.Walking.{StillStands}
use Rattle.section_targets.proofs.Built.{leaves_less, leaves_then}
use Rattle.section_targets.proofs.WalksBehind.{both_clear, clear_before}

-- nothing was appended
nothing_left : (out : Contributions) (gs : List (meant.Contribution Formula)) (ps : List Place) → Leaves out out gs ps
nothing_left out gs ps =
    record {
      keeps = λ i f e. e;
      more = [];
      later = gs;
      later_places = ps;
      front = record { list = sym (append-nil out.list); inside = λ k d lt. absurd (omega (arith, lt)); gives = refl; stand = refl };
    }

all_left : (old new : Contributions) (gs : List (meant.Contribution Formula)) (ps : List Place) (n : ℕ) → Contributed old new gs ps n → Leaves old new gs ps
all_left old new gs ps n c =
    record { keeps = c.grew.keeps; more = c.more; later = []; later_places = []; front = c.whole }

pub built_left : {R : Type 0} (us : List CountedUnit) (gs : List (meant.Contribution Formula)) (ps : List Place) (old new : Contributions) (r : Result R SectionFault) → Builds us gs ps old new r → Leaves old new gs ps
built_left us gs ps old new (Ok r) b = all_left old new gs ps (units_nodes us) b.made
built_left us gs ps old new (Err f) b = b.1

-- ---- one unit

-- one that is only checked
pub stands_same : (gs : List (meant.Contribution Formula)) (ps : List Place) (old new : Walked) → standing new ≡ standing old → StillStands gs ps old new
stands_same gs ps old new e =
    record {
      front = subst (λ s. Leaves (standing old) s gs ps) (sym e) (nothing_left (standing old) gs ps);
      stays = λ f k. e;
    }

-- one that is made if nothing is refused so far
pub stands_made : {R : Type 0} (us : List CountedUnit) (gs : List (meant.Contribution Formula)) (ps : List Place) (old made new : Walked) (r : Result R SectionFault) → old.fault ≡ None → Builds us gs ps (standing old) (standing made) r → standing new ≡ standing made
    → StillStands gs ps old new
stands_made us gs ps old made new r o b e =
    record {
      front = subst (λ s. Leaves (standing old) s gs ps) (sym e) (built_left us gs ps (standing old) (standing made) r b);
      stays = λ f k. absurd (none-some f (sym o ∙ k));
    }

-- a walk after which nothing is refused
pub stands_whole : (all ms : List Manner) (us : List CountedUnit) (gs : List (meant.Contribution Formula)) (ps : List Place) (old new : Walked) → Walks all us gs ps ms old new → new.fault ≡ None → StillStands gs ps old new
stands_whole all ms us gs ps old new w e =
    record {
      front = all_left (standing old) (standing new) gs ps (units_nodes us) (w.given e);
      stays = λ f k. absurd (none-some f (sym (clear_before old.fault (length (arena old.exprs)) us (sym e ∙ w.fault)) ∙ k));
    }

-- nothing was refused before a unit after which nothing is
pub none_so_far : (f x : Option SectionFault) (new : Walked) → new.fault ≡ earlier section_order f x → is_some new.fault ≡ false → f ≡ None
none_so_far f x new e s = (both_clear f x (sym (ap is_some e) ∙ s)).0

-- ---- one after another

-- if a walk ends, what would follow isn't made
pub stands_less : (gs hs : List (meant.Contribution Formula)) (ps qs : List Place) (old new : Walked) → StillStands gs ps old new → StillStands (gs ++ hs) (ps ++ qs) old new
stands_less gs hs ps qs old new s =
    record { front = leaves_less (standing old) (standing new) gs hs ps qs s.front; stays = s.stays }

pub stands_then : (all ms : List Manner) (us : List CountedUnit) (gs hs : List (meant.Contribution Formula)) (ps qs : List Place) (old mid new : Walked)
    → Walks all us gs ps ms old mid → StillStands gs ps old mid → StillStands hs qs mid new → StillStands (gs ++ hs) (ps ++ qs) old new
stands_then all ms us gs hs ps qs old mid new w a b = by_fault mid.fault refl
  where
    by_fault : (m : Option SectionFault) → mid.fault ≡ m → StillStands (gs ++ hs) (ps ++ qs) old new
    by_fault None e =
        record {
          front = leaves_then (standing old) (standing mid) (standing new) gs hs ps qs (units_nodes us) (w.given e) b.front;
          stays = λ f k. absurd (none-some f (sym (clear_before old.fault (length (arena old.exprs)) us (sym e ∙ w.fault)) ∙ k));
        }
    by_fault (Some f) e =
        let same = b.stays f e in
        record {
          front = subst (λ s. Leaves (standing old) s (gs ++ hs) (ps ++ qs)) (sym same) (leaves_less (standing old) (standing mid) gs hs ps qs a.front);
          stays = λ x k. same ∙ a.stays x k;
        }

-- after what is refused nothing is made, whatever is given
pub stands_alike : (gs hs : List (meant.Contribution Formula)) (ps : List Place) (old new : Walked) → (old.fault ≡ None → gs ≡ hs) → StillStands gs ps old new → StillStands hs ps old new
stands_alike gs hs ps old new h s = by_fault old.fault refl
  where
    by_fault : (m : Option SectionFault) → old.fault ≡ m → StillStands hs ps old new
    by_fault None e = subst (λ xs. StillStands xs ps old new) (h e) s
    by_fault (Some f) e = stands_same hs ps old new (s.stays f e)
