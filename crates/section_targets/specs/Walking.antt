-- What a walk over the units of sections leaves: each is checked, and made if nothing is refused so far (this project's
-- rule).
use Rattle.std.specs.Prelude.{◌≡◌, ◌≢◌, ℕ, Option, None, Some, List, ◌++◌, length, Result, Ok, Err}
use Rattle.section_targets.specs.Prelude.{Place, arena, Formula, earlier, first_refusal, Contributions, SectionFault, Keeps, section_order}
use Rattle.abel_meaning.specs.Contributions as meant
use Rattle.set_expr.specs.declared.fault.SectionFault.TheVariants as fault
use Rattle.section_targets.specs.declared.walked.Walked.{Walked}
use Rattle.section_targets.specs.declared.manner.Manner.{Manner}
use Rattle.section_targets.specs.Appending.{Leaves, Contributed}
use Rattle.section_targets.specs.Manners.{AreFirsts}
use Rattle.section_targets.specs.Units.{CountedUnit, units_refused, units_nodes, all_refused}

-- the first refusal of units after others, of which this is the first; after a refused unit no nodes are counted
abbrev pub fault_behind : Option SectionFault → (count : ℕ) → List CountedUnit → Option SectionFault
fault_behind None count us = first_refusal section_order (all_refused count us)
fault_behind (Some f) count us = earlier section_order (Some f) (first_refusal section_order (units_refused us))

-- what is there
abbrev pub standing : Walked → Contributions
standing b = record { exprs = b.exprs; list = b.list.items }

-- what units leave that give this at these places and assign signals in these manners, after all those before
pub record Walks (all : List Manner) (us : List CountedUnit) (gs : List (meant.Contribution Formula)) (ps : List Place)
    (ms : List Manner) (old new : Walked) : Type 0 where
  pub keeps : Keeps (arena old.exprs) (arena new.exprs)
  pub fault : new.fault ≡ fault_behind old.fault (length (arena old.exprs)) us
  pub manners : AreFirsts new.before (all ++ ms)
  pub given : new.fault ≡ None → Contributed (standing old) (standing new) gs ps (units_nodes us)

-- whatever the answer, the nodes that were there are, and after the contributions that were there is a front of what is
-- given at these places; once something is refused, nothing is made
pub record StillStands (gs : List (meant.Contribution Formula)) (ps : List Place) (old new : Walked) : Type 0 where
  pub front : Leaves (standing old) (standing new) gs ps
  pub stays : (f : SectionFault) → old.fault ≡ Some f → standing new ≡ standing old

-- the limit is kept where making a unit passed it; lack of memory ends the walk
abbrev pub AfterMaking : Result Unit SectionFault → (old new : Walked) → Type 0
AfterMaking (Ok r) old new = new ≡ old
AfterMaking (Err f) old new = (f ≢ fault.OutOfMemory) × (new ≡ record old { fault = Some f })
