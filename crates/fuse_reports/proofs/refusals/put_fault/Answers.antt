-- The text is that of the variant that the fault is.
use Rattle.std.proofs.Common.{◌≡◌, ℕ, List, ◌++◌, ◌∙◌, sym, ap}
use Rattle.fuse_reports.proofs.Common.{JedecFault}
use Rattle.fuse_reports.specs.FaultText.{fault_text}
use Rattle.fuse_reports.proofs.refusals.put_fault.Goals as goal

-- what was appended for one fault was appended for the same fault
told_as : (old new bytes : List ℕ) (fault is : JedecFault) → fault ≡ is → new ≡ old ++ fault_text bytes is → new ≡ old ++ fault_text bytes fault
told_as old new bytes fault is same told = told ∙ ap (λ (f : JedecFault). old ++ fault_text bytes f) (sym same)

pub returns-in_ok-put_sums-in-FileSum-clause-text : goal.returns-in_ok-put_sums-in-FileSum-clause-text
returns-in_ok-put_sums-in-FileSum-clause-text c = told_as _ _ _ _ _ c.in-FileSum.is c.in_ok-put_sums-in-FileSum.ensures

pub returns-in_ok-put_numbered-in-BadField-clause-text : goal.returns-in_ok-put_numbered-in-BadField-clause-text
returns-in_ok-put_numbered-in-BadField-clause-text c = told_as _ _ _ _ _ c.in-BadField.is c.in_ok-put_numbered-in-BadField.ensures

pub returns-in_ok-put_sums-in-FuseSum-clause-text : goal.returns-in_ok-put_sums-in-FuseSum-clause-text
returns-in_ok-put_sums-in-FuseSum-clause-text c = told_as _ _ _ _ _ c.in-FuseSum.is c.in_ok-put_sums-in-FuseSum.ensures
