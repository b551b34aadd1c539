-- The text is that of the variant that the finding is.
use Rattle.std.proofs.Common.{◌≡◌, ℕ, List, ◌++◌, ◌∙◌, sym, ap}
use Rattle.form_commands.specs.DumpLines.{finding_text}
use Rattle.fuse_forms.specs.declared.finding.Finding.{Finding}
use Rattle.form_commands.proofs.dump_lines.put_name.Goals as goal

-- what was appended for one finding was appended for the same finding
told_as : (old new : List ℕ) (finding is : Finding) → finding ≡ is → new ≡ old ++ finding_text is → new ≡ old ++ finding_text finding
told_as old new finding is same told = told ∙ ap (λ (f : Finding). old ++ finding_text f) (sym same)

pub returns-in_ok-put_sums-in-FileSum : goal.returns-in_ok-put_sums-in-FileSum
returns-in_ok-put_sums-in-FileSum c = told_as _ _ _ _ c.in-FileSum.is c.in_ok-put_sums-in-FileSum.ensures

pub returns-in_ok-put_sums-in-FuseSum : goal.returns-in_ok-put_sums-in-FuseSum
returns-in_ok-put_sums-in-FuseSum c = told_as _ _ _ _ c.in-FuseSum.is c.in_ok-put_sums-in-FuseSum.ensures
