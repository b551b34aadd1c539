-- What is written under a name that may be replaced loses no other file.
use Rattle.std.proofs.Common.{subst}
use Rattle.design_page.specs.Kept.{KeepsOthers}
use Rattle.design_page.proofs.KeptLemmas.{keeps-written}
use Rattle.design_page.proofs.running.obey_over.Goals as goal

pub returns-in_ok-made-in-Ok-true : goal.returns-in_ok-made-in-Ok-true
returns-in_ok-made-in-Ok-true g c = record {
  kept = λ known.
      let old = g.F.Files.file c.args.files.now in
      let mid = g.F.Files.file c.may_replace.new.self in
      let new = g.F.Files.file c.write_page.new.files in
      let may = (c.in-Ok-true.ensures.may known).0 c.in-Ok-true.field-0-test in
      subst (λ front. KeepsOthers front old new) c.as_bytes.ensures.value
      (keeps-written _ _ _ old mid new may (c.in-Ok-true.ensures.same known) (c.write_page.ensures.others known));
}
