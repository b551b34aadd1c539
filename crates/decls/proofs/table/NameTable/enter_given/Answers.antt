-- Its name is the given one's.
use Rattle.std.proofs.Common.{subst}
use Rattle.decls.proofs.Common.{on_ok_weaker, Shows, view_said, entered}
use Rattle.decls.proofs.table.NameTable.enter_given.Goals as goal

pub returns : goal.returns
returns c =
    on_ok_weaker c.enter.result
    (λ h t s k e shown.
    subst (λ n. Shows t c.enter.new.self (entered n c.args.given.now.place k (view_said c.args.said) s)) c.as_slice.ensures.value (h t s k e shown))
    c.enter.ensures
