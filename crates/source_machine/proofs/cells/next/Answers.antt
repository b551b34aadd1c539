use Rattle.std.proofs.Common.{ap, ◌∙◌}
use Rattle.source_machine.proofs.Common.{levels_of, arena, as_named, plain_wanted, next_with_any_0}
use Rattle.source_machine.proofs.cells.next.Goals as goal

pub returns-in-Some : goal.returns-in-Some
returns-in-Some c =
    let fs = arena c.args.net.now.exprs in
    c.as_named.ensures fs ∙ ap (as_named (plain_wanted fs c.in-Some.wanted)) c.value.ensures ∙ ap (next_with_any_0 (levels_of c.args.at.now)) c.in-Some.ensures.found
