use Rattle.std.proofs.Common.{not, ◌&&◌, ◌||◌, sym, ap}
use Rattle.source_machine.proofs.Common.{arena, plain_control, plain_function, function_names, names_if_any}
use Rattle.source_machine.proofs.LinkReads.{reads_as}
use Rattle.source_machine.proofs.links.wanted_reads.Goals as goal

pub returns-else-wanted : goal.returns-else-wanted
returns-else-wanted c =
    let fs = arena c.args.exprs.now in
    let w = c.args.wanted.now in
    reads_as _ _ c.both.result
    (λ l. ap (λ r. names_if_any (plain_control fs w.enable) l || (not r && function_names (plain_function fs w.function) l)) (sym c.if-wanted.false))
    (c.both.ensures _ _ c.control_reads-enable.ensures c.function_reads.ensures)
