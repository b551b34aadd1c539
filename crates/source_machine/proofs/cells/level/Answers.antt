use Rattle.std.proofs.Common.{not, if◌then◌else◌, sym, ap, ◌∙◌}
use Rattle.source_machine.proofs.Common.{is_on, levels_of, complement_if, arena, as_named, plain_wanted, data_with_any_0, level_with_any_0, cell_at}
use Rattle.source_machine.proofs.cells.level.Goals as goal

pub returns-else-wanted : goal.returns-else-wanted
returns-else-wanted g c =
    let at = levels_of c.args.at.now in
    let fs = arena c.args.net.now.exprs in
    let w = plain_wanted fs c.in-Some.wanted in
    c.as_named.ensures fs ∙ ap (as_named w) c.value.ensures
    ∙ ap (λ r. if r then complement_if (not w.buffer) (is_on at.q c.args.cell) else data_with_any_0 at w) (sym c.if-wanted.false)
    ∙ ap (level_with_any_0 at (cell_at g.D.Device.table c.args.cell).kinds c.args.cell) c.in-Some.ensures.found
