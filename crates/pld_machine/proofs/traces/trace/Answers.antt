use Rattle.std.proofs.Common.{◌≡◌, ◌<◌, sym, subst, arith}
use Rattle.pld_machine.proofs.Common.{bits, levels_of, length-bits, is_on-and}
use Rattle.pld_machine.proofs.Shown.{shown_none, shown_more}
use Rattle.pld_machine.proofs.traces.trace.Goals as goal

pub loop-cell-init : goal.loop-cell-init
loop-cell-init g c = shown_none (g.L.Logic.meaning c.args.logic.now) (levels_of c.args.at.now)

pub loop-cell-preserved : goal.loop-cell-preserved
loop-cell-preserved g c =
    let m = g.L.Logic.meaning c.args.logic.now in
    let within : c.loop-cell.cell < m.cells = omega arith in
    rw (c.with_level-driven.ensures, c.pin.ensures) (shown_more m (levels_of c.args.at.now) (bits 32 c.loop-cell.driven) c.loop-cell.cell c.enable-on.result c.requires (length-bits 32 c.loop-cell.driven) within c.enable-on.ensures c.loop-cell.invariant)

pub returns : goal.returns
returns g c =
    let m = g.L.Logic.meaning c.args.logic.now in
    let all : c.loop-cell.cell ≡ m.cells = omega arith in
    record {
      cells = λ d low. c.loop-cell.invariant.cells d (subst (λ n. d < n) (sym all) low);
      others = λ k low none. c.loop-cell.invariant.others k low (λ d less. none d (subst (λ n. d < n) all less));
      levels = λ k low. is_on-and 32 c.loop-cell.driven c.args.at.now.pins k low;
    }
