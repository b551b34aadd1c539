use Rattle.std.proofs.Common.{ap}
use Rattle.bit_expr.proofs.Common.{folded, arena}
use Rattle.bit_expr.proofs.ArenaLists.{adds_level}
use Rattle.bit_expr.proofs.arena.Exprs.fold.Goals as goal

pub returns-in-Const : goal.returns-in-Const
returns-in-Const c = adds_level _ _ c.constant.result c.in-Const.on _ c.constant.ensures (ap (folded (arena c.args.self.now)) c.in-Const.is)
