-- A limit of one node more than there are is never passed.
use Rattle.std.proofs.Common.{false, ap, arith, length}
use Rattle.bit_expr.proofs.Common.{get_or_from_slice_get, slice_get_within, length-map, arena, Const, Kept}
use Rattle.bit_expr.proofs.FoldingCounts.{never_passed}
use Rattle.bit_expr.proofs.FoldingValues.{added_value}
use Rattle.bit_expr.proofs.arena.Exprs.add_more.Goals as goal

pub unreachable-requires : goal.unreachable-requires
unreachable-requires c =
    never_passed c.args.self.now c.fold.new.self c.fold.result c.in-Err-NodeLimit.field-0 c.args.node c.len-count.result c.fold.ensures c.in-Err-NodeLimit.is c.in-Err-NodeLimit.field-0-is
    (omega (arith, c.len-count.ensures, length-map c.self.inside.kept.items (λ (x : Kept). x.node), ap length c.self.view_is))

pub returns-in-Ok-clause-formula : goal.returns-in-Ok-clause-formula
returns-in-Ok-clause-formula c = get_or_from_slice_get (arena c.fold.new.self) c.in-Ok.id.0 _ (Const false) c.in-Ok.ensures.formula

pub returns-in-Ok-clause-inside : goal.returns-in-Ok-clause-inside
returns-in-Ok-clause-inside c = slice_get_within (arena c.fold.new.self) c.in-Ok.id.0 _ c.in-Ok.ensures.formula

pub returns-in-Ok-clause-value : goal.returns-in-Ok-clause-value
returns-in-Ok-clause-value c = λ at. added_value at (arena c.args.self.now) (arena c.fold.new.self) c.in-Ok.id c.args.node c.in-Ok.ensures.formula
