-- A number of its own, the number of positions, and why no limit is passed.
use Rattle.std.proofs.Common.{◌≤◌, Option, List, length, map, refl, sym, ap, ◌∙◌, subst}
use Rattle.state_diagrams.proofs.Common.{ExprId, arena, view, number_with, term_of, constant_of, context_for, formula_value, bits_at, all_zero}
use Rattle.set_expr.specs.Answer.{AreIn}
use Rattle.state_diagrams.proofs.NumberLaws.{few_positions, narrow, places_say}
use Rattle.state_diagrams.proofs.StillBits.{never_past}
use Rattle.state_diagrams.proofs.numbers.state_number.Goals as goal

pub places_number-requires : goal.places_number-requires
places_number-requires g c =
    let n = c.args.scope.now in
    let d = context_for g.D.Device.table n in
    let t = view c.args.value.now in
    let s = c.in-Ok.shaped in
    let h = c.in-Ok.ensures.shows in
    record {
      inside = subst (AreIn (length (arena c.bits.new.exprs))) (sym c.as_slice.ensures) h.inside;
      few = subst (λ (ps : List (Option ExprId)). length ps ≤ 32) (sym c.as_slice.ensures)
          (subst (λ k. k ≤ 32) (sym h.positions) (few_positions s.shape (constant_of d (term_of d.known t)) h.shape (narrow n d t refl c.requires.accepted)));
    }

pub unreachable-requires : goal.unreachable-requires
unreachable-requires g c =
    never_past (context_for g.D.Device.table c.args.scope.now) (view c.args.value.now) c.new-exprs.result c.bits.new.exprs c.bits.result c.in-Err-NodeLimit.field-0 c.requires.still c.bits.ensures c.in-Err-NodeLimit.is c.in-Err-NodeLimit.field-0-is

pub returns-in-Ok : goal.returns-in-Ok
returns-in-Ok g c =
    let d = context_for g.D.Device.table c.args.scope.now in
    let t = term_of d.known (view c.args.value.now) in
    let fs = arena c.bits.new.exprs in
    c.places_number.ensures ∙ ap (λ ps. number_with (map (formula_value all_zero) (bits_at fs ps))) c.as_slice.ensures
    ∙ places_say d fs c.in-Ok.shaped t c.requires.still c.in-Ok.ensures.shows c.in_default.not-Number
