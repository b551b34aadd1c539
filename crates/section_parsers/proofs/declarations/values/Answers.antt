-- Each turn reads one value.
use Rattle.std.proofs.Common.{◌≡◌, ℕ, suc, [], ◌∷◌, ◌++◌, ◌-◌, ◌<◌, map, sym, subst, arith}
use Rattle.section_parsers.proofs.Common.{nat_tests, map_push, read_made, ◌then_read◌, read_times, with_front, view, read_one, read_expr, value_of}
use Rattle.std.proofs.lemmas.Result.{err_from_is_err_and}
use Rattle.abel_grammar.proofs.TimesTurns.{times_turn, times_fails}
use Rattle.abel_grammar.specs.declared.terminal.Terminal.TheVariants as terminal
use Rattle.section_parsers.proofs.Stops.{fails_as}
use Rattle.section_parsers.proofs.declarations.values.Goals as goal

pub list-preserved : goal.list-preserved
list-preserved c =
    let read = read_made value_of (read_one terminal.Comma then_read read_expr c.args.depth) in
    let total = read_times c.args.count read c.args.tokens.now in
    let more : c.list.left ≡ suc (c.list.left - 1) = grind (arith, nat_tests, c.list-test.true) in
    let so_far : with_front (map view c.list.list.items) (read_times (suc (c.list.left - 1)) read c.list.rest.now) ≡ total = subst (λ n. with_front (map view c.list.list.items) (read_times n read c.list.rest.now) ≡ total) more c.list.invariant in
    let e : map view c.push.new.self.items ≡ map view c.list.list.items ++ view c.in_ok-next.next ∷ [] = rw c.in_ok-push.ensures.items (map_push _ c.list.list.items c.in_ok-next.next) in
    rw e (times_turn read (map view c.list.list.items) (c.list.left - 1) c.list.rest.now (view c.in_ok-next.next, c.in_ok-next.after.now) total c.in_ok-next.ensures so_far)

pub returns-in_err-next : goal.returns-in_err-next
returns-in_err-next c =
    let read = read_made value_of (read_one terminal.Comma then_read read_expr c.args.depth) in
    let total = read_times c.args.count read c.args.tokens.now in
    let more : c.list.left ≡ suc (c.list.left - 1) = grind (arith, nat_tests, c.list-test.true) in
    let so_far : with_front (map view c.list.list.items) (read_times (suc (c.list.left - 1)) read c.list.rest.now) ≡ total = subst (λ n. with_front (map view c.list.list.items) (read_times n read c.list.rest.now) ≡ total) more c.list.invariant in
    let p = err_from_is_err_and c.from_residual.result c.from_residual.ensures.1 in
    rw (p.1, p.2) (fails_as c.in_err-next.field-0.0 (read c.list.rest.now) total c.in_err-next.ensures (λ s e. times_fails read (map view c.list.list.items) (c.list.left - 1) c.list.rest.now total s e so_far))
