use Rattle.std.proofs.Common.{◌≡◌, ◌<◌, ◌+◌, List, take, length, get_or, map, sym, ap, ap₂, subst, ◌∙◌}
use Rattle.design_checks.proofs.Common.{flat_map, length-map, take_more, arena, Names, entries_of, view_declared, earlier, first_refusal, first_append, no_name, Contribution, RefusedUse, refuses, AreToNames, told_if, use_order}
use Rattle.design_checks.proofs.JoinedFirsts.{flat_push, one_more}
use Rattle.design_checks.proofs.LearntName.{name_here}
use Rattle.design_checks.proofs.rules.first_refused.Goals as goal

pub loop-given-preserved : goal.loop-given-preserved
loop-given-preserved g c =
    let n = c.args.scope.now in
    let l = c.loop-given in
    let x = c.index-names-given.result in
    let ds = c.list-names.result.now in
    let cs = c.as_slice-given-items.result.now in
    let given = get_or cs l.given-index _ in
    let test = refuses g.D.Device.table (arena c.args.found.now.exprs) c.args.rule in
    let told : Contribution → List RefusedUse = λ v. told_if (test (get_or (entries_of n) v.target.signal no_name) v) (record { place = v.place; name = v.target.signal }) in
    let names = c.list-names.ensures ∙ ap (λ (m : Names). m.list) c.scope.ensures in
    let targets = subst (AreToNames (length (entries_of n))) (sym c.as_slice-given-items.ensures) c.requires.names in
    let within : given.target.signal < length (entries_of n) = targets l.given-index _ c.loop-given-test.true in
    let low : given.target.signal < length ds = subst (λ k. given.target.signal < k) (length-map n.list view_declared ∙ ap length (sym names)) within in
    let entry : get_or (entries_of n) given.target.signal no_name ≡ view_declared x = ap (λ zs. get_or (map view_declared zs) given.target.signal no_name) (sym names) ∙ name_here view_declared ds given.target.signal x no_name low c.index-names-given.is in
    c.earlier-first.ensures
    ∙ ap₂ (earlier use_order) l.invariant
    (c.told_if.ensures ∙ ap (λ b. first_refusal use_order (told_if b (record { place = given.place; name = given.target.signal }))) (c.refuses-refused.ensures ∙ ap (λ e. test e given) (sym entry)))
    ∙ one_more (first_refusal use_order) (earlier use_order) (first_append use_order) (flat_map told) (take l.given-index cs) (take (l.given-index + 1) cs) given (told given) (take_more cs l.given-index _ c.loop-given-test.true) (flat_push told (take l.given-index cs) given)
