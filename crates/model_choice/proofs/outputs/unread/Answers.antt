-- One signal more.
use Rattle.std.proofs.Common.{ℕ, Bool, filter, map, not, ap, ◌∙◌, arith}
use Rattle.std.proofs.lemmas.List.{take_all}
use Rattle.abel_meaning.specs.Reads.{is_read}
use Rattle.abel_tree.specs.Entries.{view_declared}
use Rattle.abel_tree.specs.View.{view_module}
use Rattle.model_choice.proofs.Passed.{passed_more}
use Rattle.model_choice.proofs.outputs.unread.Goals as goal

pub loop-place-preserved : goal.loop-place-preserved
loop-place-preserved c =
    let l = c.loop-place in
    let test : ℕ → Bool = λ s. not (is_read (map view_declared c.args.names.now) (view_module c.args.source.now).sections s) in
    passed_more test c.args.signals.now l.list.items _ l.place 0 (not c.level_at.result)
    c.loop-place-test.true (ap not (c.level_at.ensures ∙ c.in_ok-seen.ensures.read l.place c.loop-place-test.true)) l.invariant c.in_ok-add_if.ensures

pub returns : goal.returns
returns c =
    let l = c.loop-place in
    let test : ℕ → Bool = λ s. not (is_read (map view_declared c.args.names.now) (view_module c.args.source.now).sections s) in
    l.invariant ∙ ap (filter test) (take_all l.place c.args.signals.now (omega (arith, c.loop-place-test.false)))
