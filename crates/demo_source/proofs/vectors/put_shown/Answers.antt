use Rattle.std.proofs.Common.{◌≡◌, ◌-◌, ◌∙◌, ◌++◌, append_assoc, arith, codes}
use Rattle.demo_source.proofs.Common.{is_on, levels_of, levels_text, further_text}
use Rattle.demo_source.proofs.Lines.{levels_more}
use Rattle.demo_source.proofs.vectors.put_shown.Goals as goal

pub loop-register-preserved : goal.loop-register-preserved
loop-register-preserved c =
    let at = levels_of c.args.at.now in
    let k = c.loop-register.register in
    rw (levels_more at k (omega (arith, c.loop-register.auto.register)))
    (c.in_ok-put_further_level.ensures
    ∙ rw (c.loop-register.invariant, c.level_at-in-loop-register.ensures)
    (append_assoc c.args.out.now.items (codes "[" ++ levels_text at (k - 1)) (further_text (is_on at.pins (23 - k)))))

pub returns : goal.returns
returns c =
    let at = levels_of c.args.at.now in
    let nine : c.loop-register.register - 1 ≡ 9 = omega (arith, c.loop-register-test.false, c.loop-register.auto.register-end) in
    c.in_ok-push-2.ensures.items
    ∙ rw (c.loop-register.invariant, nine) (append_assoc c.args.out.now.items (codes "[" ++ levels_text at 9) (codes "]"))
