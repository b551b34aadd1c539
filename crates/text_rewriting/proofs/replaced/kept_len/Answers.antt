-- One byte more stays, and bytes after it without a `?`.
use Rattle.std.proofs.Common.{◌≡◌, ◌+◌, ◌∷◌, ◌++◌, ◌∙◌, ap, sym, arith, ℕ, List, length, take, drop, add-one, length-drop}
use Rattle.text_rewriting.proofs.Common.{ahead, replaced, bound}
use Rattle.text_rewriting.proofs.Replaces.{some_step, stays_next, run_stays, drop_next, gone}
use Rattle.text_rewriting.proofs.replaced.kept_len.Goals as goal

pub bytes-preserved : goal.bytes-preserved
bytes-preserved c =
    let i = c.bytes.invariant in
    let f = bound c.args.arguments.now.by_name.entries in
    let w : List ℕ = ahead c.args.at.now in
    let look : List ℕ = ahead c.step-byte.new.self in
    let s = some_step c.step-byte.result (ahead c.bytes.look) look c.step-byte.ensures.some c.step-byte.ensures.none c.bytes-test.true c.left.ensures in
    let at : drop c.bytes.count w ≡ s.0 ∷ look = sym i.place ∙ s.1 in
    let place : look ≡ drop (c.bytes.count + 1) w = sym (drop_next w c.bytes.count s.0 look at) ∙ ap (λ (n : ℕ). drop n w) (sym (add-one c.bytes.count)) in
    let stay : take (c.bytes.count + 1) w ++ replaced f 0 (drop (c.bytes.count + 1) w) ≡ replaced f 0 w =
    stays_next f w (ahead c.bytes.look) look s.0 c.bytes.count i.place s.1 (c.in_ok-is_replaced.ensures.no c.if-branch.false) i.stay in
    let run = c.skip_unmarked-count.ensures in
    record {
      place = run.ahead ∙ sym (gone w look (c.bytes.count + 1) c.skip_unmarked-count.result place);
      stay = run_stays f w look (ahead c.skip_unmarked-count.new.at) (c.bytes.count + 1) c.skip_unmarked-count.result place run.ahead run.none stay;
      few = omega (arith, ap length s.1, i.few, ap length run.ahead, length-drop c.skip_unmarked-count.result look, run.within);
      fits = i.fits;
    }
