use Rattle.std.proofs.Common.{◌<◌, ◌≤◌, ◌≡◌, ◌*◌, length, refl, sym, ◌∙◌, arith}
use Rattle.decompiler.proofs.Common.{named, product_of}
use Rattle.decompiler.proofs.PairLiterals.{shown_more, shown_all}
use Rattle.decompiler.proofs.device_fuses.DeviceFuses.product.Goals as goal

pub loop-pair-init : goal.loop-pair-init
loop-pair-init g c = rw (c.new-literals.ensures.items, c.row-fuses.ensures.fuses) refl

pub loop-pair-preserved : goal.loop-pair-preserved
loop-pair-preserved g c =
    let t = g.D.Device.table in
    let long : length c.row-fuses.result.now ≡ 2 * length t.pairs = c.row-fuses.ensures.size ∙ g.D.Device.sound.sizes.columns_even in
    let within : c.loop-pair.pair < length t.pairs = omega (arith, c.loop-pair-test.true, c.columns-pair-end.ensures, g.D.Device.sound.sizes.columns_even) in
    shown_more c.row-fuses.result.now t.pairs long
    (named t c.args.self.now) (product_of t c.args.self.now c.args.row) c.loop-pair.pair c.loop-pair.literals.items _ within c.loop-pair.invariant c.in_ok-push_pair.ensures

pub returns : goal.returns
returns g c =
    let t = g.D.Device.table in
    let long : length c.row-fuses.result.now ≡ 2 * length t.pairs = c.row-fuses.ensures.size ∙ g.D.Device.sound.sizes.columns_even in
    let past : length t.pairs ≤ c.loop-pair.pair = omega (arith, c.loop-pair-test.false, c.columns-pair-end.ensures, g.D.Device.sound.sizes.columns_even) in
    c.from_vec.ensures
    ∙ sym (shown_all c.row-fuses.result.now t.pairs long
    (named t c.args.self.now) (product_of t c.args.self.now c.args.row) c.loop-pair.pair c.loop-pair.literals.items past c.loop-pair.invariant)
