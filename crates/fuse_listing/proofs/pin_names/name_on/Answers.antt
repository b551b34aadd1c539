use Rattle.std.proofs.Common.{◌≡◌, ◌∙◌, sym, false, true}
use Rattle.fuse_listing.proofs.Common.{view_declared, is_on_pin}
use Rattle.fuse_listing.proofs.Joined.{next_name, found_name, no_name_left}
use Rattle.fuse_listing.proofs.pin_names.name_on.Goals as goal

pub loop-declared-preserved : goal.loop-declared-preserved
loop-declared-preserved c =
    let fails : is_on_pin c.args.pin (view_declared c.declared-item.result).kind ≡ false = sym c.is_on_pin.ensures ∙ c.if-is_on_pin.false in
    sym (next_name c.args.pin c.as_slice-declared-items.result.now c.args.names.now.list c.as_slice-declared-items.ensures c.loop-declared.declared-index c.declared-item.result c.loop-declared-test.true c.declared-item.is fails)
    ∙ c.loop-declared.invariant

pub returns-then-is_on_pin : goal.returns-then-is_on_pin
returns-then-is_on_pin c =
    let passes : is_on_pin c.args.pin (view_declared c.declared-item.result).kind ≡ true = sym c.is_on_pin.ensures ∙ c.if-is_on_pin.true in
    sym (found_name c.args.pin c.as_slice-declared-items.result.now c.args.names.now.list c.as_slice-declared-items.ensures c.loop-declared.declared-index c.declared-item.result c.loop-declared-test.true c.declared-item.is passes)
    ∙ c.loop-declared.invariant

pub returns : goal.returns
returns c =
    sym (no_name_left c.args.pin c.as_slice-declared-items.result.now c.args.names.now.list c.loop-declared.declared-index c.as_slice-declared-items.ensures c.loop-declared-test.false)
    ∙ c.loop-declared.invariant
