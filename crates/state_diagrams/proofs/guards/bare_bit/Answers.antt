-- The answer of reading a signal, as a part of a unit.
use Rattle.state_diagrams.proofs.Common.{context_for, same_context, bare_read}
use Rattle.state_diagrams.proofs.StateBits.{bit_made, bit_past, no_memory}
use Rattle.state_diagrams.proofs.guards.bare_bit.Goals as goal

pub returns-in-Ok : goal.returns-in-Ok
returns-in-Ok g c =
    let t = g.D.Device.table in
    let n = c.args.scope.now in
    let d = context_for t n in
    bit_made c.args.unit _ _ c.in-Ok.id (bare_read d c.args.signal) (c.in-Ok.ensures d (same_context t c.scope.result.now n c.scope.ensures))

pub returns-in-Err-NodeLimit : goal.returns-in-Err-NodeLimit
returns-in-Err-NodeLimit g c =
    let t = g.D.Device.table in
    let n = c.args.scope.now in
    let d = context_for t n in
    let h = rw c.in-Err-NodeLimit.field-0-is at (c.in-Err-NodeLimit.ensures d (same_context t c.scope.result.now n c.scope.ensures)) in
    bit_past c.args.unit c.args.exprs.now c.read_signal.new.exprs (bare_read d c.args.signal) h.0 h.1

pub returns-in-Err-OutOfMemory : goal.returns-in-Err-OutOfMemory
returns-in-Err-OutOfMemory g c =
    let t = g.D.Device.table in
    let n = c.args.scope.now in
    let d = context_for t n in
    let h = rw c.in-Err-OutOfMemory.field-0-is at (c.in-Err-OutOfMemory.ensures d (same_context t c.scope.result.now n c.scope.ensures)) in
    no_memory c.args.unit c.args.exprs.now c.read_signal.new.exprs (bare_read d c.args.signal) h
