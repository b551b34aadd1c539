-- A pin, and a node.
use Rattle.std.proofs.Common.{length, refl, take, ap}
use Rattle.expr_bits.proofs.Common.{entries_of, view_declared, view_meaning, known_of, term_meant, context_for}
use Rattle.expr_bits.proofs.RowLaws.{name_here, signal_row}
use Rattle.expr_bits.proofs.keeping.row_of.Goals as goal

pub returns-in-Pin : goal.returns-in-Pin
returns-in-Pin g c =
    let t = g.D.Device.table in
    let n = c.args.scope.now in
    let k = length c.args.rows.now in
    let x = view_declared c.args.declared.now in
    signal_row t n k x c.of.result c.signal_reads.result c.requires.here (ap (λ m. term_meant (known_of (take k (entries_of n))) k (view_meaning m)) c.in-Pin.is) c.of.ensures
    (c.signal_reads.ensures (context_for t n) k refl (name_here t n k x c.requires.here))

pub returns-in-Node : goal.returns-in-Node
returns-in-Node g c =
    let t = g.D.Device.table in
    let n = c.args.scope.now in
    let k = length c.args.rows.now in
    let x = view_declared c.args.declared.now in
    signal_row t n k x c.of-in-Node.result c.signal_reads-in-Node.result c.requires.here (ap (λ m. term_meant (known_of (take k (entries_of n))) k (view_meaning m)) c.in-Node.is) c.of-in-Node.ensures
    (c.signal_reads-in-Node.ensures (context_for t n) k refl (name_here t n k x c.requires.here))
