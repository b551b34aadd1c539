-- Bits that are made here.
use Rattle.std.proofs.Common.{[], ◌∷◌, sym, subst}
use Rattle.truth_tables.proofs.Common.{BuildsNodes, part, nodes_left}
use Rattle.truth_tables.proofs.rows.inputs_of.Goals as goal

pub returns-in-None-clause-builds : goal.returns-in-None-clause-builds
returns-in-None-clause-builds g c =
    subst (λ m. BuildsNodes (part c.args.unit (nodes_left g.D.Device.table c.args.headed.now m) ∷ []) c.args.exprs.now c.header_bits.new.exprs c.header_bits.result) (sym c.in-None.is) c.header_bits.ensures.builds
