use Rattle.cover_rows.proofs.formulas.literal.Goals as goal

pub add-requires : goal.add-requires
add-requires c = c.node_of.ensures _
