use Rattle.std.proofs.Common.{◌∙◌, arith}
use Rattle.demo_source.proofs.Outsides.{no_inputs, one_input_more}
use Rattle.demo_source.proofs.vectors.outside_of.Goals as goal

pub loop-index-init : goal.loop-index-init
loop-index-init c = c.with_level-levels.ensures ∙ no_inputs c.args.clock

pub loop-index-preserved : goal.loop-index-preserved
loop-index-preserved c =
    rw (c.with_level-levels-in-loop-index.ensures, c.loop-index.invariant)
    (one_input_more c.args.clock c.args.inputs.now c.loop-index.index (omega arith) c.requires)
