use Rattle.std.proofs.Common.{Some, option_map, sym, ap, ◌∙◌}
use Rattle.device_sim.proofs.Common.{Levels, levels_of}
use Rattle.device_sim.proofs.PowerUp.{comes_to_rest}
use Rattle.device_sim.proofs.WithoutRegisters.{vector_is_rest}
use Rattle.device_sim.proofs.running.point_of.Goals as goal

pub returns-else-stores : goal.returns-else-stores
returns-else-stores g c =
    let m = g.L.Logic.meaning c.args.logic.now in
    let rests = comes_to_rest m c.requires.ordered c.outside_of.result c.rest.result c.rest.ensures in
    vector_is_rest m (sym c.requires.stores ∙ c.if-stores.false) (option_map levels_of c.args.before) c.args.default c.args.chars.now
    ∙ sym (ap (λ (p : Levels). Some p) (rw c.outside_of.ensures at rests))
