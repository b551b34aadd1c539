use Rattle.std.proofs.Common.{List, map, ap, ◌∙◌}
use Rattle.placer.proofs.Common.{IfOk-weaker, view_declared, Statement, view_module, module_given}
use Rattle.placer.proofs.pins.PlacedPins.rebuilt.Goals as goal

pub returns : goal.returns
returns c =
    IfOk-weaker c.placed_module.result _ _
    (λ m made has marks known. made known ∙ ap (λ (xs : List Statement). module_given (map view_declared c.args.names.now) c.args.self.now xs (view_module c.args.source)) (c.in_ok-released.ensures has marks))
    c.placed_module.ensures
