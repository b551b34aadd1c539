-- The steps of the module, from no name on, and what they are.
use Rattle.std.proofs.Common.{◌≡◌, Bool, true, false, not, refl, ap, ◌∙◌}
use Rattle.decls.proofs.Common.{first_refusal, view_module, name_order, module_steps}
use Rattle.decls.proofs.DeclarationsGo.{module_go}
use Rattle.decls.proofs.LeftOut.{all_names, whole_names}
use Rattle.decls.proofs.walk.names_read.Goals as goal

not_lost : (b : Bool) → not b ≡ true → b ≡ false
not_lost true h = absurd cc
not_lost false h = refl

pub returns-then-not-pass-clause-steps : goal.returns-then-not-pass-clause-steps
returns-then-not-pass-clause-steps g c = λ h.
    let t = g.D.Device.table in
    whole_names t c.args.wait c.in_ok-pass.pass (module_steps t (view_module c.args.source.now)) c.in_ok-pass.ensures (not_lost c.in_ok-pass.pass.lost c.if-not-pass.true) h

pub returns-then-not-pass-clause-fault : goal.returns-then-not-pass-clause-fault
returns-then-not-pass-clause-fault g c =
    let t = g.D.Device.table in
    c.in_ok-pass.ensures.first (not_lost c.in_ok-pass.pass.lost c.if-not-pass.true) ∙ ap (first_refusal name_order) (module_go t (view_module c.args.source.now)).faults

pub returns-clause-steps : goal.returns-clause-steps
returns-clause-steps g c = λ h.
    let t = g.D.Device.table in
    all_names t c.in_ok-pass-2.pass (module_steps t (view_module c.args.source.now)) c.in_ok-pass-2.ensures

pub returns-clause-fault : goal.returns-clause-fault
returns-clause-fault g c =
    let t = g.D.Device.table in
    let m = view_module c.args.source.now in
    (all_names t c.in_ok-pass-2.pass (module_steps t m) c.in_ok-pass-2.ensures).first ∙ ap (first_refusal name_order) (module_go t m).faults
