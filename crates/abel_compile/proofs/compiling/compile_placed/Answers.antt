-- A refusal of the fit is handed on; a fit is that of the module.
use Rattle.std.proofs.Common.{IfErr}
use Rattle.abel_compile.proofs.Common.{err_from_is_err_and, entries_of, view_module, IsRefusedFor, by_fit}
use Rattle.abel_compile.proofs.CompiledModules.{compiled_on}
use Rattle.compile_phases.proofs.Handed.{handed}
use Rattle.abel_compile.proofs.compiling.compile_placed.Goals as goal

pub returns-in_err-fitted-clause-err : goal.returns-in_err-fitted-clause-err
returns-in_err-fitted-clause-err g c =
    handed (λ r. IfErr r (IsRefusedFor g.D.Device.table (view_module c.args.placed.now.module))) c.from_residual-in_err-fitted.result _
    (err_from_is_err_and c.from_residual-in_err-fitted.result c.from_residual-in_err-fitted.ensures.1)
    (by_fit g.D.Device.table (view_module c.args.placed.now.module) (entries_of c.args.placed.now.names) c.in_ok-net.net _ c.requires.names.entries c.in_ok-net.ensures.ok c.in_err-fitted.ensures.err)

pub returns-clause-ok : goal.returns-clause-ok
returns-clause-ok g c =
    let m = view_module c.args.placed.now.module in
    compiled_on g.D.Device.table (entries_of c.args.placed.now.declared) c.args.placed.now.model m c.in_ok-net.net c.in_ok-fitted.fitted c.in_ok-compiled.compiled
    c.in_ok-net.ensures.ok c.in_ok-fitted.ensures.ok
    (c.fits_are_right.ensures g.D.Device.table m c.in_ok-net.net c.in_ok-fitted.fitted g.D.Device.sound
    c.in_ok-net.ensures.takeable c.in_ok-net.ensures.ok c.in_ok-fitted.ensures.ok)
    c.in_ok-compiled.ensures.device c.in_ok-compiled.ensures.told
