-- What is said of the placed module is said of its source.
use Rattle.std.proofs.Common.{sym, subst, IfErr, IfOk}
use Rattle.abel_compile.proofs.Common.{err_from_is_err_and, IsPlainName, Word, view_module, HasNumberedNames, IsPlacedModule, IsRefusedBy, by_placing, placed_name, IsCompiledOn}
use Rattle.abel_tree.specs.declared.sections.Module.{Module}
use Rattle.compile_phases.proofs.Handed.{handed}
use Rattle.abel_compile.proofs.PlacedModules.{compiled_placed, refused_placed}
use Rattle.abel_compile.proofs.compiling.compile_module.Goals as goal

pub returns-in_err-module-clause-err : goal.returns-in_err-module-clause-err
returns-in_err-module-clause-err g c =
    handed (λ r. IfErr r (IsRefusedBy g.D.Device.table (view_module c.args.source))) c.from_residual.result _
    (err_from_is_err_and c.from_residual.result c.from_residual.ensures.1)
    (by_placing g.D.Device.table (view_module c.args.source) _ c.in_err-module.ensures.err)

-- only memory can be out after that
pub returns-in_err-parts-clause-err : goal.returns-in_err-parts-clause-err
returns-in_err-parts-clause-err g c =
    handed (λ r. IfErr r (IsRefusedBy g.D.Device.table (view_module c.args.source))) c.from_residual-in_err-parts.result _
    (err_from_is_err_and c.from_residual-in_err-parts.result c.from_residual-in_err-parts.ensures.1)
    (subst (IsRefusedBy g.D.Device.table (view_module c.args.source)) (sym c.in_err-parts.ensures.err) tt)

pub returns-in_err-names-clause-err : goal.returns-in_err-names-clause-err
returns-in_err-names-clause-err g c =
    handed (λ r. IfErr r (IsRefusedBy g.D.Device.table (view_module c.args.source))) c.from_residual-in_err-names.result _
    (err_from_is_err_and c.from_residual-in_err-names.result c.from_residual-in_err-names.ensures.1)
    (subst (IsRefusedBy g.D.Device.table (view_module c.args.source)) (sym c.in_err-names.ensures.err) tt)

pub compile_placed-requires-clause-name : goal.compile_placed-requires-clause-name
compile_placed-requires-clause-name g c =
    subst (λ (m : Module). IsPlainName (view_module m).name.text) (sym c.in_ok-parts.ensures.ok)
    (subst (λ (w : Word). IsPlainName w.text) (sym (placed_name g.D.Device.table (view_module c.args.source) (view_module c.in_ok-module.module) c.in_ok-module.ensures.ok)) c.requires.plain)

pub returns-clause-ok : goal.returns-clause-ok
returns-clause-ok g c =
    let t = g.D.Device.table in
    let is = subst (λ m. IsPlacedModule t (view_module c.args.source) (view_module m)) (sym c.in_ok-parts.ensures.ok) c.in_ok-module.ensures.ok in
    compiled_placed t c.args.model (view_module c.args.source) (view_module c.in_ok-parts.parts) c.compile_placed.result is
    (subst (λ es. IfOk c.compile_placed.result (λ r. IsCompiledOn t es c.args.model (view_module c.in_ok-parts.parts) r)) c.requires.names.entries c.compile_placed.ensures.ok)

pub returns-clause-err : goal.returns-clause-err
returns-clause-err g c =
    let t = g.D.Device.table in
    let is = subst (λ m. IsPlacedModule t (view_module c.args.source) (view_module m)) (sym c.in_ok-parts.ensures.ok) c.in_ok-module.ensures.ok in
    let numbered = subst (λ m. HasNumberedNames t (view_module m)) (sym c.in_ok-parts.ensures.ok) c.in_ok-module.ensures.numbered in
    refused_placed t (view_module c.args.source) (view_module c.in_ok-parts.parts) c.compile_placed.result is numbered c.compile_placed.ensures.err
