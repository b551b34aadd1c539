-- The names are for the mode that the module asks for, and so are their refusals.
use Rattle.std.proofs.Common.{◌≡◌, Some, List, map, sym, ap, ◌∙◌, subst, IfErr}
use Rattle.std.proofs.lemmas.Result.{err_from_is_err_and}
use Rattle.compile_phases.proofs.Common.{view_module, entries_of, first_refusal, name_order, first_name_refusal, ModuleTree, IsNameFault, IsOfSource, CompileFault}
use Rattle.abel_meaning.specs.Models.{model_for, model_of}
use Rattle.abel_tree.specs.Entries.{view_declared}
use Rattle.abel_tree.specs.declared.names.Declared.{Declared}
use Rattle.abel_tree.specs.declared.names.Names.{Names}
use Rattle.abel_tree.specs.declared.sections.Module.{Module}
use Rattle.decls.specs.Alike.{NamesAreRefusedAlike}
use Rattle.decls.specs.declared.fault.NameFault.{NameFault}
use Rattle.devices.specs.Devices.{table_of}
use Rattle.devices.specs.Models.{table_at}
use Rattle.pld_base.specs.declared.device_name.DeviceName.{DeviceName}
use Rattle.pld_base.specs.declared.model.Model.{Model}
use Rattle.compile_phases.specs.Phases.{AreDeclaredBy}
use Rattle.compile_phases.proofs.Handed.{handed}
use Rattle.compile_phases.proofs.ModesAlike.{asked_alike, asked_names, model_is}
use Rattle.compile_phases.proofs.NameFaults.{weaker}
use Rattle.compile_phases.proofs.modelling.modelled_of.Goals as goal

-- a name is refused of the module for the device in its mode, or for the device's name
abbrev IsItsFault : ModuleTree → DeviceName → CompileFault → Type 0
IsItsFault m name = IsOfSource (IsNameFault (λ f. first_name_refusal (table_at (model_of m name)) m ≡ Some f))

abbrev IsNamesFault : ModuleTree → DeviceName → CompileFault → Type 0
IsNamesFault m name = IsOfSource (IsNameFault (λ f. first_name_refusal (table_of name) m ≡ Some f))

for_its_mode : NamesAreRefusedAlike → (m : ModuleTree) (name : DeviceName) (f : NameFault) → first_name_refusal (table_of name) m ≡ Some f
    → first_name_refusal (table_at (model_of m name)) m ≡ Some f
for_its_mode law m name f is = sym (ap (first_refusal name_order) (law (table_of name) (table_at (model_of m name)) m (asked_alike m name))) ∙ is

-- of the module whose parts these are
of_module : (name : DeviceName) (parts source : Module) (e : CompileFault) → parts ≡ source → IsNamesFault (view_module parts) name e → IsNamesFault (view_module source) name e
of_module name parts source e same = subst (λ (x : Module). IsNamesFault (view_module x) name e) same

pub returns-in_err-source-clause-err : goal.returns-in_err-source-clause-err
returns-in_err-source-clause-err c =
    let m = view_module c.args.module.now in
    handed (λ r. IfErr r (IsItsFault m c.args.name)) c.from_residual.result _ (err_from_is_err_and c.from_residual.result c.from_residual.ensures.1)
    (subst (IsItsFault m c.args.name) (sym c.in_err-source.ensures.err) tt)

pub returns-in_err-names-clause-err : goal.returns-in_err-names-clause-err
returns-in_err-names-clause-err c =
    let m = view_module c.args.module.now in
    let name = c.args.name in
    handed (λ r. IfErr r (IsItsFault m name)) c.from_residual-in_err-names.result _
    (err_from_is_err_and c.from_residual-in_err-names.result c.from_residual-in_err-names.ensures.1)
    (weaker (λ f. first_name_refusal (table_of name) m ≡ Some f) (λ f. first_name_refusal (table_at (model_of m name)) m ≡ Some f)
    (for_its_mode c.names_are_refused_alike.ensures m name) _
    (of_module name c.in_ok-source.source c.args.module.now _ c.in_ok-source.ensures.ok c.in_err-names.ensures.err))

pub returns-clause-ok : goal.returns-clause-ok
returns-clause-ok c =
    let m = view_module c.args.module.now in
    let name = c.args.name in
    let n : Names = c.in_ok-names.names in
    let own : AreDeclaredBy (table_of name) m n = subst (λ (x : Module). AreDeclaredBy (table_of name) (view_module x) n) c.in_ok-source.ensures.ok c.in_ok-names.ensures.ok in
    let law = c.names_are_refused_alike.ensures (table_of name) (table_at (model_of m name)) m (asked_alike m name) in
    let here : AreDeclaredBy (table_at (model_of m name)) m n = record { entries = own.entries ∙ asked_names m name; accepted = sym law ∙ own.accepted } in
    let model : c.in_ok-model.model ≡ model_of m name =
    c.in_ok-model.ensures
    ∙ (ap (λ (xs : List Declared). model_for name (map view_declared xs) (view_module c.in_ok-source.source).sections) c.as_slice.ensures
    ∙ (ap (λ (x : Module). model_for name (entries_of n) (view_module x).sections) c.in_ok-source.ensures.ok ∙ model_is m name (entries_of n) own.entries)) in
    record { model = model; names = subst (λ (x : Model). AreDeclaredBy (table_at x) m n) (sym model) here }
