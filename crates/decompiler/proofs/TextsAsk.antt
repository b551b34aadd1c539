-- The text of fuses asks for the model that each of their sources asks for; of a device without modes, for that device.
use Rattle.std.proofs.Common.{◌≡◌, ℕ, Bool, false, Option, Some, None, List, is_some, refl, sym, ap, subst, ◌∙◌, option_map}
use Rattle.decompiler.proofs.Common.{DeviceName, Model, ModuleTree, IsSourceTree, decompiled_text, source_of, model_sound, table_at, AsksForItself}
use Rattle.pld_base.specs.Models.{has_modes, plain_model, top_cell}
use Rattle.abel_meaning.specs.Models.{chip_names, model_at, model_of}
use Rattle.abel_compile.proofs.NeverRefused.{spelled}
use Rattle.module_reader.proofs.Fates.{one_module}
use Rattle.devices.specs.DeviceLaws.{table_has_name}
use Rattle.decompiler.specs.Compiling.{PlainTextsAskForThemselves}
use Rattle.decompiler.proofs.ReadTexts.{read_as_source}
use Rattle.decompiler.proofs.RightSources.{named_source}

no_top : (top : Option ℕ) → is_some top ≡ false → top ≡ None
no_top None is = refl
no_top (Some pin) is = absurd cc

plain_is : (m : ModuleTree) (device : DeviceName) → has_modes device ≡ false → model_of m device ≡ plain_model device
plain_is m device none = ap (λ top. model_at device top (chip_names m) m.sections) (no_top (top_cell device) none)

-- a text asks for a model if each source of its fuses does
pub asks_by : (model : Model) (fuses : List Bool) → (table_at model).name ≡ model.name
    → ((m : ModuleTree) → IsSourceTree (source_of (table_at model) fuses) m → model_of m model.name ≡ model) → AsksForItself model fuses
asks_by model fuses named each m spells =
    let t = table_at model in
    let text = decompiled_text t fuses in
    let there = read_as_source t fuses (model_sound model) text refl in
    let same : m ≡ there.0 = one_module text m there.0 spells (spelled text there.0 there.2) in
    let tree : IsSourceTree (source_of t fuses) m = subst (IsSourceTree (source_of t fuses)) (sym same) there.1 in
    ap (option_map (model_of m)) (named_source t fuses m tree ∙ ap (λ (d : DeviceName). Some d) named) ∙ ap (λ (x : Model). Some x) (each m tree)

pub plain_asks : PlainTextsAskForThemselves
plain_asks device fuses none = asks_by (plain_model device) fuses (table_has_name device) (λ m tree. plain_is m device none)
