-- The answer for the module is one for its text, and so is it if the text, or its device, is refused.
use Rattle.std.proofs.Common.{Some, sym, ap, ◌∙◌, option_map}
use Rattle.abel_compile.proofs.Common.{err_from_is_err_and, view_module, Model, model_of, table_at, by_declared, CompileAnswers, IsNeverRefused}
use Rattle.abel_compile.proofs.Compiles.{HasRightFile, of_text, of_device, of_refused, answers_of, file_is_right}
use Rattle.abel_compile.proofs.NeverRefused.{never_text, never_device, never_on}
use Rattle.compile_phases.proofs.Handed.{handed}
use Rattle.devices.specs.Models.{model_sound}
use Rattle.abel_compile.proofs.compiling.compile.Goals as goal

pub returns-in_err-module : goal.returns-in_err-module
returns-in_err-module c = record {
  right = handed (HasRightFile c.args.bytes.now) c.from_residual.result _ (err_from_is_err_and c.from_residual.result c.from_residual.ensures.1) tt;
  answers =
      handed (CompileAnswers c.args.bytes.now) c.from_residual.result _
      (err_from_is_err_and c.from_residual.result c.from_residual.ensures.1)
      (of_text c.args.bytes.now _ c.in_err-module.ensures.err);
  complete =
      handed (IsNeverRefused c.args.bytes.now) c.from_residual.result _
      (err_from_is_err_and c.from_residual.result c.from_residual.ensures.1)
      (never_text c.args.bytes.now _ c.in_err-module.ensures.err);
}

pub returns-in_err-device : goal.returns-in_err-device
returns-in_err-device c = record {
  right = handed (HasRightFile c.args.bytes.now) c.from_residual-in_err-device.result _ (err_from_is_err_and c.from_residual-in_err-device.result c.from_residual-in_err-device.ensures.1) tt;
  answers =
      handed (CompileAnswers c.args.bytes.now) c.from_residual-in_err-device.result _
      (err_from_is_err_and c.from_residual-in_err-device.result c.from_residual-in_err-device.ensures.1)
      (of_device c.args.bytes.now (view_module c.in_ok-module.module) _ c.in_ok-module.ensures.ok.read c.in_err-device.ensures.err);
  complete =
      handed (IsNeverRefused c.args.bytes.now) c.from_residual-in_err-device.result _
      (err_from_is_err_and c.from_residual-in_err-device.result c.from_residual-in_err-device.ensures.1)
      (never_device c.args.bytes.now (view_module c.in_ok-module.module) _ c.in_ok-module.ensures.ok c.in_err-device.ensures.err);
}

-- its names are refused for the model that it asks for
pub returns-in_err-modelled : goal.returns-in_err-modelled
returns-in_err-modelled c =
    let text = c.args.bytes.now in
    let m = view_module c.in_ok-module.module in
    let model = model_of m c.in_ok-device.device in
    let named = ap (option_map (model_of m)) c.in_ok-device.ensures.ok in
    let refused = by_declared (table_at model) m _ c.in_err-modelled.ensures.err in
    record {
      right = handed (HasRightFile text) c.from_residual-in_err-modelled.result _ (err_from_is_err_and c.from_residual-in_err-modelled.result c.from_residual-in_err-modelled.ensures.1) tt;
      answers =
          handed (CompileAnswers text) c.from_residual-in_err-modelled.result _
          (err_from_is_err_and c.from_residual-in_err-modelled.result c.from_residual-in_err-modelled.ensures.1)
          (of_refused text m model c.in_ok-module.ensures.ok.read named _ refused);
      complete =
          handed (IsNeverRefused text) c.from_residual-in_err-modelled.result _
          (err_from_is_err_and c.from_residual-in_err-modelled.result c.from_residual-in_err-modelled.ensures.1)
          (never_on text m model _ (model_sound model) c.in_ok-module.ensures.ok named refused);
    }

pub compile_for-requires-clause-plain : goal.compile_for-requires-clause-plain
compile_for-requires-clause-plain c = c.read_names_are_plain.ensures c.args.bytes.now (view_module c.in_ok-module.module) c.in_ok-module.ensures.ok.read

pub compile_for-requires-clause-names : goal.compile_for-requires-clause-names
compile_for-requires-clause-names c = c.in_ok-modelled.ensures.ok.names

pub returns : goal.returns
returns c =
    let text = c.args.bytes.now in
    let m = view_module c.in_ok-module.module in
    let model = c.in_ok-modelled.modelled.model in
    let named = ap (option_map (model_of m)) c.in_ok-device.ensures.ok ∙ ap (λ (x : Model). Some x) (sym c.in_ok-modelled.ensures.ok.model) in
    let answers = answers_of text m model c.compile_for.result c.in_ok-module.ensures.ok named c.compile_for.ensures.ok c.compile_for.ensures.err in
    record {
      right = file_is_right text c.compile_for.result answers;
      answers = answers;
      complete = never_on text m model c.compile_for.result (model_sound model) c.in_ok-module.ensures.ok named c.compile_for.ensures.err;
    }
