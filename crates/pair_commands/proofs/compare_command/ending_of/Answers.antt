-- The library's answer is reported.
use Rattle.std.proofs.Common.{◌≢◌, Ok, ap, sym, ◌∙◌, inl, inr}
use Rattle.std.proofs.lemmas.Bool.{true≢false}
use Rattle.device_logic.specs.declared.fault.SimFault.TheVariants.{OutOfMemory}
use Rattle.jedec_reader.specs.Contents.{contents}
use Rattle.pair_commands.specs.PairText.{same_line}
use Rattle.pair_commands.proofs.ComparedFiles.{told_different, told_refused, told_same}
use Rattle.pair_commands.proofs.compare_command.ending_of.Goals as goal

pub returns-in_ok-same_line-in-Ok-None : goal.returns-in_ok-same_line-in-Ok-None
returns-in_ok-same_line-in-Ok-None g c a b first second =
    let f = g.F.Device.table in
    let t = g.T.Device.table in
    inl (
      _,
      told_same f t a b (contents f c.args.first.now) (contents t c.args.second.now) first second _ c.in-Ok-None.ensures.loaded
          (rw c.in-Ok-None.field-0-is at c.in-Ok-None.ensures.found)
          (c.in-Ok-None.ensures.runs (ap (λ x. Ok x) c.in-Ok-None.field-0-is))
          (c.in_ok-same_line-in-Ok-None.ensures
          ∙ (ap (λ name. same_line name c.name-in-Ok-None.result) c.name.ensures
          ∙ ap (same_line f.name) c.name-in-Ok-None.ensures)),
      c.plain.ensures,
    )

pub returns-in_ok-differ_line-in-Ok-Some : goal.returns-in_ok-differ_line-in-Ok-Some
returns-in_ok-differ_line-in-Ok-Some g c a b first second =
    let f = g.F.Device.table in
    let t = g.T.Device.table in
    inr (inl (
      _,
      told_different f t a b (contents f c.args.first.now) (contents t c.args.second.now) first second _ c.in-Ok-Some.state c.in-Ok-Some.ensures.loaded
          (rw c.in-Ok-Some.field-0-is at c.in-Ok-Some.ensures.found)
          (rw c.in-Ok-Some.field-0-is at c.in-Ok-Some.ensures.plain)
          c.in_ok-differ_line-in-Ok-Some.ensures,
      c.plain-in-Ok-Some.ensures,
    ))

pub returns-in_ok-sim_fault_line-in-Err : goal.returns-in_ok-sim_fault_line-in-Err
returns-in_ok-sim_fault_line-in-Err g c a b first second =
    let f = g.F.Device.table in
    let t = g.T.Device.table in
    let some : c.in-Err.fault ≢ OutOfMemory = λ memory. true≢false (sym (c.in_ok-sim_fault_line-in-Err.ensures.memory memory)) in
    inr (inr (
      _,
      told_refused f t a b (contents f c.args.first.now) (contents t c.args.second.now) first second _ c.in-Err.fault c.in-Err.ensures.refused some
          c.in_ok-sim_fault_line-in-Err.ensures.line,
      c.plain-in-Err.ensures,
    ))
