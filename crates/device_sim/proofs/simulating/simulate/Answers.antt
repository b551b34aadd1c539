use Rattle.std.proofs.Common.{length, sym, ◌∙◌, ap}
use Rattle.device_sim.proofs.Common.{length-map, chars_of}
use Rattle.std.proofs.lemmas.Result.{err_from_is_err_and}
use Rattle.jedec_reader.specs.Contents.{contents}
use Rattle.device_sim.proofs.Loaded.{is_device_run, only_device_run, none_unsupported, load_fault}
use Rattle.device_sim.proofs.simulating.simulate.Goals as goal

pub returns-in_err-logic-clause-refused : goal.returns-in_err-logic-clause-refused
returns-in_err-logic-clause-refused g c =
    let t = g.D.Device.table in
    let p = err_from_is_err_and c.from_residual.result c.from_residual.ensures.1 in
    let none = none_unsupported t c.pins.result c.as_slice-vectors.result.now c.args.file.now.vectors c.first_unsupported.result c.pins.ensures c.as_slice-vectors.ensures c.first_unsupported.ensures c.in_default.is in
    rw (p.1, p.2) (load_fault t (contents t c.args.file.now) c.in_err-logic.field-0.0 none c.in_err-logic.ensures.refused)

pub returns-clause-simulated : goal.returns-clause-simulated
returns-clause-simulated g c =
    let t = g.D.Device.table in
    record {
      can = record {
        supported = none_unsupported t c.pins.result c.as_slice-vectors.result.now c.args.file.now.vectors c.first_unsupported.result c.pins.ensures c.as_slice-vectors.ensures c.first_unsupported.ensures c.in_default.is;
        no_loop = c.in_ok-logic.ensures.no_loop;
        no_path = c.in_ok-logic.ensures.no_path;
      };
      vectors = ap length c.as_slice-vectors.ensures ∙ sym (length-map c.args.file.now.vectors (chars_of t));
      run = is_device_run t c.args.file.now.default_level c.args.file.now.vectors g.D.Device.sound.sizes.pins_high c.args.file.now.fuses c.in_ok-logic.logic.fuses c.in_ok-logic.logic.order c.pins-2.result c.as_slice-vectors.result.now
          c.in_ok-list.list.items c.from_vec.result c.in_ok-logic.ensures.fuses c.pins-2.ensures c.as_slice-vectors.ensures c.in_ok-logic.ensures.ordered c.in_ok-list.ensures c.from_vec.ensures;
    }

pub returns-clause-only : goal.returns-clause-only
returns-clause-only g c other other_is =
    let t = g.D.Device.table in
    only_device_run t c.args.file.now.default_level c.args.file.now.vectors g.D.Device.sound.sizes.pins_high c.args.file.now.fuses c.in_ok-logic.ensures.determined.runs c.from_vec.result other
    (is_device_run t c.args.file.now.default_level c.args.file.now.vectors g.D.Device.sound.sizes.pins_high c.args.file.now.fuses c.in_ok-logic.logic.fuses c.in_ok-logic.logic.order c.pins-2.result c.as_slice-vectors.result.now
    c.in_ok-list.list.items c.from_vec.result c.in_ok-logic.ensures.fuses c.pins-2.ensures c.as_slice-vectors.ensures c.in_ok-logic.ensures.ordered c.in_ok-list.ensures c.from_vec.ensures)
    other_is
