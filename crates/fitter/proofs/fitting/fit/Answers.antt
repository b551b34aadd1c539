use Rattle.std.proofs.Common.{List, Option, Err, length, subst}
use Rattle.fitter.proofs.Common.{err_from_is_err_and, plain_netlist, CellCovers, FitAnswers, AreSingle, SingleBelow}
use Rattle.fitter.proofs.Answering.{fit_of}
use Rattle.fitter.proofs.Stops.{cover_stops, enable_stops, handed, plan_stops, shared_stops}
use Rattle.fitter.proofs.CoversInTurn.{none_wide}
use Rattle.fitter.proofs.fitting.fit.Goals as goal

pub returns-in_err-covers-clause-answer : goal.returns-in_err-covers-clause-answer
returns-in_err-covers-clause-answer g c =
    handed (FitAnswers g.D.Device.table c.args.net.now) c.from_residual-in_err-covers.result _ (err_from_is_err_and c.from_residual-in_err-covers.result c.from_residual-in_err-covers.ensures.1)
    (cover_stops g.D.Device.table c.turn_mask.result c.args.net.now _ c.in_err-covers.ensures.covered)

pub shared_rows-requires-clause-wide : goal.shared_rows-requires-clause-wide
shared_rows-requires-clause-wide g c = none_wide g.D.Device.table c.turn_mask.result c.args.net.now c.requires.sound c.in_ok-covers.covers.items c.in_ok-covers.ensures.covered

pub returns-in_err-shared-clause-answer : goal.returns-in_err-shared-clause-answer
returns-in_err-shared-clause-answer g c =
    handed (FitAnswers g.D.Device.table c.args.net.now) c.from_residual-in_err-shared.result _ (err_from_is_err_and c.from_residual-in_err-shared.result c.from_residual-in_err-shared.ensures.1)
    (shared_stops g.D.Device.table g.D.Device.sound c.args.net.now c.requires.sound c.turn_mask.result c.turn_mask.ensures c.in_ok-covers.covers.items c.in_ok-covers.ensures.covered _
    c.in_err-shared.ensures)

pub returns-in_err-check_enables-clause-answer : goal.returns-in_err-check_enables-clause-answer
returns-in_err-check_enables-clause-answer g c =
    handed (FitAnswers g.D.Device.table c.args.net.now) c.from_residual-in_err-check_enables.result _
    (err_from_is_err_and c.from_residual-in_err-check_enables.result c.from_residual-in_err-check_enables.ensures.1)
    (enable_stops g.D.Device.table g.D.Device.sound c.args.net.now c.requires.sound c.turn_mask.result c.turn_mask.ensures c.in_ok-covers.covers.items c.in_ok-covers.ensures.covered
    c.in_ok-shared.shared c.in_ok-shared.ensures.0 c.in_ok-shared.ensures.1 _
    (subst (λ (xs : List (Option CellCovers)). AreSingle xs (Err c.in_err-check_enables.field-0.0)) c.deref.ensures.value c.in_err-check_enables.ensures))

pub returns-in_err-rows-clause-answer : goal.returns-in_err-rows-clause-answer
returns-in_err-rows-clause-answer g c =
    handed (FitAnswers g.D.Device.table c.args.net.now) c.from_residual-in_err-rows.result _ (err_from_is_err_and c.from_residual-in_err-rows.result c.from_residual-in_err-rows.ensures.1)
    (plan_stops g.D.Device.table g.D.Device.sound c.args.net.now c.requires.sound c.turn_mask.result c.turn_mask.ensures c.in_ok-covers.covers.items c.in_ok-covers.ensures.covered
    c.in_ok-shared.shared c.in_ok-shared.ensures.0 c.in_ok-shared.ensures.1 _
    (subst (λ (xs : List (Option CellCovers)). SingleBelow xs (length xs)) c.deref.ensures.value c.in_ok-check_enables.ensures) c.in_err-rows.ensures)

pub returns-clause-answer : goal.returns-clause-answer
returns-clause-answer g c =
    fit_of g.D.Device.table g.D.Device.sound c.args.net.now c.requires.sound c.turn_mask.result c.turn_mask.ensures c.in_ok-covers.covers.items c.in_ok-shared.shared
    c.in_ok-covers.ensures.covered c.in_ok-shared.ensures.0 c.in_ok-shared.ensures.1
    (subst (SingleBelow c.in_ok-covers.covers.items) c.in_ok-covers.ensures.covered.count
    (subst (λ (xs : List (Option CellCovers)). SingleBelow xs (length xs)) c.deref.ensures.value c.in_ok-check_enables.ensures)) c.in_ok-rows.rows c.in_ok-rows.ensures c.in_ok-fitted.fitted
    c.in_ok-fitted.ensures

pub returns-clause-does : goal.returns-clause-does
returns-clause-does g c =
    let fit =
    fit_of g.D.Device.table g.D.Device.sound c.args.net.now c.requires.sound c.turn_mask.result c.turn_mask.ensures c.in_ok-covers.covers.items c.in_ok-shared.shared
    c.in_ok-covers.ensures.covered c.in_ok-shared.ensures.0 c.in_ok-shared.ensures.1
    (subst (SingleBelow c.in_ok-covers.covers.items) c.in_ok-covers.ensures.covered.count
    (subst (λ (xs : List (Option CellCovers)). SingleBelow xs (length xs)) c.deref.ensures.value c.in_ok-check_enables.ensures)) c.in_ok-rows.rows c.in_ok-rows.ensures c.in_ok-fitted.fitted
    c.in_ok-fitted.ensures in
    c.fitted_runs.ensures.chosen g.D.Device.table (plain_netlist c.args.net.now) c.in_ok-fitted.fitted.fuses g.D.Device.sound c.requires.sound.sound fit.fits
