-- Two logics that allow no more than each other rest and run the same, so if one has exactly one rest or
-- run the other has it too.
use Rattle.pld_machine.proofs.Common.{Logic, Refines, RestsOnce, RunsOnce}
use Rattle.pld_machine.proofs.Refined.{rest_refines, run_refines}

module _ (d s : Logic) (down : Refines d s) (up : Refines s d) where
  -- the one rest of the second is that of the first
  pub same_rest : RestsOnce s → RestsOnce d
  same_rest once outside stored outside_wide stored_wide =
      let one = once outside stored outside_wide stored_wide in (
        one.0,
        record {
          at_rest = rest_refines s d up outside stored one.0 one.1.at_rest;
          only = λ other rests. one.1.only other (rest_refines d s down outside stored other rests);
        },
      )

  -- the one run of the second is that of the first
  pub same_run : RunsOnce s → RunsOnce d
  same_run once outsides some wide =
      let one = once outsides some wide in (
        one.0,
        record {
          runs = run_refines s d up outsides one.0 one.1.runs;
          only = λ others run. one.1.only others (run_refines d s down outsides others run);
        },
      )
