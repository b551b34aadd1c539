-- A refusal of reading is reported.
use Rattle.compile_phases.proofs.phases.module_of.Goals as goal

pub returns-in-Err-clause-err : goal.returns-in-Err-clause-err
returns-in-Err-clause-err c = c.unread.ensures c.args.text.now c.in-Err.ensures.refused
