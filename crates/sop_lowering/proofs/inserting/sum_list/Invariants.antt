use Rattle.std.proofs.Common.{◌≡◌, ◌≤◌, drop, vec_len, Some}
use Rattle.sop_lowering.proofs.Common.{insert_all}
use Rattle.sop_lowering.proofs.inserting.sum_list.Given as goal

abbrev pub invariant-loop-cube : goal.invariant-loop-cube
invariant-loop-cube l = record {
  list : insert_all (Some l.rows.items) (drop l.cube-index l.second) ≡ insert_all (Some l.fn.first.items) l.second;
  few : vec_len l.fn.first ≤ 1024 → vec_len l.rows ≤ 1024;
}
