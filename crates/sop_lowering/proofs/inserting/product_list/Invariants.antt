use Rattle.std.proofs.Common.{◌≡◌, ◌≤◌, [], drop, vec_len, Some}
use Rattle.sop_lowering.proofs.Common.{insert_products}
use Rattle.sop_lowering.proofs.inserting.product_list.Given as goal

abbrev pub invariant-loop-cube : goal.invariant-loop-cube
invariant-loop-cube l = record {
  list : insert_products (Some l.rows.items) (drop l.cube-index l.first) l.second ≡ insert_products (Some []) l.first l.second;
  few : vec_len l.rows ≤ 1024;
}
