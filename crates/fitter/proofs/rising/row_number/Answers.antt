use Rattle.std.proofs.Common.{◌≤◌, arith}
use Rattle.fitter.proofs.RowNumbers.{digit_low, number_first, number_fits, number_low, number_more}
use Rattle.fitter.proofs.rising.row_number.Goals as goal

pub loop-column-init : goal.loop-column-init
loop-column-init c = record { low = omega arith; is = number_first c.args.cube }

pub overflow_mul-number : goal.overflow_mul-number
overflow_mul-number c =
    let fits = number_fits c.loop-column.column c.loop-column.number (omega (arith, c.loop-column-test.true, c.requires)) c.loop-column.invariant.low in
    omega (arith, fits)

pub overflow_add-number : goal.overflow_add-number
overflow_add-number c =
    let fits = number_fits c.loop-column.column c.loop-column.number (omega (arith, c.loop-column-test.true, c.requires)) c.loop-column.invariant.low in
    let one : c.fuse_digit-digit.result ≤ 1 = rw c.fuse_digit-digit.ensures (digit_low _) in
    omega (arith, fits, one)

pub loop-column-preserved : goal.loop-column-preserved
loop-column-preserved c =
    let one : c.fuse_digit-digit.result ≤ 1 = rw c.fuse_digit-digit.ensures (digit_low _) in
    record {
      low = number_low c.loop-column.column c.loop-column.number c.fuse_digit-digit.result c.loop-column.invariant.low one;
      is = number_more c.loop-column.column c.loop-column.number c.fuse_digit-digit.result c.args.cube c.loop-column.invariant.is c.fuse_digit-digit.ensures;
    }
