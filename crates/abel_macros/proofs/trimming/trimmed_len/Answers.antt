-- The last byte is a blank, and is left out, or none.
use Rattle.std.proofs.Common.{◌-◌, length, sym, ◌∙◌, arith, length-take}
use Rattle.abel_macros.proofs.Trims.{dark_last, blank_last, one_fewer}
use Rattle.abel_macros.proofs.trimming.trimmed_len.Goals as goal

pub returns-then-not-is_blank-clause-value : goal.returns-then-not-is_blank-clause-value
returns-then-not-is_blank-clause-value c =
    c.bytes.invariant.front ∙ sym (dark_last c.bytes.left.now (omega arith) (sym c.if-not-is_blank.ensures)) ∙ c.bytes.invariant.same

pub bytes-preserved : goal.bytes-preserved
bytes-preserved c =
    record {
      front = one_fewer c.bytes.left.now _ (omega arith) c.bytes.invariant.front;
      same = blank_last c.bytes.left.now (omega arith) (sym c.if-not-is_blank.ensures) ∙ c.bytes.invariant.same;
      within = omega (arith, c.bytes.invariant.within, length-take (length c.bytes.left.now - 1) c.bytes.left.now);
    }
