use Rattle.std.proofs.Common.{◌==◌, sym, arith, eq-eqb}
use Rattle.jedec_reader.proofs.Common.{ne_eqb}
use Rattle.jedec_reader.proofs.Positions.{position_found, position_none}
use Rattle.jedec_reader.proofs.frame.place_of.Goals as goal

pub returns-then-other-byte-clause-place : goal.returns-then-other-byte-clause-place
returns-then-other-byte-clause-place c =
    sym (position_found (λ other. other == c.args.byte) c.args.bytes.now c.loop-place.place 0 c.loop-place-test.true (eq-eqb _ _ c.if-other-byte.true) (λ k low. ne_eqb _ _ (c.loop-place.invariant k low)))

pub returns-clause-place : goal.returns-clause-place
returns-clause-place c =
    sym (position_none (λ other. other == c.args.byte) c.args.bytes.now 0 (λ k low. ne_eqb _ _ (c.loop-place.invariant k (omega (arith, c.loop-place-test.false)))))
