-- A brace begins or closes a block; another byte leaves open what is open.
use Rattle.std.proofs.Common.{sym}
use Rattle.text_pieces.proofs.BlockSteps.{hidden, passed, started, shut}
use Rattle.text_pieces.proofs.blocks.pass.Goals as goal

pub returns-then-byte-eq123 : goal.returns-then-byte-eq123
returns-then-byte-eq123 c =
    started c.args.text.now c.args.at c.requires.within c.args.mode c.args.ends.now c.begin.new.self (sym c.if-not-is_plain.ensures) c.if-byte-eq123.true c.in_ok-begin.ensures.begun c.in_ok-begin.ensures.ends c.requires.begun

pub returns-then-byte-eq125 : goal.returns-then-byte-eq125
returns-then-byte-eq125 c =
    shut c.args.text.now c.args.at c.requires.within c.args.mode c.args.ends.now c.end-place.new.self c.end-place.result (sym c.if-not-is_plain.ensures) c.if-byte-eq125.true c.end-place.ensures.begun c.end-place.ensures.ends c.end-place.ensures.none
    c.end-place.ensures.same c.requires.begun

pub returns-else-byte-eq125 : goal.returns-else-byte-eq125
returns-else-byte-eq125 c = passed c.args.text.now c.args.at c.requires.within c.args.mode c.args.ends.now (sym c.if-not-is_plain.ensures) c.if-byte-eq123.false c.if-byte-eq125.false c.requires.begun

pub returns-then-not-is_plain : goal.returns-then-not-is_plain
returns-then-not-is_plain c = hidden c.args.text.now c.args.at c.requires.within c.args.mode c.args.ends.now (sym c.if-not-is_plain.ensures) c.requires.begun
