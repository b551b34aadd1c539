-- A parenthesis or comma begins or ends an argument, a bracket makes the open ones unknown; another byte leaves open what is
-- open.
use Rattle.std.proofs.Common.{sym}
use Rattle.text_pieces.proofs.ArgumentSteps.{hidden, passed, started, shut, parted, forgotten}
use Rattle.text_pieces.proofs.arguments.pass.Goals as goal

pub returns-then-not-is_plain : goal.returns-then-not-is_plain
returns-then-not-is_plain c = hidden c.args.text.now c.args.at c.requires.within c.args.mode c.args.ends.now (sym c.if-not-is_plain.ensures) c.requires.begun

pub returns-then-byte-eq91 : goal.returns-then-byte-eq91
returns-then-byte-eq91 c = forgotten c.args.text.now c.args.at c.requires.within c.args.mode c.args.ends.now c.forget.new.self c.forget.ensures.begun c.forget.ensures.ends c.requires.begun

pub returns-then-byte-eq41 : goal.returns-then-byte-eq41
returns-then-byte-eq41 c =
    shut c.args.text.now c.args.at c.requires.within c.args.mode c.args.ends.now c.end-place.new.self c.end-place.result (sym c.if-not-is_plain.ensures) c.if-byte-eq41.true c.end-place.ensures.begun c.end-place.ensures.ends c.end-place.ensures.none
    c.end-place.ensures.same c.requires.begun

pub returns-then-byte-eq44 : goal.returns-then-byte-eq44
returns-then-byte-eq44 c =
    let ended = c.end-place-then-byte-eq44 in
    parted c.args.text.now c.args.at c.requires.within c.args.mode c.args.ends.now ended.new.self c.begin.new.self ended.result (sym c.if-not-is_plain.ensures) c.if-byte-eq44.true ended.ensures.begun ended.ensures.ends ended.ensures.none ended.ensures.same
    c.in_ok-begin.ensures.begun c.in_ok-begin.ensures.ends c.requires.begun

pub returns-in_ok-begin-2 : goal.returns-in_ok-begin-2
returns-in_ok-begin-2 c =
    started c.args.text.now c.args.at c.requires.within c.args.mode c.args.ends.now c.begin-then-byte-eq40.new.self (sym c.if-not-is_plain.ensures) c.if-byte-eq40.true c.in_ok-begin-2.ensures.begun c.in_ok-begin-2.ensures.ends c.requires.begun

pub returns-else-byte-eq40 : goal.returns-else-byte-eq40
returns-else-byte-eq40 c =
    passed c.args.text.now c.args.at c.requires.within c.args.mode c.args.ends.now (sym c.if-not-is_plain.ensures) c.if-byte-eq40.false c.if-byte-eq41.false c.if-byte-eq44.false c.if-byte-eq91.false c.if-byte-eq93.false c.requires.begun
