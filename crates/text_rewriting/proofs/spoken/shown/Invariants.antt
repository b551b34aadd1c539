-- The bytes so far precede those of what is ahead.
use Rattle.std.proofs.Common.{◌≡◌, ◌≤◌, ◌+◌, ◌++◌, length, take}
use Rattle.text_rewriting.proofs.Common.{ahead, shown_in}
use Rattle.text_pieces.specs.declared.mode.Mode.TheVariants as mode
use Rattle.text_rewriting.proofs.spoken.shown.Given as goal

abbrev pub invariant-bytes : goal.invariant-bytes
invariant-bytes l =
    record {
      bytes : l.bytes.items ++ shown_in l.from (ahead l.at) ≡ shown_in mode.Plain (take l.fn.count l.fn.rest);
      few : length l.bytes.items + length (ahead l.at) ≤ l.fn.count;
    }

abbrev pub decreases-bytes : goal.decreases-bytes
decreases-bytes l = length (ahead l.at)
