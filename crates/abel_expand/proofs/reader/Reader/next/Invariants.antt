-- Each turn leaves less to do, and gives nothing.
use Rattle.std.proofs.Common.{◌≡◌, None}
use Rattle.abel_expand.proofs.Common.{after, bytes_given, HasEnded, left_to_do}
use Rattle.abel_expand.proofs.reader.Reader.next.Given as goal

abbrev pub invariant-turns : goal.invariant-turns
invariant-turns l =
    record {
      text : l.self.text ≡ l.fn.self.text;
      given : l.self.given ≡ l.fn.self.given;
      same : bytes_given l.self ≡ bytes_given l.fn.self;
      going : l.self.refused ≡ None;
      start : l.fn.self.refused ≡ None;
      ended : HasEnded l.fn.self → HasEnded l.self;
    }

abbrev pub decreases-turns : goal.decreases-turns
decreases-turns l = left_to_do (after l.self.turns l.self.text)
