-- The characters that were passed are shown.
use Rattle.std.proofs.Common.{◌≡◌, flat_map, string_bytes}
use Rattle.shown_text.specs.Printable.{shown_char}
use Rattle.shown_text.proofs.printing.shown.Given as goal

abbrev pub invariant-loop-char : goal.invariant-loop-char
invariant-loop-char l = string_bytes l.shown ≡ flat_map shown_char l.yielded
