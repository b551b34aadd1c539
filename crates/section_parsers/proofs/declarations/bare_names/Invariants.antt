-- The words so far, and those that follow.
use Rattle.std.proofs.Common.{◌≡◌, ◌++◌, drop, option_map}
use Rattle.section_parsers.proofs.Common.{bare_names}
use Rattle.section_parsers.proofs.declarations.bare_names.Given as goal

abbrev pub invariant-names : goal.invariant-names
invariant-names l = option_map (λ ws. l.list.items ++ ws) (bare_names (drop l.item-index l.names)) ≡ bare_names l.names
