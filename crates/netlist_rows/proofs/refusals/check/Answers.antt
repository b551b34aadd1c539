-- What a scope asks for, and names of which the contributions are.
use Rattle.std.proofs.Common.{length, sym, subst, arith}
use Rattle.netlist_rows.proofs.Common.{sample, Names, entries_of, sound_in_order, AreToNames}
use Rattle.netlist_rows.proofs.DrawnNames.{drawn_to_names}
use Rattle.netlist_rows.proofs.PlacedNames.{sound_placed}
use Rattle.netlist_rows.proofs.refusals.check.Goals as goal

pub scope_of-requires-clause-placed : goal.scope_of-requires-clause-placed
scope_of-requires-clause-placed c = sound_placed sample.name sample.pins c.args.drawn.now.names (omega arith) c.requires.sound

pub scope_of-requires-clause-order : goal.scope_of-requires-clause-order
scope_of-requires-clause-order c = sound_in_order sample.name sample.pins c.args.drawn.now.names c.requires.sound

pub check_signals-requires-clause-names : goal.check_signals-requires-clause-names
check_signals-requires-clause-names c =
    subst (λ (n : Names). AreToNames (length (entries_of n)) c.args.drawn.now.contributions.list) (sym c.in_ok-scope.ensures)
    (drawn_to_names sample c.args.drawn.now c.requires)
