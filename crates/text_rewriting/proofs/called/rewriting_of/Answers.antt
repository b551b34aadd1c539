-- A result that was kept is that of the call.
use Rattle.std.proofs.Common.{refl, sym, ap}
use Rattle.text_rewriting.proofs.Common.{tables_of, IsResult, names, texts, joined}
use Rattle.abel_macros.proofs.Calls.{same_call}
use Rattle.text_rewriting.proofs.Moves.{result_kept}
use Rattle.text_rewriting.proofs.called.rewriting_of.Goals as goal

pub returns-in-Some-clause-text : goal.returns-in-Some-clause-text
returns-in-Some-clause-text c =
    let k = c.args.called in
    let r : IsResult (tables_of c.args.tables.now).macros k.name.items (texts k.arguments.items) (joined c.in-Some.result.now) =
    same_call (tables_of c.args.tables.now).macros k.name.items c.deref.result.now (texts k.arguments.items) (texts c.deref-2.result.now) (joined c.in-Some.result.now) (joined c.in-Some.result.now) c.in-Some.ensures (sym c.deref.ensures.value) (ap texts (sym c.deref-2.ensures.value)) refl in
    result_kept (tables_of c.args.tables.now) k.name.items (names k.parameters.now) (texts k.arguments.items) (joined k.block.now) (joined c.in-Some.result.now) c.requires.call r
