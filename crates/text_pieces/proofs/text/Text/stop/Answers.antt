-- The table's entry.
use Rattle.std.proofs.Common.{sym, subst}
use Rattle.text_pieces.proofs.Common.{is_stop, Stop, FreeOf}
use Rattle.text_pieces.proofs.Tables.{asked_stop}
use Rattle.text_pieces.specs.declared.stop.Stop.TheVariants as stop
use Rattle.text_pieces.proofs.text.Text.stop.Goals as goal

pub returns-in-Question : goal.returns-in-Question
returns-in-Question c =
    let free = asked_stop (is_stop stop.Question) c.self.inside.bytes.items c.self.inside.questions.items c.deref.result.now c.args.place c.entry.result c.self.invariant.2 c.deref.ensures.value c.entry.ensures in
    rw (sym c.self.view_is) (subst (λ (s : Stop). FreeOf (is_stop s) c.self.inside.bytes.items c.args.place c.entry.result) (sym c.in-Question.is) free)

pub returns-in-Argument : goal.returns-in-Argument
returns-in-Argument c =
    let free = asked_stop (is_stop stop.Argument) c.self.inside.bytes.items c.self.inside.brackets.items c.deref-in-Argument.result.now c.args.place c.entry-in-Argument.result c.self.invariant.3 c.deref-in-Argument.ensures.value c.entry-in-Argument.ensures in
    rw (sym c.self.view_is) (subst (λ (s : Stop). FreeOf (is_stop s) c.self.inside.bytes.items c.args.place c.entry-in-Argument.result) (sym c.in-Argument.is) free)
