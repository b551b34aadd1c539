-- What does not fit is reported so.
use Rattle.std.proofs.Common.{inr}
use Rattle.abel_commands.proofs.source_commands.refused_ending.Goals as goal

pub returns-in-Fit : goal.returns-in-Fit
returns-in-Fit c = λ text answers.
    let unfit = rw c.in-Fit.is at answers in
    inr (c.in-Fit.line.items, inr (c.in-Fit.field-0, unfit.0, unfit.1), c.plain-in-Fit.ensures)
