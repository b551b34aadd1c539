-- The words that were given are those of the run.
use Rattle.std.proofs.Common.{◌≡◌, ℕ, List, [], Option, Some, sym, ◌∙◌, ap, subst, unwrap_or}
use Rattle.abel_cli.proofs.Common.{HasCompiled, IsRight, texts}
use Rattle.abel_cli.specs.Checked.{HasChecked}
use Rattle.abel_cli.specs.Start.{words_of}
use Rattle.abel_cli.proofs.starting.start.Goals as goal

pub returns-in-Words-clause-right : goal.returns-in-Words-clause-right
returns-in-Words-clause-right g c words is tells zero =
    let given : Some (texts c.in-Words.words.items) ≡ Some words = sym (ap words_of c.in-Words.is) ∙ is in
    subst (λ (ws : List (List ℕ)). IsRight ws (g.F.Files.file c.args.files.now) (g.F.Files.file c.run.new.files))
    (ap texts c.deref.ensures.value ∙ ap (λ (o : Option (List (List ℕ))). unwrap_or o []) given)
    (c.run.ensures.right tells zero)

pub returns-in-Words-clause-compiled : goal.returns-in-Words-clause-compiled
returns-in-Words-clause-compiled g c words is tells zero =
    let given : Some (texts c.in-Words.words.items) ≡ Some words = sym (ap words_of c.in-Words.is) ∙ is in
    subst (λ (ws : List (List ℕ)). HasCompiled ws (g.F.Files.file c.args.files.now) (g.F.Files.file c.run.new.files) g.K.Sink.Tells (g.K.Sink.taken c.args.report.now) (g.K.Sink.taken c.run.new.report))
    (ap texts c.deref.ensures.value ∙ ap (λ (o : Option (List (List ℕ))). unwrap_or o []) given)
    (c.run.ensures.compiled tells zero)

pub returns-in-Words-clause-checked : goal.returns-in-Words-clause-checked
returns-in-Words-clause-checked g c words is tells zero =
    let given : Some (texts c.in-Words.words.items) ≡ Some words = sym (ap words_of c.in-Words.is) ∙ is in
    subst (λ (ws : List (List ℕ)). HasChecked ws (g.F.Files.file c.run.new.files) g.K.Sink.Tells (g.K.Sink.taken c.args.report.now) (g.K.Sink.taken c.run.new.report))
    (ap texts c.deref.ensures.value ∙ ap (λ (o : Option (List (List ℕ))). unwrap_or o []) given)
    (c.run.ensures.checked tells zero)
