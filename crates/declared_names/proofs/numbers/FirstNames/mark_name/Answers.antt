-- A name is marked if its number is below the limit.
use Rattle.std.proofs.Common.{ℕ, Option, None, Some, if◌then◌else◌, sym, ap, ◌∙◌, arith, option_copied}
use Rattle.declared_names.proofs.Common.{lt-ltb, le-ltb, all_marked, below, number_given}
use Rattle.declared_names.proofs.numbers.FirstNames.mark_name.Goals as goal

pub returns-then-number-self : goal.returns-then-number-self
returns-then-number-self c = λ es num.
    let marks = λ (o : Option ℕ). all_marked c.args.marks.now.items (number_given o c.args.strong) in
    let n = c.in-Some.number.now in
    c.mark_number.ensures
    ∙ sym (ap (λ o. marks (below c.args.self.now.limit o)) (sym (num c.args.name.now) ∙ (sym c.get.ensures.value ∙ ap option_copied c.in-Some.is))
    ∙ ap (λ b. marks (if b then Some n else None)) (lt-ltb n c.args.self.now.limit c.if-number-self.true))

pub returns-else-number-self : goal.returns-else-number-self
returns-else-number-self c = λ es num.
    let marks = λ (o : Option ℕ). all_marked c.args.marks.now.items (number_given o c.args.strong) in
    let n = c.in-Some.number.now in
    sym (ap (λ o. marks (below c.args.self.now.limit o)) (sym (num c.args.name.now) ∙ (sym c.get.ensures.value ∙ ap option_copied c.in-Some.is))
    ∙ ap (λ b. marks (if b then Some n else None)) (le-ltb n c.args.self.now.limit (omega (arith, c.if-number-self.false))))

pub returns-in_default : goal.returns-in_default
returns-in_default c = λ es num.
    let marks = λ (o : Option ℕ). all_marked c.args.marks.now.items (number_given (below c.args.self.now.limit o) c.args.strong) in
    sym (ap marks (sym (num c.args.name.now) ∙ (sym c.get.ensures.value ∙ ap option_copied c.in_default.is)))
