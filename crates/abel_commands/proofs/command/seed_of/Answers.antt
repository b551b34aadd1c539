-- `parse` reads the number of a word of digits.
use Rattle.std.proofs.Common.{◌≡◌, ℕ, true, List, sym, ◌∙◌, subst}
use Rattle.abel_commands.proofs.Common.{are_few_digits}
use Rattle.abel_commands.proofs.Seeds.{seed_parsed}
use Rattle.abel_commands.proofs.command.seed_of.Goals as goal

pub returns : goal.returns
returns c =
    let few = subst (λ (text : List ℕ). are_few_digits text ≡ true) c.as_bytes.ensures.value (sym c.are_few_digits.ensures ∙ c.if-not-are_few_digits.false) in
    c.ok.ensures.value ∙ seed_parsed c.args.word.now few _ c.parse.ensures.value.0
