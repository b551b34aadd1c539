-- The bytes read are the first ones ahead.
use Rattle.std.proofs.Common.{◌≤◌, ◌∙◌, ℕ, length, sym, ap, subst}
use Rattle.abel_macros.proofs.Common.{ahead}
use Rattle.abel_macros.proofs.Measured.{sign_fits, one_seen, two_seen, three_seen}
use Rattle.abel_macros.proofs.tokens.sign_at.Goals as goal

pub returns-in_default-step-clause-value : goal.returns-in_default-step-clause-value
returns-in_default-step-clause-value c =
    c.sign_len.ensures ∙ one_seen c.in-Some.first (ahead c.args.at.now) (ahead c.step.new.self) (ap ahead (sym c.fork-look.ensures) ∙ c.in-Some.ensures.some) c.in_default-step.ensures.none

pub returns-in_default-step-clause-within : goal.returns-in_default-step-clause-within
returns-in_default-step-clause-within c = subst (λ (n : ℕ). n ≤ length (ahead c.args.at.now)) (sym (returns-in_default-step-clause-value c)) (sign_fits (ahead c.args.at.now))

pub returns-in_default-step-2-clause-value : goal.returns-in_default-step-2-clause-value
returns-in_default-step-2-clause-value c =
    c.sign_len-in_default-step-2.ensures
    ∙ two_seen c.in-Some.first c.in-Some-step.second (ahead c.args.at.now) (ahead c.step.new.self) (ahead c.step-2.new.self) (ap ahead (sym c.fork-look.ensures) ∙ c.in-Some.ensures.some) c.in-Some-step.ensures.some c.in_default-step-2.ensures.none

pub returns-in_default-step-2-clause-within : goal.returns-in_default-step-2-clause-within
returns-in_default-step-2-clause-within c = subst (λ (n : ℕ). n ≤ length (ahead c.args.at.now)) (sym (returns-in_default-step-2-clause-value c)) (sign_fits (ahead c.args.at.now))

pub returns-clause-value : goal.returns-clause-value
returns-clause-value c =
    c.sign_len-2.ensures
    ∙ three_seen c.in-Some.first c.in-Some-step.second c.in-Some-step-2.third (ahead c.args.at.now) (ahead c.step.new.self) (ahead c.step-2.new.self) (ahead c.step-3.new.self) (ap ahead (sym c.fork-look.ensures) ∙ c.in-Some.ensures.some) c.in-Some-step.ensures.some c.in-Some-step-2.ensures.some

pub returns-clause-within : goal.returns-clause-within
returns-clause-within c = subst (λ (n : ℕ). n ≤ length (ahead c.args.at.now)) (sym (returns-clause-value c)) (sign_fits (ahead c.args.at.now))
