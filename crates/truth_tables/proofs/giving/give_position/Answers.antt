-- What a level gives.
use Rattle.std.proofs.Common.{[], ◌∷◌, length, subst, ap, ◌∙◌, Some}
use Rattle.truth_tables.proofs.Common.{entries_of, AreNamed, some_aims}
use Rattle.truth_tables.proofs.GivenLaws.{named_one}
use Rattle.truth_tables.proofs.giving.give_position.Goals as goal

pub give_matched-requires-clause-signal : goal.give_matched-requires-clause-signal
give_matched-requires-clause-signal c = named_one _ c.in-Some.aim (subst (λ x. AreNamed (length (entries_of c.args.matching.now.scope.now)) (some_aims (x ∷ []))) c.in-Some.is c.requires.signal)

pub give_matched-requires-in-Some-true-clause-signal : goal.give_matched-requires-in-Some-true-clause-signal
give_matched-requires-in-Some-true-clause-signal c = named_one _ c.in-Some.aim (subst (λ x. AreNamed (length (entries_of c.args.matching.now.scope.now)) (some_aims (x ∷ []))) c.in-Some.is c.requires.signal)

pub give_output-requires-clause-signal : goal.give_output-requires-clause-signal
give_output-requires-clause-signal c = named_one _ c.in-Some.aim (subst (λ x. AreNamed (length (entries_of c.args.matching.now.scope.now)) (some_aims (x ∷ []))) c.in-Some.is c.requires.signal)

pub returns-in-None-level-clause-gives : goal.returns-in-None-level-clause-gives
returns-in-None-level-clause-gives c = rw (c.in-Some.is, c.in-None-level.is) c.give_matched.ensures.gives

pub returns-in-Some-true-clause-gives : goal.returns-in-Some-true-clause-gives
returns-in-Some-true-clause-gives c = rw (c.in-Some.is, c.in-Some-true.is ∙ ap Some c.in-Some-true.field-0-test) c.give_matched-in-Some-true.ensures.gives

pub returns-in-Some-false-clause-gives : goal.returns-in-Some-false-clause-gives
returns-in-Some-false-clause-gives c = rw (c.in-Some.is, c.in-Some-false.is ∙ ap Some c.in-Some-false.field-0-test) c.give_output.ensures.gives
