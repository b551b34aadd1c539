-- A vector, and a refusal.
use Rattle.std.proofs.Common.{◌≡◌, ◌∷◌, [], refl, subst}
use Rattle.abel_vectors.proofs.Common.{chars_of, IsReadAs}
use Rattle.abel_vectors.proofs.FoundLaws.{finds_vector}
use Rattle.abel_vectors.proofs.finding.Found.add.Goals as goal

pub returns-in_ok-push-in-Ok : goal.returns-in_ok-push-in-Ok
returns-in_ok-push-in-Ok c = λ t rs text is.
    finds_vector t rs text c.in-Ok.vector c.args.self.now _ (subst (IsReadAs rs (λ v. chars_of t v ≡ text)) c.in-Ok.is is) refl c.in_ok-push-in-Ok.ensures.items

pub returns-in-Err : goal.returns-in-Err
returns-in-Err c = λ t rs text is. c.refuse.ensures t rs (text ∷ []) (subst (IsReadAs rs (λ v. chars_of t v ≡ text)) c.in-Err.is is)
