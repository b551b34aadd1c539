-- What a function allows are the values of its signal, also if these are all `p or not n` of two sets.
use Rattle.std.proofs.Common.{◌≡◌, Bool, true, false, not, ◌||◌, inl, inr, refl}
use Rattle.abel_meaning.proofs.Common.{cases_Bool, truth_at, given_at, One, Any, allows_plain, any_against, gives_in, is_both}
use Rattle.abel_meaning.specs.AgreeLaws.{ValuesAgree}
use Rattle.abel_meaning.specs.AllowedValues.{is_either_or_not}

-- one and any by the contributions to the name, and by those to the complement
joined : (one any one_against any_against v : Bool)
    → allows_plain (one || not (one_against || any_against)) (any || not one_against) v
    ≡ is_either_or_not (allows_plain one any) (allows_plain one_against any_against) v
joined true true true true true = refl
joined true true true true false = refl
joined true true true false true = refl
joined true true true false false = refl
joined true true false true true = refl
joined true true false true false = refl
joined true true false false true = refl
joined true true false false false = refl
joined true false true true true = refl
joined true false true true false = refl
joined true false true false true = refl
joined true false true false false = refl
joined true false false true true = refl
joined true false false true false = refl
joined true false false false true = refl
joined true false false false false = refl
joined false true true true true = refl
joined false true true true false = refl
joined false true true false true = refl
joined false true true false false = refl
joined false true false true true = refl
joined false true false true false = refl
joined false true false false true = refl
joined false true false false false = refl
joined false false true true true = refl
joined false false true true false = refl
joined false false true false true = refl
joined false false true false false = refl
joined false false false true true = refl
joined false false false true false = refl
joined false false false false true = refl
joined false false false false false = refl

pub values_agree : ValuesAgree
values_agree d at s v =
    elim (cases_Bool (is_both (given_at d at) s)) [
      | inl both ↦
          rw both
          (joined (gives_in (truth_at d.context at) (given_at d at) false One s) (gives_in (truth_at d.context at) (given_at d at) false Any s)
          (gives_in (truth_at d.context at) (given_at d at) true One s) (any_against (truth_at d.context at) (given_at d at) s) v)
      | inr single ↦ rw single refl
    ]
