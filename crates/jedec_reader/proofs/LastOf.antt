-- What the last field says, with one field more.
use Rattle.std.proofs.Common.{◌≡◌, ℕ, ◌+◌, ◌<◌, List, [], ◌∷◌, ◌++◌, Option, Some, None, length, take, get_or, refl, ap, ◌∙◌, sym}
use Rattle.jedec_reader.proofs.Common.{option_or, take_more, Field, last_of}

option_or-assoc : {A : Type 0} (x y z : Option A) → option_or x (option_or y z) ≡ option_or (option_or x y) z
option_or-assoc None y z = refl
option_or-assoc (Some x) y z = refl

option_or-none : {A : Type 0} (x : Option A) → option_or x None ≡ x
option_or-none None = refl
option_or-none (Some x) = refl

last_of-push : {A : Type 0} (says : Field → Option A) (fs : List Field) (f : Field) → last_of says (fs ++ f ∷ []) ≡ option_or (says f) (last_of says fs)
last_of-push says [] f = sym (option_or-none (says f))
last_of-push says (g ∷ fs) f = rw (last_of-push says fs f) (sym (option_or-assoc (says f) (last_of says fs) (says g)))

pub last_of_more : {A : Type 0} (says : Field → Option A) (fs : List Field) (i : ℕ) (d : Field) → i < length fs
    → last_of says (take (i + 1) fs) ≡ option_or (says (get_or fs i d)) (last_of says (take i fs))
last_of_more says fs i d low = rw (take_more fs i d low) (last_of-push says (take i fs) (get_or fs i d))

-- a loop's step: what was said so far, and the next field
pub more_said : {A : Type 0} (says : Field → Option A) (fs : List Field) (i : ℕ) (f : Field) (before after : Option A) → i < length fs → f ≡ get_or fs i f
    → before ≡ last_of says (take i fs) → after ≡ option_or (says f) before → after ≡ last_of says (take (i + 1) fs)
more_said says fs i f before after low here so_far next =
    next ∙ (ap (option_or (says f)) so_far ∙ (ap (λ g. option_or (says g) (last_of says (take i fs))) here ∙ sym (last_of_more says fs i f low)))
