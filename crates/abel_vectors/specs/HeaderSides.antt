-- What is found of a side of a header of vectors (ABEL-HDL Reference Manual, test vectors).
use Rattle.std.specs.Prelude.{◌≡◌, ℕ, Option, Result}
use Rattle.abel_vectors.specs.Prelude.{Vec, Place, Tree, Context, targets_of, term_of, SectionFault}
use Rattle.abel_vectors.specs.FoundVectors.{IsReadAs}
use Rattle.abel_vectors.specs.VectorRefusals.{side_refused}

-- the first refusal of a side, or its pins from the left
abbrev pub IsSide : Context → Place → Tree → Result (Vec (Option ℕ)) SectionFault → Type 0
IsSide d p t r = IsReadAs (side_refused d p t) (λ (ss : Vec (Option ℕ)). ss.items ≡ targets_of (term_of d.known t)) r
