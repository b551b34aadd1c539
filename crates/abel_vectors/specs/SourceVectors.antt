-- The test vectors of a source, and what is refused of them (ABEL-HDL Reference Manual, test vectors; one limit for all
-- vectors of a source is this project's rule).
use Rattle.std.specs.Prelude.{ℕ, ◌+◌, List, [], ◌∷◌, ◌++◌, length, Result}
use Rattle.abel_vectors.specs.Prelude.{Vec, Vector, SectionTree, Context, Design, design_vectors, section_vectors, SectionFault}
use Rattle.abel_vectors.specs.VectorRefusals.{vectors_refused}
use Rattle.abel_vectors.specs.VectorAnswers.{AreAccepted, IsAnswer}

-- what is refused of the vectors of sections, after so many vectors
abbrev pub refused_behind : Context → (before : ℕ) → List SectionTree → List SectionFault
refused_behind d n [] = []
refused_behind d n (s ∷ ss) = vectors_refused d n s ++ refused_behind d (n + length (section_vectors d s)) ss

-- what is refused of all vectors of a source
abbrev pub all_vectors_refused : Design → List SectionFault
all_vectors_refused d = refused_behind d.context 0 d.sections

-- nothing is refused, and these are the vectors of the source
abbrev pub AreVectors : Design → List Vector → Type 0
AreVectors d list = AreAccepted d.context.device (all_vectors_refused d) (design_vectors d) list

-- the answer for the vectors of a design
abbrev pub AnswersVectors : Design → Result (Vec Vector) SectionFault → Type 0
AnswersVectors d r = IsAnswer d.context.device (all_vectors_refused d) (design_vectors d) r
