-- The vectors of a section, and when which answer occurs (ABEL-HDL Reference Manual, test vectors).
use Rattle.std.specs.Prelude.{◌≡◌, ℕ, List, [], Result, Ok, Err}
use Rattle.abel_vectors.specs.Prelude.{Vec, Vector, Table, all_chars, SectionTree, Context, section_vectors, SectionFault, IsTold}
use Rattle.abel_vectors.specs.VectorRefusals.{vectors_refused}

-- nothing is refused, and these are the vectors by their characters
pub record AreAccepted (t : Table) (rs : List SectionFault) (texts : List (List ℕ)) (list : List Vector) : Type 0 where
  pub accepted : rs ≡ []
  pub chars : all_chars t list ≡ texts

-- the vectors if nothing is refused, or the first refusal, or out of memory
abbrev pub IsAnswer : Table → List SectionFault → (texts : List (List ℕ)) → Result (Vec Vector) SectionFault → Type 0
IsAnswer t rs texts (Ok list) = AreAccepted t rs texts list.items
IsAnswer t rs texts (Err f) = IsTold rs f

-- for a section after so many vectors
abbrev pub Answers : Context → (before : ℕ) → SectionTree → Result (Vec Vector) SectionFault → Type 0
Answers d n s r = IsAnswer d.device (vectors_refused d n s) (section_vectors d s) r
