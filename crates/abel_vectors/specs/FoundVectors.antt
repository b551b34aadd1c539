-- Private: what is found of vectors, row after row and section after section (this project's rule).
use Rattle.std.specs.Prelude.{◌≡◌, ℕ, ◌+◌, ◌-◌, Option, None, Some, List, [], ◌++◌, length, Result, Ok, Err}
use Rattle.abel_vectors.specs.Prelude.{Table, all_chars, first_refusal, earlier, SectionTree, Context, section_vectors, SectionFault, section_order}
use Rattle.abel_vectors.specs.declared.finding.Found.{Found}
use Rattle.abel_vectors.specs.VectorRefusals.{vectors_refused}

-- nothing yet
pub record NothingFound (found : Found) : Type 0 where
  pub fault : found.fault ≡ None
  pub list : found.list.items ≡ []

-- the first of these refusals, and if there isn't one vectors of these characters
pub record IsFound (t : Table) (rs : List SectionFault) (chars : List (List ℕ)) (found : Found) : Type 0 where
  pub fault : found.fault ≡ first_refusal section_order rs
  pub list : found.fault ≡ None → all_chars t found.list.items ≡ chars

-- these refusals more, and if there isn't one vectors of these characters
pub record Finds (t : Table) (rs : List SectionFault) (chars : List (List ℕ)) (old new : Found) : Type 0 where
  pub fault : new.fault ≡ earlier section_order old.fault (first_refusal section_order rs)
  pub list : new.fault ≡ None → all_chars t new.list.items ≡ all_chars t old.list.items ++ chars

-- ---- what is read before it

-- the refusal of what was read, if there is one
abbrev pub fault_in : {A : Type 0} → Result A SectionFault → Option SectionFault
fault_in (Ok x) = None
fault_in (Err f) = Some f

-- nothing is refused of it and it is so, or it is refused first
abbrev pub IsReadAs : {A : Type 0} → List SectionFault → (A → Type 0) → Result A SectionFault → Type 0
IsReadAs rs so (Ok x) = (rs ≡ []) × so x
IsReadAs rs so (Err f) = first_refusal section_order rs ≡ Some f

-- ---- sections

-- a section more, after so many vectors; the room that is left
pub record FindsSection (d : Context) (before : ℕ) (s : SectionTree) (left : ℕ) (old new : Found) : Type 0 where
  pub room : left ≡ 9999 - (before + length (section_vectors d s))
  pub finds : Finds d.device (vectors_refused d before s) (section_vectors d s) old new
