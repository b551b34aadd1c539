-- A file is read in two halves: its fields, and what they say together.
use Rattle.std.proofs.Common.{◌≡◌, ℕ, ◌∙◌, List, Ok, Err, refl, sym}
use Rattle.jedec_reader.proofs.Common.{Field, JedecFault, fields_of, frame_of, contents_of, file_of, Read, ◌>>=◌, Table, fields_in}

regrouped : {A B C : Type 0} (step : Read A) (next : A → Read B) (last : B → Read C) → (step >>= next >>= last) ≡ (step >>= λ x. next x >>= last)
regrouped (Ok x) next last = refl
regrouped (Err e) next last = refl

file_of-fields_in : (t : Table) (bytes : List ℕ) → (fields_in t bytes >>= λ fields. contents_of t fields) ≡ file_of t bytes
unfolding file_of
file_of-fields_in t bytes = regrouped (frame_of bytes) (fields_of t) (contents_of t)

pub fields_refused : (t : Table) (bytes : List ℕ) (e : JedecFault) → fields_in t bytes ≡ Err e → file_of t bytes ≡ Err e
fields_refused t bytes e is = sym (file_of-fields_in t bytes) ∙ rw is refl

pub fields_read : (t : Table) (bytes : List ℕ) (fields : List Field) → fields_in t bytes ≡ Ok fields → file_of t bytes ≡ contents_of t fields
fields_read t bytes fields is = sym (file_of-fields_in t bytes) ∙ rw is refl
