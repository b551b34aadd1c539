-- Fields read one after the other: those of the pieces so far, and those of the rest.
use Rattle.std.proofs.Common.{◌≡◌, ℕ, ◌+◌, ◌-◌, ◌<◌, ◌≤◌, ◌==◌, nat_lt, List, [], ◌∷◌, ◌++◌, length, take, drop, Option, Some, None, Ok, Err, MatchOption, inl, inr, refl, sym, ◌∙◌, ap, append_assoc, arith, position}
use Rattle.jedec_reader.proofs.Common.{position_or_len, onto_first, cases_Bool, nat_tests, append-nil, length-take, slice_split_first, slice_split_none, fails_before_first, Field, JedecFault, trimmed, pieces, field_at, no_field, fields_from, behind_design, Read, Refuses, ◌>>=◌, Table}
use Rattle.jedec_file.specs.declared.jedec_fault.JedecFault.TheVariants as fault

-- ---- pieces

first_shape : (b : ℕ) (parts : List (List ℕ)) → (piece : List ℕ) × (more : List (List ℕ)) × (onto_first b parts ≡ piece ∷ more)
first_shape b [] = (b ∷ [], [], refl)
first_shape b (piece ∷ more) = (b ∷ piece, more, refl)

pieces_shape : (text : List ℕ) → (piece : List ℕ) × (more : List (List ℕ)) × (pieces text ≡ piece ∷ more)
pieces_shape [] = ([], [], refl)
pieces_shape (b ∷ bs) = elim (cases_Bool (b == 42)) [
  | inl cut ↦ ([], pieces bs, rw cut refl)
  | inr other ↦ rw other (first_shape b (pieces bs))
]

-- a text without an asterisk is one piece
pieces_whole : (text : List ℕ) → None ≡ position (λ b. b == 42) text → pieces text ≡ text ∷ []
pieces_whole text none = elim (cases_Bool (nat_lt (position_or_len (λ b. b == 42) text) (length text))) [
  | inl low ↦ absurd (let some = rw low at none in cc)
  | inr high ↦
      let past : length text ≤ position_or_len (λ b. b == 42) text = grind (arith, nat_tests) in
      slice_split_none (λ b. b == 42) text (λ k d low. fails_before_first (λ b. b == 42) text k d (omega (arith, past, low)))
]

-- the first asterisk ends the first piece
pieces_cut : (text : List ℕ) (k : ℕ) → Some k ≡ position (λ b. b == 42) text → pieces text ≡ take k text ∷ pieces (drop (k + 1) text)
pieces_cut text k found = elim (cases_Bool (nat_lt (position_or_len (λ b. b == 42) text) (length text))) [
  | inr high ↦ absurd (let none = rw high at found in cc)
  | inl low ↦
      let same : k ≡ position_or_len (λ b. b == 42) text = cc (rw low at found) in
      rw same (slice_split_first (λ b. b == 42) text 0 (grind (arith, nat_tests)))
]

pub pieces_at : (text : List ℕ) (found : Option ℕ) → found ≡ position (λ b. b == 42) text → MatchOption found (pieces text ≡ text ∷ []) (λ k. pieces text ≡ take k text ∷ pieces (drop (k + 1) text))
pieces_at text None is = pieces_whole text is
pieces_at text (Some k) is = pieces_cut text k is

-- ---- one piece more

fields_next : (t : Table) (at : ℕ) (piece text : List ℕ) → fields_from t at (piece ∷ pieces text) ≡ (field_at t (at + (length piece - length (trimmed piece))) (trimmed piece) >>= λ field. fields_from t (at + length piece + 1) (pieces text) >>= λ fields. Ok (field ∷ fields))
unfolding fields_from
fields_next t at piece text = let shape = pieces_shape text in rw shape.2 refl

design_next : (t : Table) (at : ℕ) (piece text : List ℕ) → behind_design t at (piece ∷ pieces text) ≡ fields_from t (at + length piece + 1) (pieces text)
unfolding behind_design
design_next t at piece text = let shape = pieces_shape text in rw shape.2 refl

pub design_cut : (t : Table) (at k : ℕ) (text : List ℕ) → k < length text → pieces text ≡ take k text ∷ pieces (drop (k + 1) text) → behind_design t at (pieces text) ≡ fields_from t (at + k + 1) (pieces (drop (k + 1) text))
design_cut t at k text low cut =
    let len : length (take k text) ≡ k = omega (arith, length-take k text, low) in
    let there : at + length (take k text) + 1 ≡ at + k + 1 = omega (arith, len) in
    rw cut (design_next t at (take k text) (drop (k + 1) text) ∙ ap (λ place. fields_from t place (pieces (drop (k + 1) text))) there)

-- ---- fields read before, and those still read

abbrev pub behind_fields : List Field → Read (List Field) → Read (List Field)
behind_fields front said = said >>= λ fields. Ok (front ++ fields)

behind_more : (front : List Field) (field : Field) (said : Read (List Field)) → behind_fields front (said >>= λ fields. Ok (field ∷ fields)) ≡ behind_fields (front ++ field ∷ []) said
behind_more front field (Ok fields) = ap (λ (all : List Field). Ok all) (sym (append_assoc front (field ∷ []) fields))
behind_more front field (Err e) = refl

-- a step's refusal is that of the whole
refuses_whole : {A B : Type 0} (e : JedecFault) (step : Read A) (whole : Read B) → ((e : JedecFault) → step ≡ Err e → whole ≡ Err e) → Refuses e step → Refuses e whole
refuses_whole fault.OutOfMemory step whole ends is = tt
refuses_whole fault.NoStart step whole ends is = ends _ is
refuses_whole fault.NoEnd step whole ends is = ends _ is
refuses_whole (fault.FileSum read found) step whole ends is = ends _ is
refuses_whole (fault.BadField at) step whole ends is = ends _ is
refuses_whole (fault.UnsupportedField at) step whole ends is = ends _ is
refuses_whole fault.WrongSize step whole ends is = ends _ is
refuses_whole (fault.Unlisted n) step whole ends is = ends _ is
refuses_whole (fault.FuseSum read found) step whole ends is = ends _ is

module _ (t : Table) (front : List Field) (at k : ℕ) (rest : List ℕ) (whole : Read (List Field)) (low : k < length rest)
    (cut : pieces rest ≡ take k rest ∷ pieces (drop (k + 1) rest)) (so_far : behind_fields front (fields_from t at (pieces rest)) ≡ whole) where
  pub goes_on : (field : Field) → field_at t (at + (length (take k rest) - length (trimmed (take k rest)))) (trimmed (take k rest)) ≡ Ok field
      → behind_fields (front ++ field ∷ []) (fields_from t (at + (k + 1)) (pieces (drop (k + 1) rest))) ≡ whole
  goes_on field is =
      let len : length (take k rest) ≡ k = omega (arith, length-take k rest, low) in
      let there : at + length (take k rest) + 1 ≡ at + (k + 1) = omega (arith, len) in
      let one : behind_fields front (fields_from t at (pieces rest)) ≡ behind_fields (front ++ field ∷ []) (fields_from t (at + (k + 1)) (pieces (drop (k + 1) rest))) =
      rw (cut, fields_next t at (take k rest) (drop (k + 1) rest), is, there) (behind_more front field (fields_from t (at + (k + 1)) (pieces (drop (k + 1) rest)))) in
      sym one ∙ so_far

  stops : (e : JedecFault) → field_at t (at + (length (take k rest) - length (trimmed (take k rest)))) (trimmed (take k rest)) ≡ Err e → whole ≡ Err e
  stops e is =
      let one : behind_fields front (fields_from t at (pieces rest)) ≡ Err e = rw (cut, fields_next t at (take k rest) (drop (k + 1) rest), is) refl in
      sym so_far ∙ one

  pub refuses_field : (e : JedecFault) → Refuses e (field_at t (at + (length (take k rest) - length (trimmed (take k rest)))) (trimmed (take k rest))) → Refuses e whole
  refuses_field e is = refuses_whole e _ whole stops is

module _ (t : Table) (front : List Field) (at : ℕ) (rest : List ℕ) (whole : Read (List Field))
    (last : pieces rest ≡ rest ∷ []) (so_far : behind_fields front (fields_from t at (pieces rest)) ≡ whole) where
  pub is_done : no_field (at + (length rest - length (trimmed rest))) (at + length rest) (trimmed rest) ≡ Ok [] → whole ≡ Ok front
  unfolding fields_from
  is_done none =
      let one : behind_fields front (fields_from t at (pieces rest)) ≡ Ok front = rw (last, none) (ap (λ (all : List Field). Ok all) (append-nil front)) in
      sym so_far ∙ one

  is_cut_off : (e : JedecFault) → no_field (at + (length rest - length (trimmed rest))) (at + length rest) (trimmed rest) ≡ Err e → whole ≡ Err e
  unfolding fields_from
  is_cut_off e is =
      let one : behind_fields front (fields_from t at (pieces rest)) ≡ Err e = rw (last, is) refl in
      sym so_far ∙ one

  pub refuses_end : (e : JedecFault) → Refuses e (no_field (at + (length rest - length (trimmed rest))) (at + length rest) (trimmed rest)) → Refuses e whole
  refuses_end e is = refuses_whole e _ whole is_cut_off is
