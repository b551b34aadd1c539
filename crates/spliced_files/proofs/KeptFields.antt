-- The lines that are kept of a file's text say what its fields say of tests, and nothing of fuses.
use Rattle.std.proofs.Common.{◌≡◌, ℕ, ◌+◌, ◌-◌, ◌==◌, Bool, true, false, not, List, [], ◌∷◌, ◌++◌, filter, length, Option, None, Some, Result, Ok, Err, refl, sym, ap, subst, ◌∙◌, inl, inr, if◌then◌else◌, append-nil}
use Rattle.std.proofs.lemmas.Bool.{and_parts, cases_Bool, not-true, true≢false}
use Rattle.std.specs.List.{list_all}
use Rattle.std.specs.Option.{option_or}
use Rattle.jedec_file.specs.declared.field.Field.{Field}
use Rattle.jedec_file.specs.declared.field.Field.TheVariants as field
use Rattle.jedec_file.specs.declared.jedec_fault.JedecFault.{JedecFault}
use Rattle.jedec_file.specs.declared.jedec_fault.JedecFault.TheVariants as fault
unfoldable use Rattle.jedec_file.specs.FieldLists.{field_at, fields_from, no_field}
use Rattle.jedec_file.specs.Fields.{is_blank, is_field_letter, trimmed}
unfoldable use Rattle.jedec_file.specs.Fields.{field_of}
use Rattle.jedec_file.specs.FileText.{line}
use Rattle.jedec_file.specs.FuseFile.{last_of}
use Rattle.jedec_file.specs.Refusals.{Read, ◌>>=◌, some_or}
use Rattle.jedec_writer.proofs.SaidBack.{Says, begins_field, says_both, says_line, says_nothing}
use Rattle.jedec_writer.proofs.Words.{is_plain}
use Rattle.pld_device.specs.Table.{Table}
use Rattle.spliced_files.specs.Kept.{is_kept, kept_line, kept_lines}
use Rattle.spliced_files.proofs.FieldKinds.{Passes, dropped_no_test, is_quiet, is_test, kept_alike, kept_quiet, no_test}
use Rattle.spliced_files.proofs.Plain.{plain_trimmed}

-- the first step of two that succeed, and what the second one makes of it
pub both_ok : {A B : Type 0} (step : Read A) (next : A → Read B) (result : B) → (step >>= next) ≡ Ok result → (x : A) × (step ≡ Ok x) × (next x ≡ Ok result)
both_ok (Ok x) next result is = (x, refl, is)
both_ok (Err e) next result is = absurd cc

pub ok_same : {X : Type 0} (x y : X) (r : Read X) → r ≡ Ok x → r ≡ Ok y → x ≡ y
ok_same x y r is also = cc

-- some fields, and lines that say what they say of tests and nothing of fuses
pub record IsKeptOf (t : Table) (fields : List Field) (lines : List ℕ) : Type 0 where
  pub kept : List Field
  pub says : Says t lines kept
  pub tests : filter is_test kept ≡ filter is_test fields
  pub quiet : list_all is_quiet kept ≡ true

-- ---- one field

said_of : (e : JedecFault) (o : Option Field) (said : Field) → some_or e o ≡ Ok said → o ≡ Some said
said_of e None said is = absurd cc
said_of e (Some x) said is = cc

-- what a field's text is read as: its letter begins a field
record IsFieldText (f : Table) (letter : ℕ) (text : List ℕ) (said : Field) : Type 0 where
  pub letter_read : (letter == 75) ≡ false
  pub says : field_of f letter text ≡ Some said

field_text : (f : Table) (at letter : ℕ) (text : List ℕ) (said : Field) → field_at f at (letter ∷ text) ≡ Ok said → IsFieldText f letter text said
unfolding field_at
field_text f at letter text said is = elim (cases_Bool (letter == 75)) [
  | inl refused ↦ absurd (let bad = rw refused at is in cc)
  | inr read ↦ record {
    letter_read = read;
    says = said_of (fault.BadField at) (field_of f letter text) said (rw read at is);
  }
]

no_text : (f : Table) (at : ℕ) (said : Field) → field_at f at [] ≡ Ok said → ⊥
unfolding field_at
no_text f at said is = absurd cc

not_blank : (text : List ℕ) (letter : ℕ) (rest : List ℕ) → trimmed text ≡ letter ∷ rest → is_blank letter ≡ false
not_blank [] letter rest is = absurd cc
not_blank (b ∷ bs) letter rest is = elim (cases_Bool (is_blank b)) [
  | inl blank ↦ not_blank bs letter rest (rw blank at is)
  | inr other ↦ let same : b ≡ letter = (let here = rw other at is in cc) in subst (λ x. is_blank x ≡ false) same other
]

-- a field before others
filter_both : (said : Field) (xs ys : List Field) → filter is_test xs ≡ filter is_test ys → filter is_test (said ∷ xs) ≡ filter is_test (said ∷ ys)
filter_both said xs ys same = elim (cases_Bool (is_test said)) [
  | inl test ↦ rw test (ap (λ (rest : List Field). said ∷ rest) same)
  | inr other ↦ rw other same
]

filter_none : (said : Field) (fields : List Field) → not (is_test said) ≡ true → filter is_test (said ∷ fields) ≡ filter is_test fields
filter_none said fields other = rw (not-true (is_test said) other) refl

module _ (f t : Table) (pins : f.pins ≡ t.pins) where
  field_kept : (letter : ℕ) (text : List ℕ) (said : Field) (fields : List Field) (lines : List ℕ) → is_blank letter ≡ false → IsFieldText f letter text said
      → list_all is_plain (letter ∷ text) ≡ true → IsKeptOf t fields lines → IsKeptOf t (said ∷ fields) (kept_line (letter ∷ text) ++ lines)
  field_kept letter text said fields lines no_blank is plain rest = elim (cases_Bool (is_kept (letter ∷ text))) [
    | inl kept ↦
        let begins : begins_field letter ≡ true = rw (no_blank, is.letter_read) refl in
        let says = says_line t letter text said begins plain (kept_alike f t pins letter text kept ∙ is.says) in
        let quiet : is_quiet said ≡ true = subst (Passes is_quiet) is.says (kept_quiet f letter text kept) in
        let one : IsKeptOf t (said ∷ fields) (line (letter ∷ text) ++ lines) = record {
          kept = said ∷ rest.kept;
          says = says_both says rest.says;
          tests = filter_both said rest.kept fields rest.tests;
          quiet = rw (quiet, rest.quiet) refl;
        } in
        rw kept one
    | inr dropped ↦
        let other : not (is_test said) ≡ true = subst (Passes no_test) is.says (dropped_no_test f letter text dropped) in
        let none : IsKeptOf t (said ∷ fields) lines = record {
          kept = rest.kept;
          says = rest.says;
          tests = rest.tests ∙ sym (filter_none said fields other);
          quiet = rest.quiet;
        } in
        rw dropped none
  ]

  piece_kept : (at : ℕ) (piece : List ℕ) (said : Field) (fields : List Field) (lines : List ℕ) → field_at f at (trimmed piece) ≡ Ok said
      → list_all is_plain piece ≡ true → IsKeptOf t fields lines → IsKeptOf t (said ∷ fields) (kept_line (trimmed piece) ++ lines)
  piece_kept at piece said fields lines read plain rest = by_text (trimmed piece) refl
    where
      by_text : (text : List ℕ) → trimmed piece ≡ text → IsKeptOf t (said ∷ fields) (kept_line (trimmed piece) ++ lines)
      by_text [] is = absurd (no_text f at said (subst (λ (bs : List ℕ). field_at f at bs ≡ Ok said) is read))
      by_text (letter ∷ text) is =
          subst (λ (bs : List ℕ). IsKeptOf t (said ∷ fields) (kept_line bs ++ lines)) (sym is)
          (field_kept letter text said fields lines (not_blank piece letter text is)
          (field_text f at letter text said (subst (λ (bs : List ℕ). field_at f at bs ≡ Ok said) is read))
          (subst (λ (bs : List ℕ). list_all is_plain bs ≡ true) is (plain_trimmed piece plain)) rest)

  -- after the last asterisk are only blanks
  pub nothing_kept : IsKeptOf t [] []
  nothing_kept = record { kept = []; says = says_nothing t; tests = refl; quiet = refl }

  end_kept : (at ends : ℕ) (text : List ℕ) (fields : List Field) → no_field at ends text ≡ Ok fields → IsKeptOf t fields (kept_line text ++ [])
  unfolding no_field
  end_kept at ends [] fields read = subst (λ (fs : List Field). IsKeptOf t fs []) (ok_same [] fields (Ok []) refl read) nothing_kept
  end_kept at ends (letter ∷ text) fields read = elim (cases_Bool (letter == 75)) [
    | inl refused ↦ absurd (let bad = rw refused at read in cc)
    | inr other ↦ elim (cases_Bool (is_field_letter letter)) [
      | inl begins ↦ absurd (let bad = rw (other, begins) at read in cc)
      | inr none ↦ absurd (let bad = rw (other, none) at read in cc)
    ]
  ]

  pub fields_kept : (ps : List (List ℕ)) (at : ℕ) (fields : List Field) → list_all (list_all is_plain) ps ≡ true → fields_from f at ps ≡ Ok fields → IsKeptOf t fields (kept_lines ps)
  unfolding fields_from
  fields_kept [] at fields plain read = subst (λ (fs : List Field). IsKeptOf t fs []) (ok_same [] fields (Ok []) refl read) nothing_kept
  fields_kept (piece ∷ []) at fields plain read = end_kept (at + (length piece - length (trimmed piece))) (at + length piece) (trimmed piece) fields read
  fields_kept (piece ∷ next ∷ rest) at fields plain read =
      let parts = and_parts (list_all is_plain piece) (list_all (list_all is_plain) (next ∷ rest)) plain in
      let first = both_ok (field_at f (at + (length piece - length (trimmed piece))) (trimmed piece)) _ fields read in
      let second = both_ok (fields_from f (at + length piece + 1) (next ∷ rest)) _ fields first.2 in
      subst (λ (fs : List Field). IsKeptOf t fs (kept_lines (piece ∷ next ∷ rest))) (ok_same (first.0 ∷ second.0) fields (Ok (first.0 ∷ second.0)) refl second.2)
      (piece_kept (at + (length piece - length (trimmed piece))) piece first.0 second.0 (kept_lines (next ∷ rest)) first.1 parts.0
      (fields_kept (next ∷ rest) (at + length piece + 1) second.0 parts.1 second.1))

-- ---- what fields say last

module _ {A : Type 0} (says : Field → Option A) where
  -- what speaks of tests alone is said by the fields of tests
  pub by_tests : ((said : Field) → is_test said ≡ false → says said ≡ None) → (fields : List Field) → last_of says fields ≡ last_of says (filter is_test fields)
  by_tests alone [] = refl
  by_tests alone (said ∷ fields) = elim (cases_Bool (is_test said)) [
    | inl test ↦ rw test (ap (λ o. option_or o (says said)) (by_tests alone fields))
    | inr other ↦ rw (other, alone said other) (none_after (last_of says fields) ∙ by_tests alone fields)
  ]
    where
      none_after : (o : Option A) → option_or o None ≡ o
      none_after None = refl
      none_after (Some x) = refl

  -- what speaks of fuses alone is not said by quiet fields
  pub by_quiet : ((said : Field) → is_quiet said ≡ true → says said ≡ None) → (fields : List Field) → list_all is_quiet fields ≡ true → last_of says fields ≡ None
  by_quiet alone [] quiet = refl
  by_quiet alone (said ∷ fields) quiet =
      let parts = and_parts (is_quiet said) (list_all is_quiet fields) quiet in
      rw (by_quiet alone fields parts.1, alone said parts.0) refl
