-- The parts of a text that nothing ends: no asterisk and no end byte is in them.
use Rattle.std.proofs.Common.{◌≡◌, ℕ, zero, suc, Bool, true, false, not, ◌==◌, ◌||◌, if◌then◌else◌, List, [], ◌∷◌, refl, take, drop, arith, inl, inr}
use Rattle.std.proofs.lemmas.Bool.{and_from, and_parts, cases_Bool}
use Rattle.std.proofs.lemmas.Bool.Decides.{nat_tests}
use Rattle.std.specs.List.{list_all, onto_first}
use Rattle.jedec_file.specs.FieldLists.{pieces}
use Rattle.jedec_file.specs.Fields.{is_blank, trimmed}
use Rattle.jedec_writer.proofs.SaidBack.{is_inner}
use Rattle.jedec_writer.proofs.Words.{is_plain}

-- ---- parts of a list pass a test that the list passes

pub pass_take : {X : Type 0} (test : X → Bool) (n : ℕ) (xs : List X) → list_all test xs ≡ true → list_all test (take n xs) ≡ true
pass_take test zero xs pass = refl
pass_take test (suc n) [] pass = refl
pass_take test (suc n) (x ∷ xs) pass =
    let parts = and_parts (test x) (list_all test xs) pass in
    and_from (test x) (list_all test (take n xs)) parts.0 (pass_take test n xs parts.1)

pub pass_drop : {X : Type 0} (test : X → Bool) (n : ℕ) (xs : List X) → list_all test xs ≡ true → list_all test (drop n xs) ≡ true
pass_drop test zero xs pass = pass
pass_drop test (suc n) [] pass = refl
pass_drop test (suc n) (x ∷ xs) pass = pass_drop test n xs (and_parts (test x) (list_all test xs) pass).1

pub plain_trimmed : (text : List ℕ) → list_all is_plain text ≡ true → list_all is_plain (trimmed text) ≡ true
plain_trimmed [] pass = refl
plain_trimmed (b ∷ bs) pass = elim (cases_Bool (is_blank b)) [
  | inl blank ↦ rw blank (plain_trimmed bs (and_parts (is_plain b) (list_all is_plain bs) pass).1)
  | inr other ↦ rw other pass
]

-- ---- pieces between asterisks

plain_byte : (b : ℕ) → is_inner b ≡ true → (b == 42) ≡ false → is_plain b ≡ true
plain_byte b inner other = grind (arith, nat_tests)

onto_plain : (b : ℕ) (parts : List (List ℕ)) → is_plain b ≡ true → list_all (list_all is_plain) parts ≡ true → list_all (list_all is_plain) (onto_first b parts) ≡ true
onto_plain b [] byte rest = rw byte refl
onto_plain b (part ∷ parts) byte rest = rw byte rest

pub pieces_plain : (text : List ℕ) → list_all is_inner text ≡ true → list_all (list_all is_plain) (pieces text) ≡ true
pieces_plain [] inner = refl
pieces_plain (b ∷ bs) inner =
    let parts = and_parts (is_inner b) (list_all is_inner bs) inner in
    elim (cases_Bool (b == 42)) [
      | inl cut ↦ rw cut (pieces_plain bs parts.1)
      | inr other ↦ rw other (onto_plain b (pieces bs) (plain_byte b parts.0 other) (pieces_plain bs parts.1))
    ]
