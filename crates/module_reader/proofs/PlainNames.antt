-- The name of a module is the text of an identifier, and so has neither an asterisk nor the end byte.
use Rattle.std.proofs.Common.{◌≡◌, ℕ, Bool, true, not, ◌==◌, ◌||◌, List, [], ◌∷◌, refl, sym, ap, ◌∙◌, inl, inr}
use Rattle.module_reader.proofs.Common.{and_from, and_parts, cases_Bool, eqb-true, or_cases, true≢false}
use Rattle.std.specs.List.{list_all}
use Rattle.abel_lexer.specs.Bytes.{is_name_first, is_name_later}
use Rattle.abel_lexer.specs.Kinds.{IsWord}
use Rattle.jedec_file.specs.CanonicalFile.{IsPlainName}
use Rattle.jedec_file.specs.FileText.{ETX}
use Rattle.module_reader.specs.Correct.{ModuleNamesArePlain}
use Rattle.module_reader.proofs.ModuleNames.{name_is_identifier}

-- ---- bytes

abbrev is_plain : ℕ → Bool
is_plain b = not (b == 42 || b == ETX)

-- no byte of a name is an asterisk or the end byte
later_is_plain : (b : ℕ) → is_name_later b ≡ true → is_plain b ≡ true
later_is_plain b later = elim (cases_Bool (b == 42 || b == ETX)) [
  | inl ends ↦ elim (or_cases (b == 42) (b == ETX) ends) [
    | inl star ↦ absurd (true≢false (sym later ∙ ap is_name_later (eqb-true b 42 star)))
    | inr end ↦ absurd (true≢false (sym later ∙ ap is_name_later (eqb-true b ETX end)))
  ]
  | inr plain ↦ ap not plain
]

first_is_later : (b : ℕ) → is_name_first b ≡ true → is_name_later b ≡ true
first_is_later b first = rw first refl

all_plain : (bs : List ℕ) → list_all is_name_later bs ≡ true → IsPlainName bs
all_plain [] all = refl
all_plain (b ∷ bs) all =
    let parts = and_parts (is_name_later b) (list_all is_name_later bs) all in
    and_from (is_plain b) (list_all is_plain bs) (later_is_plain b parts.0) (all_plain bs parts.1)

word_is_plain : (w : List ℕ) → IsWord w → IsPlainName w
word_is_plain [] word = absurd word
word_is_plain (b ∷ bs) word =
    and_from (is_plain b) (list_all is_plain bs) (later_is_plain b (first_is_later b word.0)) (all_plain bs word.1)

pub name_is_plain : ModuleNamesArePlain
name_is_plain text tokens m scans spelled =
    let identifier = name_is_identifier text tokens m spelled.0 scans spelled.1 in
    word_is_plain m.name.text identifier.token.0
