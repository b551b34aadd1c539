-- The laws of declarations.
use Rattle.std.proofs.Common.{ℕ, suc, true, false, List, [], ◌∷◌, ◌++◌, length, Option, Some, None, refl}
use Rattle.abel_grammar.proofs.Common.{Form, ◌then◌, repeated, made, Reader, ◌then_read◌, read_repeated, read_made, Token, Word, Item, Tree, SomeOptions, DontCareFor, Terminal, Identifier, Number, Text, Not, Range, Comma, Semicolon, Equal, Device, Pin, Node, Istype, Flag, Options, DontCare, number_of, terminal_of, among, one, read_one, item_of, item, names, span_of, num, nums, texts, attributes_in, istype, option_words, options_in, option, device_of, kept, pins_of, nodes_of, attributes_of, constants_of, value_of, values_for, naming, option_decl, dont_care_decl, decl, other_decl, read_item, read_names, read_num, read_nums, read_texts, read_istype, read_option, read_kept, only_name, bare_names, read_device, read_values_for, read_constants, read_declared, declared_in, read_naming, naming_starts, read_option_decl, read_dont_care_decl, read_decl, read_other_decl, decl_starts, other_starts}
use Rattle.abel_grammar.proofs.SameForms.{same_laws}
use Rattle.abel_grammar.proofs.FurtherLaws.{nothing_laws, times_laws}
use Rattle.abel_grammar.proofs.ClassLaws as laws
use Rattle.abel_grammar.proofs.Sets.{Obeys, Keeps, one_laws, some_laws, then_laws, or_laws, perhaps, any_number, turned, apart_laws, widened}
use Rattle.abel_grammar.proofs.ExpressionLaws.{exprs, behind_expr, name_laws, number_laws, text_laws, end_laws, dont_care_laws, expr_laws}
use Rattle.abel_grammar.proofs.DeclarationForms.{device_behind, constants_behind, declared, naming_read, naming_same}

-- ---- names, numbers and strings

pub item_laws : Keeps item read_item naming_starts (Range ∷ []) false
unfolding item read_item
item_laws =
    turned item_of naming_starts (Range ∷ []) false
    (then_laws (Not ∷ []) (Not ∷ []) (Identifier ∷ []) (Range ∷ []) true false (perhaps (Not ∷ []) [] (one_laws Not))
    (then_laws (Identifier ∷ []) [] (Range ∷ []) (Range ∷ []) false true name_laws
    (perhaps (Range ∷ []) [] (then_laws (Range ∷ []) [] (Identifier ∷ []) [] false false (one_laws Range) name_laws refl)) refl) refl)

pub names_laws : Keeps names read_names naming_starts (Comma ∷ Range ∷ []) false
unfolding names read_names
names_laws = apart_laws Comma naming_starts (Range ∷ []) item_laws refl refl

pub num_laws : Keeps num read_num (Number ∷ []) (Range ∷ []) false
unfolding num read_num
num_laws =
    turned span_of (Number ∷ []) (Range ∷ []) false
    (then_laws (Number ∷ []) [] (Range ∷ []) (Range ∷ []) false true number_laws
    (perhaps (Range ∷ []) [] (then_laws (Range ∷ []) [] (Number ∷ []) [] false false (one_laws Range) number_laws refl)) refl)

nums_laws : Keeps nums read_nums (Number ∷ []) (Comma ∷ Range ∷ []) false
unfolding nums read_nums
nums_laws = apart_laws Comma (Number ∷ []) (Range ∷ []) num_laws refl refl

texts_laws : Keeps texts read_texts (Text ∷ []) (Comma ∷ []) false
unfolding texts read_texts
texts_laws = apart_laws Comma (Text ∷ []) [] text_laws refl refl

istype_laws : Keeps istype read_istype (Istype ∷ []) (Comma ∷ []) false
unfolding istype read_istype
istype_laws =
    turned attributes_in (Istype ∷ []) (Comma ∷ []) false
    (then_laws (Istype ∷ []) [] (Text ∷ []) (Comma ∷ []) false false (one_laws Istype) texts_laws refl)

pub option_laws : Keeps option read_option option_words (Semicolon ∷ Comma ∷ []) false
unfolding option read_option
option_laws =
    turned options_in option_words (Semicolon ∷ Comma ∷ []) false
    (then_laws option_words [] (Text ∷ []) (Semicolon ∷ Comma ∷ []) false false (some_laws option_words)
    (then_laws (Text ∷ []) (Comma ∷ []) (Semicolon ∷ []) (Semicolon ∷ []) false true texts_laws end_laws refl) refl)

kept_laws : (word : Terminal) → Keeps (kept word) (read_kept word) (word ∷ []) [] false
unfolding read_kept
kept_laws word =
    then_laws (word ∷ []) [] (Number ∷ Istype ∷ Semicolon ∷ []) [] false false (one_laws word)
    (then_laws (Number ∷ []) (Number ∷ Comma ∷ Range ∷ []) (Istype ∷ Semicolon ∷ []) [] true false (perhaps (Number ∷ []) (Comma ∷ Range ∷ []) nums_laws)
    (then_laws (Istype ∷ []) (Istype ∷ Comma ∷ []) (Semicolon ∷ []) [] true false (perhaps (Istype ∷ []) (Comma ∷ []) istype_laws) (one_laws Semicolon) refl) refl) refl

-- ---- what follows names

device_laws : (o : Option Word) → Keeps (device_behind o) (read_device o) (Device ∷ []) [] false
device_laws None = nothing_laws (among (Device ∷ [])) (λ t x. among [] x) false
device_laws (Some w) =
    turned (λ x. device_of (w, x)) (Device ∷ []) [] false
    (then_laws (Device ∷ []) [] (Text ∷ []) [] false false (one_laws Device)
    (then_laws (Text ∷ []) [] (Semicolon ∷ []) [] false false text_laws (one_laws Semicolon) refl) refl)

module _ (e e' : Form Token Tree) (r r' : Reader Token Tree) (le : Obeys e e' r r' exprs behind_expr false) where
  value_laws : Obeys (made value_of (one Comma then e)) (made value_of (one Comma then e')) (read_made value_of (read_one Comma then_read r)) (read_made value_of (read_one Comma then_read r')) (Comma ∷ []) behind_expr false
  value_laws = turned value_of (Comma ∷ []) behind_expr false (then_laws (Comma ∷ []) [] exprs behind_expr false false (one_laws Comma) le refl)

  values_laws : (ws : List Word) → Obeys (values_for ws e) (values_for ws e') (read_values_for ws r) (read_values_for ws r') exprs behind_expr false
  values_laws [] = nothing_laws (among exprs) (λ t x. among behind_expr x) false
  values_laws (w ∷ ws) =
      turned (λ x. x.0 ∷ x.1) exprs behind_expr false
      (widened exprs (behind_expr ++ behind_expr) exprs behind_expr false
      (then_laws exprs behind_expr (Comma ∷ []) behind_expr false true le
      (times_laws _ _ _ _ (among (Comma ∷ [])) (among behind_expr) value_laws (λ x h. laws.among_apart number_of terminal_of (Comma ∷ []) behind_expr refl x h) (length ws)) refl) refl refl)

  constants_laws : (o : Option (List Word)) → Obeys (constants_behind o e) (constants_behind o e') (read_constants o r) (read_constants o r') (Equal ∷ []) [] false
  constants_laws None = nothing_laws (among (Equal ∷ [])) (λ t x. among [] x) false
  constants_laws (Some ws) =
      turned (λ x. constants_of (ws, x)) (Equal ∷ []) [] false
      (then_laws (Equal ∷ []) [] exprs [] false false (one_laws Equal)
      (then_laws exprs behind_expr (Semicolon ∷ []) [] false false (values_laws ws) (one_laws Semicolon) refl) refl)

declared_laws : (n : ℕ) (is : List Item) → Obeys (declared n is) (declared (suc n) is) (read_declared n is) (read_declared (suc n) is) (Device ∷ Pin ∷ Node ∷ Istype ∷ Equal ∷ []) [] false
unfolding read_declared
declared_laws n is =
    or_laws (Device ∷ []) (Pin ∷ Node ∷ Istype ∷ Equal ∷ []) [] [] (device_laws (only_name is))
    (or_laws (Pin ∷ []) (Node ∷ Istype ∷ Equal ∷ []) [] [] (turned (λ x. pins_of (is, x)) (Pin ∷ []) [] false (kept_laws Pin))
    (or_laws (Node ∷ []) (Istype ∷ Equal ∷ []) [] [] (turned (λ x. nodes_of (is, x)) (Node ∷ []) [] false (kept_laws Node))
    (or_laws (Istype ∷ []) (Equal ∷ []) [] []
    (turned (λ x. attributes_of (is, x)) (Istype ∷ []) [] false (then_laws (Istype ∷ []) (Comma ∷ []) (Semicolon ∷ []) [] false false istype_laws (one_laws Semicolon) refl))
    (constants_laws _ _ _ _ (expr_laws n) (bare_names is)) refl) refl) refl) refl

naming_read_laws : (n : ℕ) → Obeys (naming_read n) (naming_read (suc n)) (read_naming n) (read_naming (suc n)) naming_starts [] false
unfolding read_naming
naming_read_laws n =
    turned declared_in naming_starts [] false
    (laws.in_turn number_of terminal_of _ _ _ _ _ _ _ _ naming_starts (Comma ∷ Range ∷ []) (Device ∷ Pin ∷ Node ∷ Istype ∷ Equal ∷ []) [] false false names_laws (λ is. declared_laws n is) refl)

pub naming_laws : (n : ℕ) → Obeys (naming n) (naming (suc n)) (read_naming n) (read_naming (suc n)) naming_starts [] false
naming_laws n = same_laws _ _ _ _ _ _ (among naming_starts) (λ t x. among [] x) false (naming_same names_laws.whole n) (naming_same names_laws.whole (suc n)) (naming_read_laws n)

-- ---- all declarations

option_decl_laws : Keeps option_decl read_option_decl option_words (Semicolon ∷ Comma ∷ []) false
unfolding option_decl read_option_decl
option_decl_laws = turned SomeOptions option_words (Semicolon ∷ Comma ∷ []) false option_laws

dont_care_decl_laws : Keeps dont_care_decl read_dont_care_decl (DontCare ∷ []) (Semicolon ∷ []) false
unfolding dont_care_decl read_dont_care_decl
dont_care_decl_laws = turned DontCareFor (DontCare ∷ []) (Semicolon ∷ []) false dont_care_laws

pub decl_laws : (n : ℕ) → Obeys (decl n) (decl (suc n)) (read_decl n) (read_decl (suc n)) decl_starts (Semicolon ∷ Comma ∷ []) false
unfolding decl read_decl
decl_laws n =
    widened decl_starts (Semicolon ∷ Comma ∷ Semicolon ∷ []) decl_starts (Semicolon ∷ Comma ∷ []) false
    (or_laws naming_starts (Flag ∷ Options ∷ DontCare ∷ []) [] (Semicolon ∷ Comma ∷ Semicolon ∷ []) (naming_laws n)
    (or_laws option_words (DontCare ∷ []) (Semicolon ∷ Comma ∷ []) (Semicolon ∷ []) option_decl_laws dont_care_decl_laws refl) refl) refl refl

pub other_decl_laws : (n : ℕ) → Obeys (other_decl n) (other_decl (suc n)) (read_other_decl n) (read_other_decl (suc n)) other_starts (Semicolon ∷ []) false
unfolding other_decl read_other_decl
other_decl_laws n = or_laws naming_starts (DontCare ∷ []) [] (Semicolon ∷ []) (naming_laws n) dont_care_decl_laws refl

pub decls_laws : (n : ℕ) → Obeys (repeated (decl n)) (repeated (decl (suc n))) (read_repeated (among decl_starts) (read_decl n)) (read_repeated (among decl_starts) (read_decl (suc n))) decl_starts (decl_starts ++ Semicolon ∷ Comma ∷ []) true
decls_laws n = any_number decl_starts (Semicolon ∷ Comma ∷ []) (decl_laws n) refl
