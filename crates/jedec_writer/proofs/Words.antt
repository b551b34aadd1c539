-- The words of a field's text, if a blank parts them.
use Rattle.std.proofs.Common.{◌≡◌, ℕ, Bool, true, false, not, ◌||◌, List, [], ◌∷◌, ◌++◌, refl, ◌∙◌, arith, ◌==◌, nat_lt}
use Rattle.jedec_writer.proofs.Common.{list_all, slice_split, All, and_parts, and_from, nat_tests, slice_split_none, slice_split_at, All-nil, All-cons, ETX, space, is_blank, has_bytes, words}
use Rattle.std.proofs.lemmas.List.Folds.{list_all-append}

-- a byte that parts no words, ends no field and ends no text: all of these precede the plus sign
abbrev pub is_word_byte : ℕ → Bool
is_word_byte b = nat_lt 42 b

-- there is a byte, and each is one of a word
pub record IsWord (word : List ℕ) : Type 0 where
  pub bytes : list_all is_word_byte word ≡ true
  pub some : has_bytes word ≡ true

-- it ends neither its field nor the text
abbrev pub is_plain : ℕ → Bool
is_plain b = not (b == 42 || b == ETX)

not_blank : (b : ℕ) → is_word_byte b ≡ true → is_blank b ≡ false
not_blank b test = grind (arith, nat_tests)

plain : (b : ℕ) → is_word_byte b ≡ true → is_plain b ≡ true
plain b test = grind (arith, nat_tests)

none_blank : (word : List ℕ) → list_all is_word_byte word ≡ true → All (λ b. is_blank b ≡ false) word
none_blank [] test = All-nil (λ b. is_blank b ≡ false)
none_blank (b ∷ bs) test =
    let parts = and_parts (is_word_byte b) (list_all is_word_byte bs) test in
    All-cons (λ b. is_blank b ≡ false) b bs (not_blank b parts.0) (none_blank bs parts.1)

pub word_is_plain : (word : List ℕ) → list_all is_word_byte word ≡ true → list_all is_plain word ≡ true
word_is_plain [] test = refl
word_is_plain (b ∷ bs) test =
    let parts = and_parts (is_word_byte b) (list_all is_word_byte bs) test in
    and_from (is_plain b) (list_all is_plain bs) (plain b parts.0) (word_is_plain bs parts.1)

-- a test that two lists pass
pub both_pass : {X : Type 0} (test : X → Bool) (xs ys : List X) → list_all test xs ≡ true → list_all test ys ≡ true → list_all test (xs ++ ys) ≡ true
both_pass test xs ys first second =
    list_all-append test xs ys ∙ and_from (list_all test xs) (list_all test ys) first second

-- the words of one word, and of two with a blank between them
pub one_word : (word : List ℕ) → IsWord word → words word ≡ word ∷ []
one_word word is =
    let parts : slice_split is_blank word ≡ word ∷ [] = slice_split_none is_blank word (none_blank word is.bytes) in
    let some : has_bytes word ≡ true = is.some in
    rw (parts, some) refl

pub two_words : (first second : List ℕ) → IsWord first → IsWord second → words (first ++ space ∷ second) ≡ first ∷ second ∷ []
two_words first second is also =
    let here : slice_split is_blank (first ++ space ∷ second) ≡ first ∷ slice_split is_blank second = slice_split_at is_blank first space second (none_blank first is.bytes) refl in
    let there : slice_split is_blank second ≡ second ∷ [] = slice_split_none is_blank second (none_blank second also.bytes) in
    let some : has_bytes first ≡ true = is.some in
    let more : has_bytes second ≡ true = also.some in
    rw (here, there, some, more) refl
