-- The first word of a text, and the words after it.
use Rattle.std.proofs.Common.{◌≡◌, ◌≢◌, ℕ, suc, ◌+◌, ◌<◌, ◌≤◌, true, false, if◌then◌else◌, inl, inr, List, [], ◌∷◌, length, take, drop, get_or, filter, refl, sym, ap, arith}
use Rattle.jedec_reader.proofs.Common.{slice_split, position_or_len, cases_Bool, slice_split-cons_yes, position_or_len_is, is_blank, has_bytes, words, trimmed}

-- ---- the first blank

pub blank_found : (xs : List ℕ) (i : ℕ) → i < length xs → is_blank (get_or xs i 0) ≡ true → ((k : ℕ) → k < i → is_blank (get_or xs k 0) ≡ false) → i ≡ position_or_len is_blank xs
blank_found xs i lt here before = sym (position_or_len_is is_blank xs i 0 (omega arith) before (λ _. here))

pub no_blank : (xs : List ℕ) (i : ℕ) → length xs ≤ i → ((k : ℕ) → k < i → is_blank (get_or xs k 0) ≡ false) → length xs ≡ position_or_len is_blank xs
no_blank xs i le before = sym (position_or_len_is is_blank xs (length xs) 0 (omega arith) (λ k low. before k (omega arith)) (λ low. absurd (omega arith)))

-- ---- blanks in front

-- the parts that are words
abbrev real : List (List ℕ) → List (List ℕ)
real = filter has_bytes

words_blank : (b : ℕ) (bs : List ℕ) → is_blank b ≡ true → words (b ∷ bs) ≡ words bs
words_blank b bs blank = rw (slice_split-cons_yes is_blank b bs blank) refl

pub words_trimmed : (text : List ℕ) → words (trimmed text) ≡ words text
words_trimmed [] = refl
words_trimmed (b ∷ bs) = elim (cases_Bool (is_blank b)) [
  | inl blank ↦ rw blank (words_trimmed bs)
  | inr other ↦ rw other (rw other refl)
]

-- a text that is trimmed begins with no blank
pub trimmed_begins : (text : List ℕ) (b : ℕ) (bs : List ℕ) → trimmed text ≡ b ∷ bs → is_blank b ≡ false
trimmed_begins [] b bs is = absurd cc
trimmed_begins (x ∷ xs) b bs is = elim (cases_Bool (is_blank x)) [
  | inl blank ↦ trimmed_begins xs b bs (rw blank at is)
  | inr other ↦ let same : x ≡ b = cc (rw other at is) in rw (sym same) other
]

-- ---- the first word

one_more : (n : ℕ) → 1 + n ≡ suc n
one_more n = omega arith

-- the parts after the first one
abbrev more_parts : List ℕ → List (List ℕ)
more_parts [] = []
more_parts (b ∷ bs) = if is_blank b then slice_split is_blank bs else more_parts bs

split_first : (text : List ℕ) → slice_split is_blank text ≡ take (position_or_len is_blank text) text ∷ more_parts text
split_first [] = refl
split_first (b ∷ bs) = elim (cases_Bool (is_blank b)) [
  | inl blank ↦ rw blank refl
  | inr other ↦ rw (other, split_first bs, one_more (position_or_len is_blank bs)) refl
]

more_words : (text : List ℕ) → real (more_parts text) ≡ words (drop (position_or_len is_blank text) text)
more_words [] = refl
more_words (b ∷ bs) = elim (cases_Bool (is_blank b)) [
  | inl blank ↦ rw blank (sym (words_blank b bs blank))
  | inr other ↦ rw (other, one_more (position_or_len is_blank bs)) (more_words bs)
]

begins_with_word : (b : ℕ) (bs : List ℕ) → is_blank b ≡ false → words (b ∷ bs) ≡ take (position_or_len is_blank (b ∷ bs)) (b ∷ bs) ∷ words (drop (position_or_len is_blank (b ∷ bs)) (b ∷ bs))
begins_with_word b bs other = rw (other, split_first bs, one_more (position_or_len is_blank bs)) (ap (λ ws. (b ∷ take (position_or_len is_blank bs) bs) ∷ ws) (more_words bs))

-- ---- the same of a text and of what is left of it without the blanks in front

pub no_words : (text left : List ℕ) → left ≡ trimmed text → length left ≡ 0 → words text ≡ []
no_words text [] is none = rw (sym (words_trimmed text), sym is) refl
no_words text (b ∷ bs) is none = absurd (omega (arith, none))

pub words_cut : (text left : List ℕ) → left ≡ trimmed text → length left ≢ 0 → words text ≡ take (position_or_len is_blank left) left ∷ words (drop (position_or_len is_blank left) left)
words_cut text [] is some = absurd (some refl)
words_cut text (b ∷ bs) is some = rw (sym (words_trimmed text), sym is) (begins_with_word b bs (trimmed_begins text b bs (sym is)))

pub word_is_long : (text left : List ℕ) → left ≡ trimmed text → length left ≢ 0 → 0 < position_or_len is_blank left
word_is_long text [] is some = absurd (some refl)
word_is_long text (b ∷ bs) is some = rw (trimmed_begins text b bs (sym is)) (omega arith)
