-- The longest of the kinds' lengths is that of the longest token at the front.
use Rattle.std.proofs.Common.{ℕ, ◌≤◌, ◌<◌, inl, inr, true, false, cond, ltb, List, [], ◌∷◌, ◌++◌, length, take, refl, arith, ◌==◌}
use Rattle.abel_lexer.proofs.Common.{is_ascii_digit, is_ascii_alphabetic, is_ascii_alphanumeric, ltb-false, ltb-true, TokenKind, caret, dot, is_letter, is_name_first, is_name_later, is_radix_letter, is_keyword, signs, IsWord, IsToken, no_byte, extension_head, shaped_len, number_len, special_len, quoted_len, listed_len, directive_len, word_kind, word_at, longer, longest_word, longest_at}
use Rattle.abel_lexer.specs.declared.token.TokenKind.TheVariants as kind
use Rattle.abel_lexer.proofs.Munches.{Munches, shaped_munches, either_munches, listed_munches, directive_munches}
use Rattle.abel_lexer.proofs.Quotes.{quoted_munches}
use Rattle.abel_lexer.proofs.Booleans.{bool_cases}

longer_is : (P : TokenKind × ℕ → Type 0) (a b : TokenKind × ℕ) → P a → P b → P (longer a b)
longer_is P a b p q = elim (ltb a.1 b.1) as (λ v. P (cond v b a)) [ true ↦ q | false ↦ p ]

longer_first : (a b : TokenKind × ℕ) → a.1 ≤ (longer a b).1
longer_first a b = elim (bool_cases (ltb a.1 b.1)) [ inl e ↦ rw e (let lt = ltb-true _ _ e in omega arith) | inr e ↦ rw e (omega arith) ]

longer_second : (a b : TokenKind × ℕ) → b.1 ≤ (longer a b).1
longer_second a b = elim (bool_cases (ltb a.1 b.1)) [ inl e ↦ rw e (omega arith) | inr e ↦ rw e (let le = ltb-false _ _ e in omega arith) ]

-- ---- the laws of each kind

words : Munches IsWord (shaped_len (is_name_first ∷ []) is_name_later)
words = shaped_munches is_name_later is_name_first []

pub numbers : Munches (IsToken kind.Number) number_len
numbers =
    either_munches (shaped_munches is_ascii_alphanumeric is_ascii_digit [])
    (shaped_munches is_ascii_alphanumeric (λ b. b == caret) (is_radix_letter ∷ is_ascii_alphanumeric ∷ []))

specials : Munches (IsToken kind.Special) special_len
specials =
    either_munches (shaped_munches no_byte (λ b. b == dot) (is_ascii_alphabetic ∷ (λ b. b == dot) ∷ []))
    (shaped_munches no_byte (λ b. b == dot) (is_letter 115 ∷ is_letter 118 ∷ is_ascii_digit ∷ (λ b. b == dot) ∷ []))

extensions : Munches (IsToken kind.Extension) (shaped_len extension_head is_name_later)
extensions = shaped_munches is_name_later (λ b. b == dot) (is_name_first ∷ [])

texts : Munches (IsToken kind.Text) quoted_len
texts = quoted_munches

sign_words : Munches (IsToken kind.Sign) (listed_len signs)
sign_words = listed_munches 3 signs refl

directive_words : Munches (IsToken kind.Directive) directive_len
directive_words = directive_munches

-- a word is an identifier or a keyword
word_token : (w : List ℕ) → IsWord w → IsToken (word_kind w) w
word_token w h =
    elim (bool_cases (is_keyword w)) [
      | inl e ↦ rw e (h, e)
      | inr e ↦ rw e (h, e)
    ]

-- ---- all kinds

abbrev number_of : List ℕ → TokenKind × ℕ
number_of ts = (kind.Number, number_len ts)

abbrev special_of : List ℕ → TokenKind × ℕ
special_of ts = (kind.Special, special_len ts)

abbrev extension_of : List ℕ → TokenKind × ℕ
extension_of ts = (kind.Extension, shaped_len extension_head is_name_later ts)

abbrev text_of : List ℕ → TokenKind × ℕ
text_of ts = (kind.Text, quoted_len ts)

abbrev sign_of : List ℕ → TokenKind × ℕ
sign_of ts = (kind.Sign, listed_len signs ts)

abbrev directive_of : List ℕ → TokenKind × ℕ
directive_of ts = (kind.Directive, directive_len ts)

-- what holds of each kind's length holds of the longest
longest_word_is : (P : TokenKind × ℕ → Type 0) (ts : List ℕ) → P (word_at ts) → P (number_of ts) → P (special_of ts) → P (extension_of ts) → P (longest_word ts)
unfolding longest_word
longest_word_is P ts a b c d = longer_is P _ _ (longer_is P (word_at ts) (number_of ts) a b) (longer_is P (special_of ts) (extension_of ts) c d)

longest_is : (P : TokenKind × ℕ → Type 0) (ts : List ℕ) → P (word_at ts) → P (number_of ts) → P (special_of ts) → P (extension_of ts) → P (text_of ts) → P (sign_of ts) → P (directive_of ts) → P (longest_at ts)
unfolding longest_at
longest_is P ts a b c d e f g =
    longer_is P _ _ (longest_word_is P ts a b c d) (longer_is P (text_of ts) _ e (longer_is P (sign_of ts) (directive_of ts) f g))

-- no kind's length is above the longest
words_above : (ts : List ℕ)
    → ((word_at ts).1 ≤ (longest_word ts).1) × ((number_of ts).1 ≤ (longest_word ts).1) × ((special_of ts).1 ≤ (longest_word ts).1) × ((extension_of ts).1 ≤ (longest_word ts).1)
unfolding longest_word
words_above ts =
    let front : TokenKind × ℕ = longer (word_at ts) (number_of ts) in
    let back : TokenKind × ℕ = longer (special_of ts) (extension_of ts) in
    let one = longer_first front back in
    let two = longer_second front back in
    let a = longer_first (word_at ts) (number_of ts) in
    let b = longer_second (word_at ts) (number_of ts) in
    let c = longer_first (special_of ts) (extension_of ts) in
    let d = longer_second (special_of ts) (extension_of ts) in
    (omega (arith, a, one), omega (arith, b, one), omega (arith, c, two), omega (arith, d, two))

longest_above : (ts : List ℕ)
    → ((longest_word ts).1 ≤ (longest_at ts).1) × ((text_of ts).1 ≤ (longest_at ts).1) × ((sign_of ts).1 ≤ (longest_at ts).1) × ((directive_of ts).1 ≤ (longest_at ts).1)
unfolding longest_at
longest_above ts =
    let last : TokenKind × ℕ = longer (sign_of ts) (directive_of ts) in
    let back : TokenKind × ℕ = longer (text_of ts) last in
    let one = longer_first (longest_word ts) back in
    let two = longer_second (longest_word ts) back in
    let a = longer_first (text_of ts) last in
    let b = longer_second (text_of ts) last in
    let c = longer_first (sign_of ts) (directive_of ts) in
    let d = longer_second (sign_of ts) (directive_of ts) in
    (one, omega (arith, a, two), omega (arith, b, c, two), omega (arith, b, d, two))

pub fits : (ts : List ℕ) → (longest_at ts).1 ≤ length ts
fits ts =
    longest_is (λ a. a.1 ≤ length ts) ts (words.fits ts) (numbers.fits ts) (specials.fits ts) (extensions.fits ts) (texts.fits ts) (sign_words.fits ts) (directive_words.fits ts)

pub longest_token : (ts : List ℕ) → 0 < (longest_at ts).1 → IsToken (longest_at ts).0 (take (longest_at ts).1 ts)
longest_token ts =
    longest_is (λ a. 0 < a.1 → IsToken a.0 (take a.1 ts)) ts (λ lt. word_token _ (words.token ts lt)) (numbers.token ts) (specials.token ts) (extensions.token ts)
    (texts.token ts) (sign_words.token ts) (directive_words.token ts)

-- a name, number or dotted word is no longer than the longest token
word_below : (ts : List ℕ) (n : ℕ) → n ≤ (longest_word ts).1 → n ≤ (longest_at ts).1
word_below ts n le = omega (arith, (longest_above ts).0)

pub longest_longest : (k : TokenKind) (w rest : List ℕ) → IsToken k w → length w ≤ (longest_at (w ++ rest)).1
longest_longest kind.Identifier w rest h = word_below (w ++ rest) _ (omega (arith, (words_above (w ++ rest)).0, words.longest w rest h.0))
longest_longest kind.Keyword w rest h = word_below (w ++ rest) _ (omega (arith, (words_above (w ++ rest)).0, words.longest w rest h.0))
longest_longest kind.Number w rest h = word_below (w ++ rest) _ (omega (arith, (words_above (w ++ rest)).1, numbers.longest w rest h))
longest_longest kind.Special w rest h = word_below (w ++ rest) _ (omega (arith, (words_above (w ++ rest)).2, specials.longest w rest h))
longest_longest kind.Extension w rest h = word_below (w ++ rest) _ (omega (arith, (words_above (w ++ rest)).3, extensions.longest w rest h))
longest_longest kind.Text w rest h = omega (arith, (longest_above (w ++ rest)).1, texts.longest w rest h)
longest_longest kind.Sign w rest h = omega (arith, (longest_above (w ++ rest)).2, sign_words.longest w rest h)
longest_longest kind.Directive w rest h = omega (arith, (longest_above (w ++ rest)).3, directive_words.longest w rest h)

pub token_some : (k : TokenKind) (w : List ℕ) → IsToken k w → 0 < length w
token_some kind.Identifier w h = words.some w h.0
token_some kind.Keyword w h = words.some w h.0
token_some kind.Number w h = numbers.some w h
token_some kind.Special w h = specials.some w h
token_some kind.Extension w h = extensions.some w h
token_some kind.Text w h = texts.some w h
token_some kind.Sign w h = sign_words.some w h
token_some kind.Directive w h = directive_words.some w h

pub number_fits : (ts : List ℕ) → number_len ts ≤ length ts
number_fits = numbers.fits
