-- The token at the front of a text is given by the longest length there.
use Rattle.std.proofs.Common.{◌≡◌, ℕ, ◌≤◌, ◌<◌, true, false, inl, inr, List, [], ◌∷◌, ◌++◌, length, take, drop, refl, sym, ap, subst, arith, take-append-drop}
use Rattle.decompiled.proofs.Common.{take_at, length-take-le, cases_Bool, true≢false, TokenKind, is_name_first, is_name_later, starts, is_keyword, IsToken, IsWord, word_head, longest_at, quoted_len, shaped_len, IsLongest, Munches, shaped_munches, is_word_kind, is_text_kind}
use Rattle.abel_lexer.specs.declared.token.TokenKind.TheVariants as kind
use Rattle.abel_lexer.proofs.Longest.{longest_token, longest_longest}
use Rattle.abel_lexer.proofs.Quotes.{quoted_munches}

pub some_bytes : (w : List ℕ) → starts (λ b. true) w ≡ true → 0 < length w
some_bytes [] e = absurd (true≢false (sym e))
some_bytes (b ∷ bs) e = omega arith

-- some kind's token
abbrev IsSome : List ℕ → Type 0
IsSome v = (l : TokenKind) × IsToken l v

-- what has the longest length at the front
module _ (k : TokenKind) (w behind : List ℕ) (some : 0 < length w) (apart : longest_at (w ++ behind) ≡ (k, length w)) where
  long : (longest_at (w ++ behind)).1 ≡ length w
  long = ap (λ (a : TokenKind × ℕ). a.1) apart

  -- it is a token of that kind
  pub is_token : IsToken k w
  is_token =
      let there = longest_token (w ++ behind) (omega (arith, some, long)) in
      let one = subst (λ (a : TokenKind × ℕ). IsToken a.0 (take a.1 (w ++ behind))) apart there in
      subst (λ (v : List ℕ). IsToken k v) (take_at w behind (length w) refl) one

  none_longer : (l : TokenKind) (v more : List ℕ) → w ++ behind ≡ v ++ more → IsToken l v → length v ≤ length w
  none_longer l v more e h =
      let le : length v ≤ (longest_at (v ++ more)).1 = longest_longest l v more h in
      omega (arith, le, ap (λ (ts : List ℕ). (longest_at ts).1) e, long)

  -- and no token there is longer
  pub is_longest : IsLongest (w ++ behind) k w behind
  is_longest = record { parts = refl; token = is_token; longest = none_longer }

  -- the length that its own kind has there is its length
  own_length : (Is : List ℕ → Type 0) (len : List ℕ → ℕ) → Munches Is len → Is w → ((v : List ℕ) → Is v → IsSome v) → len (w ++ behind) ≡ length w
  own_length Is len m is others =
      let n : ℕ = len (w ++ behind) in
      let fits : n ≤ length (w ++ behind) = m.fits (w ++ behind) in
      let least : length w ≤ n = m.longest w behind is in
      let other = others (take n (w ++ behind)) (m.token (w ++ behind) (omega (arith, some, least))) in
      let most = none_longer other.0 (take n (w ++ behind)) (drop n (w ++ behind)) (sym (take-append-drop n (w ++ behind))) other.1 in
      omega (arith, least, most, length-take-le n (w ++ behind) fits)

  pub text_length : IsToken kind.Text w → quoted_len (w ++ behind) ≡ length w
  text_length is = own_length (IsToken kind.Text) quoted_len quoted_munches is (λ v h. (kind.Text, h))

  pub word_length : IsWord w → shaped_len word_head is_name_later (w ++ behind) ≡ length w
  word_length is = own_length IsWord (shaped_len word_head is_name_later) (shaped_munches is_name_later is_name_first []) is some_word
    where
      some_word : (v : List ℕ) → IsWord v → IsSome v
      some_word v h = elim (cases_Bool (is_keyword v)) [ inl e ↦ (kind.Keyword, (h, e)) | inr e ↦ (kind.Identifier, (h, e)) ]

-- a token of a word's kind is a word
pub word_of_kind : (k : TokenKind) (w : List ℕ) → is_word_kind k ≡ true → IsToken k w → IsWord w
word_of_kind kind.Identifier w e h = h.0
word_of_kind kind.Keyword w e h = h.0
word_of_kind kind.Number w e h = absurd (true≢false (sym e))
word_of_kind kind.Special w e h = absurd (true≢false (sym e))
word_of_kind kind.Extension w e h = absurd (true≢false (sym e))
word_of_kind kind.Text w e h = absurd (true≢false (sym e))
word_of_kind kind.Sign w e h = absurd (true≢false (sym e))
word_of_kind kind.Directive w e h = absurd (true≢false (sym e))

pub text_of_kind : (k : TokenKind) (w : List ℕ) → is_text_kind k ≡ true → IsToken k w → IsToken kind.Text w
text_of_kind kind.Text w e h = h
text_of_kind kind.Identifier w e h = absurd (true≢false (sym e))
text_of_kind kind.Keyword w e h = absurd (true≢false (sym e))
text_of_kind kind.Number w e h = absurd (true≢false (sym e))
text_of_kind kind.Special w e h = absurd (true≢false (sym e))
text_of_kind kind.Extension w e h = absurd (true≢false (sym e))
text_of_kind kind.Sign w e h = absurd (true≢false (sym e))
text_of_kind kind.Directive w e h = absurd (true≢false (sym e))

-- the word at the front is empty if no name begins
pub no_word : (b : ℕ) (bs : List ℕ) → is_name_first b ≡ false → shaped_len word_head is_name_later (b ∷ bs) ≡ 0
no_word b bs e = rw e refl
