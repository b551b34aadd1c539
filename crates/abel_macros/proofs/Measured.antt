-- The length of a token that is no name, string or directive, from the lengths of its kinds.
use Rattle.std.proofs.Common.{◌≡◌, ◌≤◌, ℕ, suc, ◌+◌, inl, inr, Bool, true, false, ltb, List, [], ◌∷◌, length, take, drop, None, Some, refl, sym, ap, ◌∙◌, arith, ◌==◌, codes, nat_lt, if◌then◌else◌}
use Rattle.abel_macros.proofs.Common.{is_ascii_alphabetic, is_ascii_digit, str_eq_ignore_ascii_case, ltb-true, ltb-false, dot, is_letter, is_name_later, starts, shaped_len, larger, longer, number_len, special_len, quoted_len, listed_len, directive_len, word_at, longest_word, longest_at, bool_cases, or_cases, at_begins, none_passes, listed_munches, starts_byte, word, behind_some, given, token_len}
use Rattle.abel_lexer.specs.declared.token.TokenKind.{TokenKind}
use Rattle.abel_lexer.specs.declared.token.TokenKind.TheVariants as kind
use Rattle.abel_lexer.specs.Keywords.{is_listed}
use Rattle.abel_lexer.specs.Signs.{signs}
use Rattle.abel_lexer.specs.Kinds.{no_byte, word_head, extension_head, letter_special, voltage_special, directives}

-- ---- specials

pub letter_seen : (a b c : ℕ) (w x y z : List ℕ) → w ≡ a ∷ x → x ≡ b ∷ y → y ≡ c ∷ z → shaped_len letter_special no_byte (a ∷ b ∷ c ∷ []) ≡ shaped_len letter_special no_byte w
letter_seen a b c w x y z e f g =
    let parts : w ≡ a ∷ b ∷ c ∷ z = e ∙ ap (λ (v : List ℕ). a ∷ v) f ∙ ap (λ (v : List ℕ). a ∷ b ∷ v) g in
    let shape : ℕ → ℕ = λ n. if a == dot then (if is_ascii_alphabetic b then (if c == dot then 0 + 1 + 1 + 1 + n else 0) else 0) else 0 in
    sym (ap (shaped_len letter_special no_byte) parts ∙ ap shape (none_passes z))

pub voltage_seen : (a b c d e : ℕ) (w x y z v u : List ℕ) → w ≡ a ∷ x → x ≡ b ∷ y → y ≡ c ∷ z → z ≡ d ∷ v → v ≡ e ∷ u
    → shaped_len voltage_special no_byte (a ∷ b ∷ c ∷ d ∷ e ∷ []) ≡ shaped_len voltage_special no_byte w
voltage_seen a b c d e w x y z v u p q r s t =
    let parts : w ≡ a ∷ b ∷ c ∷ d ∷ e ∷ u =
    p ∙ ap (λ (m : List ℕ). a ∷ m) q ∙ ap (λ (m : List ℕ). a ∷ b ∷ m) r ∙ ap (λ (m : List ℕ). a ∷ b ∷ c ∷ m) s ∙ ap (λ (m : List ℕ). a ∷ b ∷ c ∷ d ∷ m) t in
    let shape : ℕ → ℕ = λ n.
    if a == dot then (if is_letter 115 b then (if is_letter 118 c then (if is_ascii_digit d then (if e == dot then 0 + 1 + 1 + 1 + 1 + 1 + n else 0) else 0) else 0) else 0) else 0 in
    sym (ap (shaped_len voltage_special no_byte) parts ∙ ap shape (none_passes u))

-- ---- signs

pub sign_fits : (w : List ℕ) → listed_len signs w ≤ length w
sign_fits w = (listed_munches 3 signs refl).fits w

pub one_seen : (a : ℕ) (w x : List ℕ) → w ≡ a ∷ x → x ≡ [] → listed_len signs (a ∷ []) ≡ listed_len signs w
one_seen a w x e f = sym (ap (listed_len signs) (e ∙ ap (λ (v : List ℕ). a ∷ v) f))

pub two_seen : (a b : ℕ) (w x y : List ℕ) → w ≡ a ∷ x → x ≡ b ∷ y → y ≡ [] → listed_len signs (a ∷ b ∷ []) ≡ listed_len signs w
two_seen a b w x y e f g = sym (ap (listed_len signs) (e ∙ ap (λ (v : List ℕ). a ∷ v) f ∙ ap (λ (v : List ℕ). a ∷ b ∷ v) g))

-- a sign has at most three bytes
pub three_seen : (a b c : ℕ) (w x y z : List ℕ) → w ≡ a ∷ x → x ≡ b ∷ y → y ≡ c ∷ z → listed_len signs (a ∷ b ∷ c ∷ []) ≡ listed_len signs w
three_seen a b c w x y z e f g = sym (ap (listed_len signs) (e ∙ ap (λ (v : List ℕ). a ∷ v) f ∙ ap (λ (v : List ℕ). a ∷ b ∷ v) g))

-- ---- the longest

longer_len : (a b : TokenKind × ℕ) → (longer a b).1 ≡ larger a.1 b.1
longer_len a b = elim (bool_cases (ltb a.1 b.1)) [ inl e ↦ rw e refl | inr e ↦ rw e refl ]

larger_first : (a : ℕ) → larger a 0 ≡ a
larger_first a = elim (bool_cases (ltb a 0)) [ inl e ↦ absurd (let lt = ltb-true a 0 e in omega arith) | inr e ↦ rw e refl ]

larger_second : (b : ℕ) → larger 0 b ≡ b
larger_second b = elim (bool_cases (ltb 0 b)) [ inl e ↦ rw e refl | inr e ↦ rw e (omega (arith, ltb-false 0 b e)) ]

word_longest : (w : List ℕ)
    → (longest_word w).1 ≡ larger (larger (shaped_len word_head is_name_later w) (number_len w)) (larger (special_len w) (shaped_len extension_head is_name_later w))
unfolding longest_word
word_longest w =
    longer_len (longer (word_at w) (kind.Number, number_len w)) (longer (kind.Special, special_len w) (kind.Extension, shaped_len extension_head is_name_later w)) ∙ ap (λ (n : ℕ). larger n (longer (kind.Special, special_len w) (kind.Extension, shaped_len extension_head is_name_later w)).1) (longer_len (word_at w) (kind.Number, number_len w))
    ∙ ap (larger (larger (shaped_len word_head is_name_later w) (number_len w))) (longer_len (kind.Special, special_len w) (kind.Extension, shaped_len extension_head is_name_later w))

token_longest : (w : List ℕ) → (longest_at w).1 ≡ larger (longest_word w).1 (larger (quoted_len w) (larger (listed_len signs w) (directive_len w)))
unfolding longest_at
token_longest w =
    longer_len (longest_word w) (longer (kind.Text, quoted_len w) (longer (kind.Sign, listed_len signs w) (kind.Directive, directive_len w))) ∙ ap (larger (longest_word w).1) (longer_len (kind.Text, quoted_len w) (longer (kind.Sign, listed_len signs w) (kind.Directive, directive_len w)))
    ∙ ap (λ (n : ℕ). larger (longest_word w).1 (larger (quoted_len w) n)) (longer_len (kind.Sign, listed_len signs w) (kind.Directive, directive_len w))

-- ---- no name, no string, no directive

no_word : (w : List ℕ) → word w ≡ None → shaped_len word_head is_name_later w ≡ 0
no_word w e = none (shaped_len word_head is_name_later w) e
  where
    none : (n : ℕ) → behind_some n w ≡ None → n ≡ 0
    none n e =
        elim (bool_cases (nat_lt 0 n)) [
          | inl t ↦ absurd (let some : behind_some n w ≡ Some (drop n w) = ap (λ (b : Bool). given b (drop n w)) t in let bad : Some (drop n w) ≡ None = sym some ∙ e in cc)
          | inr f ↦ let le = ltb-false 0 n f in omega arith
        ]

no_quote : (w : List ℕ) → starts_byte 39 w ≡ false → quoted_len w ≡ 0
no_quote [] e = refl
no_quote (b ∷ bs) e = rw e refl

front_starts : (n : ℕ) (w : List ℕ) → starts (λ b. b == 64) (take (suc n) w) ≡ starts (λ b. b == 64) w
front_starts n [] = refl
front_starts n (b ∷ bs) = refl

no_directive : (w : List ℕ) → starts_byte 64 w ≡ false → directive_len w ≡ 0
no_directive w e =
    elim (bool_cases (is_listed directives (take 6 w))) [
      | inl t ↦ absurd (let bad : true ≡ false = sym (begins t) ∙ front_starts 5 w ∙ e in cc)
      | inr f ↦ rw f refl
    ]
  where
    begins : is_listed directives (take 6 w) ≡ true → starts (λ b. b == 64) (take 6 w) ≡ true
    begins t =
        elim (or_cases (str_eq_ignore_ascii_case (codes "@DCSET") (take 6 w)) _ t) [
          | inl d ↦ at_begins (codes "DCSET") (take 6 w) d
          | inr t1 ↦ elim (or_cases (str_eq_ignore_ascii_case (codes "@ONSET") (take 6 w)) false t1) [ inl d ↦ at_begins (codes "ONSET") (take 6 w) d | inr never ↦ absurd cc ]
        ]

-- the largest of the lengths of numbers, dotted words and signs
pub token_seen : (w : List ℕ) → word w ≡ None → starts_byte 39 w ≡ false → starts_byte 64 w ≡ false
    → larger 1 (larger (larger (number_len w) (larger (special_len w) (shaped_len extension_head is_name_later w))) (listed_len signs w)) ≡ token_len w
token_seen w a b c =
    let words : (longest_word w).1 ≡ larger (number_len w) (larger (special_len w) (shaped_len extension_head is_name_later w)) =
    word_longest w
    ∙ ap (λ (n : ℕ). larger (larger n (number_len w)) (larger (special_len w) (shaped_len extension_head is_name_later w))) (no_word w a)
    ∙ ap (λ (n : ℕ). larger n (larger (special_len w) (shaped_len extension_head is_name_later w))) (larger_second (number_len w)) in
    let others : larger (quoted_len w) (larger (listed_len signs w) (directive_len w)) ≡ listed_len signs w =
    ap (λ (n : ℕ). larger n (larger (listed_len signs w) (directive_len w))) (no_quote w b) ∙ larger_second _ ∙ ap (larger (listed_len signs w)) (no_directive w c) ∙ larger_first _ in
    sym (ap (larger 1) (token_longest w ∙ ap (λ (n : ℕ). larger n (larger (quoted_len w) (larger (listed_len signs w) (directive_len w)))) words ∙ ap (larger (larger (number_len w) (larger (special_len w) (shaped_len extension_head is_name_later w)))) others))
