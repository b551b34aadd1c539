-- A text of bytes of names, in quotes, is a plain token whatever follows it; so is each device's name.
use Rattle.std.proofs.Common.{◌≡◌, ℕ, ◌+◌, ◌<◌, inl, inr, Bool, true, false, List, [], ◌∷◌, ◌++◌, length, length-append, refl, sym, ap, ◌∙◌, arith, append_assoc, ltb-true, lt-ltb, nat_lt, ◌==◌, codes}
use Rattle.decompiled.proofs.Common.{list_all, and_parts, cases_Bool, eqb-true, true≢false, device_text, longest_at, longest_word, IsPlainPiece, space, string}
use Rattle.pld_base.proofs.EachDevice.{each_device}
use Rattle.pld_base.specs.declared.device_name.DeviceName.{DeviceName}
use Rattle.abel_lexer.specs.declared.token.TokenKind.{TokenKind}
use Rattle.abel_lexer.specs.declared.token.TokenKind.TheVariants as kind
use Rattle.abel_lexer.specs.Lengths.{quote_end, longer, word_kind}
use Rattle.abel_lexer.specs.Bytes.{is_name_later}

-- ---- a text of bytes of names

-- a byte that names don't have
not_in_names : (other : ℕ) → is_name_later other ≡ false → (b : ℕ) → is_name_later b ≡ true → (b == other) ≡ false
not_in_names other not_later b later =
    elim (cases_Bool (b == other)) [
      | inl same ↦ absurd (true≢false (sym later ∙ ap is_name_later (eqb-true b other same) ∙ not_later))
      | inr not_same ↦ not_same
    ]

-- the place past the quote that ends a string of a name's bytes
quote_ends : (at : ℕ) (body text : List ℕ) → list_all is_name_later body ≡ true → quote_end at false (body ++ 39 ∷ text) ≡ at + length body + 1
quote_ends at [] text later = omega arith
quote_ends at (b ∷ body) text later =
    let parts = and_parts (is_name_later b) (list_all is_name_later body) later in
    let no_quote : (b == 39) ≡ false = not_in_names 39 refl b parts.0 in
    let no_slash : (b == 92) ≡ false = not_in_names 92 refl b parts.0 in
    let rest = quote_ends (at + 1) body text parts.1 in
    rw (no_quote, no_slash) (rest ∙ omega arith)

longer_zero : (a : TokenKind × ℕ) (k : TokenKind) → longer a (k, 0) ≡ a
longer_zero a k = elim (cases_Bool (nat_lt a.1 0)) [
  | inl e ↦ absurd (let lt = ltb-true a.1 0 e in omega arith)
  | inr e ↦ rw e refl
]

zero_longer : (k : TokenKind) (a : TokenKind × ℕ) → 0 < a.1 → longer (k, 0) a ≡ a
zero_longer k a some = rw (lt-ltb 0 a.1 some) refl

-- at a quote a text alone has a length
at_quote : (ts : List ℕ) → longest_at (39 ∷ ts) ≡ longer (word_kind [], 0) (longer (kind.Text, quote_end 1 false ts) (kind.Sign, 0))
unfolding longest_at longest_word
at_quote ts = refl

text_apart : (body text : List ℕ) → list_all is_name_later body ≡ true → longest_at (39 ∷ body ++ 39 ∷ text) ≡ (kind.Text, 1 + length body + 1)
text_apart body text later =
    let ends = quote_ends 1 body text later in
    let w : TokenKind × ℕ = (kind.Text, 1 + length body + 1) in
    at_quote (body ++ 39 ∷ text)
    ∙ ap (λ (n : ℕ). longer (word_kind [], 0) (longer (kind.Text, n) (kind.Sign, 0))) ends
    ∙ ap (longer (word_kind [], 0)) (longer_zero w kind.Sign)
    ∙ zero_longer (word_kind []) w (omega arith)

-- ---- a device's name

device_bytes : (d : DeviceName) → list_all is_name_later (device_text d) ≡ true
device_bytes = each_device (λ d. list_all is_name_later (device_text d)) refl

pub device_plain : (d : DeviceName) → IsPlainPiece (string space (codes "'" ++ device_text d ++ codes "'"))
device_plain d = record { some = refl; sound = λ at. refl; unmarked = refl; first = refl; quoted = refl; no_macro = refl; blank = refl }

pub device_apart : (d : DeviceName) (text : List ℕ) → longest_at ((codes "'" ++ device_text d ++ codes "'") ++ text) ≡ (kind.Text, length (codes "'" ++ device_text d ++ codes "'"))
device_apart d text =
    let name : List ℕ = device_text d in
    let long : 1 + length name + 1 ≡ length (39 ∷ name ++ 39 ∷ []) = omega (arith, length-append name (39 ∷ [])) in
    ap longest_at (ap (λ (v : List ℕ). 39 ∷ v) (append_assoc name (39 ∷ []) text)) ∙ text_apart name text (device_bytes d) ∙ ap (λ (n : ℕ). (kind.Text, n)) long
