-- The words and signs of such a source are plain, and apart from what follows them.
use Rattle.std.proofs.Common.{◌≡◌, ℕ, inl, inr, Bool, true, Some, List, [], ◌∷◌, ◌++◌, length, refl, sym, subst, eqb-true, ◌==◌, ◌||◌, codes}
use Rattle.decompiled.proofs.Common.{list_all, or_cases, true≢false, is_blank, starts, is_keyword, is_left_out, longest_at, longest_word, Extension, IsPlainPiece, extension_text, none, space, feed, sign, keyword, identifier, number, extension}
use Rattle.abel_lexer.specs.declared.token.TokenKind.TheVariants as kind
use Rattle.abel_tree.specs.declared.words.Extension.TheVariants as an_extension

-- ---- what ends a token

-- a space, a line feed, or `;`
abbrev pub is_stop : ℕ → Bool
is_stop b = b == 32 || b == 10 || b == 59

pub stop_is : (P : ℕ → Type 0) (b : ℕ) → P 32 → P 10 → P 59 → is_stop b ≡ true → P b
stop_is P b space_is feed_is semicolon_is e =
    elim (or_cases (b == 32 || b == 10) (b == 59) e) [
      | inl d ↦ elim (or_cases (b == 32) (b == 10) d) [
        | inl c ↦ subst P (sym (eqb-true b 32 c)) space_is
        | inr c ↦ subst P (sym (eqb-true b 10 c)) feed_is
      ]
      | inr d ↦ subst P (sym (eqb-true b 59 d)) semicolon_is
    ]

-- a text begins with such a byte
abbrev pub Stops : List ℕ → Type 0
Stops text = starts is_stop text ≡ true

-- what holds of a text that begins so
pub stopped : (P : List ℕ → Type 0) (text : List ℕ) → Stops text → ((rest : List ℕ) → P (32 ∷ rest)) → ((rest : List ℕ) → P (10 ∷ rest)) → ((rest : List ℕ) → P (59 ∷ rest)) → P text
stopped P [] e space_is feed_is semicolon_is = absurd (true≢false (sym e))
stopped P (b ∷ rest) e space_is feed_is semicolon_is = stop_is (λ c. P (c ∷ rest)) b (space_is rest) (feed_is rest) (semicolon_is rest) e

-- ---- signs

pub not_apart : (rest : List ℕ) → longest_at (33 ∷ 112 ∷ rest) ≡ (kind.Sign, 1)
unfolding longest_at longest_word
not_apart rest = refl

pub and_apart : (rest : List ℕ) → longest_at (38 ∷ 32 ∷ rest) ≡ (kind.Sign, 1)
unfolding longest_at longest_word
and_apart rest = refl

pub or_apart : (rest : List ℕ) → longest_at (35 ∷ 32 ∷ rest) ≡ (kind.Sign, 1)
unfolding longest_at longest_word
or_apart rest = refl

pub equal_apart : (rest : List ℕ) → longest_at (61 ∷ 32 ∷ rest) ≡ (kind.Sign, 1)
unfolding longest_at longest_word
equal_apart rest = refl

pub semicolon_apart : (rest : List ℕ) → longest_at (59 ∷ 10 ∷ rest) ≡ (kind.Sign, 1)
unfolding longest_at longest_word
semicolon_apart rest = refl

-- ---- extensions

pub extension_apart : (e : Extension) (text : List ℕ) → Stops text → longest_at (extension_text (Some e) ++ text) ≡ (kind.Extension, length (extension_text (Some e)))
unfolding longest_at longest_word
extension_apart an_extension.Clk text e = stopped (λ v. longest_at (codes ".CLK" ++ v) ≡ (kind.Extension, 4)) text e (λ r. refl) (λ r. refl) (λ r. refl)
extension_apart an_extension.Oe text e = stopped (λ v. longest_at (codes ".OE" ++ v) ≡ (kind.Extension, 3)) text e (λ r. refl) (λ r. refl) (λ r. refl)
extension_apart an_extension.Ar text e = stopped (λ v. longest_at (codes ".AR" ++ v) ≡ (kind.Extension, 3)) text e (λ r. refl) (λ r. refl) (λ r. refl)
extension_apart an_extension.Sp text e = stopped (λ v. longest_at (codes ".SP" ++ v) ≡ (kind.Extension, 3)) text e (λ r. refl) (λ r. refl) (λ r. refl)
extension_apart an_extension.D text e = stopped (λ v. longest_at (codes ".D" ++ v) ≡ (kind.Extension, 2)) text e (λ r. refl) (λ r. refl) (λ r. refl)
extension_apart an_extension.Q text e = stopped (λ v. longest_at (codes ".Q" ++ v) ≡ (kind.Extension, 2)) text e (λ r. refl) (λ r. refl) (λ r. refl)
extension_apart an_extension.Fb text e = stopped (λ v. longest_at (codes ".FB" ++ v) ≡ (kind.Extension, 3)) text e (λ r. refl) (λ r. refl) (λ r. refl)
extension_apart an_extension.Pin text e = stopped (λ v. longest_at (codes ".PIN" ++ v) ≡ (kind.Extension, 4)) text e (λ r. refl) (λ r. refl) (λ r. refl)

pub extension_plain : (e : Extension) → IsPlainPiece (extension (extension_text (Some e)))
extension_plain an_extension.Clk = record { some = refl; sound = λ at. refl; unmarked = refl; first = refl; quoted = refl; no_macro = refl; blank = refl }
extension_plain an_extension.Oe = record { some = refl; sound = λ at. refl; unmarked = refl; first = refl; quoted = refl; no_macro = refl; blank = refl }
extension_plain an_extension.Ar = record { some = refl; sound = λ at. refl; unmarked = refl; first = refl; quoted = refl; no_macro = refl; blank = refl }
extension_plain an_extension.Sp = record { some = refl; sound = λ at. refl; unmarked = refl; first = refl; quoted = refl; no_macro = refl; blank = refl }
extension_plain an_extension.D = record { some = refl; sound = λ at. refl; unmarked = refl; first = refl; quoted = refl; no_macro = refl; blank = refl }
extension_plain an_extension.Q = record { some = refl; sound = λ at. refl; unmarked = refl; first = refl; quoted = refl; no_macro = refl; blank = refl }
extension_plain an_extension.Fb = record { some = refl; sound = λ at. refl; unmarked = refl; first = refl; quoted = refl; no_macro = refl; blank = refl }
extension_plain an_extension.Pin = record { some = refl; sound = λ at. refl; unmarked = refl; first = refl; quoted = refl; no_macro = refl; blank = refl }

pub sign_plain : (g : List ℕ) → list_all is_blank g ≡ true → (b : ℕ) → IsPlainPiece (sign none (b ∷ [])) → IsPlainPiece (sign g (b ∷ []))
sign_plain g blank b p = record { some = p.some; sound = p.sound; unmarked = p.unmarked; first = p.first; quoted = p.quoted; no_macro = p.no_macro; blank = blank }

pub not_plain : IsPlainPiece (sign none (codes "!"))
not_plain = record { some = refl; sound = λ at. refl; unmarked = refl; first = refl; quoted = refl; no_macro = refl; blank = refl }

pub and_plain : IsPlainPiece (sign none (codes "&"))
and_plain = record { some = refl; sound = λ at. refl; unmarked = refl; first = refl; quoted = refl; no_macro = refl; blank = refl }

pub or_plain : IsPlainPiece (sign none (codes "#"))
or_plain = record { some = refl; sound = λ at. refl; unmarked = refl; first = refl; quoted = refl; no_macro = refl; blank = refl }

pub equal_plain : IsPlainPiece (sign none (codes "="))
equal_plain = record { some = refl; sound = λ at. refl; unmarked = refl; first = refl; quoted = refl; no_macro = refl; blank = refl }

pub semicolon_plain : IsPlainPiece (sign none (codes ";"))
semicolon_plain = record { some = refl; sound = λ at. refl; unmarked = refl; first = refl; quoted = refl; no_macro = refl; blank = refl }

-- ---- the numbers 1 and 0

pub one_apart : (text : List ℕ) → Stops text → longest_at (49 ∷ text) ≡ (kind.Number, 1)
unfolding longest_at longest_word
one_apart text e = stopped (λ v. longest_at (49 ∷ v) ≡ (kind.Number, 1)) text e (λ r. refl) (λ r. refl) (λ r. refl)

pub zero_apart : (text : List ℕ) → Stops text → longest_at (48 ∷ text) ≡ (kind.Number, 1)
unfolding longest_at longest_word
zero_apart text e = stopped (λ v. longest_at (48 ∷ v) ≡ (kind.Number, 1)) text e (λ r. refl) (λ r. refl) (λ r. refl)

pub one_plain : IsPlainPiece (number space (codes "1"))
one_plain = record { some = refl; sound = λ at. refl; unmarked = refl; first = refl; quoted = refl; no_macro = refl; blank = refl }

pub zero_plain : IsPlainPiece (number space (codes "0"))
zero_plain = record { some = refl; sound = λ at. refl; unmarked = refl; first = refl; quoted = refl; no_macro = refl; blank = refl }

-- ---- keywords and attributes

pub pin_keyword : IsPlainPiece (keyword space (codes "pin"))
unfolding is_left_out
pin_keyword = record { some = refl; sound = λ at. refl; unmarked = refl; first = refl; quoted = refl; no_macro = refl; blank = refl }

pub istype_keyword : IsPlainPiece (keyword space (codes "istype"))
unfolding is_left_out
istype_keyword = record { some = refl; sound = λ at. refl; unmarked = refl; first = refl; quoted = refl; no_macro = refl; blank = refl }

pub pin_apart : (rest : List ℕ) → longest_at (codes "pin" ++ 32 ∷ rest) ≡ (kind.Keyword, 3)
unfolding longest_at longest_word is_keyword
pin_apart rest = refl

pub istype_apart : (rest : List ℕ) → longest_at (codes "istype" ++ 32 ∷ rest) ≡ (kind.Keyword, 6)
unfolding longest_at longest_word is_keyword
istype_apart rest = refl

pub buffer_apart : (rest : List ℕ) → longest_at (codes "'reg,buffer'" ++ 59 ∷ rest) ≡ (kind.Text, 12)
unfolding longest_at longest_word
buffer_apart rest = refl

pub invert_apart : (rest : List ℕ) → longest_at (codes "'reg,invert'" ++ 59 ∷ rest) ≡ (kind.Text, 12)
unfolding longest_at longest_word
invert_apart rest = refl

-- ---- words of every source

pub module_plain : IsPlainPiece (keyword none (codes "module"))
unfolding is_left_out
module_plain = record { some = refl; sound = λ at. refl; unmarked = refl; first = refl; quoted = refl; no_macro = refl; blank = refl }

pub module_apart : (rest : List ℕ) → longest_at (codes "module" ++ 32 ∷ rest) ≡ (kind.Keyword, 6)
unfolding longest_at longest_word is_keyword
module_apart rest = refl

pub chip_word : IsPlainPiece (identifier space (codes "chip"))
chip_word = record { some = refl; sound = λ at. refl; unmarked = refl; first = refl; quoted = refl; no_macro = refl; blank = refl }

pub chip_apart : (rest : List ℕ) → longest_at (codes "chip" ++ 10 ∷ rest) ≡ (kind.Identifier, 4)
unfolding longest_at longest_word is_keyword
chip_apart rest = refl

pub d_word : IsPlainPiece (identifier feed (codes "d"))
d_word = record { some = refl; sound = λ at. refl; unmarked = refl; first = refl; quoted = refl; no_macro = refl; blank = refl }

pub d_apart : (rest : List ℕ) → longest_at (codes "d" ++ 32 ∷ rest) ≡ (kind.Identifier, 1)
unfolding longest_at longest_word is_keyword
d_apart rest = refl

pub device_word : IsPlainPiece (keyword space (codes "device"))
unfolding is_left_out
device_word = record { some = refl; sound = λ at. refl; unmarked = refl; first = refl; quoted = refl; no_macro = refl; blank = refl }

pub device_word_apart : (rest : List ℕ) → longest_at (codes "device" ++ 32 ∷ rest) ≡ (kind.Keyword, 6)
unfolding longest_at longest_word is_keyword
device_word_apart rest = refl

pub equations_word : IsPlainPiece (keyword feed (codes "equations"))
unfolding is_left_out
equations_word = record { some = refl; sound = λ at. refl; unmarked = refl; first = refl; quoted = refl; no_macro = refl; blank = refl }

pub equations_apart : (rest : List ℕ) → longest_at (codes "equations" ++ 10 ∷ rest) ≡ (kind.Keyword, 9)
unfolding longest_at longest_word is_keyword
equations_apart rest = refl

pub end_word : IsPlainPiece (keyword feed (codes "end"))
unfolding is_left_out
end_word = record { some = refl; sound = λ at. refl; unmarked = refl; first = refl; quoted = refl; no_macro = refl; blank = refl }

pub end_apart : longest_at (codes "end\n") ≡ (kind.Keyword, 3)
unfolding longest_at longest_word is_keyword
end_apart = refl
