-- The first bytes of a token give its kind, and the first is no blank.
use Rattle.std.proofs.Common.{◌≡◌, ℕ, ◌+◌, ◌≤◌, ◌<◌, ◌⊎◌, inl, inr, Bool, true, false, not, cond, List, [], ◌∷◌, ◌++◌, refl, sym, ap, subst, ◌∙◌, arith, ◌==◌, ◌&&◌, ◌||◌, nat_le, nat_lt, codes, if◌then◌else◌}
use Rattle.abel_lexer.proofs.Common.{list_all, list_any, is_in_range, is_ascii_digit, is_ascii_alphabetic, is_ascii_alphanumeric, to_ascii_lowercase, bytes_eq, str_eq_ignore_ascii_case, str_to_ascii_lowercase, leb-true, ltb-false, eqb-true, TokenKind, quote, dot, caret, is_blank, is_letter, is_name_first, is_name_later, starts, is_listed, signs, is_sign, IsWord, IsShaped, IsToken, no_byte, letter_special, voltage_special, directives, word_kind}
use Rattle.abel_lexer.specs.declared.token.TokenKind.TheVariants as kind
use Rattle.abel_lexer.proofs.Munches.{same_bytes}
use Rattle.abel_lexer.proofs.Booleans.{bool_cases, and_parts, or_cases}

-- ---- bytes

-- the bounds of a range
pub in_range : (lo hi b : ℕ) → is_in_range lo hi b ≡ true → (lo ≤ b) × (b ≤ hi)
in_range lo hi b e = let p = and_parts (nat_le lo b) (nat_le b hi) e in (leb-true _ _ p.0, leb-true _ _ p.1)

-- a first byte of a name is a letter, `_` or `~`
name_first_from : (b : ℕ) → is_name_first b ≡ true → (65 ≤ b) × ((b ≤ 90) ⊎ (b ≡ 95) ⊎ (97 ≤ b))
name_first_from b e =
    elim (or_cases _ (b == 126) e) [
      | inl d ↦ elim (or_cases (is_ascii_alphabetic b) (b == 95) d) [
        | inl c ↦ elim (or_cases (is_in_range 65 90 b) (is_in_range 97 122 b) c) [
          | inl r ↦ let p = in_range 65 90 b r in (p.0, inl p.1)
          | inr r ↦ let p = in_range 97 122 b r in (omega (arith, p.0), inr (inr p.0))
        ]
        | inr c ↦ let q = eqb-true b 95 c in (omega (arith, q), inr (inl q))
      ]
      | inr d ↦ let q = eqb-true b 126 d in (omega (arith, q), inr (inr (omega (arith, q))))
    ]

not_name_first : (b : ℕ) → b < 65 → is_name_first b ≡ false
not_name_first b lt = elim (bool_cases (is_name_first b)) [ inl e ↦ absurd (let le = (name_first_from b e).0 in omega arith) | inr e ↦ e ]

pub not_blank : (b : ℕ) → 32 < b → is_blank b ≡ false
not_blank b lt =
    elim (bool_cases (is_blank b)) [
      | inl e ↦ absurd (let le = blank_to b e in omega arith)
      | inr e ↦ e
    ]
  where
    blank_to : (b : ℕ) → is_blank b ≡ true → b ≤ 32
    blank_to b e =
        elim (or_cases _ (b == 32) e) [
          | inl e1 ↦ elim (or_cases _ (b == 26) e1) [
            | inl e2 ↦ elim (or_cases _ (b == 13) e2) [
              | inl e3 ↦ elim (or_cases _ (b == 12) e3) [
                | inl e4 ↦ elim (or_cases (b == 9) (b == 10) e4) [ inl d ↦ omega (arith, eqb-true b 9 d) | inr d ↦ omega (arith, eqb-true b 10 d) ]
                | inr d ↦ omega (arith, eqb-true b 12 d)
              ]
              | inr d ↦ omega (arith, eqb-true b 13 d)
            ]
            | inr d ↦ omega (arith, eqb-true b 26 d)
          ]
          | inr d ↦ omega (arith, eqb-true b 32 d)
        ]

-- ---- words of lists

-- a test that each of these words passes is passed by what is one of them
listed_passes : (test : List ℕ → Bool) (ws : List (List ℕ)) (w : List ℕ) → list_all test ws ≡ true → list_any (λ s. bytes_eq s w) ws ≡ true → test w ≡ true
listed_passes test [] w f h = absurd cc
listed_passes test (s ∷ ss) w f h =
    let p = and_parts (test s) (list_all test ss) f in
    elim (or_cases (bytes_eq s w) (list_any (λ s. bytes_eq s w) ss) h) [
      | inl e ↦ subst (λ (v : List ℕ). test v ≡ true) (same_bytes s w e) p.0
      | inr e ↦ listed_passes test ss w p.1 e
    ]

-- `@` in lower case is `@` alone
at_sign : (b : ℕ) → 64 ≡ to_ascii_lowercase b → b ≡ 64
at_sign b e =
    elim (bool_cases (nat_lt b 65)) [
      | inl lt ↦ sym (e ∙ rw lt refl)
      | inr ge ↦ elim (bool_cases (nat_lt b 91)) [
        | inl lt ↦ absurd (let big : 64 ≡ b + 32 = e ∙ rw ge (rw lt refl) in let le = ltb-false _ _ ge in omega arith)
        | inr gt ↦ sym (e ∙ rw ge (rw gt refl))
      ]
    ]

-- what is `@` and letters, without regard to case, begins with `@`
pub at_begins : (s w : List ℕ) → str_eq_ignore_ascii_case (64 ∷ s) w ≡ true → starts (λ b. b == 64) w ≡ true
at_begins s [] e = absurd cc
at_begins s (b ∷ w) e =
    let p = and_parts (64 == to_ascii_lowercase b) _ e in
    let is : b ≡ 64 = at_sign b (eqb-true _ _ p.0) in
    rw is refl

directive_begins : (w : List ℕ) → is_listed directives w ≡ true → starts (λ b. b == 64) w ≡ true
directive_begins w h =
    elim (or_cases (str_eq_ignore_ascii_case (codes "@DCSET") w) _ h) [
      | inl e ↦ at_begins (codes "DCSET") w e
      | inr h1 ↦ elim (or_cases (str_eq_ignore_ascii_case (codes "@ONSET") w) false h1) [
        | inl e ↦ at_begins (codes "ONSET") w e
        | inr never ↦ absurd cc
      ]
    ]

-- one byte that fails is enough
pub not_all : (p : ℕ → Bool) (front : List ℕ) (b : ℕ) (back : List ℕ) → p b ≡ false → list_all p (front ++ b ∷ back) ≡ false
not_all p [] b back e = rw e refl
not_all p (a ∷ front) b back e = elim (bool_cases (p a)) [ inl d ↦ rw d (not_all p front b back e) | inr d ↦ rw d refl ]

-- a byte that passes a test which another fails is not this one
pub differs : (p : ℕ → Bool) (n b : ℕ) → p n ≡ false → p b ≡ true → (b == n) ≡ false
differs p n b f t =
    elim (bool_cases (b == n)) [
      | inl e ↦ absurd (let same : p n ≡ true = subst (λ (m : ℕ). p m ≡ true) (eqb-true b n e) t in let never : false ≡ true = sym f ∙ same in cc)
      | inr e ↦ e
    ]

-- ---- the kind that the first bytes give

-- of what begins with a dot
abbrev dotted : List ℕ → TokenKind
dotted bs = if starts (λ b. b == dot) bs then kind.Sign else if list_all is_name_later bs then kind.Extension else kind.Special

abbrev told : List ℕ → TokenKind
told [] = kind.Sign
told (b ∷ bs) =
    if is_name_first b then word_kind (b ∷ bs)
    else if is_ascii_digit b || b == caret then kind.Number
    else if b == quote then kind.Text else if b == 64 then kind.Directive else if b == dot then dotted bs else kind.Sign

abbrev says_sign : TokenKind → Bool
says_sign kind.Identifier = false
says_sign kind.Keyword = false
says_sign kind.Number = false
says_sign kind.Special = false
says_sign kind.Extension = false
says_sign kind.Text = false
says_sign kind.Sign = true
says_sign kind.Directive = false

sign_said : (k : TokenKind) → says_sign k ≡ true → k ≡ kind.Sign
sign_said kind.Identifier e = absurd cc
sign_said kind.Keyword e = absurd cc
sign_said kind.Number e = absurd cc
sign_said kind.Special e = absurd cc
sign_said kind.Extension e = absurd cc
sign_said kind.Text e = absurd cc
sign_said kind.Sign e = refl
sign_said kind.Directive e = absurd cc

told_dotted : (w bs : List ℕ) (b : ℕ) → w ≡ b ∷ bs → (b == dot) ≡ true → told w ≡ dotted bs
told_dotted w bs b s e = ap told s ∙ ap (λ (n : ℕ). told (n ∷ bs)) (eqb-true b dot e)

-- what begins with a byte that is no dot and has one after is no extension
special_told : (c : ℕ) (front back : List ℕ) → (c == dot) ≡ false → dotted (c ∷ (front ++ dot ∷ back)) ≡ kind.Special
special_told c front back e = rw e (rw (not_all is_name_later (c ∷ front) dot back refl) refl)

letter_told : (w : List ℕ) → IsShaped letter_special no_byte w → told w ≡ kind.Special
letter_told [] h = absurd h
letter_told (b ∷ []) h = absurd h.1
letter_told (b ∷ c ∷ []) h = absurd h.1.1
letter_told (b ∷ c ∷ d ∷ more) h =
    told_dotted (b ∷ c ∷ d ∷ more) (c ∷ d ∷ more) b refl h.0 ∙ ap (λ (n : ℕ). dotted (c ∷ n ∷ more)) (eqb-true d dot h.1.1.0)
    ∙ special_told c [] more (differs is_ascii_alphabetic dot c refl h.1.0)

voltage_told : (w : List ℕ) → IsShaped voltage_special no_byte w → told w ≡ kind.Special
voltage_told [] h = absurd h
voltage_told (b ∷ []) h = absurd h.1
voltage_told (b ∷ s ∷ []) h = absurd h.1.1
voltage_told (b ∷ s ∷ v ∷ []) h = absurd h.1.1.1
voltage_told (b ∷ s ∷ v ∷ n ∷ []) h = absurd h.1.1.1.1
voltage_told (b ∷ s ∷ v ∷ n ∷ d ∷ more) h =
    told_dotted (b ∷ s ∷ v ∷ n ∷ d ∷ more) (s ∷ v ∷ n ∷ d ∷ more) b refl h.0 ∙ ap (λ (m : ℕ). dotted (s ∷ v ∷ n ∷ m ∷ more)) (eqb-true d dot h.1.1.1.1.0)
    ∙ special_told s (v ∷ n ∷ []) more (differs (is_letter 115) dot s refl h.1.0)

extension_told : (w : List ℕ) → IsToken kind.Extension w → told w ≡ kind.Extension
extension_told [] h = absurd h
extension_told (b ∷ []) h = absurd h.1
extension_told (b ∷ c ∷ cs) h =
    told_dotted (b ∷ c ∷ cs) (c ∷ cs) b refl h.0 ∙ rw (differs is_name_first dot c refl h.1.0) (rw h.1.0 (rw h.1.1 refl))

number_told : (w : List ℕ) → IsToken kind.Number w → told w ≡ kind.Number
number_told [] (inl h) = absurd h
number_told [] (inr h) = absurd h
number_told (b ∷ bs) (inl h) =
    let p = in_range 48 57 b h.0 in
    let d : is_ascii_digit b ≡ true = h.0 in
    rw (not_name_first b (omega (arith, p.1))) (rw d refl)
number_told (b ∷ bs) (inr h) = ap (λ (n : ℕ). told (n ∷ bs)) (eqb-true b caret h.0)

at_told : (w : List ℕ) → starts (λ b. b == 64) w ≡ true → told w ≡ kind.Directive
at_told [] e = absurd cc
at_told (b ∷ bs) e = ap (λ (n : ℕ). told (n ∷ bs)) (eqb-true b 64 e)

told_is : (k : TokenKind) (w : List ℕ) → IsToken k w → told w ≡ k
told_is kind.Identifier [] h = absurd h.0
told_is kind.Identifier (b ∷ bs) h = rw h.0.0 (rw h.1 refl)
told_is kind.Keyword [] h = absurd h.0
told_is kind.Keyword (b ∷ bs) h = rw h.0.0 (rw h.1 refl)
told_is kind.Number w h = number_told w h
told_is kind.Special w (inl h) = letter_told w h
told_is kind.Special w (inr h) = voltage_told w h
told_is kind.Extension w h = extension_told w h
told_is kind.Text w h = ap told h.joined
told_is kind.Sign w h = sign_said (told w) (listed_passes (λ w. says_sign (told w)) signs w refl h)
told_is kind.Directive w h = at_told w (directive_begins w h)

-- bytes are a token of one kind
pub one_kind : (k l : TokenKind) (w : List ℕ) → IsToken k w → IsToken l w → k ≡ l
one_kind k l w g h = sym (told_is k w g) ∙ told_is l w h

-- a token that begins with `@` is a directive
pub at_directive : (k : TokenKind) (w : List ℕ) → starts (λ b. b == 64) w ≡ true → IsToken k w → k ≡ kind.Directive
at_directive k w e h = sym (told_is k w h) ∙ at_told w e

-- ---- no blank

abbrev dark : List ℕ → Bool
dark w = starts (λ b. not (is_blank b)) w

dark_first : (w : List ℕ) (b : ℕ) (bs : List ℕ) → w ≡ b ∷ bs → 32 < b → dark w ≡ true
dark_first w b bs e lt = rw e (rw (not_blank b lt) refl)

dark_front : (w rest : List ℕ) → dark w ≡ true → starts is_blank (w ++ rest) ≡ false
dark_front [] rest e = absurd cc
dark_front (b ∷ bs) rest e =
    elim (bool_cases (is_blank b)) [
      | inl d ↦ absurd (let never : not (is_blank b) ≡ false = rw d refl in let bad : true ≡ false = sym e ∙ never in cc)
      | inr d ↦ d
    ]

dotted_dark : (w bs : List ℕ) (b : ℕ) → w ≡ b ∷ bs → (b == dot) ≡ true → dark w ≡ true
dotted_dark w bs b s e = dark_first w b bs s (omega (arith, eqb-true b dot e))

token_dark : (k : TokenKind) (w : List ℕ) → IsToken k w → dark w ≡ true
token_dark kind.Identifier [] h = absurd h.0
token_dark kind.Identifier (b ∷ bs) h = dark_first (b ∷ bs) b bs refl (omega (arith, (name_first_from b h.0.0).0))
token_dark kind.Keyword [] h = absurd h.0
token_dark kind.Keyword (b ∷ bs) h = dark_first (b ∷ bs) b bs refl (omega (arith, (name_first_from b h.0.0).0))
token_dark kind.Number [] (inl h) = absurd h
token_dark kind.Number [] (inr h) = absurd h
token_dark kind.Number (b ∷ bs) (inl h) = dark_first (b ∷ bs) b bs refl (omega (arith, (in_range 48 57 b h.0).0))
token_dark kind.Number (b ∷ bs) (inr h) = dark_first (b ∷ bs) b bs refl (omega (arith, eqb-true b caret h.0))
token_dark kind.Special [] (inl h) = absurd h
token_dark kind.Special [] (inr h) = absurd h
token_dark kind.Special (b ∷ bs) (inl h) = dotted_dark (b ∷ bs) bs b refl h.0
token_dark kind.Special (b ∷ bs) (inr h) = dotted_dark (b ∷ bs) bs b refl h.0
token_dark kind.Extension [] h = absurd h
token_dark kind.Extension (b ∷ bs) h = dotted_dark (b ∷ bs) bs b refl h.0
token_dark kind.Text w h = ap dark h.joined
token_dark kind.Sign w h = listed_passes dark signs w refl h
token_dark kind.Directive [] h = absurd cc
token_dark kind.Directive (b ∷ bs) h = dark_first (b ∷ bs) b bs refl (omega (arith, eqb-true b 64 (directive_begins (b ∷ bs) h)))

-- a token begins with no blank
pub begins_dark : (k : TokenKind) (w rest : List ℕ) → IsToken k w → starts is_blank (w ++ rest) ≡ false
begins_dark k w rest h = dark_front w rest (token_dark k w h)

-- `@` is no blank
pub at_dark : (w rest : List ℕ) → starts (λ b. b == 64) w ≡ true → starts is_blank (w ++ rest) ≡ false
at_dark [] rest e = absurd cc
at_dark (b ∷ bs) rest e = not_blank b (omega (arith, eqb-true b 64 e))
