-- What is at the front of a remainder is one thing alone, and so are the tokens of a text or its
-- first fault.
use Rattle.std.proofs.Common.{◌≡◌, ℕ, ◌+◌, ◌-◌, ◌≤◌, ◌<◌, ◌⊎◌, inl, inr, Bool, true, false, List, [], ◌∷◌, ◌++◌, length, take, drop, Option, None, Some, refl, sym, ap, subst, ◌∙◌, arith, length-append, ◌==◌, codes}
use Rattle.abel_lexer.proofs.Common.{str_eq_ignore_ascii_case, str_to_ascii_lowercase, take_at, drop_at, Place, Token, TokenKind, ScanFault, is_blank, starts, is_listed, IsToken, directives, value_of, fault_of, radix_at, Remainder, Lexeme, Shown, Radix, place_past, IsRadixForm, IsLongest, IsFront, Passes, Leads, Faults, tokens_among}
use Rattle.abel_lexer.specs.declared.token.TokenKind.TheVariants as kind
use Rattle.abel_lexer.specs.declared.fault.ScanFault.TheVariants as fault
use Rattle.abel_lexer.proofs.Booleans.{or_cases}
use Rattle.abel_lexer.proofs.Blanks.{gap_of, behind_gap, gap_is}
use Rattle.abel_lexer.proofs.FirstBytes.{one_kind, at_directive, at_begins}
use Rattle.abel_lexer.proofs.Longest.{token_some}
use Rattle.abel_lexer.proofs.Munches.{listed_length, same_length, same_bytes}
use Rattle.abel_lexer.proofs.RadixForms.{found_form, form_begins, unwrapped}

-- ---- parts of one text

-- two fronts of one length are one, and so is what follows them
same_parts : (w v rest more : List ℕ) → length w ≡ length v → w ++ rest ≡ v ++ more → (w ≡ v) × (rest ≡ more)
same_parts w v rest more n e = (
  sym (take_at w rest (length v) n) ∙ ap (take (length v)) e ∙ take_at v more (length v) refl,
  sym (drop_at w rest (length v) n) ∙ ap (drop (length v)) e ∙ drop_at v more (length v) refl,
)

pub same_longest : (text : List ℕ) (k l : TokenKind) (w v rest more : List ℕ) → IsLongest text k w rest → IsLongest text l v more → (k ≡ l) × (w ≡ v) × (rest ≡ more)
same_longest text k l w v rest more a b =
    let le : length w ≤ length v = b.longest k w rest a.parts a.token in
    let ge : length v ≤ length w = a.longest l v more b.parts b.token in
    let p = same_parts w v rest more (omega arith) (sym a.parts ∙ b.parts) in
    (one_kind k l v (subst (λ (z : List ℕ). IsToken k z) p.0 a.token) b.token, p.0, p.1)

-- ---- a token is no `@RADIX` form

-- no directive is `@RADIX`
not_radix : (w : List ℕ) → is_listed directives w ≡ true → str_eq_ignore_ascii_case (codes "@RADIX") w ≡ true → ⊥
not_radix w h r =
    let lower : str_to_ascii_lowercase (codes "@RADIX") ≡ str_to_ascii_lowercase w = same_bytes _ _ r in
    elim (or_cases (str_eq_ignore_ascii_case (codes "@DCSET") w) _ h) [
      | inl e ↦ let bad : str_to_ascii_lowercase (codes "@RADIX") ≡ str_to_ascii_lowercase (codes "@DCSET") = lower ∙ sym (same_bytes _ _ e) in cc
      | inr h1 ↦ elim (or_cases (str_eq_ignore_ascii_case (codes "@ONSET") w) false h1) [
        | inl e ↦ let bad : str_to_ascii_lowercase (codes "@RADIX") ≡ str_to_ascii_lowercase (codes "@ONSET") = lower ∙ sym (same_bytes _ _ e) in cc
        | inr never ↦ absurd cc
      ]
    ]

starts_front : (test : ℕ → Bool) (w rest v more : List ℕ) → 0 < length w → 0 < length v → w ++ rest ≡ v ++ more → starts test w ≡ true → starts test v ≡ true
starts_front test [] rest v more lw lv e s = absurd cc
starts_front test (a ∷ w) rest [] more lw lv e s = absurd (omega arith)
starts_front test (a ∷ w) rest (b ∷ v) more lw lv e s = sym (ap (starts test) e) ∙ s

pub apart : (radix : ℕ) (text w rest v more : List ℕ) (k : TokenKind) (n : ℕ) → text ≡ w ++ rest → IsRadixForm radix w n → text ≡ v ++ more → IsToken k v → ⊥
apart radix text w rest v more k n e f d h =
    let six : length f.word ≡ 6 = sym (same_length (codes "@RADIX") f.word f.directive) in
    let parts : f.word ++ ((f.gap ++ (f.number ++ (f.gap_behind ++ codes ";"))) ++ rest) ≡ v ++ more = form_begins radix w rest n f ∙ sym e ∙ d in
    let at : starts (λ b. b == 64) v ≡ true = starts_front (λ b. b == 64) f.word _ v more (omega arith) (token_some k v h) parts (at_begins (codes "RADIX") f.word f.directive) in
    let dir : is_listed directives v ≡ true = subst (λ (l : TokenKind). IsToken l v) (at_directive k v at h) h in
    let same = same_parts f.word v _ more (omega (arith, six, listed_length 6 directives v refl dir)) parts in
    not_radix v dir (subst (λ (z : List ℕ). str_eq_ignore_ascii_case (codes "@RADIX") z ≡ true) same.0 f.directive)

-- ---- one front

abbrev token_with : TokenKind → List ℕ → Place → ℕ → Token
token_with k w p n = record { kind = k; text = w; place = p; value = n }

same_token : (t u : Token) → t.kind ≡ u.kind → t.text ≡ u.text → t.place ≡ u.place → t.value ≡ u.value → t ≡ u
same_token t u k w p n =
    ap (λ (x : TokenKind). token_with x t.text t.place t.value) k ∙ ap (λ (x : List ℕ). token_with u.kind x t.place t.value) w
    ∙ ap (λ (x : Place). token_with u.kind u.text x t.value) p ∙ ap (λ (x : ℕ). token_with u.kind u.text u.place x) n

abbrev remainder_with : Place → ℕ → List ℕ → Remainder
remainder_with p r w = record { place = p; radix = r; text = w }

same_remainder : (a b : Remainder) → a.place ≡ b.place → a.radix ≡ b.radix → a.text ≡ b.text → a ≡ b
same_remainder a b p r w =
    ap (λ (x : Place). remainder_with x a.radix a.text) p ∙ ap (λ (x : ℕ). remainder_with b.place x a.text) r ∙ ap (λ (x : List ℕ). remainder_with b.place b.radix x) w

front_once : (at : Remainder) (l m : Lexeme) (a b : Remainder) → IsFront at l a → IsFront at m b → (l ≡ m) × (a ≡ b)
front_once at (Shown t) (Shown u) a b f g =
    let s = same_longest at.text t.kind u.kind t.text u.text a.text b.text f.0 g.0 in
    let value : t.value ≡ u.value = f.3 ∙ ap (λ (k : TokenKind). value_of at.radix k t.text) s.0 ∙ ap (value_of at.radix u.kind) s.1 ∙ sym g.3 in (
      ap Shown (same_token t u s.0 s.1 (f.2 ∙ sym g.2) value),
      same_remainder a b (f.4 ∙ ap (place_past at.place) s.1 ∙ sym g.4) (f.5 ∙ sym g.5) s.2,
    )
front_once at (Shown t) (Radix w n) a b f g = absurd (apart at.radix at.text w b.text t.text a.text t.kind n g.1 g.0 f.0.parts f.0.token)
front_once at (Radix w n) (Shown t) a b f g = absurd (apart at.radix at.text w a.text t.text b.text t.kind n f.1 f.0 g.0.parts g.0.token)
front_once at (Radix w n) (Radix v m) a b f g =
    let both : (n, a.text) ≡ (m, b.text) = unwrapped (sym (found_form at.radix at.text w a.text n f.1 f.0) ∙ found_form at.radix at.text v b.text m g.1 g.0) in
    let value : n ≡ m = ap (λ (p : ℕ × List ℕ). p.0) both in
    let rest : a.text ≡ b.text = ap (λ (p : ℕ × List ℕ). p.1) both in
    let long : length w ≡ length v = omega (arith, ap length (sym f.1 ∙ g.1), length-append w a.text, length-append v b.text, ap length rest) in
    let word : w ≡ v = (same_parts w v a.text b.text long (sym f.1 ∙ g.1)).0 in (
      ap (λ (z : List ℕ). Radix z n) word ∙ ap (Radix v) value,
      same_remainder a b (f.2 ∙ ap (place_past at.place) word ∙ sym g.2) (f.3 ∙ value ∙ sym g.3) rest,
    )

passes_once : (at a b : Remainder) → Passes at a → Passes at b → a ≡ b
passes_once at a b p q =
    let x = gap_is at.text p.gap a.text p.parts p.blank p.all in
    let y = gap_is at.text q.gap b.text q.parts q.blank q.all in
    same_remainder a b (p.place ∙ ap (place_past at.place) (x.0 ∙ sym y.0) ∙ sym q.place) (p.radix ∙ sym q.radix) (x.1 ∙ sym y.1)

-- ---- one list

-- nothing more begins here
abbrev pub IsLast : Remainder → Type 0
IsLast at = (l : Lexeme) (behind : Remainder) → IsFront at l behind → ⊥

pub leads_once : (ls ms : List Lexeme) (at a b : Remainder) → Leads at ls a → Leads at ms b → IsLast a → IsLast b → (ls ≡ ms) × (a ≡ b)
leads_once [] [] at a b f g la lb = (refl, passes_once at a b f g)
leads_once [] (m ∷ ms) at a b f g la lb =
    absurd (la m g.1 (subst (λ (z : Remainder). IsFront z m g.1) (passes_once at g.0 a g.2 f) g.3))
leads_once (l ∷ ls) [] at a b f g la lb =
    absurd (lb l f.1 (subst (λ (z : Remainder). IsFront z l f.1) (passes_once at f.0 b f.2 g) f.3))
leads_once (l ∷ ls) (m ∷ ms) at a b f g la lb =
    let front : f.0 ≡ g.0 = passes_once at f.0 g.0 f.2 g.2 in
    let one = front_once g.0 l m f.1 g.1 (subst (λ (z : Remainder). IsFront z l f.1) front f.3) g.3 in
    let more = leads_once ls ms g.1 a b (subst (λ (z : Remainder). Leads z ls a) one.1 f.4) g.4 la lb in
    (ap (λ (z : Lexeme). z ∷ ls) one.0 ∙ ap (λ (zs : List Lexeme). m ∷ zs) more.0, more.1)
