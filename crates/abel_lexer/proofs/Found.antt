-- What the scanner finds at the front, and the two ends of a scan.
use Rattle.std.proofs.Common.{◌≡◌, ℕ, ◌+◌, ◌≤◌, ◌<◌, ◌⊎◌, inl, inr, true, false, List, [], ◌∷◌, ◌++◌, length, take, drop, Option, None, Some, refl, sym, ap, subst, ◌∙◌, arith, ◌-◌, length-append}
use Rattle.abel_lexer.proofs.Common.{list_all, prefix_len, take_at, take-append-drop, length-take, Place, Token, TokenKind, ScanFault, is_blank, starts, IsToken, value_of, fault_of, longest_at, radix_at, behind_blanks, remainder, IsTokenAt, IsFaultAt, Remainder, Lexeme, Shown, Radix, whole, place_past, IsRadixForm, IsLongest, IsFront, Passes, Leads, Faults, tokens_among, IsTokensOf, IsFirstFault, AreOnlyTokens, IsOnlyFault}
use Rattle.abel_lexer.specs.declared.fault.ScanFault.TheVariants as fault
use Rattle.abel_lexer.proofs.Blanks.{dark_behind}
use Rattle.abel_lexer.proofs.Longest.{fits, longest_token, longest_longest, token_some}
use Rattle.abel_lexer.proofs.Munches.{prefix_passes}
use Rattle.abel_lexer.proofs.RadixForms.{found_form, form_found, form_some}
use Rattle.abel_lexer.proofs.Scanned.{IsLast, leads_once, same_longest, apart}

-- ---- at the front

-- the longest token at the front
pub longest_found : (front word behind : List ℕ) (m : TokenKind × ℕ) → m ≡ longest_at front → 0 < m.1 → word ≡ take m.1 front → behind ≡ drop m.1 front → IsLongest front m.0 word behind
longest_found front word behind m e pos w b =
    let some : 0 < (longest_at front).1 = subst (λ (n : TokenKind × ℕ). 0 < n.1) e pos in
    let short : m.1 ≤ length front = subst (λ (n : TokenKind × ℕ). n.1 ≤ length front) (sym e) (fits front) in
    let len : length word ≡ m.1 = omega (arith, ap length w, length-take m.1 front) in
    let parts : front ≡ word ++ behind = sym (ap (λ (z : List ℕ). z ++ behind) w ∙ ap (λ (z : List ℕ). take m.1 front ++ z) b ∙ take-append-drop m.1 front) in
    let token : IsToken m.0 (take m.1 front) = subst (λ (n : TokenKind × ℕ). IsToken n.0 (take n.1 front)) (sym e) (longest_token front some) in
    record {
      parts = parts;
      token = subst (λ (z : List ℕ). IsToken m.0 z) (sym w) token;
      longest = λ l v more q h.
          let le = subst (λ (z : List ℕ). length v ≤ (longest_at z).1) (sym q) (longest_longest l v more h) in
          let same : (longest_at front).1 ≡ m.1 = ap (λ (n : TokenKind × ℕ). n.1) (sym e) in
          omega (arith, le, same, len);
    }

-- nothing begins at the front
pub nothing_found : (p : Place) (radix : ℕ) (front : List ℕ) (m : TokenKind × ℕ) → m ≡ longest_at front → m.1 ≡ 0 → 0 < length front → radix_at radix front ≡ None
    → (fault.NotText p ≡ fault.OutOfMemory) ⊎ IsFaultAt p radix front (fault.NotText p)
nothing_found p radix front m e z some plain =
    let none : (longest_at front).1 ≡ 0 = ap (λ (n : TokenKind × ℕ). n.1) (sym e) ∙ z in
    inr (
    inl (
      refl,
      some,
      λ k w rest e h. let le = subst (λ (m : List ℕ). length w ≤ (longest_at m).1) (sym e) (longest_longest k w rest h) in omega (arith, none, token_some k w h),
      λ w rest n e f. let bad : None ≡ Some (n, rest) = sym plain ∙ found_form radix front w rest n e f in cc,
    )
    )

-- something is wrong with the longest token
pub fault_found : (p : Place) (radix : ℕ) (front word behind : List ℕ) (m : TokenKind × ℕ) (f : ScanFault) → m ≡ longest_at front → 0 < m.1 → word ≡ take m.1 front → behind ≡ drop m.1 front
    → fault_of radix m.0 word p ≡ Some f → (f ≡ fault.OutOfMemory) ⊎ IsFaultAt p radix front f
fault_found p radix front word behind m f e pos w b wrong = inr (inr (m.0, word, behind, longest_found front word behind m e pos w b, wrong))

-- the longest token is sound
pub token_sound : (p : Place) (radix : ℕ) (front word behind : List ℕ) (m : TokenKind × ℕ) (t : Token) → m ≡ longest_at front → 0 < m.1 → word ≡ take m.1 front → behind ≡ drop m.1 front
    → fault_of radix m.0 word p ≡ None → t.kind ≡ m.0 → t.text ≡ word → t.place ≡ p → t.value ≡ value_of radix m.0 word → IsTokenAt p radix front t behind
token_sound p radix front word behind m t e pos w b sound k x pl v =
    let l = longest_found front word behind m e pos w b in (
      subst (λ (z : TokenKind). IsLongest front z t.text behind) (sym k) (subst (λ (z : List ℕ). IsLongest front m.0 z behind) (sym x) l),
      ap (λ (z : TokenKind). fault_of radix z t.text p) k ∙ ap (λ (z : List ℕ). fault_of radix m.0 z p) x ∙ sound,
      pl,
      v ∙ sym (ap (λ (z : TokenKind). value_of radix z t.text) k ∙ ap (value_of radix m.0) x),
      refl,
      refl,
    )

-- ---- lexemes so far

-- these lexemes, with blanks before each, lead from one remainder to another
abbrev pub Reaches : Remainder → List Lexeme → Remainder → Type 0
Reaches at [] end = at ≡ end
Reaches at (l ∷ ls) end = (front : Remainder) × (behind : Remainder) × Passes at front × IsFront front l behind × Reaches behind ls end

reaches_one : (ls : List Lexeme) (at mid front behind : Remainder) (l : Lexeme) → Reaches at ls mid → Passes mid front → IsFront front l behind → Reaches at (ls ++ l ∷ []) behind
reaches_one [] at mid front behind l r p f = (front, behind, subst (λ (z : Remainder). Passes z front) (sym r) p, f, refl)
reaches_one (m ∷ ls) at mid front behind l r p f = (r.0, r.1, r.2, r.3, reaches_one ls r.1 mid front behind l r.4 p f)

leads_to : (ls : List Lexeme) (at mid end : Remainder) → Reaches at ls mid → Passes mid end → Leads at ls end
leads_to [] at mid end r p = subst (λ (z : Remainder). Passes z end) (sym r) p
leads_to (l ∷ ls) at mid end r p = (r.0, r.1, r.2, r.3, leads_to ls r.1 mid end r.4 p)

shown_last : (ls : List Lexeme) (t : Token) → tokens_among (ls ++ Shown t ∷ []) ≡ tokens_among ls ++ t ∷ []
shown_last [] t = refl
shown_last (Shown u ∷ ls) t = ap (λ (z : List Token). u ∷ z) (shown_last ls t)
shown_last (Radix w n ∷ ls) t = shown_last ls t

radix_last : (ls : List Lexeme) (w : List ℕ) (n : ℕ) → tokens_among (ls ++ Radix w n ∷ []) ≡ tokens_among ls
radix_last [] w n = refl
radix_last (Shown u ∷ ls) w n = ap (λ (z : List Token). u ∷ z) (radix_last ls w n)
radix_last (Radix v m ∷ ls) w n = radix_last ls w n

-- the tokens found in a text so far, and the place of its rest
abbrev pub HasFound : List ℕ → List Token → Place → ℕ → List ℕ → Type 0
HasFound text ts p radix rest = (ls : List Lexeme) × Reaches (whole text) ls (remainder p radix rest) × (ts ≡ tokens_among ls)

-- the blanks at the front are passed
gap_passed : (p q : Place) (radix : ℕ) (rest gap front : List ℕ) → gap ≡ take (prefix_len is_blank rest) rest → front ≡ drop (prefix_len is_blank rest) rest → q ≡ place_past p gap
    → Passes (remainder p radix rest) (remainder q radix front)
gap_passed p q radix rest gap front g f e =
    record {
      gap = gap;
      parts = sym (ap (λ (z : List ℕ). z ++ front) g ∙ ap (λ (z : List ℕ). take (prefix_len is_blank rest) rest ++ z) f ∙ take-append-drop (prefix_len is_blank rest) rest);
      blank = subst (λ (z : List ℕ). list_all is_blank z ≡ true) (sym g) (prefix_passes is_blank rest);
      all = subst (λ (z : List ℕ). starts is_blank z ≡ false) (sym f) (dark_behind rest);
      place = e;
      radix = refl;
    }

-- ---- a turn

pub token_found : (text rest gap front behind : List ℕ) (ts more : List Token) (p q r : Place) (radix : ℕ) (t : Token)
    → HasFound text ts p radix rest → gap ≡ take (prefix_len is_blank rest) rest → front ≡ drop (prefix_len is_blank rest) rest → q ≡ place_past p gap
    → IsTokenAt q radix front t behind → r ≡ place_past q t.text → more ≡ ts ++ t ∷ [] → HasFound text more r radix behind
token_found text rest gap front behind ts more p q r radix t h g f e at rp m =
    let one = subst (λ (z : Place). IsFront (remainder q radix front) (Shown t) (remainder z radix behind)) (sym rp) at in (
      h.0 ++ Shown t ∷ [],
      reaches_one h.0 (whole text) (remainder p radix rest) (remainder q radix front) (remainder r radix behind) (Shown t) h.1 (gap_passed p q radix rest gap front g f e) one,
      m ∙ ap (λ (z : List Token). z ++ t ∷ []) h.2 ∙ sym (shown_last h.0 t),
    )

pub radix_found : (text rest gap front behind word : List ℕ) (ts : List Token) (p q r : Place) (radix known : ℕ)
    → HasFound text ts p radix rest → gap ≡ take (prefix_len is_blank rest) rest → front ≡ drop (prefix_len is_blank rest) rest → q ≡ place_past p gap
    → radix_at radix front ≡ Some (known, behind) → word ≡ take (length front - length behind) front → r ≡ place_past q word → HasFound text ts r known behind
radix_found text rest gap front behind word ts p q r radix known h g f e at w rp =
    let form = form_found radix front behind known at in
    let long : length front ≡ length form.0 + length behind = ap length form.1 ∙ length-append form.0 behind in
    let same : word ≡ form.0 = w ∙ ap (take (length front - length behind)) form.1 ∙ take_at form.0 behind (length front - length behind) (omega (arith, long)) in (
      h.0 ++ Radix form.0 known ∷ [],
      reaches_one h.0 (whole text) (remainder p radix rest) (remainder q radix front) (remainder r known behind) (Radix form.0 known) h.1 (gap_passed p q radix rest gap front g f e) (form.2, form.1, rp ∙ ap (place_past q) same, refl),
      h.2 ∙ sym (radix_last h.0 form.0 known),
    )

-- what follows a form is shorter
pub radix_shorter : (radix known : ℕ) (front behind : List ℕ) → radix_at radix front ≡ Some (known, behind) → length behind < length front
radix_shorter radix known front behind at =
    let form = form_found radix front behind known at in
    omega (arith, ap length form.1, length-append form.0 behind, form_some radix form.0 known form.2)

-- ---- the ends

empty_last : (at : Remainder) → length at.text ≡ 0 → IsLast at
empty_last at e (Shown t) behind f = omega (arith, e, ap length f.0.parts, length-append t.text behind.text, token_some t.kind t.text f.0.token)
empty_last at e (Radix w n) behind f = omega (arith, e, ap length f.1, length-append w behind.text, form_some at.radix w n f.0)

fault_last : (at : Remainder) (f : ScanFault) → Faults at f → IsLast at
fault_last at f (inl n) (Shown t) behind g = n.2 t.kind t.text behind.text g.0.parts g.0.token
fault_last at f (inl n) (Radix w k) behind g = n.3 w behind.text k g.1 g.0
fault_last at f (inr n) (Shown t) behind g =
    let s = same_longest at.text n.0 t.kind n.1 t.text n.2 behind.text n.3 g.0 in
    let sound : fault_of at.radix n.0 n.1 at.place ≡ None = ap (λ (k : TokenKind). fault_of at.radix k n.1 at.place) s.0 ∙ ap (λ (w : List ℕ). fault_of at.radix t.kind w at.place) s.1 ∙ g.1 in
    let bad : None ≡ Some f = sym sound ∙ n.4 in
    cc
fault_last at f (inr n) (Radix w k) behind g = apart at.radix at.text w behind.text n.1 n.2 n.0 k g.1 g.0 n.3.parts n.3.token

fault_once : (at : Remainder) (f g : ScanFault) → Faults at f → Faults at g → f ≡ g
fault_once at f g (inl n) (inl m) = n.0 ∙ sym m.0
fault_once at f g (inl n) (inr m) = absurd (n.2 m.0 m.1 m.2 m.3.parts m.3.token)
fault_once at f g (inr n) (inl m) = absurd (m.2 n.0 n.1 n.2 n.3.parts n.3.token)
fault_once at f g (inr n) (inr m) =
    let s = same_longest at.text n.0 m.0 n.1 m.1 n.2 m.2 n.3 m.3 in
    let same : Some f ≡ Some g = sym n.4 ∙ ap (λ (k : TokenKind). fault_of at.radix k n.1 at.place) s.0 ∙ ap (λ (w : List ℕ). fault_of at.radix m.0 w at.place) s.1 ∙ m.4 in
    cc

no_fault_if_empty : (at : Remainder) (f : ScanFault) → at.text ≡ [] → Faults at f → ⊥
no_fault_if_empty at f e (inl n) = omega (arith, ap length e, n.1)
no_fault_if_empty at f e (inr n) = omega (arith, ap length e, ap length n.3.parts, length-append n.1 n.2, token_some n.0 n.1 n.3.token)

pub all_found : (text rest gap front : List ℕ) (ts : List Token) (p q : Place) (radix : ℕ)
    → HasFound text ts p radix rest → gap ≡ take (prefix_len is_blank rest) rest → front ≡ drop (prefix_len is_blank rest) rest → length front ≡ 0 → IsTokensOf text ts
all_found text rest gap front ts p q radix h g f e =
    let end : Remainder = remainder (place_past p gap) radix front in
    record {
      lexemes = h.0;
      end = end;
      leads = leads_to h.0 (whole text) (remainder p radix rest) end h.1 (gap_passed p (place_past p gap) radix rest gap front g f refl);
      empty = no_length front e;
      tokens = h.2;
    }
  where
    no_length : (w : List ℕ) → length w ≡ 0 → w ≡ []
    no_length [] e = refl
    no_length (b ∷ w) e = absurd (omega arith)

pub only_tokens : (text : List ℕ) (ts : List Token) → IsTokensOf text ts → AreOnlyTokens text ts
only_tokens text ts a =
    record {
      tokens = λ us b.
          let s = leads_once b.lexemes a.lexemes (whole text) b.end a.end b.leads a.leads (empty_last b.end (ap length b.empty)) (empty_last a.end (ap length a.empty)) in
          b.tokens ∙ ap tokens_among s.0 ∙ sym a.tokens;
      faults = λ f b.
          let s = leads_once b.lexemes a.lexemes (whole text) b.end a.end b.leads a.leads (fault_last b.end f b.fault) (empty_last a.end (ap length a.empty)) in
          no_fault_if_empty b.end f (ap (λ (z : Remainder). z.text) s.1 ∙ a.empty) b.fault;
    }

pub stopped : (text rest gap front : List ℕ) (ts : List Token) (p q : Place) (radix : ℕ) (f : ScanFault)
    → HasFound text ts p radix rest → gap ≡ take (prefix_len is_blank rest) rest → front ≡ drop (prefix_len is_blank rest) rest → q ≡ place_past p gap → IsFaultAt q radix front f → IsFirstFault text f
stopped text rest gap front ts p q radix f h g b e n =
    record {
      lexemes = h.0;
      end = remainder q radix front;
      leads = leads_to h.0 (whole text) (remainder p radix rest) (remainder q radix front) h.1 (gap_passed p q radix rest gap front g b e);
      fault = n;
    }

pub only_fault : (text : List ℕ) (f : ScanFault) → IsFirstFault text f → IsOnlyFault text f
only_fault text f a =
    record {
      faults = λ g b.
          let s = leads_once b.lexemes a.lexemes (whole text) b.end a.end b.leads a.leads (fault_last b.end g b.fault) (fault_last a.end f a.fault) in
          fault_once a.end g f (subst (λ (z : Remainder). Faults z g) s.1 b.fault) a.fault;
      tokens = λ ts b. (only_tokens text ts b).faults f a;
    }

pub stops : (text rest gap front : List ℕ) (ts : List Token) (p q : Place) (radix : ℕ)
    → HasFound text ts p radix rest → gap ≡ take (prefix_len is_blank rest) rest → front ≡ drop (prefix_len is_blank rest) rest → q ≡ place_past p gap
    → (f : ScanFault) → (f ≡ fault.OutOfMemory) ⊎ IsFaultAt q radix front f → (f ≡ fault.OutOfMemory) ⊎ IsFirstFault text f
stops text rest gap front ts p q radix h g b e f (inl m) = inl m
stops text rest gap front ts p q radix h g b e f (inr n) = inr (stopped text rest gap front ts p q radix f h g b e n)

pub stops_alone : (text : List ℕ) (f : ScanFault) → (f ≡ fault.OutOfMemory) ⊎ IsFirstFault text f → (f ≡ fault.OutOfMemory) ⊎ IsOnlyFault text f
stops_alone text f (inl m) = inl m
stops_alone text f (inr n) = inr (only_fault text f n)

pub not_zero : (n : ℕ) → (n ≡ 0 → ⊥) → 0 < n
not_zero n ne = omega arith
