-- Stretches of plain text in which nothing ends, by what is counted in them.
use Rattle.std.proofs.Common.{◌≡◌, ℕ, zero, suc, ◌+◌, ◌-◌, ◌<◌, ◌≤◌, inl, inr, Bool, true, false, List, [], ◌∷◌, ◌++◌, Option, Some, length, take, drop, get_or, refl, sym, ap, ◌∙◌, arith, length-take, ◌==◌, ◌&&◌, ◌||◌, if◌then◌else◌}
use Rattle.abel_macros.proofs.Common.{count_by, take-append-drop, drop-drop, take-add, eqb-true, bool_cases, Mode, is_plain, passing, quoting, nested, closes_block, closing, ends_argument, argument_end}
use Rattle.std.proofs.lemmas.List.Sums.{sum_by-cons, sum_by-append, count_by_more_yes, count_by_more_no, count_by-le-length}
use mir.Val.{bool_byte}
use Rattle.text_pieces.specs.declared.mode.Mode.TheVariants as mode

abbrev pub count : ℕ → List ℕ → ℕ
count k w = count_by (λ b. b == k) w

-- ---- what is counted

one : (k b : ℕ) (w : List ℕ) → (b == k) ≡ true → count k (b ∷ w) ≡ 1 + count k w
one k b w e = sum_by-cons (λ c. if c == k then 1 else 0) b w ∙ ap (λ (t : Bool). (if t then 1 else 0) + count k w) e

other : (k b : ℕ) (w : List ℕ) → (b == k) ≡ false → count k (b ∷ w) ≡ count k w
other k b w e = sum_by-cons (λ c. if c == k then 1 else 0) b w ∙ ap (λ (t : Bool). (if t then 1 else 0) + count k w) e ∙ omega arith

-- a byte that is nowhere isn't the first, and is nowhere after it
record Absent (k b : ℕ) (w : List ℕ) : Type 0 where
  first : (b == k) ≡ false
  behind : count k w ≡ 0

absent : (k b : ℕ) (w : List ℕ) → count k (b ∷ w) ≡ 0 → Absent k b w
absent k b w e =
    elim (bool_cases (b == k)) [
      | inl t ↦ absurd (omega (arith, e, one k b w t))
      | inr f ↦ record { first = f; behind = sym (other k b w f) ∙ e }
    ]

-- brackets after a byte, of which so many stay open
record Bracket (opening shutting b inside : ℕ) (w : List ℕ) : Type 0 where
  some : 0 < inside
  stay : count shutting w < nested opening shutting inside b
  sum : (n : ℕ) → n + count shutting (b ∷ w) ≡ inside + count opening (b ∷ w) → n + count shutting w ≡ nested opening shutting inside b + count opening w

bracket : (opening shutting b inside : ℕ) (w : List ℕ) → (opening == shutting) ≡ false → count shutting (b ∷ w) < inside → Bracket opening shutting b inside w
bracket opening shutting b inside w d h =
    elim (bool_cases (b == opening)) [
      | inl t ↦
          let s : (b == shutting) ≡ false = ap (λ (c : ℕ). c == shutting) (eqb-true b opening t) ∙ d in
          let n : nested opening shutting inside b ≡ inside + 1 = ap (λ (x : Bool). if x then inside + 1 else (if b == shutting then inside - 1 else inside)) t in
          let o = one opening b w t in
          let c = other shutting b w s in
          record { some = omega (arith, h); stay = omega (arith, h, n, c); sum = λ k e. omega (arith, e, n, o, c) }
      | inr f ↦
          let o = other opening b w f in
          elim (bool_cases (b == shutting)) [
            | inl t ↦
                let n : nested opening shutting inside b ≡ inside - 1 =
                ap (λ (x : Bool). if x then inside + 1 else (if b == shutting then inside - 1 else inside)) f ∙ ap (λ (x : Bool). if x then inside - 1 else inside) t in
                let c = one shutting b w t in
                record { some = omega (arith, h, c); stay = omega (arith, h, n, c); sum = λ k e. omega (arith, e, h, n, o, c) }
            | inr g ↦
                let n : nested opening shutting inside b ≡ inside =
                ap (λ (x : Bool). if x then inside + 1 else (if b == shutting then inside - 1 else inside)) f ∙ ap (λ (x : Bool). if x then inside - 1 else inside) g in
                let c = other shutting b w g in
                record { some = omega (arith, h); stay = omega (arith, h, n, c); sum = λ k e. omega (arith, e, n, o, c) }
          ]
    ]

no_zero : (n : ℕ) → 0 < n → (n == 0) ≡ false
no_zero n h = elim (bool_cases (n == 0)) [ inl t ↦ absurd (omega (arith, h, eqb-true n 0 t)) | inr f ↦ f ]

pub and_false : (x : Bool) → (x && false) ≡ false
and_false true = refl
and_false false = refl

-- ---- blocks

block_step : (b i : ℕ) (rest : List ℕ) → 0 < i → (b == 39) ≡ false → (b == 34) ≡ false → (b == 47) ≡ false → closing i mode.Plain (b ∷ rest) ≡ closing (nested 123 125 i b) mode.Plain rest
block_step b i rest h q n s =
    let c : closes_block mode.Plain i b ≡ false = ap (λ (t : Bool). (b == 125) && t) (no_zero i h) ∙ and_false (b == 125) in
    let p : passing mode.Plain b rest ≡ mode.Plain = rw n (rw s (rw q refl)) in
    ap (λ (t : Bool). if t then Some (b ∷ rest) else closing (nested 123 125 i b) (passing mode.Plain b rest) rest) c ∙ ap (λ (m : Mode). closing (nested 123 125 i b) m rest) p

block_over : (w v : List ℕ) (i j : ℕ) → count 39 w ≡ 0 → count 34 w ≡ 0 → count 47 w ≡ 0 → count 125 w < i → j + count 125 w ≡ i + count 123 w → closing j mode.Plain v ≡ closing i mode.Plain (w ++ v)
block_over [] v i j q n s h e = ap (λ (k : ℕ). closing k mode.Plain v) (omega (arith, e))
block_over (b ∷ w) v i j q n s h e =
    let r = bracket 123 125 b i w refl h in
    let qs = absent 39 b w q in
    let ns = absent 34 b w n in
    let ss = absent 47 b w s in
    block_over w v (nested 123 125 i b) j qs.behind ns.behind ss.behind r.stay (r.sum j e) ∙ sym (block_step b i (w ++ v) r.some qs.first ns.first ss.first)

-- ---- arguments

argument_step : (b i brackets : ℕ) (rest : List ℕ) → 0 < i → (b == 39) ≡ false → (b == 91) ≡ false → (b == 93) ≡ false
    → argument_end i brackets mode.Plain (b ∷ rest) ≡ argument_end (nested 40 41 i b) brackets mode.Plain rest
argument_step b i brackets rest h q o s =
    let c : ends_argument i brackets mode.Plain b ≡ false = ap (λ (t : Bool). t && (b == 41 || b == 44 && brackets == 0)) (no_zero i h) in
    let n : nested 91 93 brackets b ≡ brackets = rw o (rw s refl) in
    let p : quoting mode.Plain b ≡ mode.Plain = rw q refl in
    ap (λ (t : Bool). if t then Some (b ∷ rest) else argument_end (nested 40 41 i b) (nested 91 93 brackets b) (quoting mode.Plain b) rest) c
    ∙ ap (λ (k : ℕ). argument_end (nested 40 41 i b) k (quoting mode.Plain b) rest) n ∙ ap (λ (m : Mode). argument_end (nested 40 41 i b) brackets m rest) p

argument_over : (w v : List ℕ) (i j brackets : ℕ) → count 39 w ≡ 0 → count 91 w ≡ 0 → count 93 w ≡ 0 → count 41 w < i → j + count 41 w ≡ i + count 40 w
    → argument_end j brackets mode.Plain v ≡ argument_end i brackets mode.Plain (w ++ v)
argument_over [] v i j brackets q o s h e = ap (λ (k : ℕ). argument_end k brackets mode.Plain v) (omega (arith, e))
argument_over (b ∷ w) v i j brackets q o s h e =
    let r = bracket 40 41 b i w refl h in
    let qs = absent 39 b w q in
    let os = absent 91 b w o in
    let ss = absent 93 b w s in
    argument_over w v (nested 40 41 i b) j brackets qs.behind os.behind ss.behind r.stay (r.sum j e) ∙ sym (argument_step b i brackets (w ++ v) r.some qs.first os.first ss.first)

-- ---- bytes that neither end nor nest anything

-- whether a byte may end an argument, or nest something in it
abbrev bracket_at : ℕ → Bool
bracket_at b = b == 39 || b == 40 || b == 41 || b == 44 || b == 91 || b == 93

all_false : (a b c d e f : Bool) → (a || b || c || d || e || f) ≡ false → (a ≡ false) × (b ≡ false) × (c ≡ false) × (d ≡ false) × (e ≡ false) × (f ≡ false)
all_false true b c d e f h = absurd cc
all_false false true c d e f h = absurd cc
all_false false false true d e f h = absurd cc
all_false false false false true e f h = absurd cc
all_false false false false false true f h = absurd cc
all_false false false false false false f h = (refl, refl, refl, refl, refl, h)

-- the first byte isn't one if none is, and none is after it
free_first : (b : ℕ) (w : List ℕ) → count_by bracket_at (b ∷ w) ≡ 0 → (bracket_at b ≡ false) × (count_by bracket_at w ≡ 0)
free_first b w e =
    let cons = sum_by-cons (λ c. if bracket_at c then 1 else 0) b w in
    elim (bool_cases (bracket_at b)) [
      | inl t ↦ absurd (omega (arith, e, cons ∙ ap (λ (x : Bool). (if x then 1 else 0) + count_by bracket_at w) t))
      | inr f ↦ (f, omega (arith, e, cons ∙ ap (λ (x : Bool). (if x then 1 else 0) + count_by bracket_at w) f))
    ]

free_step : (b i j : ℕ) (rest : List ℕ) → bracket_at b ≡ false → argument_end i j mode.Plain (b ∷ rest) ≡ argument_end i j mode.Plain rest
free_step b i j rest h =
    let f = all_false (b == 39) (b == 40) (b == 41) (b == 44) (b == 91) (b == 93) h in
    let c : ends_argument i j mode.Plain b ≡ false = ap (λ (t : Bool). i == 0 && (t || b == 44 && j == 0)) f.2 ∙ ap (λ (t : Bool). i == 0 && (t && j == 0)) f.3 ∙ and_false (i == 0) in
    let parens : nested 40 41 i b ≡ i = ap (λ (t : Bool). if t then i + 1 else if b == 41 then i - 1 else i) f.1 ∙ ap (λ (t : Bool). if t then i - 1 else i) f.2 in
    let brackets : nested 91 93 j b ≡ j = ap (λ (t : Bool). if t then j + 1 else if b == 93 then j - 1 else j) f.4 ∙ ap (λ (t : Bool). if t then j - 1 else j) f.5 in
    let plain : quoting mode.Plain b ≡ mode.Plain = ap (λ (t : Bool). if t then mode.Quoted else mode.Plain) f.0 in
    ap (λ (t : Bool). if t then Some (b ∷ rest) else argument_end (nested 40 41 i b) (nested 91 93 j b) (quoting mode.Plain b) rest) c
    ∙ ap (λ (k : ℕ). argument_end k (nested 91 93 j b) (quoting mode.Plain b) rest) parens ∙ ap (λ (k : ℕ). argument_end i k (quoting mode.Plain b) rest) brackets
    ∙ ap (λ (m : Mode). argument_end i j m rest) plain

free_over : (w v : List ℕ) (i j : ℕ) → count_by bracket_at w ≡ 0 → argument_end i j mode.Plain v ≡ argument_end i j mode.Plain (w ++ v)
free_over [] v i j e = refl
free_over (b ∷ w) v i j e =
    let f = free_first b w e in
    free_over w v i j f.1 ∙ sym (free_step b i j (w ++ v) f.0)

pub unbracketed_on : (m : Mode) (i j n : ℕ) (old new : List ℕ) → true ≡ is_plain m → count_by (λ b. b == 39 || b == 40 || b == 41 || b == 44 || b == 91 || b == 93) (take n old) ≡ 0
    → new ≡ drop n old → argument_end i j m new ≡ argument_end i j m old
unbracketed_on mode.Plain i j n old new p e d = ap (argument_end i j mode.Plain) d ∙ free_over (take n old) (drop n old) i j e ∙ ap (argument_end i j mode.Plain) (take-append-drop n old)
unbracketed_on mode.Quoted i j n old new p e d = absurd cc
unbracketed_on mode.Escaped i j n old new p e d = absurd cc
unbracketed_on mode.Note i j n old new p e d = absurd cc
unbracketed_on mode.Line i j n old new p e d = absurd cc

-- ---- stretches ahead

pub take_within : (n m : ℕ) (w : List ℕ) → n ≤ m → take n (take m w) ≡ take n w
take_within zero m w h = refl
take_within (suc n) zero [] h = absurd (omega (arith, h))
take_within (suc n) (suc m) [] h = refl
take_within (suc n) zero (b ∷ w) h = absurd (omega (arith, h))
take_within (suc n) (suc m) (b ∷ w) h = ap (λ (v : List ℕ). b ∷ v) (take_within n m w (omega (arith, h)))

-- what a piece in front begins with
pub front_begins : (w front stretch : List ℕ) → take (length front) w ≡ front → 128 ≤ length front → stretch ≡ take 128 front → stretch ≡ take 128 w
front_begins w front stretch e h b = b ∙ ap (take 128) (sym e) ∙ take_within 128 (length front) w h

module _ (w stretch next : List ℕ) (begins : stretch ≡ take 128 w) (behind : next ≡ drop 128 w) where
  split : stretch ++ next ≡ w
  split = ap (λ (v : List ℕ). v ++ next) begins ∙ ap (λ (v : List ℕ). take 128 w ++ v) behind ∙ take-append-drop 128 w

  pub block_goes_on : (m : Mode) (i j : ℕ) (total : Option (List ℕ)) → true ≡ is_plain m → count 39 stretch ≡ 0 → count 34 stretch ≡ 0 → count 47 stretch ≡ 0
      → count 125 stretch < i → j + count 125 stretch ≡ i + count 123 stretch → closing i m w ≡ total → closing j m next ≡ total
  block_goes_on mode.Plain i j total p q n s h e t = block_over stretch next i j q n s h e ∙ ap (closing i mode.Plain) split ∙ t
  block_goes_on mode.Quoted i j total p q n s h e t = absurd (cc)
  block_goes_on mode.Escaped i j total p q n s h e t = absurd (cc)
  block_goes_on mode.Note i j total p q n s h e t = absurd (cc)
  block_goes_on mode.Line i j total p q n s h e t = absurd (cc)

  pub argument_goes_on : (m : Mode) (i j brackets : ℕ) (total : Option (List ℕ)) → true ≡ is_plain m → count 39 stretch ≡ 0 → count 91 stretch ≡ 0 → count 93 stretch ≡ 0
      → count 41 stretch < i → j + count 41 stretch ≡ i + count 40 stretch → argument_end i brackets m w ≡ total → argument_end j brackets m next ≡ total
  argument_goes_on mode.Plain i j brackets total p q o s h e t = argument_over stretch next i j brackets q o s h e ∙ ap (argument_end i brackets mode.Plain) split ∙ t
  argument_goes_on mode.Quoted i j brackets total p q o s h e t = absurd (cc)
  argument_goes_on mode.Escaped i j brackets total p q o s h e t = absurd (cc)
  argument_goes_on mode.Note i j brackets total p q o s h e t = absurd (cc)
  argument_goes_on mode.Line i j brackets total p q o s h e t = absurd (cc)

-- ---- counting

pub more : (k : ℕ) (w : List ℕ) (i d n : ℕ) → i < length w → n ≡ count k (take i w) → n + bool_byte (get_or w i d == k) ≡ count k (take (i + 1) w)
more k w i d n h c =
    elim (bool_cases (get_or w i d == k)) [
      | inl t ↦ ap (λ (b : Bool). n + bool_byte b) t ∙ ap (λ (x : ℕ). x + 1) c ∙ sym (count_by_more_yes (λ b. b == k) w i d h t)
      | inr f ↦ ap (λ (b : Bool). n + bool_byte b) f ∙ omega (arith, c) ∙ sym (count_by_more_no (λ b. b == k) w i d h f)
    ]

pub counted : (k : ℕ) (w : List ℕ) → count k w ≤ length w
counted k w = count_by-le-length (λ b. b == k) w

-- a sum so far fits a byte
pub so_far : (k : ℕ) (w : List ℕ) (i n : ℕ) → i ≤ length w → n ≡ count k (take i w) → n ≤ i
so_far k w i n h c = omega (arith, h, c, counted k (take i w), length-take i w)

pub byte_small : (b : Bool) → bool_byte b ≤ 1
byte_small true = omega arith
byte_small false = omega arith

take_all : (m : ℕ) (v : List ℕ) → length v ≤ m → take m v ≡ v
take_all zero [] l = refl
take_all (suc m) [] l = refl
take_all zero (b ∷ v) l = absurd (omega (arith, l))
take_all (suc m) (b ∷ v) l = ap (λ (u : List ℕ). b ∷ u) (take_all m v (omega (arith, l)))

pub all_counted : (k : ℕ) (w : List ℕ) (i n : ℕ) → length w ≤ i → n ≡ count k (take i w) → n ≡ count k w
all_counted k w i n h c = c ∙ ap (count k) (take_all i w h)

-- a stretch more in which a byte isn't
count_append : (k : ℕ) (v w : List ℕ) → count k (v ++ w) ≡ count k v + count k w
count_append k v w = sum_by-append (λ b. if b == k then 1 else 0) v w

pub none_more : (k : ℕ) (w look stretch : List ℕ) (n : ℕ) → look ≡ drop n w → stretch ≡ take 128 look → count k stretch ≡ 0 → count k (take n w) ≡ 0 → count k (take (n + 128) w) ≡ 0
none_more k w look stretch n d s z e =
    let parts : take (n + 128) w ≡ take n w ++ stretch = take-add n 128 w ∙ ap (λ (v : List ℕ). take n w ++ take 128 v) (sym d) ∙ ap (λ (v : List ℕ). take n w ++ v) (sym s) in
    omega (arith, ap (count k) parts, count_append k (take n w) stretch, z, e)

pub beyond : (w look : List ℕ) (n : ℕ) → look ≡ drop n w → drop 128 look ≡ drop (n + 128) w
beyond w look n d = ap (drop 128) d ∙ drop-drop 128 n w
