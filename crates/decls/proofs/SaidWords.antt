-- What was said of a name, in the table and in the entries.
use Rattle.std.proofs.Common.{◌≡◌, ℕ, zero, suc, ◌<◌, length, get_or, arith, ◌&&◌, Bool, true, false, ◌||◌, List, [], ◌∷◌, Option, Some, None, map, refl, sym, ap, ◌∙◌, if◌then◌else◌, cond, option_map}
use Rattle.decls.proofs.Common.{list_any, Vec, lookup, bytes_eq, Table, Words, Entry, Said, Known, words_named, kept, view_known, view_said, said_before}
use Rattle.std.proofs.Math.Bool.{beq}

abbrev pub known_said : Option Known → Option Words
known_said o = option_map (λ (x : Known). view_said x.said) o

chosen : (b : Bool) (x : Known) (o : Option Known) (p : Option Words) → known_said o ≡ p → known_said (cond b (Some x) o) ≡ (if b then Some (view_said x.said) else p)
chosen true x o p e = refl
chosen false x o p e = e

in_rows : (name : List ℕ) (rows : List (Vec ℕ × Known)) → known_said (lookup (λ k. bytes_eq name k.items) rows) ≡ said_before (map view_known rows) name
in_rows name [] = refl
in_rows name (x ∷ rows) = chosen (bytes_eq name x.0.items) x.1 (lookup (λ k. bytes_eq name k.items) rows) (said_before (map view_known rows) name) (in_rows name rows)

in_kept : (t : Table) (name : List ℕ) (es : List Entry) → said_before (map (kept t) es) name ≡ said_before es name
in_kept t name [] = refl
in_kept t name (e ∷ es) = ap (λ o. if bytes_eq name e.name then Some e.words else o) (in_kept t name es)

pub found_said : (t : Table) (rows : List (Vec ℕ × Known)) (es : List Entry) (name : List ℕ) → map view_known rows ≡ map (kept t) es → known_said (lookup (λ k. bytes_eq name k.items) rows) ≡ said_before es name
found_said t rows es name e = in_rows name rows ∙ (ap (λ xs. said_before xs name) e ∙ in_kept t name es)

-- ---- the words of a name, none or one

abbrev pub any_of : (Words → Bool) → Option Words → Bool
any_of p None = false
any_of p (Some w) = p w

pub words_any : (p : Words → Bool) (es : List Entry) (name : List ℕ) → list_any p (words_named es name) ≡ any_of p (said_before es name)
words_any p [] name = refl
words_any p (e ∷ es) name = by (bytes_eq name e.name) (words_any p es name)
  where
    or_false : (a : Bool) → (a || false) ≡ a
    or_false true = refl
    or_false false = refl

    by : (b : Bool) → list_any p (words_named es name) ≡ any_of p (said_before es name) → list_any p (if b then e.words ∷ [] else words_named es name) ≡ any_of p (if b then Some e.words else said_before es name)
    by true h = or_false (p e.words)
    by false h = h

pub some_before : (p : Words → Bool) (b : Bool) (w : Words) (es : List Entry) (name : List ℕ) → Some w ≡ said_before es name → (b || p w) ≡ (b || list_any p (words_named es name))
some_before p b w es name h = ap (λ c. b || c) (ap (any_of p) h ∙ sym (words_any p es name))

pub none_before : (p : Words → Bool) (b : Bool) (es : List Entry) (name : List ℕ) → None ≡ said_before es name → b ≡ (b || list_any p (words_named es name))
none_before p b es name h = or_none b ∙ ap (λ c. b || c) (ap (any_of p) h ∙ sym (words_any p es name))
  where
    or_none : (a : Bool) → a ≡ (a || false)
    or_none true = refl
    or_none false = refl

-- ---- equal words in a list

abbrev no_said : Said
no_said = record { combinational = false; registered = false; buffer = false; invert = false; dc = false }

both_true : (a b : Bool) → (a && b) ≡ true → (a ≡ true) × (b ≡ true)
both_true true true e = (refl, refl)
both_true true false e = absurd cc
both_true false b e = absurd cc

same_bool : (a b : Bool) → beq a b ≡ true → a ≡ b
same_bool true true e = refl
same_bool false false e = refl
same_bool true false e = absurd cc
same_bool false true e = absurd cc

same_said : (v w : Said) → (beq v.combinational w.combinational && (beq v.registered w.registered && (beq v.buffer w.buffer && (beq v.invert w.invert && beq v.dc w.dc)))) ≡ true → view_said v ≡ view_said w
same_said v w e =
    let a = both_true (beq v.combinational w.combinational) _ e in
    let b = both_true (beq v.registered w.registered) _ a.1 in
    let c = both_true (beq v.buffer w.buffer) _ b.1 in
    let d = both_true (beq v.invert w.invert) (beq v.dc w.dc) c.1 in
    rw (same_bool v.combinational w.combinational a.0, same_bool v.registered w.registered b.0, same_bool v.buffer w.buffer c.0, same_bool v.invert w.invert d.0, same_bool v.dc w.dc d.1) refl

any_at : (p : Words → Bool) (xs : List Said) (k : ℕ) (d : Said) → k < length xs → p (view_said (get_or xs k d)) ≡ true → list_any p (map view_said xs) ≡ true
any_at p [] k d h e = absurd (omega (arith, h))
any_at p (x ∷ xs) zero d h e = ap (λ b. b || list_any p (map view_said xs)) e
any_at p (x ∷ xs) (suc k) d h e = later (p (view_said x)) (any_at p xs k d (omega (arith, h)) e)
  where
    later : (b : Bool) → list_any p (map view_said xs) ≡ true → (b || list_any p (map view_said xs)) ≡ true
    later true f = refl
    later false f = f

pub found_same : (p : Words → Bool) (xs : List Said) (k : ℕ) (w : Said) → k < length xs → (let v = get_or xs k no_said in (beq v.combinational w.combinational && (beq v.registered w.registered && (beq v.buffer w.buffer && (beq v.invert w.invert && beq v.dc w.dc)))) ≡ true) → p (view_said w) ≡ true → list_any p (map view_said xs) ≡ true
found_same p xs k w h e f = any_at p xs k no_said h (ap p (same_said (get_or xs k no_said) w e) ∙ f)
