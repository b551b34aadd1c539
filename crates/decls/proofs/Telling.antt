-- More words for names that are declared already.
use Rattle.std.proofs.Common.{◌≡◌, ℕ, ◌+◌, Bool, true, false, ◌||◌, Option, Some, None, List, [], ◌∷◌, ◌++◌, fold, map, if◌then◌else◌, refl, sym, ap, ap₂, ◌∙◌, is_some}
use Rattle.decls.proofs.Common.{list_any, bytes_eq, map-append, bytes_eq-Decides, Place, Kind, APin, ANode, AConstant, ADeviceName, Words, Entry, kind_of, GivenName, said_by_either, with_words, node_count, enter, first_entries, is_on_pin, is_taken, Progress, said_of, say_step}
use Rattle.decls.proofs.FirstNames.{kind_append, or_else, same_bytes}
use Rattle.decls.proofs.Goes.{count_append}

-- no name twice
abbrev pub AreOnce : List Entry → Type 0
AreOnce [] = Unit {0}
AreOnce (e ∷ es) = (kind_of es e.name ≡ None) × AreOnce es

once_push : (xs : List Entry) (e : Entry) → AreOnce xs → kind_of xs e.name ≡ None → AreOnce (xs ++ e ∷ [])
once_push [] e a h = (refl, tt)
once_push (x ∷ xs) e a h = (kind_append xs (e ∷ []) x.name ∙ both (kind_of xs x.name) a.0, once_push xs e a.1 (later (bytes_eq e.name x.name) refl))
  where
    differ : (b : Bool) → bytes_eq x.name e.name ≡ b → (if b then Some e.kind else None) ≡ None
    differ true g = absurd (let f : (if bytes_eq e.name x.name then Some x.kind else kind_of xs e.name) ≡ None = h in let i : bytes_eq e.name x.name ≡ true = (bytes_eq-Decides e.name x.name).1 (sym (same_bytes x.name e.name g)) in let bad : Some x.kind ≡ None = sym (ap (λ c. if c then Some x.kind else kind_of xs e.name) i) ∙ f in cc)
    differ false g = refl

    both : (o : Option Kind) → o ≡ None → or_else o (if bytes_eq x.name e.name then Some e.kind else None) ≡ None
    both o g = ap (λ q. or_else q (if bytes_eq x.name e.name then Some e.kind else None)) g ∙ differ (bytes_eq x.name e.name) refl

    later : (b : Bool) → bytes_eq e.name x.name ≡ b → kind_of xs e.name ≡ None
    later true g = absurd (let bad : Some x.kind ≡ None = sym (ap (λ c. if c then Some x.kind else kind_of xs e.name) g) ∙ h in cc)
    later false g = sym (ap (λ c. if c then Some x.kind else kind_of xs e.name) g) ∙ h

none_of : (o : Option Kind) → is_some o ≡ false → o ≡ None
none_of None h = refl
none_of (Some k) h = absurd cc

once_entered : (acc es : List Entry) → AreOnce acc → AreOnce (fold enter acc es)
once_entered acc [] a = a
once_entered acc (e ∷ es) a = once_entered (enter acc e) es (by (is_some (kind_of acc e.name)) refl)
  where
    by : (b : Bool) → is_some (kind_of acc e.name) ≡ b → AreOnce (if b then acc else acc ++ e ∷ [])
    by true h = a
    by false h = once_push acc e a (none_of (kind_of acc e.name) h)

pub once_first : (es : List Entry) → AreOnce (first_entries es)
once_first es = once_entered [] es tt

-- ---- one name

abbrev pub word_one : Words → GivenName → Entry → Entry
word_one w x e = with_words (x ∷ []) w e

unsaid : (w : Words) (x : GivenName) (es : List Entry) → kind_of es x.name ≡ None → map (word_one w x) es ≡ es
unsaid w x [] h = refl
unsaid w x (e ∷ es) h = by (bytes_eq x.name e.name) refl (unsaid w x es)
  where
    same_test : (b c : Bool) → bytes_eq x.name e.name ≡ b → bytes_eq e.name x.name ≡ c → b ≡ c
    same_test true true f g = refl
    same_test false false f g = refl
    same_test true false f g = sym (sym g ∙ (bytes_eq-Decides e.name x.name).1 (sym (same_bytes x.name e.name f)))
    same_test false true f g = sym f ∙ (bytes_eq-Decides x.name e.name).1 (sym (same_bytes e.name x.name g))

    by : (b : Bool) → bytes_eq x.name e.name ≡ b → (kind_of es x.name ≡ None → map (word_one w x) es ≡ es) → (word_one w x e ∷ map (word_one w x) es) ≡ e ∷ es
    by true f g = absurd (let bad : Some e.kind ≡ None = sym (ap (λ c. if c then Some e.kind else kind_of es x.name) f) ∙ h in cc)
    by false f g =
        let z : bytes_eq e.name x.name ≡ false = sym (same_test false (bytes_eq e.name x.name) f refl) in
        ap₂ (λ (y : Entry) (ys : List Entry). y ∷ ys) (ap (λ b. record e { words = if b || false then said_by_either e.words w else e.words }) z) (g (sym (ap (λ c. if c then Some e.kind else kind_of es x.name) f) ∙ h))

pub said_once : (w : Words) (x : GivenName) (es : List Entry) → AreOnce es → said_of w es x.name ≡ map (word_one w x) es
said_once w x [] a = refl
said_once w x (e ∷ es) a = by (bytes_eq x.name e.name) refl (said_once w x es a.1)
  where
    turned : (b : Bool) → bytes_eq x.name e.name ≡ b → bytes_eq e.name x.name ≡ b
    turned true f = (bytes_eq-Decides e.name x.name).1 (sym (same_bytes x.name e.name f))
    turned false f = not_turned (bytes_eq e.name x.name) refl
      where
        not_turned : (c : Bool) → bytes_eq e.name x.name ≡ c → c ≡ false
        not_turned true g = sym ((bytes_eq-Decides x.name e.name).1 (sym (same_bytes e.name x.name g))) ∙ f
        not_turned false g = refl

    by : (b : Bool) → bytes_eq x.name e.name ≡ b → said_of w es x.name ≡ map (word_one w x) es → (if b then (record e { words = said_by_either e.words w }) ∷ es else e ∷ said_of w es x.name) ≡ word_one w x e ∷ map (word_one w x) es
    by true f g =
        ap₂ (λ (y : Entry) (ys : List Entry). y ∷ ys) (sym (ap (λ b. record e { words = if b || false then said_by_either e.words w else e.words }) (turned true f)))
        (sym (unsaid w x es (ap (kind_of es) (same_bytes x.name e.name f) ∙ a.0)))
    by false f g =
        ap₂ (λ (y : Entry) (ys : List Entry). y ∷ ys) (sym (ap (λ b. record e { words = if b || false then said_by_either e.words w else e.words }) (turned false f))) g

-- ---- kinds stay

pub kind_told : (xs : List GivenName) (w : Words) (es : List Entry) (name : List ℕ) → kind_of (map (with_words xs w) es) name ≡ kind_of es name
kind_told xs w [] name = refl
kind_told xs w (e ∷ es) name = ap (λ o. if bytes_eq name e.name then Some e.kind else o) (kind_told xs w es name)

once_told : (xs : List GivenName) (w : Words) (es : List Entry) → AreOnce es → AreOnce (map (with_words xs w) es)
once_told xs w [] a = tt
once_told xs w (e ∷ es) a = (kind_told xs w es e.name ∙ a.0, once_told xs w es a.1)

-- ---- several names

twice : (a b : Bool) → ((a || b) || b) ≡ (a || b)
twice true b = refl
twice false true = refl
twice false false = refl

said_twice : (v w : Words) → said_by_either (said_by_either v w) w ≡ said_by_either v w
said_twice v w = rw (twice v.combinational w.combinational, twice v.registered w.registered, twice v.buffer w.buffer, twice v.invert w.invert, twice v.dc w.dc) refl

told_both : (a b : Bool) (v w : Words) → (if b then said_by_either (if a || false then said_by_either v w else v) w else (if a || false then said_by_either v w else v)) ≡ (if a || b then said_by_either v w else v)
told_both true true v w = said_twice v w
told_both true false v w = refl
told_both false true v w = refl
told_both false false v w = refl

one_then : (w : Words) (x : GivenName) (xs : List GivenName) (e : Entry) → with_words xs w (word_one w x e) ≡ with_words (x ∷ xs) w e
one_then w x xs e = ap (λ (u : Words). record e { words = u }) (told_both (bytes_eq e.name x.name) (list_any (λ (y : GivenName). bytes_eq e.name y.name) xs) e.words w)

all_then : (w : Words) (x : GivenName) (xs : List GivenName) (es : List Entry) → map (with_words xs w) (map (word_one w x) es) ≡ map (with_words (x ∷ xs) w) es
all_then w x xs [] = refl
all_then w x xs (e ∷ es) = ap₂ (λ (y : Entry) (ys : List Entry). y ∷ ys) (one_then w x xs e) (all_then w x xs es)

no_names : (w : Words) (es : List Entry) → es ≡ map (with_words [] w) es
no_names w [] = refl
no_names w (e ∷ es) = ap (λ (ys : List Entry). e ∷ ys) (no_names w es)

-- the words of all names at once
pub told_progress : (w : Words) (xs : List GivenName) (s : Progress) → AreOnce s.entries → fold (say_step w) s xs ≡ record s { entries = map (with_words xs w) s.entries }
told_progress w [] s a = ap (λ es. record s { entries = es }) (no_names w s.entries)
told_progress w (x ∷ xs) s a =
    let one : said_of w s.entries x.name ≡ map (word_one w x) s.entries = said_once w x s.entries a in
    ap (λ es. fold (say_step w) (record s { entries = es }) xs) one
    ∙ (told_progress w xs (record s { entries = map (word_one w x) s.entries }) (once_told (x ∷ []) w s.entries a)
    ∙ ap (λ es. record s { entries = es }) (all_then w x xs s.entries))

-- ---- first declarations, counts and pins stay

enter_told : (xs : List GivenName) (w : Words) (acc : List Entry) (e : Entry) → enter (map (with_words xs w) acc) (with_words xs w e) ≡ map (with_words xs w) (enter acc e)
enter_told xs w acc e =
    ap (λ o. if is_some o then map (with_words xs w) acc else map (with_words xs w) acc ++ with_words xs w e ∷ []) (kind_told xs w acc e.name)
    ∙ by (is_some (kind_of acc e.name))
  where
    by : (b : Bool) → (if b then map (with_words xs w) acc else map (with_words xs w) acc ++ with_words xs w e ∷ []) ≡ map (with_words xs w) (if b then acc else acc ++ e ∷ [])
    by true = refl
    by false = sym (map-append (with_words xs w) acc (e ∷ []))

entered_told : (xs : List GivenName) (w : Words) (acc es : List Entry) → fold enter (map (with_words xs w) acc) (map (with_words xs w) es) ≡ map (with_words xs w) (fold enter acc es)
entered_told xs w acc [] = refl
entered_told xs w acc (e ∷ es) = ap (λ l. fold enter l (map (with_words xs w) es)) (enter_told xs w acc e) ∙ entered_told xs w (enter acc e) es

pub first_told : (xs : List GivenName) (w : Words) (es : List Entry) → map (with_words xs w) (first_entries es) ≡ first_entries (map (with_words xs w) es)
first_told xs w es = sym (entered_told xs w [] es)

abbrev node_kind : Kind → ℕ
node_kind (APin pin negated) = 0
node_kind (ANode n) = 1
node_kind (AConstant v) = 0
node_kind ADeviceName = 0

one_count : (name : List ℕ) (p : Place) (k : Kind) (w : Words) (a : Bool) → node_count (record { name = name; place = p; kind = k; words = w; assigned = a } ∷ []) ≡ node_kind k
one_count name p (APin pin negated) w a = refl
one_count name p (ANode n) w a = refl
one_count name p (AConstant v) w a = refl
one_count name p ADeviceName w a = refl

pub count_told : (xs : List GivenName) (w : Words) (es : List Entry) → node_count (map (with_words xs w) es) ≡ node_count es
count_told xs w [] = refl
count_told xs w (e ∷ es) =
    count_append (with_words xs w e ∷ []) (map (with_words xs w) es)
    ∙ (ap₂ (λ m n. m + n) (one_count e.name e.place e.kind (with_words xs w e).words e.assigned ∙ sym (one_count e.name e.place e.kind e.words e.assigned)) (count_told xs w es)
    ∙ sym (count_append (e ∷ []) es))

pub taken_told : (xs : List GivenName) (w : Words) (es : List Entry) (n : ℕ) → is_taken (map (with_words xs w) es) n ≡ is_taken es n
taken_told xs w [] n = refl
taken_told xs w (e ∷ es) n = ap (λ b. is_on_pin n e.kind || b) (taken_told xs w es n)
