-- Each name of which `buffer` is said is among those that such a string is for, if it is a signal.
use Rattle.std.proofs.Common.{◌≡◌, ℕ, suc, Bool, true, false, ◌&&◌, ◌||◌, if◌then◌else◌, Some, List, [], ◌∷◌, ◌++◌, map, zip, filter, length, get_or, refl, sym, ap, ap₂, subst, ◌∙◌}
use Rattle.decls.proofs.Common.{All, list_all, true≢false, append-nil, list_all-append, list_all-map, All-nil, All-cons, All-append, All-map, All-weaker, All-from_get_or, All-get_or, Item, Word, ADeviceName, Words, Entry, kind_of, passes, is_signal, names_any, is_bad, item_names, numbers_of, Tree, Declaration, ADevice, SomePins, SomeNodes, SomeAttributes, SomeConstants, SomeOptions, DontCareFor, GivenName, given_names, entry, no_words, all_said, said_by_either, with_words, pin_entries, node_entries, constant_entries, node_count, declared, buffered, refused_if, item_refused, items_refused}
use Rattle.std.proofs.lemmas.Option.{slice_get-get_or}
use Rattle.abel_meaning.specs.Designs.{no_name}
use Rattle.decls.specs.declared.fault.NameFault.TheVariants as fault
use Rattle.decls.proofs.NoRefusals.{none_left, none_right}
use Rattle.decls.proofs.Among.{is_among, among_kept, among_left, among_right, AreAmong, rest_among, first_among}
use Rattle.decls.proofs.Named.{names_known}
use Rattle.decls.proofs.Placed.{kind_at}
use Rattle.decls.proofs.SoundEntries.{AreSound}

-- ---- of which names `buffer` is said

-- the name is among these, if it is a signal and `buffer` is said of it
abbrev pub IsTold : List GivenName → Entry → Type 0
IsTold xs e = is_signal e.kind ≡ true → e.words.buffer ≡ true → is_among xs e.name ≡ true

told_left : (xs ys : List GivenName) (es : List Entry) → All (IsTold xs) es → All (IsTold (xs ++ ys)) es
told_left xs ys es all = All-weaker (IsTold xs) (IsTold (xs ++ ys)) (λ e told signal said. among_left xs ys e.name (told signal said)) es all

told_right : (xs ys : List GivenName) (es : List Entry) → All (IsTold ys) es → All (IsTold (xs ++ ys)) es
told_right xs ys es all = All-weaker (IsTold ys) (IsTold (xs ++ ys)) (λ e told signal said. among_right xs ys e.name (told signal said)) es all

module _ (w : Words) (all : List GivenName) where
  -- those that these words are said of, if they say it
  abbrev buffered_if : List GivenName
  buffered_if = if w.buffer then all else []

  said_of : (x : GivenName) (xs : List GivenName) → AreAmong all (x ∷ xs) → w.buffer ≡ true → is_among buffered_if x.name ≡ true
  said_of x xs are is = ap (λ b. is_among (if b then all else []) x.name) is ∙ first_among all x xs are

  pins_told : (xs : List GivenName) (ns : List ℕ) → AreAmong all xs → All (IsTold buffered_if) (pin_entries w xs ns)
  pins_told [] ns are = All-nil (IsTold buffered_if)
  pins_told (x ∷ xs) [] are = All-cons (IsTold buffered_if) _ (pin_entries w xs []) (λ signal is. said_of x xs are is) (pins_told xs [] (rest_among all x xs are))
  pins_told (x ∷ xs) (n ∷ ns) are = All-cons (IsTold buffered_if) _ (pin_entries w xs ns) (λ signal is. said_of x xs are is) (pins_told xs ns (rest_among all x xs are))

  nodes_told : (xs : List GivenName) (n : ℕ) → AreAmong all xs → All (IsTold buffered_if) (node_entries w n xs)
  nodes_told [] n are = All-nil (IsTold buffered_if)
  nodes_told (x ∷ xs) n are = All-cons (IsTold buffered_if) _ (node_entries w (suc n) xs) (λ signal is. said_of x xs are is) (nodes_told xs (suc n) (rest_among all x xs are))

constants_told : (ps : List (Word × Tree)) → All (IsTold []) (constant_entries ps)
constants_told [] = All-nil (IsTold [])
constants_told (p ∷ ps) = All-cons (IsTold []) _ (constant_entries ps) (λ signal. absurd (true≢false (sym signal))) (constants_told ps)

-- ---- words for names that are declared already

item_signals : (es : List Entry) (i : Item) → item_refused es i ≡ [] → list_all (names_any is_signal es) (item_names i) ≡ true
item_signals es i h = names_known is_signal es i.first.place (item_names i) (none_right (refused_if (is_bad i) (fault.BadRange i.first.place)) _ h)

pub items_signals : (es : List Entry) (is : List Item) → items_refused es is ≡ [] → list_all (λ (x : GivenName). names_any is_signal es x.name) (given_names is) ≡ true
items_signals es [] h = refl
items_signals es (i ∷ is) h =
    let test = λ (x : GivenName). names_any is_signal es x.name in
    let here : List ℕ → GivenName = λ name. record { name = name; place = i.first.place; negated = i.negated } in
    list_all-append test (map here (item_names i)) (given_names is)
    ∙ ap₂ (λ a b. a && b)
    (list_all-map test here (item_names i) ∙ item_signals es i (none_left (item_refused es i) _ h))
    (items_signals es is (none_right (item_refused es i) _ h))

module _ (es : List Entry) (xs ys : List GivenName) (w : Words) where
  -- those that wait for what is assigned
  abbrev waiting : List GivenName
  waiting = if w.buffer then filter (λ (x : GivenName). names_any is_signal es x.name) ys else []

  one_told : (e : Entry) → kind_of es e.name ≡ Some e.kind → IsTold xs e → IsTold (xs ++ waiting) (with_words ys w e)
  one_told e known told signal = by (is_among ys e.name) refl
    where
      before : e.words.buffer ≡ true → is_among (xs ++ waiting) e.name ≡ true
      before said = among_left xs waiting e.name (told signal said)

      newly : is_among ys e.name ≡ true → w.buffer ≡ true → is_among (xs ++ waiting) e.name ≡ true
      newly among said =
          among_right xs waiting e.name
          (ap (λ b. is_among (if b then filter (λ (x : GivenName). names_any is_signal es x.name) ys else []) e.name) said
          ∙ among_kept (names_any is_signal es) ys e.name among (ap (passes is_signal) known ∙ signal))

      either : (b : Bool) → e.words.buffer ≡ b → is_among ys e.name ≡ true → (b || w.buffer) ≡ true → is_among (xs ++ waiting) e.name ≡ true
      either true already among said = before already
      either false already among said = newly among said

      by : (b : Bool) → is_among ys e.name ≡ b → (if b then said_by_either e.words w else e.words).buffer ≡ true → is_among (xs ++ waiting) e.name ≡ true
      by true among said = either e.words.buffer refl among said
      by false among said = before said

  words_told : (fs : List Entry) → All (λ (e : Entry). kind_of es e.name ≡ Some e.kind) fs → All (IsTold xs) fs → All (IsTold (xs ++ waiting)) (map (with_words ys w) fs)
  words_told fs known told =
      All-map (IsTold (xs ++ waiting)) (with_words ys w) fs
      (All-from_get_or (λ (e : Entry). IsTold (xs ++ waiting) (with_words ys w e)) fs no_name
      (λ i within. one_told (get_or fs i no_name) (All-get_or (λ (e : Entry). kind_of es e.name ≡ Some e.kind) fs i no_name within known) (All-get_or (IsTold xs) fs i no_name within told)))

all_known : (pins : ℕ) (es : List Entry) → AreSound pins [] es → All (λ (e : Entry). kind_of es e.name ≡ Some e.kind) es
all_known pins es sound =
    All-from_get_or (λ (e : Entry). kind_of es e.name ≡ Some e.kind) es no_name
    (λ i within. kind_at pins es sound i (get_or es i no_name) (slice_get-get_or es i no_name within))

-- ---- one declaration

told_rest : (es : List Entry) (d : Declaration) (new : List Entry) (xs ys : List GivenName) → declared es d ≡ es ++ new → All (IsTold xs) es → All (IsTold ys) new → All (IsTold (xs ++ ys)) (declared es d)
told_rest es d new xs ys e old told =
    subst (All (IsTold (xs ++ ys))) (sym e) (All-append (IsTold (xs ++ ys)) es new (told_left xs ys es old) (told_right xs ys new told))

pub told_declaration : (pins : ℕ) (es : List Entry) (d : Declaration) (xs : List GivenName) → AreSound pins [] es → All (IsTold xs) es → All (IsTold (xs ++ buffered es d)) (declared es d)
told_declaration pins es (ADevice name text) xs s told =
    told_rest es (ADevice name text) (entry name.text name.place ADeviceName no_words ∷ []) xs [] refl told
    (All-cons (IsTold []) (entry name.text name.place ADeviceName no_words) [] (λ signal. absurd (true≢false (sym signal))) (All-nil (IsTold [])))
told_declaration pins es (SomePins names numbers attributes) xs s told =
    let w = all_said attributes in
    let ys = given_names names in
    let ns = numbers_of (length ys) numbers in
    told_rest es (SomePins names numbers attributes) (pin_entries w ys ns) xs (if w.buffer then ys else []) refl told (pins_told w ys ys ns (λ name is. is))
told_declaration pins es (SomeNodes names numbers attributes) xs s told =
    let w = all_said attributes in
    let ys = given_names names in
    told_rest es (SomeNodes names numbers attributes) (node_entries w (node_count es) ys) xs (if w.buffer then ys else []) refl told (nodes_told w ys ys (node_count es) (λ name is. is))
told_declaration pins es (SomeAttributes names attributes) xs s told = words_told es xs (given_names names) (all_said attributes) es (all_known pins es s) told
told_declaration pins es (SomeConstants names values) xs s told =
    told_rest es (SomeConstants names values) (constant_entries (zip names values)) xs [] refl told (constants_told (zip names values))
told_declaration pins es (SomeOptions words) xs s told = told_rest es (SomeOptions words) [] xs [] (sym (append-nil es)) told (All-nil (IsTold []))
told_declaration pins es (DontCareFor directive) xs s told = told_rest es (DontCareFor directive) [] xs [] (sym (append-nil es)) told (All-nil (IsTold []))
