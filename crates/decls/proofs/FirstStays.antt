-- The first refusal stays where others follow it.
use Rattle.std.proofs.Common.{◌≡◌, ℕ, Bool, true, false, not, ◌&&◌, List, [], ◌∷◌, ◌++◌, Option, Some, None, if◌then◌else◌, refl, sym, ap, ◌∙◌, append_assoc, arith}
use Rattle.decls.proofs.Common.{nat_tests, append-nil, Place, Item, Word, Kind, Words, Entry, is_signal, is_value, names_any, sooner, is_before, earlier, first_refusal, is_bad, item_names, names_between, first_push, said_by_either, said_words, words_of, NameFault, is_refused_string, string_refused, strings_refused, place_of, rank_of, name_order, stands_before, is_behind, items_behind, words_behind, AreBehind, AreAt, Adds, refused_if, first_undeclared, ranges_refused, first_name, counts_refused, item_refused, items_refused, Progress, refuse_all, refuse_if, undeclared, range_used}
use Rattle.decls.specs.declared.fault.NameFault.TheVariants as fault
use Rattle.decls.proofs.Unknown.{known_all}

later_place : (a b c x y z : ℕ) → sooner x y 0 a b 0 ≡ true → sooner a b c x y z ≡ false
later_place a b c x y z h = grind (arith, nat_tests)

not_before : (f g : NameFault) → stands_before (place_of f) (place_of g) ≡ true → is_before name_order g f ≡ false
unfolding is_before
not_before f g h = later_place (place_of g).line (place_of g).column (rank_of g) (place_of f).line (place_of f).column (rank_of f) h

stays_first : (o : Option NameFault) (g : NameFault) → is_behind o (place_of g) ≡ true → o ≡ earlier name_order o (Some g)
stays_first None g h = absurd cc
stays_first (Some f) g h = sym (ap (λ b. if b then Some g else Some f) (not_before f g h))

pub first_stays : (o : Option NameFault) (fs gs : List NameFault) → o ≡ first_refusal name_order fs → AreBehind o gs → o ≡ first_refusal name_order (fs ++ gs)
first_stays o fs [] e b = e ∙ ap (first_refusal name_order) (sym (append-nil fs))
first_stays o fs (g ∷ gs) e b =
    first_stays o (fs ++ g ∷ []) gs
    (stays_first o g b.0 ∙ (ap (λ q. earlier name_order q (Some g)) e ∙ sym (first_push name_order fs g))) b.1
    ∙ ap (first_refusal name_order) (append_assoc fs (g ∷ []) gs)

pub adds_first : (o : Option NameFault) (s n : Progress) → Adds o s n → o ≡ first_refusal name_order s.faults → o ≡ first_refusal name_order n.faults
adds_first o s n a e = first_stays o s.faults a.more e a.behind ∙ ap (first_refusal name_order) (sym a.faults)

-- ---- lists of refusals

pub both_behind : (o : Option NameFault) (fs gs : List NameFault) → AreBehind o fs → AreBehind o gs → AreBehind o (fs ++ gs)
both_behind o [] gs a b = b
both_behind o (f ∷ fs) gs a b = (a.0, both_behind o fs gs a.1 b)

pub at_behind : (o : Option NameFault) (p : Place) (fs : List NameFault) → is_behind o p ≡ true → AreAt p fs → AreBehind o fs
at_behind o p [] h a = tt
at_behind o p (f ∷ fs) h a = (ap (is_behind o) a.0 ∙ h, at_behind o p fs h a.1)

pub at_both : (p : Place) (fs gs : List NameFault) → AreAt p fs → AreAt p gs → AreAt p (fs ++ gs)
at_both p [] gs a b = b
at_both p (f ∷ fs) gs a b = (a.0, at_both p fs gs a.1 b)

pub at_if : (p : Place) (b : Bool) (f : NameFault) → place_of f ≡ p → AreAt p (refused_if b f)
at_if p true f e = (e, tt)
at_if p false f e = tt

pub at_undeclared : (test : Kind → Bool) (es : List Entry) (p : Place) (names : List (List ℕ)) → AreAt p (first_undeclared test es p names)
at_undeclared test es p [] = tt
at_undeclared test es p (name ∷ names) = by (names_any test es name) (at_undeclared test es p names)
  where
    by : (b : Bool) → AreAt p (first_undeclared test es p names) → AreAt p (if b then first_undeclared test es p names else fault.Undeclared p name ∷ [])
    by true a = a
    by false a = (refl, tt)

pub at_item : (es : List Entry) (i : Item) → AreAt i.first.place (item_refused es i)
at_item es i =
    at_both i.first.place (refused_if (is_bad i) (fault.BadRange i.first.place)) (first_undeclared is_signal es i.first.place (item_names i))
    (at_if i.first.place (is_bad i) (fault.BadRange i.first.place) refl)
    (at_undeclared is_signal es i.first.place (item_names i))

pub head_all : (a b : Bool) → (a && b) ≡ true → a ≡ true
head_all true b h = refl
head_all false b h = h

pub tail_all : (a b : Bool) → (a && b) ≡ true → b ≡ true
tail_all true b h = h
tail_all false b h = absurd cc

pub ranges_behind : (o : Option NameFault) (items : List Item) → items_behind o items ≡ true → AreBehind o (ranges_refused items)
ranges_behind o [] h = tt
ranges_behind o (i ∷ is) h =
    both_behind o (refused_if (is_bad i) (fault.BadRange i.first.place)) (ranges_refused is)
    (at_behind o i.first.place (refused_if (is_bad i) (fault.BadRange i.first.place)) (head_all (is_behind o i.first.place) (items_behind o is) h) (at_if i.first.place (is_bad i) (fault.BadRange i.first.place) refl))
    (ranges_behind o is (tail_all (is_behind o i.first.place) (items_behind o is) h))

pub counts_behind : (o : Option NameFault) (wrong : Bool) (items : List Item) → items_behind o items ≡ true → AreBehind o (counts_refused wrong items)
counts_behind o wrong [] h = tt
counts_behind o wrong (i ∷ is) h =
    at_behind o i.first.place (counts_refused wrong (i ∷ is)) (head_all (is_behind o i.first.place) (items_behind o is) h)
    (at_if i.first.place wrong (fault.BadPin i.first.place (first_name i (item_names i))) refl)

pub used_items_behind : (o : Option NameFault) (es : List Entry) (items : List Item) → items_behind o items ≡ true → AreBehind o (items_refused es items)
used_items_behind o es [] h = tt
used_items_behind o es (i ∷ is) h =
    both_behind o (item_refused es i) (items_refused es is)
    (at_behind o i.first.place (item_refused es i) (head_all (is_behind o i.first.place) (items_behind o is) h) (at_item es i))
    (used_items_behind o es is (tail_all (is_behind o i.first.place) (items_behind o is) h))

string_at : (befores : List Words) (e : Words) (x : Word) → AreAt x.place (string_refused befores e x)
string_at befores e x = by (is_refused_string befores e (words_of x.text))
  where
    by : (b : Bool) → AreAt x.place (if b then fault.BadAttribute x.place ∷ [] else [])
    by true = (refl, tt)
    by false = tt

pub strings_behind : (o : Option NameFault) (befores : List Words) (e : Words) (xs : List Word) → words_behind o xs ≡ true → AreBehind o (strings_refused befores e xs)
strings_behind o befores e [] h = tt
strings_behind o befores e (x ∷ xs) h =
    both_behind o (string_refused befores e x) (strings_refused befores (said_by_either e (said_words (words_of x.text))) xs)
    (at_behind o x.place (string_refused befores e x) (head_all (is_behind o x.place) (words_behind o xs) h) (string_at befores e x))
    (strings_behind o befores (said_by_either e (said_words (words_of x.text))) xs (tail_all (is_behind o x.place) (words_behind o xs) h))

-- ---- uses

all_if : (b : Bool) (f : NameFault) (s : Progress) → refuse_all (refused_if b f) s ≡ refuse_if b f s
all_if true f s = refl
all_if false f s = ap (λ fs. record s { faults = fs }) (append-nil s.faults)

abbrev pub name_refusals : Progress → Word → List NameFault
name_refusals s x = refused_if (not (names_any is_value s.entries x.text)) (fault.Undeclared x.place x.text)

pub name_used : (s : Progress) (x : Word) → refuse_all (name_refusals s x) s ≡ undeclared is_value x.place x.text s
name_used s x = all_if (not (names_any is_value s.entries x.text)) (fault.Undeclared x.place x.text) s

pub at_name : (s : Progress) (x : Word) → AreAt x.place (name_refusals s x)
at_name s x = at_if x.place (not (names_any is_value s.entries x.text)) (fault.Undeclared x.place x.text) refl

abbrev pub range_refusals : Bool → Progress → (first last : Word) → List NameFault
range_refusals true s first last = first_undeclared is_value s.entries first.place (names_between first.text last.text)
range_refusals false s first last = fault.BadRange first.place ∷ []

pub range_over : (b : Bool) (s : Progress) (first last : Word) → refuse_all (range_refusals b s first last) s ≡ range_used b first last s
range_over true s first last = sym (known_all is_value first.place (names_between first.text last.text) s)
range_over false s first last = refl

pub at_range : (b : Bool) (s : Progress) (first last : Word) → AreAt first.place (range_refusals b s first last)
at_range true s first last = at_undeclared is_value s.entries first.place (names_between first.text last.text)
at_range false s first last = (refl, tt)
