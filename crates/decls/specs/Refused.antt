-- What is refused of declarations and uses, by the names before them (ABEL-HDL Reference Manual, declarations; which
-- refusals there are, and their places, are this project's rules).
use Rattle.std.specs.Prelude.{ℕ, zero, suc, ◌==◌, Bool, true, false, not, ◌&&◌, List, [], ◌∷◌, ◌++◌, is_some, nat_le, length, if◌then◌else◌}
use Rattle.decls.specs.Prelude.{list_any, Place, Table, Item, Word, Kind, APin, ANode, Entry, kind_of, is_signal, is_value, names_any, is_bad, item_names, ends_agree, names_between, count_numbers, numbers_of, Declaration, ADevice, SomePins, SomeNodes, SomeAttributes, SomeConstants, SomeOptions, DontCareFor, Use, OneName, Range, all_uses, given_names, no_words}
use Rattle.abel_tree.specs.declared.words.Span.{Span}
use Rattle.decls.specs.declared.fault.NameFault.{NameFault}
use Rattle.decls.specs.declared.fault.NameFault.TheVariants as fault
use Rattle.decls.specs.NamesBefore.{names_behind, added, words_of_names}
use Rattle.abel_meaning.specs.SignalPins.{is_signal_pin, is_taken}
use Rattle.decls.specs.Attributes.{strings_refused}

abbrev pub refused_if : Bool → NameFault → List NameFault
refused_if true f = f ∷ []
refused_if false f = []

-- ---- uses

-- the first of these names that isn't declared as what passes the test
abbrev pub first_undeclared : (Kind → Bool) → List Entry → Place → List (List ℕ) → List NameFault
first_undeclared test es p [] = []
first_undeclared test es p (name ∷ names) =
    if names_any test es name then first_undeclared test es p names else fault.Undeclared p name ∷ []

-- a range of names is bad, or one of its names isn't declared
abbrev pub range_refused : (Kind → Bool) → List Entry → (first last : Word) → List NameFault
range_refused test es first last =
    if ends_agree first.text last.text
    then first_undeclared test es first.place (names_between first.text last.text)
    else fault.BadRange first.place ∷ []

-- names in expressions and targets must be signals or constants
abbrev pub use_refused : List Entry → Use → List NameFault
use_refused es (OneName word) = first_undeclared is_value es word.place (word.text ∷ [])
use_refused es (Range first last) = range_refused is_value es first last

abbrev pub uses_refused : List Entry → List Use → List NameFault
uses_refused es [] = []
uses_refused es (u ∷ us) = use_refused es u ++ uses_refused es us

-- ---- names that are declared

-- nodes are at most so many
abbrev pub node_limit : ℕ
node_limit = 128

abbrev pub number_refused : Table → List Entry → Entry → Kind → List NameFault
number_refused t es e (APin n negated) =
    if is_signal_pin t n then refused_if (is_taken es n) (fault.PinTaken e.place e.name)
    else fault.BadPin e.place e.name ∷ []
number_refused t es e (ANode n) = refused_if (nat_le node_limit n) (fault.TooManyNodes e.place e.name)
number_refused t es e _ = []

-- one name, with its number if one is given
abbrev pub name_refused : Table → List Entry → (given : Bool) → Entry → List NameFault
name_refused t es given e =
    (if given then number_refused t es e e.kind else [])
    ++ refused_if (is_some (kind_of es e.name)) (fault.Redeclared e.place e.name)

-- names one after the other, so many of which have numbers, the first ones
abbrev pub names_refused : Table → List Entry → (given : ℕ) → List Entry → List NameFault
names_refused t es given [] = []
names_refused t es zero (x ∷ xs) = name_refused t es false x ++ names_refused t (es ++ x ∷ []) zero xs
names_refused t es (suc given) (x ∷ xs) = name_refused t es true x ++ names_refused t (es ++ x ∷ []) given xs

-- ---- declarations

-- ranges whose ends don't agree
abbrev pub ranges_refused : List Item → List NameFault
ranges_refused [] = []
ranges_refused (i ∷ is) = refused_if (is_bad i) (fault.BadRange i.first.place) ++ ranges_refused is

-- a whole declaration is refused at its first name
abbrev pub first_name : Item → List (List ℕ) → List ℕ
first_name i [] = i.first.text
first_name i (name ∷ names) = name

abbrev pub counts_refused : Bool → List Item → List NameFault
counts_refused wrong [] = []
counts_refused wrong (i ∷ is) = refused_if wrong (fault.BadPin i.first.place (first_name i (item_names i)))

abbrev pub has_numbers : List Span → Bool
has_numbers [] = false
has_numbers (n ∷ ns) = true

-- if there are numbers, there are as many names, unless a range is bad
abbrev pub counts_differ : List Item → List Span → Bool
counts_differ names numbers =
    has_numbers numbers && not (list_any is_bad names) && not (length (given_names names) == count_numbers numbers)

-- a range of an ISTYPE declaration, or a name of it, must be of signals
abbrev pub item_refused : List Entry → Item → List NameFault
item_refused es i =
    refused_if (is_bad i) (fault.BadRange i.first.place) ++ first_undeclared is_signal es i.first.place (item_names i)

abbrev pub items_refused : List Entry → List Item → List NameFault
items_refused es [] = []
items_refused es (i ∷ is) = item_refused es i ++ items_refused es is

abbrev pub is_device : Declaration → Bool
is_device (ADevice name text) = true
is_device _ = false

-- a declaration, apart from the names that it makes
abbrev pub parts_refused : List Declaration → List Entry → Declaration → List NameFault
parts_refused before es (ADevice name text) =
    refused_if (list_any is_device before) (fault.Redeclared name.place name.text)
parts_refused before es (SomePins names numbers attributes) =
    ranges_refused names ++ (counts_refused (counts_differ names numbers) names
    ++ strings_refused (no_words ∷ []) no_words attributes)
parts_refused before es (SomeNodes names numbers attributes) =
    ranges_refused names ++ (counts_refused (has_numbers numbers) names
    ++ strings_refused (no_words ∷ []) no_words attributes)
parts_refused before es (SomeAttributes names attributes) =
    items_refused es names ++ strings_refused (words_of_names es (given_names names)) no_words attributes
parts_refused before es (SomeConstants names values) = uses_refused es (all_uses values)
parts_refused before es (SomeOptions words) = []
parts_refused before es (DontCareFor directive) = []

-- how many of the names that it makes have numbers: of pins as many as numbers are given for, of others all
abbrev pub given_count : List Entry → Declaration → ℕ
given_count es (SomePins names numbers attributes) = length (numbers_of (length (given_names names)) numbers)
given_count es d = length (added es d)

-- a declaration, after these
abbrev pub declaration_refused : Table → List Declaration → Declaration → List NameFault
declaration_refused t before d =
    parts_refused before (names_behind before) d
    ++ names_refused t (names_behind before) (given_count (names_behind before) d) (added (names_behind before) d)

abbrev pub declarations_refused : Table → List Declaration → List Declaration → List NameFault
declarations_refused t before [] = []
declarations_refused t before (d ∷ ds) =
    declaration_refused t before d ++ declarations_refused t (before ++ d ∷ []) ds
