-- What the declarations of a module declare, in their order (ABEL-HDL Reference Manual, declarations and ISTYPE).
use Rattle.std.specs.Prelude.{ℕ, suc, ◌-◌, ◌==◌, Bool, false, not, ◌||◌, List, [], ◌∷◌, ◌++◌, if◌then◌else◌, map, zip, fold, filter, length, take, drop, bytes_eq, codes}
use Rattle.abel_meaning.specs.Prelude.{list_any, slice_split, Kind, APin, ANode, AConstant, ADeviceName, Words, Entry, item_names, numbers_of, Tree, Declaration, ADevice, SomePins, SomeNodes, SomeAttributes, SomeConstants, SomeOptions, DontCareFor, SectionTree, Declarations, ModuleTree}
use Rattle.std.specs.Str.{str_to_ascii_lowercase}
use Rattle.pld_base.specs.declared.place.Place.{Place}
use Rattle.abel_tree.specs.declared.words.Item.{Item}
use Rattle.abel_tree.specs.declared.words.Word.{Word}

-- ---- words of attributes

-- no word is said
abbrev pub no_words : Words
no_words = record { combinational = false; registered = false; buffer = false; invert = false; dc = false }

-- what either says
abbrev pub said_by_either : Words → Words → Words
said_by_either v w =
    record {
      combinational = v.combinational || w.combinational;
      registered = v.registered || w.registered;
      buffer = v.buffer || w.buffer;
      invert = v.invert || w.invert;
      dc = v.dc || w.dc;
    }

-- the blanks other than a space: tab, line feed, form feed, carriage return, end of file
abbrev pub other_blanks : List ℕ
other_blanks = 9 ∷ 10 ∷ 12 ∷ 13 ∷ 26 ∷ []

-- a comma or a blank
abbrev pub parts_words : ℕ → Bool
parts_words c = list_any (λ b. b == c) (codes ", " ++ other_blanks)

-- the words of a string, without quotes and regard to case
abbrev pub words_of : List ℕ → List (List ℕ)
words_of text =
    filter (λ w. not (length w == 0))
    (slice_split parts_words (str_to_ascii_lowercase (drop 1 (take (length text - 1) text))))

-- the word is in the list
abbrev pub has_word : List (List ℕ) → List ℕ → Bool
has_word words word = list_any (bytes_eq word) words

-- what the words of a string say
abbrev pub said_words : List (List ℕ) → Words
said_words ws =
    record {
      combinational = has_word ws (codes "com");
      registered = has_word ws (codes "reg") || has_word ws (codes "reg_d");
      buffer = has_word ws (codes "buffer");
      invert = has_word ws (codes "invert");
      dc = has_word ws (codes "dc");
    }

-- what the strings of a declaration say
abbrev pub all_said : List Word → Words
all_said texts = fold (λ (said : Words) (w : Word). said_by_either said (said_words (words_of w.text))) no_words texts

-- ---- names

-- a name of a declaration, with whether `!` precedes it
pub record GivenName : Type 0 where
  pub name : List ℕ
  pub place : Place
  pub negated : Bool

-- the names of a declaration, ranges written out
abbrev pub given_names : List Item → List GivenName
given_names [] = []
given_names (item ∷ items) =
    map (λ name. record { name = name; place = item.first.place; negated = item.negated }) (item_names item)
    ++ given_names items

-- a name that nothing assigns so far
abbrev pub entry : (name : List ℕ) → Place → Kind → Words → Entry
entry name place kind words = record { name = name; place = place; kind = kind; words = words; assigned = false }

-- a pin that was given no number has the number 0
abbrev pub is_unnumbered : Kind → Bool
is_unnumbered (APin pin negated) = pin == 0
is_unnumbered _ = false

-- each pin has a number
abbrev pub are_numbered : List Entry → Bool
are_numbered es = not (list_any (λ (e : Entry). is_unnumbered e.kind) es)

-- pins by their numbers, those past the last number with the number 0
abbrev pub pin_entries : Words → List GivenName → List ℕ → List Entry
pin_entries words [] numbers = []
pin_entries words (x ∷ xs) [] = entry x.name x.place (APin 0 x.negated) words ∷ pin_entries words xs []
pin_entries words (x ∷ xs) (n ∷ numbers) = entry x.name x.place (APin n x.negated) words ∷ pin_entries words xs numbers

-- nodes by their order, the first with this number
abbrev pub node_entries : Words → (number : ℕ) → List GivenName → List Entry
node_entries words number [] = []
node_entries words number (x ∷ xs) = entry x.name x.place (ANode number) words ∷ node_entries words (suc number) xs

-- constants with their expressions
abbrev pub constant_entries : List (Word × Tree) → List Entry
constant_entries [] = []
constant_entries (x ∷ xs) = entry x.0.text x.0.place (AConstant x.1) no_words ∷ constant_entries xs

-- how many nodes there are
abbrev pub node_count : List Entry → ℕ
node_count es = length (filter (λ (e : Entry). is_node e.kind) es)
  where
    is_node : Kind → Bool
    is_node (ANode n) = not false
    is_node _ = false

-- words for a name that is declared already
abbrev pub with_words : List GivenName → Words → Entry → Entry
with_words names words e =
    record e { words = if list_any (λ (x : GivenName). bytes_eq e.name x.name) names then said_by_either e.words words else e.words }

-- ---- declarations

-- the names with those of one more declaration
abbrev pub declared : List Entry → Declaration → List Entry
declared es (ADevice name text) = es ++ entry name.text name.place ADeviceName no_words ∷ []
declared es (SomePins names numbers attributes) =
    es ++ pin_entries (all_said attributes) (given_names names) (numbers_of (length (given_names names)) numbers)
declared es (SomeNodes names numbers attributes) =
    es ++ node_entries (all_said attributes) (node_count es) (given_names names)
declared es (SomeAttributes names attributes) = map (with_words (given_names names) (all_said attributes)) es
declared es (SomeConstants names values) = es ++ constant_entries (zip names values)
declared es (SomeOptions words) = es
declared es (DontCareFor directive) = es

-- the declarations of the sections
abbrev pub section_declarations : List SectionTree → List Declaration
section_declarations [] = []
section_declarations (Declarations ds ∷ ss) = ds ++ section_declarations ss
section_declarations (_ ∷ ss) = section_declarations ss

-- all names that a module declares
abbrev pub declared_names : ModuleTree → List Entry
declared_names m = fold declared [] (m.decls ++ section_declarations m.sections)
