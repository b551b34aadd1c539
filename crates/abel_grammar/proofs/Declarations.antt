-- The places of declarations lie along their tokens, at each depth of nesting.
use Rattle.std.proofs.Common.{◌≡◌, ℕ, List, [], ◌∷◌, ◌++◌, length, Option, Some, None, refl, ap, option_map, unwrap_or}
use Rattle.abel_grammar.proofs.Common.{flat_map, Form, Place, Token, Word, Span, Tree, Terminal, Not, Range, Istype, Device, Pin, Node, Semicolon, Comma, Equal, item, names, num, nums, texts, istype, option, device, Kept, kept, pins, nodes, attributes, values_for, constants, naming, option_decl, dont_care_decl, decl, other_decl, places_of_some, places_of_word, places_of_number, places_of_item, places_of_span, places_of_expr, places_of_decl}
use Rattle.abel_grammar.proofs.Forms.{Lies, token_lies, followed_lies, both, behind, before, turned, or_lies, nothing_lies, some_lies, apart_lies, times_lies}
use Rattle.abel_grammar.proofs.Expressions.{one_lies, end_lies, name_lies, number_lies, text_lies, dont_care_lies, expr_lies}

-- ---- items, numbers and strings

in_some : {A B : Type 0} (f : B → List Place) (g : A → B) (o : Option A) → places_of_some f (option_map g o) ≡ places_of_some (λ x. f (g x)) o
in_some f g None = refl
in_some f g (Some x) = refl

item_lies : Lies item places_of_item
unfolding item
item_lies =
    turned (λ x. ap (λ (l : List Place). x.1.0.place ∷ l) (in_some places_of_word (λ y. y.1) x.1.1))
    (behind (some_lies (one_lies Not)) (both name_lies (some_lies (behind (one_lies Range) name_lies))))

names_lies : Lies names (flat_map places_of_item)
unfolding names
names_lies = apart_lies _ item_lies

num_lies : Lies num places_of_span
unfolding num
num_lies =
    turned (λ x. ap (λ (l : List Place). x.0.place ∷ l) (in_some places_of_number (λ y. y.1) x.1))
    (both number_lies (some_lies (behind (one_lies Range) number_lies)))

nums_lies : Lies nums (flat_map places_of_span)
unfolding nums
nums_lies = apart_lies _ num_lies

texts_lies : Lies texts (flat_map places_of_word)
unfolding texts
texts_lies = apart_lies _ text_lies

istype_lies : Lies istype (flat_map places_of_word)
unfolding istype
istype_lies = turned (λ x. refl) (behind (one_lies Istype) texts_lies)

pub option_lies : Lies option (flat_map places_of_word)
unfolding option
option_lies = turned (λ x. refl) (behind (token_lies _) (before texts_lies end_lies))

-- ---- each kind of declaration

device_lies : Lies device places_of_decl
unfolding device
device_lies = turned (λ x. refl) (both name_lies (behind (one_lies Device) (before text_lies (one_lies Semicolon))))

abbrev in_kept : Kept → List Place
in_kept x = places_of_some (flat_map places_of_span) x.1.0 ++ places_of_some (flat_map places_of_word) x.1.1.0

kept_lies : (t : Terminal) → Lies (kept t) in_kept
kept_lies t = behind (one_lies t) (both (some_lies nums_lies) (before (some_lies istype_lies) (one_lies Semicolon)))

all_kept : (o : Option (List Span)) (w : Option (List Word)) → flat_map places_of_span (unwrap_or o []) ++ flat_map places_of_word (unwrap_or w []) ≡ places_of_some (flat_map places_of_span) o ++ places_of_some (flat_map places_of_word) w
all_kept None None = refl
all_kept None (Some w) = refl
all_kept (Some o) None = refl
all_kept (Some o) (Some w) = refl

pins_lies : Lies pins places_of_decl
unfolding pins
pins_lies =
    turned (λ x. ap (λ (l : List Place). flat_map places_of_item x.0 ++ l) (all_kept x.1.1.0 x.1.1.1.0))
    (both names_lies (kept_lies Pin))

nodes_lies : Lies nodes places_of_decl
unfolding nodes
nodes_lies =
    turned (λ x. ap (λ (l : List Place). flat_map places_of_item x.0 ++ l) (all_kept x.1.1.0 x.1.1.1.0))
    (both names_lies (kept_lies Node))

attributes_lies : Lies attributes places_of_decl
unfolding attributes
attributes_lies = turned (λ x. refl) (both names_lies (before istype_lies (one_lies Semicolon)))

values_lies : {e : Form Token Tree} (ws : List Word) → Lies e places_of_expr → Lies (values_for ws e) (flat_map places_of_expr)
values_lies [] le = nothing_lies
values_lies (w ∷ ws) le =
    turned (λ x. refl) (both le (times_lies (length ws) (turned (λ x. refl) (behind (one_lies Comma) le))))

constants_lies : {e : Form Token Tree} → Lies e places_of_expr → Lies (constants e) places_of_decl
unfolding constants
constants_lies le =
    turned (λ x. refl)
    (followed_lies (apart_lies _ name_lies) (λ ws. behind (one_lies Equal) (before (values_lies ws le) (one_lies Semicolon))))

-- ---- declarations

naming_lies : (n : ℕ) → Lies (naming n) places_of_decl
unfolding naming
naming_lies n =
    or_lies device_lies (or_lies pins_lies (or_lies nodes_lies (or_lies attributes_lies (constants_lies (expr_lies n)))))

option_decl_lies : Lies option_decl places_of_decl
unfolding option_decl
option_decl_lies = turned (λ x. refl) option_lies

dont_care_decl_lies : Lies dont_care_decl places_of_decl
unfolding dont_care_decl
dont_care_decl_lies = turned (λ x. refl) dont_care_lies

pub decl_lies : (n : ℕ) → Lies (decl n) places_of_decl
unfolding decl
decl_lies n = or_lies (naming_lies n) (or_lies option_decl_lies dont_care_decl_lies)

pub other_decl_lies : (n : ℕ) → Lies (other_decl n) places_of_decl
unfolding other_decl
other_decl_lies n = or_lies (naming_lies n) dont_care_decl_lies
