-- Each front of the tokens of a declaration begins it, at each depth of nesting.
use Rattle.std.proofs.Common.{ℕ, List, [], ◌∷◌, length}
use Rattle.module_reader.proofs.Common.{Form, Token, Word, Tree, Terminal, Not, Range, Istype, Device, Pin, Node, Semicolon, Comma, Equal}
use Rattle.abel_grammar.specs.Declarations.{item, names, num, nums, texts, istype, option, device, kept, pins, nodes, attributes, values_for, constants, naming, option_decl, dont_care_decl, decl, other_decl}
use Rattle.module_reader.proofs.Forms.{Begun, token_begun, followed_begun, then_begun, made_begun, or_begun, nothing_begun, some_begun, apart_begun, times_begun}
use Rattle.module_reader.proofs.Expressions.{one_begun, end_begun, name_begun, number_begun, text_begun, dont_care_begun, expr_begun}

-- ---- items, numbers and strings

item_begun : Begun item
unfolding item
item_begun =
    made_begun
    (then_begun (some_begun (one_begun Not)) (then_begun name_begun (some_begun (then_begun (one_begun Range) name_begun))))

names_begun : Begun names
unfolding names
names_begun = apart_begun _ item_begun

num_begun : Begun num
unfolding num
num_begun = made_begun (then_begun number_begun (some_begun (then_begun (one_begun Range) number_begun)))

nums_begun : Begun nums
unfolding nums
nums_begun = apart_begun _ num_begun

texts_begun : Begun texts
unfolding texts
texts_begun = apart_begun _ text_begun

istype_begun : Begun istype
unfolding istype
istype_begun = made_begun (then_begun (one_begun Istype) texts_begun)

pub option_begun : Begun option
unfolding option
option_begun = made_begun (then_begun (token_begun _) (then_begun texts_begun end_begun))

-- ---- each kind of declaration

device_begun : Begun device
unfolding device
device_begun = made_begun (then_begun name_begun (then_begun (one_begun Device) (then_begun text_begun (one_begun Semicolon))))

kept_begun : (t : Terminal) → Begun (kept t)
kept_begun t =
    then_begun (one_begun t) (then_begun (some_begun nums_begun) (then_begun (some_begun istype_begun) (one_begun Semicolon)))

pins_begun : Begun pins
unfolding pins
pins_begun = made_begun (then_begun names_begun (kept_begun Pin))

nodes_begun : Begun nodes
unfolding nodes
nodes_begun = made_begun (then_begun names_begun (kept_begun Node))

attributes_begun : Begun attributes
unfolding attributes
attributes_begun = made_begun (then_begun names_begun (then_begun istype_begun (one_begun Semicolon)))

values_begun : {e : Form Token Tree} (ws : List Word) → Begun e → Begun (values_for ws e)
values_begun [] le = nothing_begun
values_begun (w ∷ ws) le =
    made_begun (then_begun le (times_begun (length ws) (made_begun (then_begun (one_begun Comma) le))))

constants_begun : {e : Form Token Tree} → Begun e → Begun (constants e)
unfolding constants
constants_begun le =
    made_begun
    (followed_begun (apart_begun _ name_begun) (λ ws. then_begun (one_begun Equal) (then_begun (values_begun ws le) (one_begun Semicolon))))

-- ---- declarations

naming_begun : (n : ℕ) → Begun (naming n)
unfolding naming
naming_begun n =
    or_begun device_begun (or_begun pins_begun (or_begun nodes_begun (or_begun attributes_begun (constants_begun (expr_begun n)))))

option_decl_begun : Begun option_decl
unfolding option_decl
option_decl_begun = made_begun option_begun

dont_care_decl_begun : Begun dont_care_decl
unfolding dont_care_decl
dont_care_decl_begun = made_begun dont_care_begun

pub decl_begun : (n : ℕ) → Begun (decl n)
unfolding decl
decl_begun n = or_begun (naming_begun n) (or_begun option_decl_begun dont_care_decl_begun)

pub other_decl_begun : (n : ℕ) → Begun (other_decl n)
unfolding other_decl
other_decl_begun n = or_begun (naming_begun n) dont_care_decl_begun
