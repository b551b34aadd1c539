-- Declarations, read from left to right: the names first, and then what they are declared as (a helper of
-- the parser's own contracts).
use Rattle.std.specs.Prelude.{ℕ, Bool, true, false, List, [], ◌∷◌, length, Option, None, Some, option_map}
use Rattle.abel_grammar.specs.Prelude.{Token, Word, Item, Span, Tree, Declaration, SomeOptions, DontCareFor}
use Rattle.std.specs.Option.{option_and_then}
use Rattle.abel_grammar.specs.Reading.{Reader, read_token, read_followed, ◌then_read◌, read_either, read_optional, read_made}
use Rattle.abel_grammar.specs.Further.{read_times, read_nothing}
use Rattle.abel_grammar.specs.declared.terminal.Terminal.{Terminal}
use Rattle.abel_grammar.specs.declared.terminal.Terminal.TheVariants as terminal
use Rattle.abel_grammar.specs.Terminals.{among}
use Rattle.abel_grammar.specs.WordReaders.{read_one, read_apart_by, read_name, read_number, read_text, read_end, read_dont_care}
use Rattle.abel_grammar.specs.ExpressionReaders.{read_expr}
use Rattle.abel_grammar.specs.Declarations.{item_of, span_of, attributes_in, option_words, options_in, device_of, Kept, pins_of, nodes_of, attributes_of, constants_of, value_of}

unfoldable pub read_item : Reader Token Item
read_item =
    read_made item_of
    (read_optional (among (terminal.Not ∷ [])) (read_one terminal.Not) then_read read_name
    then_read read_optional (among (terminal.Range ∷ [])) (read_one terminal.Range then_read read_name))

unfoldable pub read_names : Reader Token (List Item)
read_names = read_apart_by terminal.Comma read_item

unfoldable pub read_num : Reader Token Span
read_num =
    read_made span_of
    (read_number then_read read_optional (among (terminal.Range ∷ [])) (read_one terminal.Range then_read read_number))

unfoldable pub read_nums : Reader Token (List Span)
read_nums = read_apart_by terminal.Comma read_num

unfoldable pub read_texts : Reader Token (List Word)
read_texts = read_apart_by terminal.Comma read_text

unfoldable pub read_istype : Reader Token (List Word)
read_istype = read_made attributes_in (read_one terminal.Istype then_read read_texts)

unfoldable pub read_option : Reader Token (List Word)
read_option = read_made options_in (read_token (among option_words) then_read read_texts then_read read_end)

unfoldable pub read_kept : Terminal → Reader Token Kept
read_kept word =
    read_one word then_read read_optional (among (terminal.Number ∷ [])) read_nums
    then_read read_optional (among (terminal.Istype ∷ [])) read_istype then_read read_one terminal.Semicolon

-- ---- what follows the names

-- the name of an item that is neither negated nor a range
abbrev pub bare : Bool → Word → Option Word → Option Word
bare false w None = Some w
bare true w o = None
bare false w (Some l) = None

abbrev pub bare_item : Item → Option Word
bare_item i = bare i.negated i.first i.last

-- the name, if there is one alone
abbrev pub only_name : List Item → Option Word
only_name [] = None
only_name (i ∷ []) = bare_item i
only_name (i ∷ j ∷ is) = None

-- the names, if none is negated or a range
abbrev pub bare_names : List Item → Option (List Word)
bare_names [] = Some []
bare_names (i ∷ is) = option_and_then (λ w. option_map (λ ws. w ∷ ws) (bare_names is)) (bare_item i)

-- DEVICE string ;
abbrev pub read_device : Option Word → Reader Token Declaration
read_device None = read_nothing
read_device (Some w) = read_made (λ x. device_of (w, x)) (read_one terminal.Device then_read read_text then_read read_one terminal.Semicolon)

-- as many expressions as names
abbrev pub read_values_for : List Word → Reader Token Tree → Reader Token (List Tree)
read_values_for [] e = read_nothing
read_values_for (w ∷ ws) e =
    read_made (λ x. x.0 ∷ x.1) (e then_read read_times (length ws) (read_made value_of (read_one terminal.Comma then_read e)))

-- = expr {, expr} ;
abbrev pub read_constants : Option (List Word) → Reader Token Tree → Reader Token Declaration
read_constants None e = read_nothing
read_constants (Some ws) e =
    read_made (λ x. constants_of (ws, x))
    (read_one terminal.Equal then_read read_values_for ws e then_read read_one terminal.Semicolon)

unfoldable pub read_declared : ℕ → List Item → Reader Token Declaration
read_declared n is =
    read_either (among (terminal.Device ∷ [])) (read_device (only_name is))
    (read_either (among (terminal.Pin ∷ [])) (read_made (λ x. pins_of (is, x)) (read_kept terminal.Pin))
    (read_either (among (terminal.Node ∷ [])) (read_made (λ x. nodes_of (is, x)) (read_kept terminal.Node))
    (read_either (among (terminal.Istype ∷ [])) (read_made (λ x. attributes_of (is, x)) (read_istype then_read read_one terminal.Semicolon))
    (read_constants (bare_names is) (read_expr n)))))

abbrev pub declared_in : List Item × Declaration → Declaration
declared_in x = x.1

unfoldable pub read_naming : ℕ → Reader Token Declaration
read_naming n = read_made declared_in (read_followed read_names (λ is. read_declared n is))

-- ---- all declarations

abbrev pub naming_starts : List Terminal
naming_starts = terminal.Not ∷ terminal.Identifier ∷ []

unfoldable pub read_option_decl : Reader Token Declaration
read_option_decl = read_made SomeOptions read_option

unfoldable pub read_dont_care_decl : Reader Token Declaration
read_dont_care_decl = read_made DontCareFor read_dont_care

unfoldable pub read_decl : ℕ → Reader Token Declaration
read_decl n =
    read_either (among naming_starts) (read_naming n)
    (read_either (among option_words) read_option_decl read_dont_care_decl)

unfoldable pub read_other_decl : ℕ → Reader Token Declaration
read_other_decl n = read_either (among naming_starts) (read_naming n) read_dont_care_decl

abbrev pub decl_starts : List Terminal
decl_starts = terminal.Not ∷ terminal.Identifier ∷ terminal.Flag ∷ terminal.Options ∷ terminal.DontCare ∷ []

abbrev pub other_starts : List Terminal
other_starts = terminal.Not ∷ terminal.Identifier ∷ terminal.DontCare ∷ []
