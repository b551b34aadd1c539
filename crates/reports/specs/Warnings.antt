-- What of a source is rarely meant, in the order in which it is reported (this project's rule: docs/MANUAL.md).
use Rattle.std.specs.Prelude.{ℕ, Bool, true, false, ◌&&◌, Option, None, Some, List, [], ◌∷◌, ◌++◌, if◌then◌else◌, bytes_eq, codes, filter_map}
use Rattle.std.specs.List.{flat_map, list_any}
use Rattle.std.specs.Str.{str_eq_ignore_ascii_case}
use Rattle.jedec_file.specs.Fields.{is_among}
use Rattle.reports.specs.Prelude.{Place, Entry}
use Rattle.abel_tree.specs.Entries.{is_signal, names_any}
use Rattle.abel_tree.specs.Tree.{Tree, ANumber, ASpecial, AName, ASet, AParen, AUnary, ABinary, Statement, AnAssign, AWhen, AGroup, ADontCare, Otherwise, NoElse, AnElse, Statements, NoStatement, MoreStatements, Declaration, ADevice, SomePins, SomeNodes, SomeAttributes, SomeConstants, SomeOptions, DontCareFor, SectionTree, Declarations, Equations, ATable, ADiagram, SomeVectors, DontCareSection, ModuleTree}
use Rattle.abel_tree.specs.declared.words.Binary.{Binary}
use Rattle.abel_tree.specs.declared.words.Binary.TheVariants as binary
use Rattle.abel_tree.specs.declared.words.Unary.TheVariants as unary
use Rattle.abel_tree.specs.declared.words.Word.{Word}
use Rattle.reports.specs.declared.warning.Cause.{Cause}
use Rattle.reports.specs.declared.warning.Cause.TheVariants.{IdleWord, NoVectors, PlusOfSingles, SecondAssignment}
use Rattle.reports.specs.declared.warning.Warning.{Warning}

abbrev pub warned : Cause → Place → List ℕ → Warning
warned cause place name = record { cause = cause; place = place; name = name }

-- ---- `+` between single signals

-- a signal, or an operation by bits whose last operand is single
abbrev pub is_single : List Entry → Tree → Bool
is_single es (ANumber n) = false
is_single es (ASpecial letter place) = false
is_single es (AName word e) = names_any is_signal es word.text
is_single es (ASet place ms e) = false
is_single es (AParen place t) = is_single es t
is_single es (AUnary unary.Not place t) = is_single es t
is_single es (AUnary unary.Minus place t) = false
is_single es (ABinary binary.And place t u) = is_single es u
is_single es (ABinary binary.Or place t u) = is_single es u
is_single es (ABinary binary.Xor place t u) = is_single es u
is_single es (ABinary binary.Xnor place t u) = is_single es u
is_single es (ABinary _ place t u) = false

abbrev pub is_plus : Binary → Bool
is_plus binary.Plus = true
is_plus _ = false

-- an operator that is `+` between single operands, and what is reported of it
abbrev pub is_sum : List Entry → Binary → (left right : Tree) → Bool
is_sum es sign t u = is_plus sign && (is_single es t && is_single es u)

abbrev pub sum_if : Bool → Place → List Warning
sum_if false place = []
sum_if true place = warned PlusOfSingles place [] ∷ []

-- the operators of an expression, outside of its sets, that are `+` between single operands: each before those of its right
-- side, and these before those of its left side
abbrev pub sums_in : List Entry → Tree → List Warning
sums_in es (ANumber n) = []
sums_in es (ASpecial letter place) = []
sums_in es (AName word e) = []
sums_in es (ASet place ms e) = []
sums_in es (AParen place t) = sums_in es t
sums_in es (AUnary sign place t) = sums_in es t
sums_in es (ABinary sign place t u) = sum_if (is_sum es sign t u) place ++ (sums_in es u ++ sums_in es t)

-- those of a statement: of values and conditions
abbrev mutual
  pub sums_in_statement : List Entry → Statement → List Warning
  sums_in_statement es (AnAssign place complement target sign sign_place value) = sums_in es value
  sums_in_statement es (AWhen place c s other) = sums_in es c ++ (sums_in_statement es s ++ sums_in_else es other)
  sums_in_statement es (AGroup ss) = sums_in_statements es ss
  sums_in_statement es (ADontCare d) = []

  pub sums_in_else : List Entry → Otherwise → List Warning
  sums_in_else es NoElse = []
  sums_in_else es (AnElse s) = sums_in_statement es s

  pub sums_in_statements : List Entry → Statements → List Warning
  sums_in_statements es NoStatement = []
  sums_in_statements es (MoreStatements s ss) = sums_in_statement es s ++ sums_in_statements es ss

-- ---- names that are assigned a second time

-- the name without extension that a statement outside of WHEN and of groups assigns
abbrev pub name_assigned : Statement → Option Word
name_assigned (AnAssign place complement (AName word None) sign sign_place value) = Some word
name_assigned _ = None

-- those that are seen already; each other is seen from then on
abbrev pub seconds : (seen : List (List ℕ)) → List Word → List Warning
seconds seen [] = []
seconds seen (w ∷ ws) =
    if list_any (bytes_eq w.text) seen then warned SecondAssignment w.place w.text ∷ seconds seen ws
    else seconds (seen ++ w.text ∷ []) ws

-- ---- words of ISTYPE that do nothing

-- a comma, a quote, a blank, or another byte that ends a word: tab, line feed, form feed, carriage return, 26
abbrev pub is_separator : ℕ → Bool
is_separator = is_among (codes ", '" ++ 9 ∷ 10 ∷ 12 ∷ 13 ∷ 26 ∷ [])

-- the words of a string, of which some are empty
abbrev pub with_first : ℕ → List (List ℕ) → List (List ℕ)
with_first b [] = (b ∷ []) ∷ []
with_first b (w ∷ ws) = (b ∷ w) ∷ ws

abbrev pub words_in : List ℕ → List (List ℕ)
words_in [] = []
words_in (b ∷ bs) = if is_separator b then [] ∷ words_in bs else with_first b (words_in bs)

abbrev pub idle : List (List ℕ)
idle = codes "pos" ∷ codes "neg" ∷ codes "keep" ∷ codes "collapse" ∷ codes "retain" ∷ []

abbrev pub is_idle : List ℕ → Bool
is_idle word = list_any (str_eq_ignore_ascii_case word) idle

-- those of its words that do nothing, at the place of the string
abbrev pub idle_word : Place → List ℕ → Option Warning
idle_word place word = if is_idle word then Some (warned IdleWord place word) else None

abbrev pub idle_in_string : Word → List Warning
idle_in_string w = filter_map (idle_word w.place) (words_in w.text)

-- those of a declaration
abbrev pub idle_in : Declaration → List Warning
idle_in (ADevice name text) = []
idle_in (SomePins names numbers attributes) = flat_map idle_in_string attributes
idle_in (SomeNodes names numbers attributes) = flat_map idle_in_string attributes
idle_in (SomeAttributes names attributes) = flat_map idle_in_string attributes
idle_in (SomeConstants names values) = []
idle_in (SomeOptions words) = []
idle_in (DontCareFor d) = []

-- ---- the whole

abbrev pub warnings_in : List Entry → SectionTree → List Warning
warnings_in es (Declarations ds) = flat_map idle_in ds
warnings_in es (Equations ss) = flat_map (sums_in_statement es) ss ++ seconds [] (filter_map name_assigned ss)
warnings_in es (ATable place inputs clocked outputs rows) = []
warnings_in es (ADiagram place registers states) = []
warnings_in es (SomeVectors text place inputs outputs rows) = []
warnings_in es (DontCareSection d) = []

abbrev pub is_vectors : SectionTree → Bool
is_vectors (Declarations ds) = false
is_vectors (Equations ss) = false
is_vectors (ATable place inputs clocked outputs rows) = false
is_vectors (ADiagram place registers states) = false
is_vectors (SomeVectors text place inputs outputs rows) = true
is_vectors (DontCareSection d) = false

-- that a module has no vectors
abbrev pub no_vectors_in : ModuleTree → List Warning
no_vectors_in m = if list_any is_vectors m.sections then [] else warned NoVectors m.place [] ∷ []

-- those of a module with these names: of its declarations, then of its sections in turn, and last that it has no vectors
abbrev pub warnings_of : List Entry → ModuleTree → List Warning
warnings_of es m = flat_map idle_in m.decls ++ (flat_map (warnings_in es) m.sections ++ no_vectors_in m)
