-- What a design answers, packed into numbers: of each name, of each cell and node at a point, of the folded formulas.
use Rattle.std.specs.Prelude.{ℕ, ◌+◌, ◌*◌, ◌%◌, Bool, true, false, ◌&&◌, Option, None, Some, if◌then◌else◌, List, [], ◌∷◌, ◌++◌, map, filter, length}
use Rattle.meaning_points.specs.Prelude.{range_with_len, Levels, Kind, APin, ANode, AConstant, ADeviceName, Entry, follows_q, Context, Design, name_at, truth_at, given_at, Function, function_of, allows, value_with_any_0, design_logic, pin_allows, next_allows, node_allows, node_signal}
use Rattle.pld_base.specs.Logic.{Logic}
use Rattle.bit_expr.specs.declared.node.Leaf.{Leaf}
use Rattle.bit_expr.specs.declared.node.Leaf.TheVariants as leaf
use Rattle.bit_expr.specs.Formulas.{Formula, Const, Read, Not, And, Or, Xor}
use Rattle.abel_tree.specs.declared.words.Extension.TheVariants as extension
use Rattle.abel_meaning.specs.Numbers.{digits_low_first}
use Rattle.abel_meaning.specs.Contributions.{Contribution}
use Rattle.abel_meaning.specs.Controls.{control_of, signal_on, cell_is_enabled, register_control}
use Rattle.abel_meaning.specs.FormulaBits.{formulas}
use Rattle.abel_meaning.specs.SignalReads.{given_formulas, settles, signal_names, leaf_of, is_one_of, names_if_any}

-- the number with these bits, the first one lowest
abbrev pub packed : List Bool → ℕ
packed [] = 0
packed (true ∷ bs) = 1 + 2 * packed bs
packed (false ∷ bs) = 2 * packed bs

-- a point with the levels, Qs and node values of three numbers
abbrev pub point : (pins q nodes : ℕ) → Levels
point pins q nodes =
    record { pins = digits_low_first 32 pins; q = digits_low_first 32 q; nodes = digits_low_first 128 nodes }

-- ---- names

-- what a name is declared as
abbrev pub kind_code : Kind → ℕ
kind_code (APin pin negated) = 2 * pin + packed (negated ∷ [])
kind_code (ANode n) = 1000 + n
kind_code (AConstant value) = 2000
kind_code ADeviceName = 3000

-- that, and whether it is registered, follows Q, is don't-care and is assigned
abbrev pub name_code : Entry → ℕ
name_code x =
    16 * kind_code x.kind
    + packed (x.words.registered ∷ (x.words.registered && follows_q x) ∷ x.words.dc ∷ x.assigned ∷ [])

-- of all names
abbrev pub name_codes : Context → List ℕ
name_codes d = map name_code d.names

-- ---- points

-- what a cell does at the point: stores, drives, may be 0 or 1, is reset, is preset, may store 0 or 1
abbrev pub cell_bits : Logic → Levels → ℕ → ℕ
cell_bits m at c =
    packed (m.stores c ∷ m.enabled at c ∷ m.allows_level at c false ∷ m.allows_level at c true
    ∷ m.reset at c ∷ m.preset at c
    ∷ (m.stores c && m.allows_next at c false) ∷ (m.stores c && m.allows_next at c true) ∷ [])

-- by the logic itself: what each cell does at the point, and what each of n nodes may be
abbrev pub logic_answers : Logic → Levels → (nodes : ℕ) → List ℕ
logic_answers m at n =
    map (cell_bits m at) (range_with_len 0 m.cells)
    ++ map (λ k. packed (m.is_node k ∷ m.allows_node at k false ∷ m.allows_node at k true ∷ [])) (range_with_len 0 n)

-- the logic with the contributions at the point computed once
abbrev pub shared_logic : Design → Levels → List (Contribution Bool) → Logic
shared_logic d at cs =
    record (design_logic d) {
      enabled = λ _ c. cell_is_enabled (truth_at d.context at) d.context at cs c;
      allows_level = λ _ c level. pin_allows allows d.context at cs c (signal_on d.context c) level;
      allows_node = λ _ n value. node_allows allows d.context at cs (node_signal d.context n) value;
      reset = λ _ c. register_control (truth_at d.context at) d.context cs extension.Ar (signal_on d.context c);
      preset = λ _ c. register_control (truth_at d.context at) d.context cs extension.Sp (signal_on d.context c);
      allows_next = λ _ c q. next_allows allows d.context at cs (signal_on d.context c) q;
    }

-- each name's value with any as 0; 2 if it is assigned nothing
abbrev pub any_0_values : Context → Levels → List (Contribution Bool) → List ℕ
any_0_values d at cs =
    map (λ s. if (name_at d s).assigned then packed (value_with_any_0 (function_of (truth_at d at) cs s) ∷ []) else 2)
    (range_with_len 0 (length d.names))

-- both, by these contributions
abbrev pub answers_with : Design → Levels → (nodes : ℕ) → List (Contribution Bool) → List ℕ
answers_with d at n cs = logic_answers (shared_logic d at cs) at n ++ any_0_values d.context at cs

-- both
abbrev pub answers : Design → Levels → (nodes : ℕ) → List ℕ
answers d at n = answers_with d at n (given_at d at)

-- ---- formulas

-- a leaf as a number
abbrev pub leaf_code : Leaf → ℕ
leaf_code (leaf.Pin pin) = 10 + 3 * pin
leaf_code (leaf.Q c) = 11 + 3 * c
leaf_code (leaf.Node n) = 12 + 3 * n

-- a formula as a number, so that different trees mostly have different ones
abbrev pub formula_code : Formula → ℕ
formula_code (Const b) = packed (b ∷ [])
formula_code (Read leaf) = leaf_code leaf
formula_code (Not f) = (5 + 7 * formula_code f) % 1000003
formula_code (And f g) = (11 + 13 * formula_code f + 17 * formula_code g) % 1000003
formula_code (Or f g) = (19 + 23 * formula_code f + 29 * formula_code g) % 1000003
formula_code (Xor f g) = (31 + 37 * formula_code f + 41 * formula_code g) % 1000003

-- one that may be there
abbrev pub option_code : Option Formula → ℕ
option_code None = 0
option_code (Some f) = 1 + formula_code f

-- one, any and polarity
abbrev pub function_codes : Function Formula → List ℕ
function_codes f = formula_code f.one ∷ formula_code f.any ∷ packed (f.complement ∷ []) ∷ []

-- those of a name, with its enable, reset and preset
abbrev pub signal_trees : Context → List (Contribution Formula) → ℕ → List ℕ
signal_trees d cs s =
    function_codes (function_of (formulas d) cs s)
    ++ option_code (control_of (formulas d) cs s extension.Oe)
    ∷ option_code (control_of (formulas d) cs s extension.Ar)
    ∷ option_code (control_of (formulas d) cs s extension.Sp)
    ∷ []

-- those of all assigned names, by these contributions
abbrev pub trees_with : Context → List (Contribution Formula) → List (List ℕ)
trees_with d cs =
    map (λ s. if (name_at d s).assigned then signal_trees d cs s else []) (range_with_len 0 (length d.names))

-- those of all assigned names
abbrev pub all_trees : Design → List (List ℕ)
all_trees d = trees_with d.context (given_formulas d)

-- ---- reads

-- the names that are read, by whether their leaf is among those named
abbrev pub read_from : Context → (named : Leaf → Bool) → List ℕ
read_from d named = filter (λ r. is_one_of named (leaf_of d r)) (range_with_len 0 (length d.names))

-- for each name those that its formulas name, none if it doesn't settle
abbrev pub reads_with : Context → List (Contribution Formula) → List (List ℕ)
reads_with d cs =
    map (λ s. if settles (name_at d s) then read_from d (signal_names d cs s) else []) (range_with_len 0 (length d.names))

-- for each name those that its reset names
abbrev pub resets_with : Context → List (Contribution Formula) → List (List ℕ)
resets_with d cs =
    map (λ s. read_from d (names_if_any (control_of (formulas d) cs s extension.Ar))) (range_with_len 0 (length d.names))

-- both
abbrev pub reads_by : Context → List (Contribution Formula) → List (List ℕ)
reads_by d cs = reads_with d cs ++ resets_with d cs

-- for each name those that its formulas name, and then those that its reset names
abbrev pub all_reads : Design → List (List ℕ)
all_reads d = reads_by d.context (given_formulas d)
