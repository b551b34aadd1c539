-- Which signals a module reads, and of which it assigns the enable: an expression reads, a table's inputs and a diagram's registers do,
-- through constants too; targets, rows and vectors read nothing (this project's rule, over the ABEL-HDL Reference Manual, constants and
-- sets).
use Rattle.std.specs.Prelude.{ℕ, suc, Bool, true, false, ◌==◌, Option, None, Some, List, [], ◌∷◌, ◌++◌}
use Rattle.std.specs.List.{flat_map}
use Rattle.abel_meaning.specs.Prelude.{list_any, Extension, named_of, target_extension, without_extension, Kind, APin, ANode, AConstant, ADeviceName, Entry, range_names, Tree, SectionTree, ADiagram}
use Rattle.abel_tree.specs.Assigned.{Named, signals_of, signals_of_name, signals_of_names}
use Rattle.abel_tree.specs.ExpressionUses.{Use, OneName, Range, uses}
use Rattle.abel_tree.specs.declared.words.Extension.TheVariants as extension
use Rattle.abel_meaning.specs.Held.{Part, ATarget, AValue, section_parts, states_parts}

-- those of a name, or of a range
abbrev pub signals_used : List Named → Use → List ℕ
signals_used ks (OneName word) = signals_of_name ks word.text
signals_used ks (Range first last) = signals_of_names ks (range_names first.text last.text)

-- those of an expression: under any operator, in any set and with any extension
abbrev pub signals_in : List Named → Tree → List ℕ
signals_in ks t = flat_map (signals_used ks) (uses t)

-- a signal is itself, and a constant represents its expression over the names before it
abbrev pub stands_for : List Named → ℕ → Kind → List ℕ
stands_for ks s (APin pin negated) = s ∷ []
stands_for ks s (ANode number) = s ∷ []
stands_for ks s (AConstant value) = signals_in ks value
stands_for ks s ADeviceName = []

-- names after these, the first of which has this number
abbrev pub read_after : List Named → ℕ → List Entry → List Named
read_after ks s [] = ks
read_after ks s (e ∷ es) = read_after (ks ++ record { name = e.name; signals = stands_for ks s e.kind } ∷ []) (suc s) es

abbrev pub read_names_of : List Entry → List Named
read_names_of es = read_after [] 0 es

-- what a section assigns and reads: a diagram its registers too
abbrev pub read_parts : SectionTree → List Part
read_parts (ADiagram place registers states) = AValue registers ∷ states_parts states
read_parts x = section_parts x

-- an expression reads the signal
abbrev pub reads : List Named → (signal : ℕ) → Part → Bool
reads names s (AValue t) = list_any (λ n. n == s) (signals_in names t)
reads names s (ATarget target) = false

abbrev pub is_enable : Option Extension → Bool
is_enable (Some extension.Oe) = true
is_enable _ = false

-- the target is its enable, maybe in a set or after a constant
abbrev pub enables : List Named → (signal : ℕ) → Part → Bool
enables names s (AValue t) = false
enables names s (ATarget target) = enables_if (is_enable (target_extension target))
  where
    enables_if : Bool → Bool
    enables_if true = list_any (λ n. n == s) (signals_of names (without_extension target))
    enables_if false = false

-- some section of a module with these names reads the signal of this number
abbrev pub is_read : List Entry → List SectionTree → ℕ → Bool
is_read es sections s = list_any (reads (read_names_of es) s) (flat_map read_parts sections)

-- some section assigns its enable
abbrev pub has_enable : List Entry → List SectionTree → ℕ → Bool
has_enable es sections s = list_any (enables (named_of es) s) (flat_map read_parts sections)

-- some target is an enable
abbrev pub is_enable_part : Part → Bool
is_enable_part (ATarget target) = is_enable (target_extension target)
is_enable_part (AValue t) = false

abbrev pub has_enables : List SectionTree → Bool
has_enables sections = list_any is_enable_part (flat_map read_parts sections)
