-- What sections and constants name, as it is marked: what is read with `.Q` after it is reported as what is assigned on the
-- clock is, and so marks strongly (ABEL-HDL Reference Manual, equations and dot extensions).
use Rattle.std.specs.Prelude.{◌≡◌, ℕ, Bool, true, false, ◌||◌, Option, None, Some, List, [], ◌∷◌, ◌++◌, if◌then◌else◌, map, length, replicate, slice_get}
use Rattle.declared_names.specs.Prelude.{flat_map, list_any, is_shared, asks_q, read_names, Assigned, is_clocked, target_extension, without_extension, Entry, find, SectionTree, Tree, PartedSection, with_parts}
use Rattle.name_uses.specs.Parts.{PartRole, PartTree}
use Rattle.abel_tree.specs.Extensions.{is_data, is_raw}
use Rattle.abel_tree.specs.Ranges.{range_names}
use Rattle.abel_tree.specs.declared.words.Extension.TheVariants.{Q}
use Rattle.abel_tree.specs.declared.words.Word.{Word}
use Rattle.declared_names.specs.declared.following.Follow.{Follow}
use Rattle.declared_names.specs.declared.following.Follow.TheVariants as follow
use Rattle.declared_names.specs.declared.marks.Mark.{Mark}
use Rattle.declared_names.specs.declared.numbers.FirstNames.{FirstNames}
use Rattle.declared_names.specs.Marking.{all_marked, clear, passed}
use Rattle.declared_names.specs.Numbered.{IsNumbering, below, value_at}
use Rattle.name_uses.specs.NamesUsed.{UsedName, names_used}
use Rattle.name_uses.specs.Parts as role
use Rattle.name_uses.specs.Targets.{targets_in}

-- ---- names

-- a name is marked by its number
abbrev pub number_given : Option ℕ → (strong : Bool) → List Assigned
number_given None strong = []
number_given (Some k) strong = record { signal = k; clocked = strong } ∷ []

-- a name of the first so many
abbrev pub numbers_read : (limit : ℕ) → List Entry → List ℕ → (strong : Bool) → List Assigned
numbers_read limit es name strong = number_given (below limit (find es name)) strong

-- what a name or a range gives
abbrev pub reads_to : {A : Type 0} → (List ℕ → Bool → List A) → (strong : Bool) → (first : Word) → (last : Option Word) → List A
reads_to of strong first None = of first.text strong
reads_to of strong first (Some last) = read_names of strong (range_names first.text last.text)

-- what a use gives: its extension counts, and without one what is asked of all
abbrev pub use_reads : {A : Type 0} → (List ℕ → Bool → List A) → (strong : Bool) → UsedName → List A
use_reads of strong u = reads_to of (asks_q strong u.extension) u.first u.last

abbrev pub uses_read : {A : Type 0} → (List ℕ → Bool → List A) → (strong : Bool) → List UsedName → List A
uses_read of strong us = flat_map (use_reads of strong) us

-- ---- constants

-- the names of an expression: as a target, or as it is read
abbrev pub uses_in : Follow → Tree → List UsedName
uses_in follow.Targets t = targets_in t
uses_in follow.Reads t = names_used None t

-- those of a constant
abbrev pub value_uses : Follow → Option Tree → List UsedName
value_uses way None = []
value_uses way (Some value) = uses_in way value

-- what these give by a mark, plainly and strongly
abbrev pub by_mark : {A : Type 0} → (List ℕ → Bool → List A) → List UsedName → Mark → List A
by_mark of us m = uses_read of false (if m.plain then us else []) ++ uses_read of true (if m.strong then us else [])

-- what the name of this number gives by its mark, if it is a constant: names of earlier numbers
abbrev pub given_by : Follow → List Entry → ℕ → Mark → List Assigned
given_by way es k m = by_mark (numbers_read k es) (value_uses way (value_at (slice_get es k))) m

-- ---- parts of sections

-- names that an expression names, plainly or strongly
pub record Naming : Type 0 where
  pub strong : Bool
  pub uses : List UsedName

-- the target of an equation names what it assigns, if it is data
abbrev pub assigned_names : Tree → List UsedName
assigned_names t = if is_data (target_extension t) then targets_in (without_extension t) else []

-- what a part assigns: a target of data, the outputs of a table, the registers of a diagram
abbrev pub assigned_as : PartRole → Tree → Naming
assigned_as (role.Target sign) t =
    record { strong = is_raw (target_extension t) || is_clocked sign; uses = assigned_names t }
assigned_as (role.Outputs clocked) t = record { strong = clocked; uses = targets_in t }
assigned_as role.Registers t = record { strong = true; uses = targets_in t }
assigned_as _ t = record { strong = false; uses = [] }

-- the target of a raw input names what it would read as Q
abbrev pub raw_names : Tree → List UsedName
raw_names t = if is_raw (target_extension t) then names_used (Some Q) (without_extension t) else []

-- what a part reads: an expression its names
abbrev pub read_as : PartRole → Tree → List UsedName → List UsedName
read_as (role.Target sign) t us = raw_names t
read_as (role.Value target) t us = us
read_as role.Read t us = us
read_as _ t us = []

abbrev pub part_names : Follow → PartTree → Naming
part_names follow.Targets p = assigned_as p.role p.tree
part_names follow.Reads p = record { strong = false; uses = read_as p.role p.tree p.uses }

abbrev pub naming_gives : {A : Type 0} → (List ℕ → Bool → List A) → Naming → List A
naming_gives of n = uses_read of n.strong n.uses

abbrev pub part_gives : {A : Type 0} → Follow → (List ℕ → Bool → List A) → PartTree → List A
part_gives way of p = naming_gives of (part_names way p)

abbrev pub section_gives : {A : Type 0} → Follow → (List ℕ → Bool → List A) → PartedSection → List A
section_gives way of x = flat_map (part_gives way of) x.parts

abbrev pub sections_give : {A : Type 0} → Follow → (List ℕ → Bool → List A) → List SectionTree → List A
sections_give way of xs = flat_map (section_gives way of) (map with_parts xs)

-- the target of a reset or a preset holds all registers (this project's rule)
abbrev pub shares_as : PartRole → Tree → Bool
shares_as (role.Target sign) t = is_shared (target_extension t)
shares_as _ t = false

abbrev pub shares_all : PartTree → Bool
shares_all p = shares_as p.role p.tree

abbrev pub section_shares : PartedSection → Bool
section_shares x = list_any shares_all x.parts

-- ---- marks

-- what the first names give is marked, whatever names have their numbers
abbrev pub AreMarked : FirstNames → (old new : List Mark) → (gives : (List ℕ → Bool → List Assigned) → List Assigned) → Type 0
AreMarked names old new gives =
    (es : List Entry) → IsNumbering names.numbers.now es → new ≡ all_marked old (gives (numbers_read names.limit es))

-- what sections give, also through constants
abbrev pub all_marks : Follow → List Entry → List SectionTree → List Mark
all_marks way es xs =
    passed (given_by way es) (length es) (all_marked (replicate (length es) clear) (sections_give way (numbers_read (length es) es) xs))
