-- What the parts of a section read, by the names that they use, and of which signals they assign the enable.
use Rattle.std.specs.Prelude.{Bool, true, false, List, [], ℕ, if◌then◌else◌}
use Rattle.placer.specs.Prelude.{flat_map, Named, signals_of, target_extension, without_extension, Tree, PartRole, PartTree, Target, Value, Read, Registers, PartedSection}
use Rattle.decls.specs.PartUses.{use_of}
use Rattle.name_uses.specs.NamesUsed.{UsedName}
use Rattle.abel_meaning.specs.Reads.{is_enable, signals_used}

-- the signals of a name that is used, or of a range
abbrev pub signals_at : List Named → UsedName → List ℕ
signals_at ks u = signals_used ks (use_of u)

-- what is there in this role is read
abbrev pub reads_as : PartRole → Bool
reads_as (Value target) = true
reads_as Read = true
reads_as Registers = true
reads_as _ = false

-- the signals that a part reads
abbrev pub read_in : List Named → PartTree → List ℕ
read_in ks p = if reads_as p.role then flat_map (signals_at ks) p.uses else []

-- it is the target of an equation, and an enable
abbrev pub is_enabling : PartRole → Tree → Bool
is_enabling (Target sign) t = is_enable (target_extension t)
is_enabling _ t = false

abbrev pub enables_it : PartTree → Bool
enables_it p = is_enabling p.role p.tree

-- the signals whose enable a part assigns
abbrev pub enabled_in : List Named → PartTree → List ℕ
enabled_in ks p = if is_enabling p.role p.tree then signals_of ks (without_extension p.tree) else []

-- the parts of a section
abbrev pub parts_of : PartedSection → List PartTree
parts_of x = x.parts
