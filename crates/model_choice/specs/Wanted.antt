-- The signals whose cells a set is of.
use Rattle.std.specs.Prelude.{Bool}
use Rattle.abel_tree.specs.Entries.{Entry, is_stored}
use Rattle.model_choice.specs.declared.cells.Wanted.{Wanted}
use Rattle.model_choice.specs.declared.cells.Wanted.TheVariants as wanted

-- a register, or what is assigned
abbrev pub is_wanted : Wanted → Entry → Bool
is_wanted wanted.Registers x = is_stored x
is_wanted wanted.Assigned x = x.assigned
