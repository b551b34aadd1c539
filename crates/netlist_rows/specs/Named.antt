-- What is known of the names of a source (this project's rule).
use Rattle.std.specs.Prelude.{◌≡◌}
use Rattle.netlist_rows.specs.Prelude.{Table, entries_of, SoundNames, ModuleTree, names_of}
use Rattle.abel_tree.specs.declared.names.Names.{Names}
use Rattle.declared_names.specs.AcceptedNames.{PinsAreApart, BuffersAreAllowed}

-- they are those of the module, sound and accepted
pub record AreNamesFor (t : Table) (m : ModuleTree) (n : Names) : Type 0 where
  pub entries : entries_of n ≡ names_of t m
  pub sound : SoundNames t.name t.pins n
  pub apart : PinsAreApart (entries_of n)
  pub buffers : BuffersAreAllowed t (entries_of n)
