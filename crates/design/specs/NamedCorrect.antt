-- What holds of a design whose names are declared (this project's rule).
use Rattle.std.specs.Prelude.{◌≡◌}
use Rattle.design.specs.Prelude.{Table, entries_of, ModuleTree, Context, design_of, names_of, known_of, PinsApart, NodesAreFew}
use Rattle.abel_tree.specs.declared.names.Names.{Names}
use Rattle.abel_tree.specs.SoundNames.{SoundNames}
use Rattle.declared_names.specs.AcceptedNames.{PinsAreApart, BuffersAreAllowed}
use Rattle.design.specs.Accepted.{SignalsAreAssigned, BuffersAreBehind}

-- the names of the design are accepted: no two are one pin, nodes are few, only signals are assigned, and no register
-- follows Q, or may, if the device can't complement after it
pub record HasAcceptedNames (d : Context) : Type 0 where
  pub known : d.known ≡ known_of d.names
  pub pins : PinsApart d
  pub nodes : NodesAreFew d
  pub signals : SignalsAreAssigned d
  pub buffers : BuffersAreBehind d

-- if these are the names of a module for a device, and what is answered with them holds, they are accepted in its design
abbrev pub NamesAreAccepted : Type 0
NamesAreAccepted =
    (t : Table) (m : ModuleTree) (names : Names) → entries_of names ≡ names_of t m → SoundNames t.name t.pins names
    → PinsAreApart (entries_of names) → BuffersAreAllowed t (entries_of names) → HasAcceptedNames (design_of t m).context
