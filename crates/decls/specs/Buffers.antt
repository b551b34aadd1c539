-- Whether registers wait for what is assigned: there may be one that is refused for `buffer` (this project's rule).
use Rattle.std.specs.Prelude.{Bool, false, ◌&&◌}
use Rattle.decls.specs.Prelude.{list_any, Table, Declaration, SomePins, SomeNodes, SomeAttributes, ModuleTree, all_said}
use Rattle.decls.specs.AllDeclarations.{all_declarations}
use Rattle.decls.specs.NameRefusals.{always_inverts}

-- a string of the declaration says `buffer`
abbrev pub says_buffer : Declaration → Bool
says_buffer (SomePins names numbers attributes) = (all_said attributes).buffer
says_buffer (SomeNodes names numbers attributes) = (all_said attributes).buffer
says_buffer (SomeAttributes names attributes) = (all_said attributes).buffer
says_buffer _ = false

-- the device always inverts, and some string says `buffer`
abbrev pub registers_wait : Table → ModuleTree → Bool
registers_wait t m = always_inverts t && list_any says_buffer (all_declarations m)
