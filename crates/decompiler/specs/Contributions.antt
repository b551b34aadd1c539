-- That there is what a decompiled source contributes (this project's rule).
use Rattle.std.specs.Prelude.{Bool, List}
use Rattle.decompiler.specs.Prelude.{IsDevice, Table, ModuleTree, design_of, Contributions, AreContributed, IsSourceTree, source_of}

-- some contributions are just what a module that is the fuses' source contributes, in just the counted nodes
abbrev pub ContributionsAreThere : Type 0
ContributionsAreThere =
    (t : Table) (fuses : List Bool) (m : ModuleTree) → IsDevice t → IsSourceTree (source_of t fuses) m
    → (found : Contributions) × AreContributed (design_of t m) found
