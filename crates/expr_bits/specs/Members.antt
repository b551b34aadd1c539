-- Private: terms of sets as lists (this project's rule).
use Rattle.std.specs.Prelude.{Option, List, [], ◌∷◌}
use Rattle.expr_bits.specs.Prelude.{Extension, Term, Terms, NoTerm, Before, extended_if}

abbrev pub list_of : Terms → List Term
list_of NoTerm = []
list_of (Before t ts) = t ∷ list_of ts

-- an extension, if there is one, at each
abbrev pub each_extended : Option Extension → List Term → List Term
each_extended e [] = []
each_extended e (t ∷ ts) = extended_if e t ∷ each_extended e ts
