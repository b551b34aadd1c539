-- Private: what is read, as the code has it (this project's rule).
use Rattle.std.specs.Prelude.{Option, None, Some}
use Rattle.expr_bits.specs.Prelude.{IsLeaf, Source, Zero, LeafRead}
use Rattle.expr_bits.specs.declared.sources.Reading.{Reading}

abbrev pub view_reading : Option Reading → Source
view_reading None = Zero
view_reading (Some r) = LeafRead r.complement r.leaf

-- the leaf is one that there may be
abbrev pub HasLeaf : Option Reading → Type 0
HasLeaf None = Unit {0}
HasLeaf (Some r) = IsLeaf r.leaf
