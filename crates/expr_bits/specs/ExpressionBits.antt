-- The bits of an expression of which nothing is refused (ABEL-HDL Reference Manual, sets and operators; the limit is this
-- project's rule).
use Rattle.std.specs.Prelude.{List, Result}
use Rattle.expr_bits.specs.Prelude.{ExprFault, Node, Tree, Context, bits_of, term_of, constant_of, IsShaped}
use Rattle.set_expr.specs.declared.shaped.Shaped.{Shaped}
use Rattle.expr_bits.specs.Making.{Makes}

-- a shape, the X positions and the bits of the value, in just the counted nodes
abbrev pub MakesBits : Context → Tree → (old new : List Node) → Result Shaped ExprFault → Type 0
MakesBits d t old new r =
    Makes (λ fs s w. IsShaped fs s (constant_of d (term_of d.known t)) w) old new r (bits_of d (term_of d.known t))
