-- The words that the proofs of this crate are said in, passed on from one place. Declares nothing.
pub use Rattle.std.proofs.lemmas.List.{get_or_append_left, length-map, map-append}
pub use Rattle.std.proofs.lemmas.Nat.Bits.{bit_at-lt, bit_at_or, shr_and_one}
pub use Rattle.std.proofs.lemmas.Option.{get_or_from_slice_get, slice_get-get_or, slice_get-map, slice_get_read, slice_get_within}
pub use Rattle.pld_base.proofs.BitLemmas.{is_on-bits, is_on-zero, length-bits}
pub use Rattle.pld_base.specs.Bits.{is_on}
unfoldable pub use Rattle.pld_base.specs.Bits.{bits}
pub use Rattle.bit_expr.specs.Arena.{Adds, Grew, IsAdded, LiesIn, constants, folded, formula_at, formula_of, formulas_from, node_value}
unfoldable pub use Rattle.bit_expr.specs.Arena.{arena}
pub use Rattle.bit_expr.specs.Folding.{Made, constant_level, free, fresh, inner_of}
unfoldable pub use Rattle.bit_expr.specs.Folding.{make_and, make_not, make_or, make_xor}
pub use Rattle.bit_expr.specs.Formulas.{And, Const, Formula, Not, Or, Read, Xor, differ, formula_value, names}
pub use Rattle.bit_expr.specs.Keeping.{AreKept, AreOverEarlier, nodes_of}
pub use Rattle.bit_expr.specs.Reading.{AreReads}
pub use Rattle.bit_expr.specs.declared.arena.Kept.{Kept}
pub use Rattle.bit_expr.specs.declared.node.ExprId.{ExprId}
pub use Rattle.bit_expr.specs.declared.node.Node.{Node}
