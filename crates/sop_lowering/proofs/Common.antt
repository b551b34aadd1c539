-- The words that the proofs of this crate are said in, passed on from one place. Declares nothing.
pub use Rattle.std.proofs.lemmas.Nat.{or_lt, pow_pos}
pub use Rattle.std.proofs.lemmas.Option.{get_or_from_slice_get, same_Some, slice_get-get_or}
pub use Rattle.std.proofs.lemmas.Result.{err_from_is_err_and}
pub use Rattle.bit_expr.specs.Arena.{formula_at}
unfoldable pub use Rattle.bit_expr.specs.Arena.{arena}
pub use Rattle.bit_expr.specs.Formulas.{And, Const, Formula, Not, Or, Read, Xor, formula_value, leaf_value}
pub use Rattle.bit_expr.specs.declared.netlist.Function.{Function}
pub use Rattle.bit_expr.specs.declared.netlist.Netlist.{Netlist}
pub use Rattle.bit_expr.specs.declared.node.Leaf.{Leaf}
pub use Rattle.covers.proofs.CubePoints.{empty_has_none, full_has_all, lies_in_points, literal_points, union_points}
pub use Rattle.covers.specs.Cubes.{AsksBelow, covers, full_cube, has_point, is_empty, lies_in, literal_cube, union}
pub use Rattle.covers.specs.declared.cube.Cube.{Cube}
pub use Rattle.pld_device.specs.Macrocells.{complement_if}
pub use Rattle.sop_lowering.specs.Keeping.{AreRight, KeepsNone, Leads, Puts, StepsLead, bit_of, products_of, signed_list, unused}
pub use Rattle.sop_lowering.specs.Lowering.{CanLower, Fails, HasPair, IsList}
pub use Rattle.sop_lowering.specs.Products.{Products, adds_nothing, insert_all, insert_one, insert_products, insert_unions, others, product_of, sum_of}
pub use Rattle.sop_lowering.specs.Through.{EachLeaf, OfLeaf, Reaches, ReachesThrough}
pub use Rattle.sop_lowering.specs.Values.{AreNodesValued, CarriesLeaf, HasValue, WrittenValues}
pub use Rattle.sop_lowering.specs.Written.{constant_list, function_of_node, leaf_list, list_of, node_formula, node_list, pair_of, written}
pub use Rattle.sop_lowering.specs.declared.kept.SignedBit.{SignedBit}
