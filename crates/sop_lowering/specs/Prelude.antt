-- The words of the crates below that the clauses of this crate are said in, passed on from one place. Declares nothing.
pub use Rattle.std.specs.List.{AllByRecursion, count_by, list_any}
pub use Rattle.bit_expr.specs.Arena.{formula_at}
unfoldable pub use Rattle.bit_expr.specs.Arena.{arena}
pub use Rattle.bit_expr.specs.Formulas.{And, Const, Formula, Not, Or, Read, Xor, formula_value, leaf_value}
pub use Rattle.bit_expr.specs.declared.netlist.Netlist.{Netlist}
pub use Rattle.bit_expr.specs.declared.node.ExprId.{ExprId}
pub use Rattle.bit_expr.specs.declared.node.Leaf.{Leaf}
pub use Rattle.covers.specs.Cubes.{AsksBelow, covers, full_cube, is_empty, lies_in, literal_cube, union}
pub use Rattle.covers.specs.declared.cube.Cube.{Cube}
pub use Rattle.pld_base.specs.Bits.{is_on, same_level}
pub use Rattle.pld_device.specs.Macrocells.{complement_if}
