-- The words of the crates below that the clauses of this crate are said in, passed on from one place. Declares nothing.
pub use Rattle.std.specs.Global.{Vec}
pub use Rattle.std.specs.Int.{bit_at, bit_not, w32}
pub use Rattle.std.specs.List.{range_with_len}
pub use Rattle.bit_expr.specs.declared.netlist.CellWanted.{CellWanted}
pub use Rattle.bit_expr.specs.declared.netlist.Function.{Function}
pub use Rattle.bit_expr.specs.declared.netlist.Netlist.{Netlist}
pub use Rattle.covers.specs.Cubes.{AllAskBelow, AsksBelow, full_cube, has_point}
pub use Rattle.covers.specs.Prime.{IsPrimeIrredundant}
pub use Rattle.covers.specs.declared.cube.Cube.{Cube}
pub use Rattle.pld_base.specs.Bits.{is_on, same_level}
pub use Rattle.pld_device.specs.Laws.{Control, Inverts, IsDevice, IsFixed, Registers, Switches, fuse_for}
pub use Rattle.pld_device.specs.Macrocells.{complement_if, data_complements, pin_complements}
pub use Rattle.pld_device.specs.Rows.{row_fuses}
pub use Rattle.pld_device.specs.Table.{IsDataRow, Table, cell_at, inverted_at, registered_at}
pub use Rattle.pld_device.specs.declared.flip.Flip.{Flip}
pub use Rattle.sop_lowering.specs.Lowering.{CanLower}
pub use Rattle.sop_lowering.specs.Products.{Products}
