-- The words of the crates below that the clauses of this crate are said in, passed on from one place. Declares nothing.
pub use Rattle.std.specs.Global.{Vec}
pub use Rattle.std.specs.Int.{bit_at}
pub use Rattle.std.specs.List.Sorted.{IsNonDecreasingBy, IsPermutation}
pub use Rattle.std.specs.Option.{option_map, option_to_list}
pub use Rattle.abel_meaning.specs.NetlistLogic.{netlist_stores}
pub use Rattle.abel_meaning.specs.Netlists.{PlainNetlist, Wanted, first_with, plain_netlist, plain_wanted, shared_function, wanted_at}
pub use Rattle.abel_meaning.specs.SoundIds.{IsFunctionIn, IsSoundNetlist}
pub use Rattle.abel_tree.specs.FirstRefusal.{Ranks}
unfoldable pub use Rattle.abel_tree.specs.FirstRefusal.{is_before}
pub use Rattle.bit_expr.specs.Arena.{formula_at}
unfoldable pub use Rattle.bit_expr.specs.Arena.{arena}
pub use Rattle.bit_expr.specs.Formulas.{Const, Formula, formula_value}
pub use Rattle.bit_expr.specs.declared.netlist.CellWanted.{CellWanted}
pub use Rattle.bit_expr.specs.declared.netlist.Control.{Control}
pub use Rattle.bit_expr.specs.declared.netlist.Function.{Function}
pub use Rattle.bit_expr.specs.declared.netlist.Netlist.{Netlist}
pub use Rattle.bit_expr.specs.declared.node.ExprId.{ExprId}
pub use Rattle.covers.specs.Covers.{CoversList}
pub use Rattle.covers.specs.Cubes.{AllAskBelow, covers}
pub use Rattle.covers.specs.declared.cube.Cube.{Cube}
pub use Rattle.fit_plans.specs.Choices.{FitsRoom}
pub use Rattle.fit_plans.specs.Columns.{all_turned, turned}
pub use Rattle.fit_plans.specs.Controls.{IsBurned, form_at}
pub use Rattle.fit_plans.specs.Covered.{CanCover, IsTriedAs, IsTriedCell, control_function}
pub use Rattle.fit_plans.specs.Forms.{may_be_inverted_as, rows_are_positive}
pub use Rattle.fit_plans.specs.RowCubes.{HoldsCubes, fuse_at}
pub use Rattle.fit_plans.specs.Tries.{allowed_of, needed_of}
pub use Rattle.fit_plans.specs.declared.choosing.Tried.{Tried}
pub use Rattle.fit_plans.specs.declared.control_fuses.CellForm.{CellForm}
pub use Rattle.fit_plans.specs.declared.plan.CellPlan.{CellPlan}
pub use Rattle.fit_plans.specs.declared.plan.Plan.{Plan}
pub use Rattle.netlist_laws.specs.ExchangedNets.{logic_shown, netlist_exchanged, netlist_shown, values_shown}
pub use Rattle.netlist_laws.specs.Fitting.{AreShared, IsFitted}
pub use Rattle.netlist_laws.specs.RowCovers.{IsValuedFor, is_used}
pub use Rattle.pld_base.specs.Bits.{is_on}
unfoldable pub use Rattle.pld_base.specs.Bits.{bits}
pub use Rattle.pld_base.specs.Points.{Levels, levels_of}
pub use Rattle.pld_base.specs.declared.point.Point.{Point}
pub use Rattle.pld_device.specs.Laws.{IsDevice}
pub use Rattle.pld_device.specs.Macrocells.{complement_if, device_logic, pin_complements}
pub use Rattle.pld_device.specs.Registers.{is_inverted, stores_by}
pub use Rattle.pld_device.specs.Rows.{pair_values, row_fuses}
pub use Rattle.pld_device.specs.Table.{Table, cell_at}
pub use Rattle.pld_device.specs.declared.carry.Carry.{Carry}
pub use Rattle.sop_lowering.specs.Written.{bit_list, function_of_node, node_formula}
