-- The words that the proofs of this crate are said in, passed on from one place. Declares nothing.
pub use Rattle.std.proofs.lemmas.Bool.{cases_Bool, cases_eq, eq-eqb, eqb-true, lt-ltb, ltb-true}
pub use Rattle.std.proofs.lemmas.Bool.Decides.{nat_tests}
pub use Rattle.std.proofs.lemmas.List.{drop_all, drop_more, get_or-drop, get_or-replicate, get_or-take, get_or_append_left, get_or_past, length-append}
pub use Rattle.std.proofs.lemmas.List.{length-map, length-replicate, length-take, map-append}
pub use Rattle.std.proofs.lemmas.List.Elements.{All-from_recursion, All-map}
pub use Rattle.std.proofs.lemmas.List.FromFn.{get_or-map-range_with_len, length-map-range_with_len, map-range_with_len_more}
pub use Rattle.std.proofs.lemmas.Nat.{and_le_l, or_lt, pow_below}
pub use Rattle.std.proofs.lemmas.Nat.Bits.{bit_at-lt, bit_at-pow_other, bit_at-zero, bit_at_and, bit_at_not, bit_at_or}
pub use Rattle.std.proofs.lemmas.Option.{get_or_from_slice_get, slice_get-get_or, slice_get_past, slice_get_within}
pub use Rattle.std.specs.Int.{bit_at, bit_not, w32}
pub use Rattle.std.specs.List.{AllByRecursion, range_with_len}
pub use Rattle.bit_expr.specs.declared.netlist.Function.{Function}
pub use Rattle.bit_expr.specs.declared.netlist.Netlist.{Netlist}
pub use Rattle.covers.specs.Covers.{CoversList}
pub use Rattle.covers.specs.Cubes.{AllAskBelow, AsksBelow, asks, covers, fits, full_cube, has_from, has_point, literal_cube, without}
pub use Rattle.covers.specs.Pool.{Pool}
pub use Rattle.covers.specs.declared.cube.Cube.{Cube}
pub use Rattle.pld_base.specs.Bits.{is_on, same_level}
pub use Rattle.pld_device.specs.Laws.{Control, Inverts, IsDevice, IsFixed, Registers, Switches, fuse_for, fuse_if_any}
pub use Rattle.pld_device.specs.Table.{IsDataRow, Table, cell_at, inverted_at, no_cell, registered_at}
pub use Rattle.fit_plans.specs.Columns.{all_turned, turned}
pub use Rattle.fit_plans.specs.Controls.{IsBurned, IsControlLevel, IsFoundFor, IsNoCells, IsNoControl, control_level, form_at, told_by, told_level}
pub use Rattle.fit_plans.specs.Covered.{CanCover, control_function}
pub use Rattle.fit_plans.specs.Covering.{AreInside, IsInside}
pub use Rattle.fit_plans.specs.FuseLists.{fuse_level, planned_fuse, planned_row}
unfoldable pub use Rattle.fit_plans.specs.FuseLists.{fuses_of}
pub use Rattle.fit_plans.specs.Owners.{DevicesHaveOwners, cube_for, enables, enables_as, is_data, is_row, of_cell, owner_from, planned, shared_owner}
unfoldable pub use Rattle.fit_plans.specs.Owners.{owner}
pub use Rattle.fit_plans.specs.Planned.{IsPlanned}
pub use Rattle.fit_plans.specs.Points.{IsCarried, ListsInside, TurnedPoints, levels_turned}
pub use Rattle.fit_plans.specs.Tries.{allowed_of, needed_of, one_of, one_or_any}
pub use Rattle.fit_plans.specs.declared.plan.CellPlan.{CellPlan}
pub use Rattle.fit_plans.specs.declared.plan.Owner.TheVariants.{Data, Enabling, Nobody, Preset, Reset}
pub use Rattle.fit_plans.specs.declared.plan.Plan.{Plan}
