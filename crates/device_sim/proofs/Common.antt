-- The words that the proofs of this crate are said in, passed on from one place. Declares nothing.
pub use Rattle.std.proofs.lemmas.Bool.{and_left, and_right, cases_Bool, cases_lt, eqb-false, eqb-true, false_from_ne_true, true≢false}
pub use Rattle.std.proofs.lemmas.List.{drop_all, length-map, length-replicate, length-take, map-append, set_at, take-map, take_more}
pub use Rattle.std.proofs.lemmas.List.Elements.{All-append, All-cons, All-head, All-map, All-nil, All-tail}
pub use Rattle.std.specs.Int.{bit_at, bit_not, w32}
pub use Rattle.std.specs.List.{All, list_any, position, range_with_len}
pub use Rattle.device_logic.proofs.CellsOrdered.{same_logic}
pub use Rattle.device_logic.proofs.Runs.{any_at, any_none, one_of}
pub use Rattle.device_logic.specs.DeviceLookups.{device_lookups}
pub use Rattle.jedec_file.specs.TestVectors.{all_chars, chars_of}
pub use Rattle.pld_base.proofs.BitLemmas.{is_on-and, is_on-bits, length-bits}
pub use Rattle.pld_base.specs.Bits.{is_on}
unfoldable pub use Rattle.pld_base.specs.Bits.{bits}
pub use Rattle.pld_base.specs.Logic.{Logic, is_register}
pub use Rattle.pld_base.specs.Points.{Levels, levels_of}
pub use Rattle.pld_base.specs.declared.point.Trace.{Trace}
pub use Rattle.pld_base.specs.declared.point.Vector.{Vector}
pub use Rattle.pld_device.specs.Macrocells.{device_logic}
pub use Rattle.pld_device.specs.Table.{Table}
pub use Rattle.pld_machine.proofs.OneRun.{rests_once, runs_once, steps_once}
pub use Rattle.pld_machine.specs.Lookups.{Lookups, logic_of}
pub use Rattle.pld_machine.specs.Order.{HasPins, IsOrdered}
pub use Rattle.pld_machine.specs.Settling.{between_of, clocked_of, filled, rest_of, settled_of, step_of, steps_of}
pub use Rattle.pld_machine.specs.Steps.{IsTheRest, IsWide, Run, RunsOnce, power_up}
pub use Rattle.device_sim.specs.Simulated.{IsSimFault, first_unsupported, is_unsupported}
pub use Rattle.device_sim.specs.VectorRun.{IsVectorRun, found, found_at, has_clock, if_mismatch, is_driven, is_tested, level_before, level_turned, mismatch_at}
pub use Rattle.device_sim.specs.VectorRun.{mismatches_of, mismatches_where, vector_mismatches}
unfoldable pub use Rattle.device_sim.specs.VectorRun.{at_pins, outsides_of}
pub use Rattle.device_sim.specs.VectorSteps.{ShownAfter, all_chars_at, chars_at, last_after, level_for, points_after}
unfoldable pub use Rattle.device_sim.specs.VectorSteps.{mismatches_after, point_after}
pub use Rattle.device_sim.specs.declared.report.Mismatch.{Mismatch}
