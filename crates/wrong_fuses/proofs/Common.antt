-- The words that the proofs of this crate are said in, passed on from one place. Declares nothing.
pub use Rattle.std.proofs.lemmas.Bool.{cases_Bool, true≢false}
pub use Rattle.std.proofs.lemmas.List.{append-nil, map-append}
pub use Rattle.std.proofs.lemmas.List.Elements.{All-push, filter-append}
pub use Rattle.std.proofs.lemmas.Option.{none-some}
pub use Rattle.std.specs.List.{All, list_any, range_with_len}
pub use Rattle.device_logic.proofs.OneRun.{device_determined}
pub use Rattle.device_logic.proofs.Ranges.{reset_in, preset_in}
pub use Rattle.device_logic.proofs.Runs.{any_at, any_none, any_same}
pub use Rattle.device_logic.specs.LoadFaults.{IsLoadFault}
pub use Rattle.device_sim.specs.Simulated.{IsSimFault}
pub use Rattle.device_sim.specs.VectorRun.{IsVectorRun}
pub use Rattle.device_sim.specs.declared.report.Mismatch.{Mismatch}
pub use Rattle.fuse_compare.specs.Alike.{AreAlike, DifferAtClock, DifferAtRest, RunsAlike, SameEdge, SameShown, ShowSame}
pub use Rattle.fuse_compare.specs.Compared.{CanBeLoaded}
pub use Rattle.pld_base.specs.Bits.{is_on}
pub use Rattle.pld_device.proofs.OwnPins.{own_pins}
pub use Rattle.pld_base.specs.Logic.{Logic}
pub use Rattle.pld_base.specs.Points.{IsPoint, Levels}
pub use Rattle.pld_device.specs.Laws.{IsDevice}
pub use Rattle.pld_device.specs.Macrocells.{complement_if, data_complements, device_logic, enabled_by, is_enabled, next_q, or_value, output_value, pin_complements, pin_level, row_if_any}
pub use Rattle.pld_device.specs.Registers.{is_inverted, stores}
pub use Rattle.pld_device.specs.Rows.{row_value}
pub use Rattle.pld_device.specs.Table.{Table, cell_at, inverted_at, no_cell, registered_at}
pub use Rattle.pld_machine.specs.Refines.{Refines}
pub use Rattle.pld_machine.specs.Steps.{RestsOnce}
pub use Rattle.wrong_fuses.specs.Faults.{faults_of, is_fault, names, switches_by, with_wrong}
pub use Rattle.wrong_fuses.specs.SameTables.{MeanSame, SameKind, SameRow}
pub use Rattle.wrong_fuses.specs.Verdicts.{AreJudged, FirstIs, IsFound, IsFoundBy, IsJudged, IsSaid, IsTheList, IsVerdict, Passes, first_vector, tried}
pub use Rattle.wrong_fuses.specs.declared.verdict.Judged.{Judged}
pub use Rattle.wrong_fuses.specs.declared.verdict.Verdict.{Verdict}
