-- The words that the proofs of this crate are said in, passed on from one place. Declares nothing.
pub use Rattle.std.proofs.lemmas.Bool.{and_parts, cases_Bool, cases_eq, cases_lt, eq-eqb, eqb-false, eqb-true, false_from_ne_true, le-ltb, lt-ltb, ltb-true}
pub use Rattle.std.proofs.lemmas.Bool.{or_cases, or_left, or_parts, or_right, true≢false}
pub use Rattle.std.proofs.lemmas.List.{get_or_default, get_or_past, length-map}
pub use Rattle.std.proofs.lemmas.List.Elements.{All-head, All-nil, All-push, All-tail}
pub use Rattle.std.proofs.lemmas.Option.{get_or_from_slice_get, slice_get_within}
pub use Rattle.std.proofs.lemmas.Result.{IfOk-weaker}
pub use Rattle.std.specs.List.{All, list_any, range_with_len}
pub use Rattle.covers.specs.declared.cube.Cube.{Cube}
pub use Rattle.device_logic.proofs.Ranges.{preset_if_any, preset_in, reset_if_any, reset_in}
pub use Rattle.device_logic.proofs.Runs.{any_at, any_none, any_same, one_of}
pub use Rattle.device_logic.specs.DeviceLookups.{OrderedFuses, device_lookups}
pub use Rattle.device_logic.specs.PairCubes.{IsPairCube}
pub use Rattle.device_logic.specs.RowMasks.{HoldsWith, IsMask, holds}
pub use Rattle.device_logic.specs.declared.row_mask.RowMask.{RowMask}
pub use Rattle.pld_base.proofs.BitLemmas.{is_on-zero, length-bits, same_levels}
pub use Rattle.pld_base.specs.Bits.{is_on, same_level}
unfoldable pub use Rattle.pld_base.specs.Bits.{bits}
pub use Rattle.pld_base.specs.Logic.{Logic, is_register}
pub use Rattle.pld_base.specs.Points.{IsPoint, Levels, levels_of}
pub use Rattle.pld_device.proofs.OwnPins.{has_pairs, own_pins}
pub use Rattle.pld_device.specs.LawTests.Cells.{is_enable_pin}
pub use Rattle.pld_device.specs.Laws.{IsDevice, IsPair, IsSignalPin}
pub use Rattle.pld_device.specs.Macrocells.{complement_if, data_complements, device_logic, enabled_by, is_enabled, next_q, or_value, pin_complements, pin_level}
pub use Rattle.pld_device.specs.Macrocells.{row_if_any}
pub use Rattle.pld_device.specs.Registers.{is_inverted, stores}
pub use Rattle.pld_device.specs.Rows.{carried, pair_values, row_value}
pub use Rattle.pld_device.specs.Table.{Table, cell_at, no_cell}
pub use Rattle.pld_device.specs.declared.carry.Carry.{Carry}
pub use Rattle.pld_device.specs.declared.cell.Cell.{Cell}
pub use Rattle.pld_device.specs.declared.enable.Enable.{Enable}
pub use Rattle.pld_device.specs.declared.enable.Enable.TheVariants.{PinLow, Driven, Released, Row}
pub use Rattle.pld_machine.proofs.OneRest.{levels_equal}
pub use Rattle.pld_machine.proofs.OneRun.{is_on-filled, length-filled, rests_once}
pub use Rattle.pld_machine.proofs.Settled.{same_true, true_same}
pub use Rattle.pld_machine.specs.Lookups.{Lookups, logic_of, sets_node}
pub use Rattle.pld_machine.specs.Order.{InRange, IsOrdered}
pub use Rattle.pld_machine.specs.Rest.{AtRest, q_at_rest}
pub use Rattle.pld_machine.specs.Settling.{filled, q_at_edge, rest_of, settle, settle_slot, settled_of, start}
pub use Rattle.pld_machine.specs.Steps.{ClockedStep, IsDetermined, IsTheRest, IsWide, RestsOnce, Step, Steps, allows_q, clock_held, power_up, rises}
pub use Rattle.fuse_compare.specs.Alike.{AreAlike, DifferAtClock, DifferAtRest, FindsDifference, IsDifference, RunsAlike, SameEdge, SameShown, ShowSame}
pub use Rattle.fuse_compare.specs.Choosing.{AreKnown, HasKnownPins, HasKnownQs, HoldsRegisters, knows_pin, knows_q}
pub use Rattle.fuse_compare.specs.Compared.{IsPlainState}
pub use Rattle.fuse_compare.specs.Cut.{AnswerSame, AreFreePins, AreKeptQs, AreOnce, DifferWithin, IsDecided, some_holds}
pub use Rattle.fuse_compare.specs.DeviceKnown.{AreChosen, QsChosen, carries, enables_some, is_level_of, is_q_of, known_of, reads_at, row_reads_some, some_read}
pub use Rattle.fuse_compare.specs.DeviceReads.{Knows, KnowsReads}
pub use Rattle.fuse_compare.specs.OneState.{AlikeAt, AllEdgesToo, AllToo, RestsToo, StoresOther, StoresToo, cell_too, clock_is_low, drives_so, edge_too}
pub use Rattle.fuse_compare.specs.OwnRows.{AreOwn, CoveredOutside, Covers, HoldsMore, IsGroupCover, MakesCell, MakesSame, NeverDrives, SameCell, SameKind}
pub use Rattle.fuse_compare.specs.OwnRows.{SameOutside, StoreSame, some_row}
pub use Rattle.fuse_compare.specs.States.{AreVariables, QCounts, QFixed, QsSuffice, StandsFor, Suffices, Varies, VariesAt, has_pin, has_q}
pub use Rattle.fuse_compare.specs.States.QCounts.{Plain, Same, Shown}
pub use Rattle.fuse_compare.specs.Told.{AgreeOn, IsTold, IsToldBy, Known, SameShape}
pub use Rattle.fuse_compare.specs.declared.difference.Difference.{Difference}
pub use Rattle.fuse_compare.specs.declared.group.Group.{Group}
pub use Rattle.fuse_compare.specs.declared.variable.Variable.{Variable}
pub use Rattle.fuse_compare.specs.declared.variable.Variable.TheVariants.{Pin, Q}
