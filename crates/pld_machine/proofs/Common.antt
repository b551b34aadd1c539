-- The words that the proofs of this crate are said in, passed on from one place. Declares nothing.
pub use Rattle.std.proofs.lemmas.Bool.{MatchBool-at_false, MatchBool-at_true, and_left, and_parts, cases_Bool, cases_eq, cases_lt, cond-false, cond-true}
pub use Rattle.std.proofs.lemmas.Bool.{eq-eqb, eqb-false, eqb-true, false_from_ne_true, or_cases, or_left, or_parts, or_right, true≢false}
pub use Rattle.pld_base.proofs.BitLemmas.{is_on-and, is_on-zero, length-bits, same_levels}
pub use Rattle.pld_base.specs.Bits.{is_on, same_level}
unfoldable pub use Rattle.pld_base.specs.Bits.{bits}
pub use Rattle.pld_base.specs.Logic.{Logic, is_register}
pub use Rattle.pld_base.specs.Points.{IsPoint, Levels, levels_of}
pub use Rattle.pld_machine.specs.Comparison.{AllowsOne, DoesTheSame, HasNoDontCare, HasValuedRunsOf, IsShownAs, IsValuedOf, NodeValues, SameEnables, ValuesOnce, AreSeen, SameCells}
pub use Rattle.pld_machine.specs.Refines.{HasNoNodes, RefinesValued, SameValues, HasRunsOf, Refines}
pub use Rattle.pld_machine.specs.ExchangeLaws.{ExchangedLookups, ExchangedRefines, ExchangedRests, ExchangedRuns, ExchangedSteps, ExchangedValues, MayExchange}
pub use Rattle.pld_machine.specs.ExchangeLaws.{RunFrom, all_exchanged}
pub use Rattle.pld_machine.specs.Exchanged.{exchanged, exchanged_at, exchanged_from, exchanged_lookups, exchanged_qs, in_sense}
pub use Rattle.pld_machine.specs.Lookups.{Lookups, logic_of, sets_node, sets_pin}
pub use Rattle.pld_machine.specs.Order.{DifferOnlyIn, HasPins, HasSlots, InRange, IsOrdered, ReadsEarlier, ReadsNone, ResetsWithoutQ, SameAt}
pub use Rattle.pld_machine.specs.Rest.{AtRest, IsSettled, q_at_rest}
pub use Rattle.pld_machine.specs.Settling.{between_of, clocked_of, filled, q_at_edge, rest_of, run_of, settle, settle_slot, settled_of, start, step_of}
pub use Rattle.pld_machine.specs.Settling.{steps_of, with_pin}
pub use Rattle.pld_machine.specs.Steps.{ClockedStep, IsDetermined, IsTheRest, IsTheRun, IsTheStep, IsWide, RestsOnce, Run, RunsOnce, Step, Steps, allows_q}
pub use Rattle.pld_machine.specs.Steps.{clock_held, power_up, rises}
pub use Rattle.pld_machine.specs.Through.{AllowsAt, IsSeenBy, RefinesThrough}
pub use Rattle.pld_machine.specs.declared.logic.Slot.{Slot}
pub use Rattle.pld_machine.specs.declared.logic.Slot.TheVariants.{Cell, Node}
