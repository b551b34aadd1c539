use Rattle.std.proofs.Common.{◌∙◌}
use Rattle.gathering.proofs.Common.{arena}
use Rattle.gathering.proofs.GivenAmounts.{raw_seen}
use Rattle.gathering.proofs.Standing.{stands_on}
use Rattle.gathering.proofs.signal.totals_of.Goals as goal

pub returns-clause-given : goal.returns-clause-given
returns-clause-given c = λ first last before lie behind.
    let old = arena c.args.exprs.now in
    let fs = arena c.function_of.new.exprs in
    let gs = arena c.control_of.new.exprs in
    let hs = arena c.control_of-2.new.exprs in
    let to_fs = stands_on first old fs before c.in_ok-function.ensures.stands in
    let to_gs = stands_on first fs gs to_fs c.in_ok-enable.ensures.stands in
    let to_hs = stands_on first gs hs to_gs c.in_ok-reset.ensures.stands in
    let from_hs = stands_on hs (arena c.control_of-3.new.exprs) last c.in_ok-preset.ensures.stands behind in
    let from_gs = stands_on gs hs last c.in_ok-reset.ensures.stands from_hs in
    let from_fs = stands_on fs gs last c.in_ok-enable.ensures.stands from_gs in
    record {
      function = c.in_ok-function.ensures.function first last before lie from_fs;
      raw = c.has_raw.ensures ∙ raw_seen first c.args.signal c.args.list.now;
      enable = c.in_ok-enable.ensures.control first last to_fs lie from_gs;
      reset = c.in_ok-reset.ensures.control first last to_gs lie from_hs;
      preset = c.in_ok-preset.ensures.control first last to_hs lie behind;
      place = c.first_place.ensures;
    }
