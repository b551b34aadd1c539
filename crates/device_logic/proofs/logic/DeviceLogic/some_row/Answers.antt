use Rattle.std.proofs.Common.{◌+◌, ◌*◌, ◌%◌, inl, inr, sym, ◌∙◌, arith}
use Rattle.device_logic.proofs.Common.{cases_Bool, cases_lt, levels_of, row_value}
use Rattle.device_logic.proofs.Runs.{any_at, any_none, one_of}
use Rattle.device_logic.proofs.SomeRows.{none_at}
use Rattle.device_logic.proofs.logic.DeviceLogic.some_row.Goals as goal

pub returns-then-some_of_two : goal.returns-then-some_of_two
returns-then-some_of_two g c =
    let test = row_value g.D.Device.table c.args.self.now.fuses (levels_of c.args.at.now) in
    let found = one_of test (c.from-start.result + 2 * c.loop-pair.pair) 2 (sym c.some_of_two.ensures ∙ c.if-some_of_two.true) in
    sym (any_at test c.args.first c.args.room found.0 (omega (arith, found.1, c.from-start.ensures)) (omega (arith, found.2, c.from-start.ensures)) found.3)

pub loop-pair-preserved : goal.loop-pair-preserved
loop-pair-preserved g c = λ k low high.
    let test = row_value g.D.Device.table c.args.self.now.fuses (levels_of c.args.at.now) in
    elim (cases_lt k (c.args.first + 2 * c.loop-pair.pair)) [
      | inl before ↦ c.loop-pair.invariant k low before
      | inr past ↦ none_at test (c.from-start.result + 2 * c.loop-pair.pair) 2 k (sym c.some_of_two.ensures ∙ c.if-some_of_two.false) (omega (arith, past, c.from-start.ensures)) (omega (arith, high, c.from-start.ensures))
    ]

pub returns : goal.returns
returns g c =
    let test = row_value g.D.Device.table c.args.self.now.fuses (levels_of c.args.at.now) in
    elim (cases_Bool c.some_of_few.result) [
      | inl some ↦
          let found = one_of test (c.from-start.result + 2 * c.from-pairs.result) (c.args.room % 2) (sym c.some_of_few.ensures ∙ some) in
          some ∙ sym (any_at test c.args.first c.args.room found.0 (omega (arith, found.1, c.from-start.ensures)) (omega (arith, found.2, c.from-start.ensures, c.from-pairs.ensures)) found.3)
      | inr none ↦
          none ∙ sym (any_none test c.args.first c.args.room (λ k low high.
          elim (cases_lt k (c.args.first + 2 * c.loop-pair.pair)) [
            | inl before ↦ c.loop-pair.invariant k low before
            | inr past ↦ none_at test (c.from-start.result + 2 * c.from-pairs.result) (c.args.room % 2) k (sym c.some_of_few.ensures ∙ none) (omega (arith, past, c.from-start.ensures, c.from-pairs.ensures)) (omega (arith, high, c.from-start.ensures, c.from-pairs.ensures))
          ]))
    ]
