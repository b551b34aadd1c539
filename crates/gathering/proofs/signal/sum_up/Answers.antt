use Rattle.std.proofs.Common.{◌≡◌, ◌∙◌, ◌<◌, ℕ, List, length, subst, sym, filter}
use Rattle.gathering.proofs.Common.{All-filter, IfOk-weaker, arena, Contribution, AreGiven, is_to, AllLieIn}
use Rattle.gathering.proofs.GivenAmounts.{totals_own}
use Rattle.gathering.proofs.signal.sum_up.Goals as goal

own_lie : (count s : ℕ) (cs own : List Contribution) → own ≡ filter (is_to s) cs → AllLieIn count cs → AllLieIn count own
own_lie count s cs own is lie = subst (AllLieIn count) (sym is) (All-filter (is_to s) (λ (c : Contribution). c.when.0 < count) cs lie)

pub totals_of-requires : goal.totals_of-requires
totals_of-requires c = own_lie (length (arena c.args.exprs.now)) c.args.signal c.args.list.now c.deref.result.now (c.deref.ensures.value ∙ c.in_ok-own.ensures) c.requires

pub returns-clause-given : goal.returns-clause-given
returns-clause-given c =
    let list = c.args.list.now in
    let own = c.deref.result.now in
    let is : own ≡ filter (is_to c.args.signal) list = c.deref.ensures.value ∙ c.in_ok-own.ensures in
    IfOk-weaker c.totals_of.result _ _
    (λ totals given first last before lie behind.
    totals_own first c.args.signal list last totals
    (subst (λ cs. AreGiven first last cs c.args.signal totals) is (given first last before (own_lie (length first) c.args.signal list own is lie) behind)))
    c.totals_of.ensures.given
