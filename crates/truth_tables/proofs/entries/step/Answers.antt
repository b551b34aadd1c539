-- A set beside a set, and what is met as a whole.
use Rattle.std.proofs.Common.{arith, subst, sym, true, false, Bool, List}
use Rattle.truth_tables.proofs.Common.{common_steps, entries_of, names_found, AreClearParts, IsClearPart, IfOk-weaker, IsPart, Part}
use Rattle.truth_tables.proofs.PairLaws.{given_not, header_not, sets_met, sets_unmet, step_whole}
use Rattle.truth_tables.proofs.entries.step.Goals as goal

pub returns-then-len : goal.returns-then-len
returns-then-len c d h e is x y =
    let hs = subst (λ z. IsPart d z h) c.in-Set.is x in
    let es = subst (λ z. IsPart d z e) c.in-Set-given.is y in
    sets_unmet d h e _ _ _ _ c.in_ok-headers-in-Set-given.headers.items c.in_ok-entries-in-Set-given.entries.items c.args.stack.now.items c.args.stack.now.items c.args.marks.now.items hs.is es.is (c.in_ok-headers-in-Set-given.ensures.parts d is) (c.in_ok-entries-in-Set-given.ensures.parts d is)
    (λ l. c.if-len.true (grind (arith, common_steps)))

pub returns-in_ok-extend_from_slice-in-Set-given : goal.returns-in_ok-extend_from_slice-in-Set-given
returns-in_ok-extend_from_slice-in-Set-given c d h e is x y =
    let ns = names_found (entries_of c.args.scope.now) in
    let over = λ (b : Bool) (ps : List Part) (k : AreClearParts b ns ps). subst (λ es. AreClearParts b (names_found es) ps) (sym is.names) k in
    let hs = subst (λ z. IsPart d z h) c.in-Set.is x in
    let es = subst (λ z. IsPart d z e) c.in-Set-given.is y in
    sets_met d h e _ _ _ _ c.in_ok-headers-in-Set-given.headers.items c.in_ok-entries-in-Set-given.entries.items _ _ c.args.marks.now.items hs.is es.is (c.in_ok-headers-in-Set-given.ensures.parts d is) (c.in_ok-entries-in-Set-given.ensures.parts d is)
    (grind (arith, common_steps))
    (grind (arith, common_steps))
    (over true _ (c.in_ok-headers-in-Set-given.ensures.clear true (subst (IsClearPart true ns) c.in-Set.is c.requires.header).1))
    (over false _ (c.in_ok-entries-in-Set-given.ensures.clear false (subst (IsClearPart false ns) c.in-Set-given.is c.requires.given).1))

pub returns-in_default-given : goal.returns-in_default-given
returns-in_default-given c =
    IfOk-weaker c.put_whole.result _ _
    (λ b p d h e is x y. step_whole d h e b c.args.stack.now.items c.args.marks.now.items c.put_whole.new.marks.items (p d h e is x y (given_not d c.args.pair.given h e c.in_default-given.not-Set y)))
    c.put_whole.ensures

pub returns-in_default : goal.returns-in_default
returns-in_default c =
    IfOk-weaker c.put_whole-in_default.result _ _
    (λ b p d h e is x y. step_whole d h e b c.args.stack.now.items c.args.marks.now.items c.put_whole-in_default.new.marks.items (p d h e is x y (header_not d c.args.pair.header h e c.in_default.not-Set x)))
    c.put_whole-in_default.ensures
