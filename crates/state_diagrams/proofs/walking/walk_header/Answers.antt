-- After what is refused, and if nothing is.
use Rattle.std.proofs.Common.{[], length, refl, sym, ap, ◌∙◌, subst, append-nil}
use Rattle.state_diagrams.proofs.Common.{on_ok_weaker, arena, Names, entries_of, view_guard, Walked, context_for, AreNamed, AreFirsts, standing, stands_made, stands_same, walks_made, walks_none, no_fault, header_work}
use Rattle.truth_tables.specs.TableUnits.{some_aims}
use Rattle.state_diagrams.proofs.WalkedDiagrams.{header_aims, header_there, walks_refusing}
use Rattle.state_diagrams.proofs.walking.walk_header.Goals as goal

pub returns-then-is_some-clause-walks : goal.returns-then-is_some-clause-walks
returns-then-is_some-clause-walks g c = λ all a.
    let m = c.args.machine.now in
    let w = header_work (context_for g.D.Device.table m.scope.now) (view_guard (arena c.args.out.now.exprs) c.args.guard) m.registers.now in
    walks_refusing all [] [] [] w.gives [] w.places c.args.out.now c.args.out.now (sym c.is_some.ensures ∙ c.if-is_some.true) (walks_none all c.args.out.now a)

pub give_no_matches-made-requires : goal.give_no_matches-made-requires
give_no_matches-made-requires g c =
    let m = c.args.machine.now in
    subst (λ (n : Names). AreNamed (length (entries_of n)) (some_aims c.deref.result.now)) (sym c.scope-names.ensures)
    (subst (AreNamed (length (entries_of m.scope.now))) (sym (ap some_aims (c.deref.ensures.value ∙ c.in_ok-outputs.ensures) ∙ header_aims m.registers.now)) c.requires.signals)

pub returns-clause-walks : goal.returns-clause-walks
returns-clause-walks g c =
    on_ok_weaker c.keep_limit.result
    (λ k all a.
    let m = c.args.machine.now in
    let d = context_for g.D.Device.table m.scope.now in
    let xs = m.registers.now in
    let old = c.args.out.now in
    let h = view_guard (arena old.exprs) c.args.guard in
    let w = header_work d h xs in
    let made : Walked = record old { exprs = c.give_no_matches-made.new.exprs; list = c.give_no_matches-made.new.list } in
    let clear = no_fault old.fault (sym c.is_some.ensures ∙ c.if-is_some.false) in
    walks_made all [] [] w.gives w.places old made c.keep_limit.new.self c.give_no_matches-made.result clear clear refl (subst (AreFirsts old.before) (sym (append-nil all)) a)
    (header_there d h xs c.deref.result.now (standing old) (standing made) c.give_no_matches-made.result (c.deref.ensures.value ∙ c.in_ok-outputs.ensures) (c.give_no_matches-made.ensures.gives d (ap entries_of (sym c.scope-names.ensures)))) k)
    c.keep_limit.ensures.kept

pub returns-then-is_some-clause-stands : goal.returns-then-is_some-clause-stands
returns-then-is_some-clause-stands g c = stands_same _ _ c.args.out.now c.args.out.now refl

pub returns-in_err-outputs-clause-stands : goal.returns-in_err-outputs-clause-stands
returns-in_err-outputs-clause-stands g c = stands_same _ _ c.args.out.now c.args.out.now refl

pub returns-clause-stands : goal.returns-clause-stands
returns-clause-stands g c =
    let m = c.args.machine.now in
    let d = context_for g.D.Device.table m.scope.now in
    let xs = m.registers.now in
    let old = c.args.out.now in
    let h = view_guard (arena old.exprs) c.args.guard in
    let w = header_work d h xs in
    let made : Walked = record old { exprs = c.give_no_matches-made.new.exprs; list = c.give_no_matches-made.new.list } in
    stands_made [] w.gives w.places old made c.keep_limit.new.self c.give_no_matches-made.result (no_fault old.fault (sym c.is_some.ensures ∙ c.if-is_some.false))
    (header_there d h xs c.deref.result.now (standing old) (standing made) c.give_no_matches-made.result (c.deref.ensures.value ∙ c.in_ok-outputs.ensures) (c.give_no_matches-made.ensures.gives d (ap entries_of (sym c.scope-names.ensures)))) c.keep_limit.ensures.stands
