-- The running first, one name more: one refusal more if it is a register.
use Rattle.std.proofs.Common.{◌≤◌, Bool, [], ◌∷◌, ◌++◌, map, take, length, get_or, if◌then◌else◌, sym, ap, ◌∙◌, arith, Some}
use Rattle.declared_names.proofs.Common.{append-nil, take_all, view_declared, earlier, first_refusal, first_push, name_order, registers_refused}
use Rattle.decls.specs.declared.fault.NameFault.TheVariants as fault
use Rattle.declared_names.proofs.Buffers.{no_name, one_more}
use Rattle.declared_names.proofs.registers.first_refused.Goals as goal
use Rattle.declared_names.proofs.registers.first_refused.Goals.{then-is_register, else-is_register}

pub loop-name-preserved : goal.loop-name-preserved
loop-name-preserved g c = λ fs e.
    let l = c.loop-name in
    let es = map view_declared c.args.list.now in
    let bs = c.args.names.now in
    let now = fs ++ registers_refused es (take l.name-index bs) in
    let f = fault.BadAttribute (get_or bs l.name-index no_name).place in
    let asked = λ (b : Bool). first_refusal name_order (now ++ (if b then f ∷ [] else [])) in
    let more = ap (first_refusal name_order) (sym (one_more es fs bs l.name-index no_name c.loop-name-test.true)) in
    elim c.if-is_register.branch [
      | then-is_register w ↦
          w.first-is
          ∙ (w.first_of-first.ensures
          ∙ (ap (λ o. earlier name_order o (Some f)) (l.invariant fs e)
          ∙ (sym (first_push name_order now f) ∙ (ap asked (sym w.if-is_register.true ∙ c.is_register.ensures) ∙ more))))
      | else-is_register w ↦
          w.first-is
          ∙ (l.invariant fs e
          ∙ (ap (first_refusal name_order) (sym (append-nil now)) ∙ (ap asked (sym w.if-is_register.false ∙ c.is_register.ensures) ∙ more)))
    ]

pub returns-then-always_inverts : goal.returns-then-always_inverts
returns-then-always_inverts g c = λ fs e.
    let l = c.loop-name in
    let es = map view_declared c.args.list.now in
    let bs = c.args.names.now in
    let whole : length bs ≤ l.name-index = omega (arith, c.loop-name-test.false) in
    l.invariant fs e
    ∙ ap (λ rs. first_refusal name_order (fs ++ rs))
    (ap (registers_refused es) (take_all l.name-index bs whole)
    ∙ ap (λ b. if b then registers_refused es bs else []) (sym c.if-always_inverts.true ∙ c.always_inverts.ensures))
