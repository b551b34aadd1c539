-- What is read, settled and refused amounts to what the module declares.
use Rattle.std.proofs.Common.{◌≡◌, true, not, is_some, ◌++◌, map, inr, sym, ap, ◌∙◌}
use Rattle.declared_names.proofs.Common.{or-true, none_refused, name_refusals, view_declared, first_refusal, view_module, with_assigned, name_order, first_name_refusal, refused_for, registers_wait}
use Rattle.decls.specs.Passed.{wants_names}
use Rattle.declared_names.proofs.Exact.{final_fault, first_same, settled_same, names_sound, names_apart, names_allowed, names_known}
use Rattle.declared_names.proofs.declaring.declare.Goals as goal
use Rattle.declared_names.proofs.declaring.declare.Goals.{then-not-registers_wait+in_default, else-not-registers_wait}

pub returns : goal.returns
returns g c =
    let t = g.D.Device.table in
    let m = view_module c.args.source.now in
    let wanted : wants_names (registers_wait t m) c.in_ok-list.field-0.fault ≡ true = elim c.if-not-registers_wait.branch [
      | then-not-registers_wait+in_default w ↦ ap (wants_names (registers_wait t m)) w.in_default.is
      | else-not-registers_wait w ↦ ap (λ b. wants_names b c.in_ok-list.field-0.fault) (sym c.in_ok-list.ensures.wait ∙ w.if-not-registers_wait.false) ∙ or-true (not (is_some c.in_ok-list.field-0.fault))
    ] in
    let read = map view_declared c.in_ok-list.field-0.list.items in
    let settled = map view_declared c.in_ok-list-2.list.items in
    let flip = c.flip.ensures in
    let kinds : settled ≡ with_assigned c.flip.result m.sections read = c.in_ok-list-2.ensures in
    let first : c.first_refused-refused.result ≡ first_name_refusal t m = first_same t m c.flip.result read settled c.as_slice-2.result.now c.in_ok-list.field-0.fault c.first_refused-refused.result flip (c.in_ok-list.ensures.list wanted) kinds (c.as_slice-2.ensures.value ∙ c.in_ok-list.ensures.buffered wanted) c.in_ok-list.ensures.fault
    (λ fs e. c.first_refused-refused.ensures fs e ∙ ap (λ ds. first_refusal name_order (fs ++ refused_for t (map view_declared ds) c.as_slice-2.result.now)) c.as_slice.ensures.value) in
    let none = none_refused name_order (name_refusals t m) (sym c.in-None.is ∙ first) in
    let names = ap (map view_declared) c.from_vec.ensures ∙ settled_same t m none c.flip.result read settled flip (c.in_ok-list.ensures.list wanted) kinds in
    record {
      names = names;
      accepted = none;
      sound = names_sound t m none (record { list = c.from_vec.result; device = c.name.result }) names (c.name.ensures);
      apart = names_apart t m none (record { list = c.from_vec.result; device = c.name.result }) names;
      buffers = names_allowed t m none (record { list = c.from_vec.result; device = c.name.result }) names;
      named = names_known t m none (record { list = c.from_vec.result; device = c.name.result }) names;
      refused = tt;
    }

pub returns-in-Some-refused-clause-refused : goal.returns-in-Some-refused-clause-refused
returns-in-Some-refused-clause-refused g c =
    let t = g.D.Device.table in
    let m = view_module c.args.source.now in
    let wanted : wants_names (registers_wait t m) c.in_ok-list.field-0.fault ≡ true = elim c.if-not-registers_wait.branch [
      | then-not-registers_wait+in_default w ↦ ap (wants_names (registers_wait t m)) w.in_default.is
      | else-not-registers_wait w ↦ ap (λ b. wants_names b c.in_ok-list.field-0.fault) (sym c.in_ok-list.ensures.wait ∙ w.if-not-registers_wait.false) ∙ or-true (not (is_some c.in_ok-list.field-0.fault))
    ] in
    let first : c.first_refused-refused.result ≡ first_name_refusal t m = first_same t m c.flip.result _ (map view_declared c.in_ok-list-2.list.items) c.as_slice-2.result.now c.in_ok-list.field-0.fault c.first_refused-refused.result (c.flip.ensures) (c.in_ok-list.ensures.list wanted) c.in_ok-list-2.ensures (c.as_slice-2.ensures.value ∙ c.in_ok-list.ensures.buffered wanted) c.in_ok-list.ensures.fault
    (λ fs e. c.first_refused-refused.ensures fs e ∙ ap (λ ds. first_refusal name_order (fs ++ refused_for t (map view_declared ds) c.as_slice-2.result.now)) c.as_slice.ensures.value) in
    inr (sym first ∙ c.in-Some-refused.is)

pub returns-in-Some-clause-refused : goal.returns-in-Some-clause-refused
returns-in-Some-clause-refused g c =
    let read = c.in_ok-list.field-0 in
    inr (final_fault g.D.Device.table (view_module c.args.source.now) read.fault read.registers_wait c.in_ok-list.ensures.fault c.in_ok-list.ensures.wait c.if-not-registers_wait.true ∙ c.in-Some.is)
