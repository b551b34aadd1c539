-- Both passes, and then the names by their marks.
use Rattle.std.proofs.Common.{◌≡◌, map, ap, ◌∙◌}
use Rattle.declared_names.proofs.Common.{IfOk-weaker, view_declared, view_module, with_assigned, Reads, Targets, Held, all_marks, kinds_by}
use Rattle.declared_names.proofs.Settling.{settled}
use Rattle.declared_names.proofs.kinds.settle.Goals as goal

pub returns : goal.returns
returns c =
    let es = map view_declared c.args.names.items in
    let xs = (view_module c.args.source.now).sections in
    let held : Held = record { all = c.are_all_held.result; read = c.in_ok-read.read } in
    let assigned : c.as_slice-4.result.now ≡ all_marks Targets es xs =
    c.as_slice-4.ensures.value ∙ (c.in_ok-assigned.ensures ∙ ap (λ l. all_marks Targets (map view_declared l) xs) c.as_slice-2.ensures.value) in
    let read : c.in_ok-read.read.items ≡ all_marks Reads es xs = c.in_ok-read.ensures ∙ ap (λ l. all_marks Reads (map view_declared l) xs) c.as_slice-3.ensures.value in
    IfOk-weaker c.settle_all.result
    (λ list. map view_declared list.items ≡ kinds_by c.args.flip c.as_slice-4.result.now held c.args.names.items)
    (λ list. map view_declared list.items ≡ with_assigned c.args.flip xs es)
    (λ list h. h ∙ settled c.args.names.items xs c.args.flip c.as_slice-4.result.now held assigned c.are_all_held.ensures read)
    c.settle_all.ensures
