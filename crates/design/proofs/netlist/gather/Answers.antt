use Rattle.std.proofs.Common.{ap, ◌∙◌}
use Rattle.design.proofs.Common.{entries_of, view_module, design_of}
use Rattle.std.proofs.lemmas.Result.{err_from_is_err_and}
use Rattle.design.proofs.Gathers.{is_design, to_names, by_signals, is_linked, signals_are, answered, by_chains}
use Rattle.design.proofs.netlist.gather.Goals as goal

pub check_signals-requires-clause-names : goal.check_signals-requires-clause-names
check_signals-requires-clause-names g c = to_names g.D.Device.table g.D.Device.sound c.args.source.now c.args.scope.now c.args.found c.requires.names c.requires.accepted c.requires.gives

pub check_chains-requires-clause-signals : goal.check_chains-requires-clause-signals
check_chains-requires-clause-signals g c =
    signals_are g.D.Device.table g.D.Device.sound c.args.source.now c.names-names.result.now c.args.found (ap entries_of (c.names-names.ensures ∙ c.scope.ensures) ∙ c.requires.names) c.requires.accepted c.requires.gives
    c.in_ok-net.field-0 c.as_slice.result.now c.as_slice-2.result.now c.in_ok-net.ensures.netlist c.in_ok-net.ensures.links (cc) (cc)

pub check_chains-requires-clause-linked : goal.check_chains-requires-clause-linked
check_chains-requires-clause-linked g c = (
  design_of g.D.Device.table (view_module c.args.source.now),
  is_linked g.D.Device.table g.D.Device.sound c.args.source.now c.names-names.result.now c.args.found (ap entries_of (c.names-names.ensures ∙ c.scope.ensures) ∙ c.requires.names) c.requires.accepted c.requires.gives
      c.in_ok-net.field-0 c.as_slice.result.now c.as_slice-2.result.now c.in_ok-net.ensures.netlist c.in_ok-net.ensures.links (cc) (cc),
)

pub returns-in_err-check_signals-clause-refused : goal.returns-in_err-check_signals-clause-refused
returns-in_err-check_signals-clause-refused g c =
    let d = design_of g.D.Device.table (view_module c.args.source.now) in
    let p = err_from_is_err_and c.from_residual.result c.from_residual.ensures.1 in
    rw (p.1, p.2)
    (by_signals g.D.Device.table g.D.Device.sound c.args.source.now c.args.scope.now c.args.found c.requires.names c.requires.accepted c.requires.gives c.in_err-check_signals.field-0.0
    (c.in_err-check_signals.ensures.err d (is_design g.D.Device.table g.D.Device.sound c.args.source.now c.args.scope.now c.args.found c.requires.names c.requires.accepted c.requires.gives)))

pub returns-in_err-check_chains-clause-refused : goal.returns-in_err-check_chains-clause-refused
returns-in_err-check_chains-clause-refused g c =
    let d = design_of g.D.Device.table (view_module c.args.source.now) in
    let p = err_from_is_err_and c.from_residual-in_err-check_chains.result c.from_residual-in_err-check_chains.ensures.1 in
    rw (p.1, p.2)
    (by_chains g.D.Device.table g.D.Device.sound c.args.source.now c.names-names.result.now c.args.found (ap entries_of (c.names-names.ensures ∙ c.scope.ensures) ∙ c.requires.names) c.requires.accepted c.requires.gives
    c.in_ok-net.field-0 c.as_slice.result.now c.as_slice-2.result.now c.in_ok-net.ensures.netlist c.in_ok-net.ensures.links (cc) (cc)
    (c.in_ok-check_signals.ensures.ok d (is_design g.D.Device.table g.D.Device.sound c.args.source.now c.args.scope.now c.args.found c.requires.names c.requires.accepted c.requires.gives)) c.in_ok-net.ensures.places c.in_err-check_chains.field-0.0
    (c.in_err-check_chains.ensures.err d
    (is_linked g.D.Device.table g.D.Device.sound c.args.source.now c.names-names.result.now c.args.found (ap entries_of (c.names-names.ensures ∙ c.scope.ensures) ∙ c.requires.names) c.requires.accepted c.requires.gives
    c.in_ok-net.field-0 c.as_slice.result.now c.as_slice-2.result.now c.in_ok-net.ensures.netlist c.in_ok-net.ensures.links (cc) (cc))))

pub returns : goal.returns
returns g c =
    let d = design_of g.D.Device.table (view_module c.args.source.now) in
    let is =
    answered g.D.Device.table g.D.Device.sound c.args.source.now c.names-names.result.now c.args.found (ap entries_of (c.names-names.ensures ∙ c.scope.ensures) ∙ c.requires.names) c.requires.accepted c.requires.gives
    c.in_ok-net.field-0 c.as_slice.result.now c.as_slice-2.result.now c.in_ok-net.ensures.netlist c.in_ok-net.ensures.links (cc) (cc)
    (c.in_ok-check_signals.ensures.ok d (is_design g.D.Device.table g.D.Device.sound c.args.source.now c.args.scope.now c.args.found c.requires.names c.requires.accepted c.requires.gives)) c.in_ok-net.ensures.places
    (c.in_ok-check_chains.ensures.no_loop d
    (is_linked g.D.Device.table g.D.Device.sound c.args.source.now c.names-names.result.now c.args.found (ap entries_of (c.names-names.ensures ∙ c.scope.ensures) ∙ c.requires.names) c.requires.accepted c.requires.gives
    c.in_ok-net.field-0 c.as_slice.result.now c.as_slice-2.result.now c.in_ok-net.ensures.netlist c.in_ok-net.ensures.links (cc) (cc)))
    c.in_ok-check_chains.ensures.no_path c.unrefused_is_takeable.ensures c.netlist_is_sound.ensures c.netlist_means_the_same.ensures c.in_ok-net.ensures.ids c.in_ok-net.ensures.pins c.in_ok-net.ensures.registers
    in
    record { gathered = is; refused = tt }
