use Rattle.std.proofs.Common.{sym, ap, ◌∙◌, is_some}
use Rattle.fitter.proofs.Common.{option_map, true≢false, arena, plain_wanted}
use Rattle.fitter.proofs.WantedIds.{zero_is, zero_sound}
use Rattle.fitter.proofs.Alike.{first_of, none_shared, zero_list}
use Rattle.fitter.proofs.FirstNames.{has_first}
use Rattle.fitter.proofs.sharing.shared_bit.Goals as goal

pub returns-in_default : goal.returns-in_default
returns-in_default g c =
    none_shared g.D.Device.table c.args.fit.now.over.net.now c.args.which (c.first_with.ensures.first ∙ ap (option_map (plain_wanted (arena c.args.fit.now.over.net.now.exprs))) c.in_default.is)
    (zero_sound g.D.Device.table c.args.fit.now.over.net.now) (zero_is c.args.fit.now.over.net.now) (zero_list c.args.fit.now.over.net.now)

pub same_for_all-requires-clause-first : goal.same_for_all-requires-clause-first
same_for_all-requires-clause-first g c =
    first_of g.D.Device.table c.args.fit.now.over.net.now c.requires.sound c.args.which c.in-Some.first c.in-Some-own_control.control c.requires.listed c.in-Some.ensures.first c.in-Some.ensures.among
    (sym c.own_control.ensures ∙ c.in-Some-own_control.is)

pub unreachable-requires : goal.unreachable-requires
unreachable-requires g c =
    true≢false (sym (has_first (arena c.args.fit.now.over.net.now.exprs) c.args.which c.args.fit.now.over.net.now.cells c.in-Some.first c.in-Some.ensures.first) ∙ ap is_some (sym c.own_control.ensures ∙ c.in-None.is))
