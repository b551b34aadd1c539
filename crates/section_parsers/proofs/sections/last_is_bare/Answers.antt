-- The last state decides.
use Rattle.std.proofs.Common.{◌≡◌, ◌-◌, Some, length, sym, ap, ◌∙◌, slice_get}
use Rattle.std.specs.Option.{option_copied}
use Rattle.section_parsers.proofs.LastState.{last_bare, none_seen}
use Rattle.section_parsers.proofs.sections.last_is_bare.Goals as goal

pub returns-in-Some : goal.returns-in-Some
returns-in-Some c =
    let at : slice_get c.args.states.now (length c.args.states.now - 1) ≡ Some c.in-Some.state.now = sym c.last.ensures.value ∙ ap option_copied c.in-Some.is in
    (rw c.as_slice.ensures at c.is_empty.ensures) ∙ none_seen c.in-Some.state.now.transitions ∙ sym (last_bare c.args.states.now c.in-Some.state.now at)
