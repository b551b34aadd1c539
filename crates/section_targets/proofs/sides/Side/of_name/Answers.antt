-- What is found of a name, and its signals.
use Rattle.std.proofs.Common.{if◌then◌else◌, refl, ap, ap₂, sym, subst, ◌∙◌, [], ◌∷◌, ◌++◌, length}
use Rattle.section_targets.proofs.Common.{find, earlier, first_refusal, first_append, targets_of, some_signals, term_named, NotAnOutput, found_use, name_found, names_found, section_order, StandFor, aims_at, is_signal_number, no_signals, names_signals, start_at, target_name}
use Rattle.set_expr.specs.KnownNames.{SumsUp}
use Rattle.section_targets.proofs.OverNames.{found_in}
use Rattle.section_targets.proofs.SignalLists.{side_named}
use Rattle.section_targets.proofs.sides.Side.of_name.Goals as goal

pub returns : goal.returns
returns c d k h =
    let w = c.args.text.now in
    let t = term_named d.known w in
    let q = start_at d c.args.begin c.args.used w in
    let x = found_use c.args.used (name_found (names_found d.names) w) in
    let n = c.in_ok-signals.ensures (length d.names) d.known (subst (λ es. StandFor (length d.names) es c.args.targets.now.named.now d.known) k h) in
    let number = found_in w k c.number_of-number.ensures in
    let place = c.start-start.ensures ∙ ap₂ (λ es o. if is_signal_number es o then c.args.begin else c.args.used) (sym k) number in
    let found = subst (λ es. SumsUp c.check_name-found.result (found_use c.args.used (name_found (names_found es) w))) (sym k) c.check_name-found.ensures in
    let mixed = c.refuse_mixed-mixed.ensures ∙ ap₂ (λ b i. first_refusal section_order (if b then [] else NotAnOutput c.start-start.result i ∷ [])) n.alone number ∙ ap (λ p. first_refusal section_order (no_signals p (find d.names w) t)) place in
    let inner = c.earlier.ensures ∙ ap₂ (earlier section_order) found.special mixed ∙ sym (first_append section_order x.specials (no_signals q (find d.names w) t)) in
    side_named (length d.names) c.in_ok-signals.signals _ (target_name d c.args.used q w) q (some_signals (targets_of t)) (names_signals t)
    (c.earlier-2.ensures ∙ ap₂ (earlier section_order) found.fault inner ∙ sym (first_append section_order x.refusals (x.specials ++ no_signals q (find d.names w) t)))
    refl n (c.from_vec.ensures ∙ c.in_ok-aims.ensures ∙ ap₂ aims_at place c.as_slice.ensures)
