-- One character more, and all of them.
use Rattle.std.proofs.Common.{◌≡◌, ◌<◌, ◌≤◌, ◌++◌, List, ℕ, get_or, length, map, drop, arith, sym, ap₂, ◌∙◌}
use Rattle.std.proofs.lemmas.List.{append-nil, drop_all, get_or_default, take_all}
use Rattle.std.proofs.lemmas.List.Edits.{map_over_more}
use Rattle.page_model.specs.Phases.{phase_char}
use Rattle.page_model.proofs.phases.turn_chars.Goals as goal

pub loop-place-preserved : goal.loop-place-preserved
loop-place-preserved c =
    let l = c.loop-place in
    let f = phase_char c.args.turned in
    let xs = c.args.chars.now in
    let low : l.place < length xs = omega (arith, c.loop-place-test.true) in
    let within : l.place < length l.chars = omega (arith, low, l.auto.chars) in
    rw c.phase_char.ensures
    (map_over_more f xs l.chars l.place (get_or l.chars l.place 0) low l.invariant (get_or_default l.chars l.place 0 (get_or l.chars l.place 0) within))

pub returns : goal.returns
returns c =
    let l = c.loop-place in
    let f = phase_char c.args.turned in
    let xs = c.args.chars.now in
    let past : length xs ≤ l.place = omega (arith, c.loop-place-test.false) in
    l.invariant
    ∙ (ap₂ (λ (front behind : List ℕ). map f front ++ behind) (take_all l.place xs past) (drop_all l.place xs past) ∙ append-nil (map f xs))
