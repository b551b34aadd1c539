-- What is put after the cells in the middle is cut to so many.
use Rattle.std.proofs.Common.{◌-◌, ◌++◌, take, ap, ◌∙◌}
use Rattle.model_choice.proofs.choosing.chosen_cells.Goals as goal

pub returns : goal.returns
returns c =
    c.in_ok-extend_from_slice.ensures.items
    ∙ ap (λ xs. c.args.middle.items ++ xs) (c.as_slice.ensures.value ∙ (c.truncate.ensures.items ∙ ap (λ n. take n c.args.others.items) (c.saturating_sub.ensures ∙ ap (λ n. c.args.count - n) (c.len.ensures ∙ c.args.middle.ok.0))))
