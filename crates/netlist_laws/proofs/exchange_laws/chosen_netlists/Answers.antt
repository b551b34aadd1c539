use Rattle.netlist_laws.proofs.FreeCells as cells
use Rattle.netlist_laws.proofs.SameChoices as choices
use Rattle.netlist_laws.proofs.exchange_laws.chosen_netlists.Goals as goal

pub returns-clause-free : goal.returns-clause-free
returns-clause-free c t net x sound of_free = cells.free_may_exchange t net x sound of_free

pub returns-clause-shown : goal.returns-clause-shown
returns-clause-shown c t net fuses sound = cells.shown_is_sound t net fuses sound

pub returns-clause-same : goal.returns-clause-same
returns-clause-same c x y m same = choices.same_choices x y m same

pub returns-clause-values : goal.returns-clause-values
returns-clause-values c x y m values same = choices.same_choice_values x y m values same
