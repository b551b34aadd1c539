-- The first pin is the top one.
use Rattle.std.proofs.Common.{◌≡◌, ℕ, ◌-◌, Bool, ◌&&◌, ◌||◌, map, refl, ap, ◌∙◌, arith}
use Rattle.std.specs.List.{list_any}
use Rattle.pld_order.specs.Members.{has}
use Rattle.abel_meaning.specs.Controls.{is_on_pin}
use Rattle.abel_tree.specs.Entries.{Entry, view_declared}
use Rattle.model_choice.specs.Wanted.{is_wanted}
use Rattle.model_choice.proofs.cells.set_of.Goals as goal

pub returns : goal.returns
returns c =
    let f : ℕ → Bool = λ pin. list_any (λ (x : Entry). is_wanted c.args.wanted x && is_on_pin pin x.kind) (map view_declared c.args.names.now) || has c.args.chosen.now pin in
    let first : c.args.top ≡ c.args.top - 0 = omega arith in
    rw (
      c.is_in_set.ensures ∙ ap f first,
      c.is_in_set-2.ensures,
      c.is_in_set-3.ensures,
      c.is_in_set-4.ensures,
      c.is_in_set-5.ensures,
      c.is_in_set-6.ensures,
      c.is_in_set-7.ensures,
      c.is_in_set-8.ensures,
    ) refl
