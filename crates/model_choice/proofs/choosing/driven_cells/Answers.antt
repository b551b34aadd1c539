-- Of the free cells those in the middle come first, for the signals that nothing reads.
use Rattle.std.proofs.Common.{◌≤◌, ℕ, List, ◌&&◌, filter, get_or, length, map, not, take, sym, ap, ap₂, subst, ◌∙◌}
use Rattle.std.proofs.Math.Nat.{min-le_left}
use Rattle.std.proofs.lemmas.List.{length-take}
use Rattle.std.specs.List.{range_with_len}
use Rattle.pld_base.specs.Models.{middle_pins}
use Rattle.pld_order.specs.Members.{has}
use Rattle.abel_meaning.specs.Declarations.{is_unnumbered}
use Rattle.abel_meaning.specs.Designs.{no_name}
use Rattle.abel_meaning.specs.Models.{chosen_cells, free_middle, outputs, set_of}
use Rattle.abel_meaning.specs.Reads.{is_read}
use Rattle.abel_tree.specs.Entries.{Entry, view_declared}
use Rattle.abel_tree.specs.View.{view_module}
use Rattle.model_choice.proofs.choosing.driven_cells.Goals as goal

at_most : (n : ℕ) (xs : List ℕ) → length (take n xs) ≤ n
at_most n xs = subst (λ k. k ≤ n) (sym (length-take n xs)) (min-le_left n (length xs))

pub unread-requires : goal.unread-requires
unread-requires c =
    let es = map view_declared c.args.names.now in
    let whole = filter (λ s. (get_or es s no_name).assigned && is_unnumbered (get_or es s no_name).kind) (range_with_len 0 (length es)) in
    subst (λ (xs : List ℕ). length xs ≤ 8) (sym (c.as_slice.ensures.value ∙ c.in_ok-signals.ensures)) (at_most 8 whole)

pub returns : goal.returns
returns c =
    let top = c.args.top in
    let es = map view_declared c.args.names.now in
    let sections = (view_module c.args.source.now).sections in
    let signals = c.in_ok-signals.ensures in
    let unread = c.in_ok-unread.ensures ∙ ap (filter (λ s. not (is_read es sections s))) (c.as_slice.ensures.value ∙ signals) in
    let free = c.in_ok-free.ensures in
    let middle = c.in_ok-middle.ensures ∙ ap (filter (has (middle_pins top))) (c.as_slice-2.ensures.value ∙ free) in
    let others = c.in_ok-others.ensures ∙ ap (filter (λ pin. not (has (middle_pins top) pin))) (c.as_slice-3.ensures.value ∙ free) in
    let first = c.truncate.ensures.items ∙ ap₂ take (c.len.ensures ∙ c.in_ok-unread.unread.ok.0 ∙ ap length unread) middle in
    let chosen =
    c.in_ok-chosen.ensures
    ∙ (ap (λ xs. chosen_cells xs c.in_ok-others.others.items c.len-2.result) first
    ∙ ap₂ (λ xs count. chosen_cells (take (length (filter (λ s. not (is_read es sections s)) (outputs es))) (free_middle top es)) xs count) others (c.len-2.ensures ∙ c.in_ok-signals.signals.ok.0 ∙ ap length signals)) in
    c.set_of.ensures ∙ ap (set_of top (λ (x : Entry). x.assigned) es) (c.as_slice-4.ensures.value ∙ chosen)
