use Rattle.std.proofs.Common.{ℕ, ◌<◌, length, map, get_or, ap, sym, ◌∙◌, subst, All}
use Rattle.gathering.proofs.Common.{IsSignalPath, IsRegisterPath, HasNoRegisterPath}
use Rattle.gathering.proofs.Graphed.{all_below, path_told, no_path_told}
use Rattle.gathering.proofs.signal_loops.reset_path.Goals as goal

pub numbers_at-requires : goal.numbers_at-requires
numbers_at-requires c =
    let found : IsRegisterPath c.args.links.now c.args.reset.now c.in-Some.path.items = rw c.in-Some.is at c.in_ok-path_to_register.ensures.found in
    subst (λ xs. All (λ (v : ℕ). v < length c.args.signals.now) xs) (sym c.deref.ensures.0)
    (all_below c.in-Some.path.items (length c.args.signals.now) (λ v there. subst (λ n. v < n) (sym c.requires.count) (found.inside v there)))

pub returns-in-None-clause-none : goal.returns-in-None-clause-none
returns-in-None-clause-none c =
    let none : HasNoRegisterPath c.args.links.now c.args.reset.now = rw c.in-None.is at c.in_ok-path_to_register.ensures.none in
    λ d s cells are reads. no_path_told d cells c.args.signals.now c.args.links.now c.requires.leaves are s c.args.reset.now reads none

pub returns-in_ok-numbers_at-in-Some-clause-found : goal.returns-in_ok-numbers_at-in-Some-clause-found
returns-in_ok-numbers_at-in-Some-clause-found c =
    let found : IsRegisterPath c.args.links.now c.args.reset.now c.in-Some.path.items = rw c.in-Some.is at c.in_ok-path_to_register.ensures.found in
    λ d s cells are reads. subst (IsSignalPath d s) (sym (c.in_ok-numbers_at-in-Some.ensures ∙ ap (map (λ (v : ℕ). get_or c.args.signals.now v 0)) c.deref.ensures.0))
    (path_told d cells c.args.signals.now c.args.links.now c.requires.leaves are s c.args.reset.now reads c.in-Some.path.items found)
