use Rattle.std.proofs.Common.{ℕ, ◌<◌, length, map, get_or, ap, sym, ◌∙◌, subst, All}
use Rattle.gathering.proofs.Common.{IsSignalLoop, IsFirstChain, HasNoChain}
use Rattle.gathering.proofs.Graphed.{all_below, loop_told, no_loop_told}
use Rattle.gathering.proofs.signal_loops.signal_loop.Goals as goal

pub numbers_at-requires : goal.numbers_at-requires
numbers_at-requires c =
    let found : IsFirstChain c.args.links.now c.in-Some.chain.items = rw c.in-Some.is at c.in_ok-first_loop.ensures.found in
    subst (λ xs. All (λ (v : ℕ). v < length c.args.signals.now) xs) (sym c.deref.ensures.0)
    (all_below c.in-Some.chain.items (length c.args.signals.now) (λ v there. subst (λ n. v < n) (sym c.requires.count) (found.is_loop.inside v there)))

pub returns-in-None-clause-none : goal.returns-in-None-clause-none
returns-in-None-clause-none c =
    let none : HasNoChain c.args.links.now = rw c.in-None.is at c.in_ok-first_loop.ensures.none in
    λ d cells are. no_loop_told d cells c.args.signals.now c.args.links.now c.requires.leaves are none

pub returns-in_ok-numbers_at-in-Some-clause-found : goal.returns-in_ok-numbers_at-in-Some-clause-found
returns-in_ok-numbers_at-in-Some-clause-found c =
    let found : IsFirstChain c.args.links.now c.in-Some.chain.items = rw c.in-Some.is at c.in_ok-first_loop.ensures.found in
    λ d cells are. subst (IsSignalLoop d) (sym (c.in_ok-numbers_at-in-Some.ensures ∙ ap (map (λ (v : ℕ). get_or c.args.signals.now v 0)) c.deref.ensures.0))
    (loop_told d cells c.args.signals.now c.args.links.now c.requires.leaves are c.in-Some.chain.items found)
