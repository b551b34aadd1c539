-- A loop has a first name, which is one of the design's.
use Rattle.std.proofs.Common.{◌≡◌, ap, ℕ, ◌<◌, List, [], ◌∷◌, ◌==◌, length, get_or, refl, subst, arith}
use Rattle.design.proofs.Common.{length-map, Entry, view_declared, or_left, has, eqb_same, arena, Design, given_formulas, HasNoSignalLoop, IsSignalLoop, AreLinks, AssignedHaveCells, AllLeadNowhere, IsFirstOf}
use Rattle.design.proofs.chains.check_chains.Goals as goal

first_inside : (d : Design) (chain : List ℕ) → IsSignalLoop d chain → (now : List ℕ) → now ≡ chain → (0 < length now) × (get_or now 0 0 < length d.context.names)
first_inside d [] is now same = absurd (is.is_loop.some refl)
first_inside d (x ∷ xs) is now same = rw same (omega arith, is.is_loop.inside x (or_left (x == x) (has xs x) (eqb_same x)))

pub bounds-as_slice-0 : goal.bounds-as_slice-0
bounds-as_slice-0 c =
    let of = c.requires.linked in
    let found = rw c.in-Some.is at c.in_ok-chain.ensures.found in
    (first_inside of.0 c.in-Some.chain.items (found of.0 of.1.cells of.1.links) c.as_slice.result.now c.as_slice.ensures.value).0

pub bounds-as_slice-first : goal.bounds-as_slice-first
bounds-as_slice-first c =
    let of = c.requires.linked in
    let found = rw c.in-Some.is at c.in_ok-chain.ensures.found in
    let first = first_inside of.0 c.in-Some.chain.items (found of.0 of.1.cells of.1.links) c.as_slice.result.now c.as_slice.ensures.value in
    rw c.as_slice-in-Some.ensures (omega (arith, first.1, ap (λ (es : List Entry). length es) of.1.names, length-map c.args.names.now.list view_declared))

pub returns-in-None-2-clause-no_path : goal.returns-in-None-2-clause-no_path
returns-in-None-2-clause-no_path c =
    let none : AllLeadNowhere (arena c.args.net.now.exprs) c.args.signals.now c.args.links.now c.as_slice-in-None.result.now = rw c.in-None-2.is at c.in_ok-first_path-in-None.ensures in
    subst (AllLeadNowhere (arena c.args.net.now.exprs) c.args.signals.now c.args.links.now) c.as_slice-in-None.ensures none

pub returns-in-Some-2-clause-err : goal.returns-in-Some-2-clause-err
returns-in-Some-2-clause-err c d of =
    let ns = c.args.signals.now in
    let ls = c.args.links.now in
    let none : (d : Design) → AssignedHaveCells d.context → AreLinks d.context (given_formulas d) ns ls → HasNoSignalLoop d = rw c.in-None.is at c.in_ok-chain.ensures.none in
    let first : IsFirstOf (arena c.args.net.now.exprs) ns ls c.as_slice-in-None.result.now c.in-Some-2.field-0 = rw c.in-Some-2.is at c.in_ok-first_path-in-None.ensures in
    (none d of.cells of.links, subst (λ ws. IsFirstOf (arena c.args.net.now.exprs) ns ls ws c.in-Some-2.field-0) c.as_slice-in-None.ensures first)
