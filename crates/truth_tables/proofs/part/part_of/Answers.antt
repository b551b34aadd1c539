-- Names, sets, specials and operators, under the extension that counts.
use Rattle.std.proofs.Common.{refl, ◌≡◌, ℕ, Option, List, map, sym, ap, ap₂, ◌∙◌, subst}
use Rattle.truth_tables.proofs.Common.{Expr, Member, Extension, members_of, view, view_member, Known, Term, Set, term_of, terms_of, term_named, extended_if, IsPart, view_name, view_set, view_binary, innermost_wins, entries_of, names_found, IsClear, IsClearName, IsUnrefused, AreClear, view_unary, Word}
use Rattle.abel_tree.specs.declared.expressions.Expr as expr
use Rattle.abel_tree.specs.Extensions.{innermost}
use Rattle.truth_tables.proofs.part.part_of.Goals as goal

named : (ks : List Known) (x : Expr) (word : Word) (own before now : Option Extension) (text : List ℕ) → x ≡ expr.Name word own → now ≡ innermost own before → text ≡ word.text → extended_if before (term_of ks (view x)) ≡ extended_if now (term_named ks text)
named ks x word own before now text e i t =
    ap (λ x. extended_if before (term_of ks (view x))) e
    ∙ ap (λ y. extended_if before (term_of ks y)) (view_name word own)
    ∙ sym (innermost_wins own before (term_named ks word.text))
    ∙ ap₂ (λ o w. extended_if o (term_named ks w)) (sym i) (sym t)

pub loop-at-init : goal.loop-at-init
loop-at-init c = record { same = λ d is. refl; clear = λ b h. h }

pub loop-at-preserved-in-Constant : goal.loop-at-preserved-in-Constant
loop-at-preserved-in-Constant c =
    let ns = names_found (entries_of c.args.scope.now) in
    record {
      same = λ d is.
          c.loop-at.invariant.same d is
          ∙ named d.known c.loop-at.at.now c.in-Name.word c.in-Name.own c.loop-at.extension c.innermost-extension.result c.bytes.result.now c.in-Name.is c.innermost-extension.ensures c.bytes.ensures
          ∙ c.in-Constant.ensures.stand d is;
      clear = λ b h. c.in-Constant.ensures.clear b
          (subst (IsClearName ns) (sym c.bytes.ensures) (subst (IsClear b ns) (ap view c.in-Name.is ∙ view_name c.in-Name.word c.in-Name.own) (c.loop-at.invariant.clear b h)));
    }

pub returns-in-Part-clause-clear : goal.returns-in-Part-clause-clear
returns-in-Part-clause-clear c b h =
    let ns = names_found (entries_of c.args.scope.now) in
    c.in-Part.ensures.clear b
    (subst (IsClearName ns) (sym c.bytes.ensures) (subst (IsClear b ns) (ap view c.in-Name.is ∙ view_name c.in-Name.word c.in-Name.own) (c.loop-at.invariant.clear b h)))

pub returns-in-Set-clause-clear : goal.returns-in-Set-clause-clear
returns-in-Set-clause-clear c b h =
    let ns = names_found (entries_of c.args.scope.now) in
    let here = ap view c.in-Set.is ∙ view_set c.in-Set.place c.in-Set.members c.in-Set.own in
    let k = subst (IsClear b ns) here (c.loop-at.invariant.clear b h) in (
      λ q. subst (IsUnrefused ns) (sym here) (k.0 q),
      subst (λ ms. AreClear b ns (members_of (map view_member ms))) (sym c.as_slice.ensures) k.1,
    )

pub returns-in-Unary-clause-clear : goal.returns-in-Unary-clause-clear
returns-in-Unary-clause-clear c b h =
    let ns = names_found (entries_of c.args.scope.now) in
    let here = ap view c.in-Unary.is ∙ view_unary _ _ _ in
    subst (IsUnrefused ns) (sym here) (subst (IsClear b ns) here (c.loop-at.invariant.clear b h))

pub returns-in-Binary-clause-clear : goal.returns-in-Binary-clause-clear
returns-in-Binary-clause-clear c b h =
    let ns = names_found (entries_of c.args.scope.now) in
    let here = ap view c.in-Binary.is ∙ view_binary _ _ _ _ in
    subst (IsUnrefused ns) (sym here) (subst (IsClear b ns) here (c.loop-at.invariant.clear b h))

pub returns-in-Part-clause-part : goal.returns-in-Part-clause-part
returns-in-Part-clause-part c d is =
    subst (IsPart d c.in-Part.part)
    (sym (c.loop-at.invariant.same d is
    ∙ named d.known c.loop-at.at.now c.in-Name.word c.in-Name.own c.loop-at.extension c.innermost-extension.result c.bytes.result.now c.in-Name.is c.innermost-extension.ensures c.bytes.ensures))
    (c.in-Part.ensures.stand d is).0

pub returns-in-Set-clause-part : goal.returns-in-Set-clause-part
returns-in-Set-clause-part c d is =
    let own = c.in-Set.own in
    let before = c.loop-at.extension in
    let set : List Member → Term = λ ms. Set (terms_of d.known (members_of (map view_member ms))) in
    let here = ap view c.in-Set.is ∙ view_set c.in-Set.place c.in-Set.members own in
    record {
      extension = own;
      whole = ap (term_of d.known) here ∙ ap (λ ms. extended_if own (set ms)) (sym c.as_slice.ensures);
      is = c.loop-at.invariant.same d is
          ∙ ap (λ y. extended_if before (term_of d.known y)) here
          ∙ sym (innermost_wins own before (set c.in-Set.members))
          ∙ ap₂ (λ o ms. extended_if o (set ms)) (sym c.innermost-extension-in-Set.ensures) (sym c.as_slice.ensures);
    }
