-- An expression, one name more, and all names.
use Rattle.std.proofs.Common.{◌≡◌, ◌+◌, ◌++◌, [], ◌∷◌, map, take, sym, ap, ap₂, ◌∙◌, subst, subst₂}
use Rattle.truth_tables.proofs.Common.{range_names, view_member, NoTerm, extended_if, member_before, named_before, term_named, name_items, front_more, whole_front, list_of, each_extended, AreParts, IsPart, view_one, view_span, range_more, each_append, entries_of, names_found, AreClearNames, AreClearParts, IsClearMember, IsClearName}
use Rattle.truth_tables.proofs.ClearNames.{clear_append, names_at}
use Rattle.truth_tables.proofs.StackLaws.{each_append as parts_append}
use Rattle.truth_tables.proofs.parts.member_parts.Goals as goal

pub returns-in_ok-push-in-One-clause-parts : goal.returns-in_ok-push-in-One-clause-parts
returns-in_ok-push-in-One-clause-parts c d is =
    subst (λ ps. AreParts d ps (each_extended c.args.outer (list_of (member_before d.known (view_member c.args.member.now) NoTerm)))) (sym (c.in_ok-push-in-One.ensures.items ∙ ap (λ xs. xs ++ c.part_of.result ∷ []) c.new-parts.ensures.items))
    (subst (λ m. AreParts d (c.part_of.result ∷ []) (each_extended c.args.outer (list_of (member_before d.known m NoTerm)))) (sym (ap view_member c.in-One.is ∙ view_one c.in-One.expr))
    (c.part_of.ensures.part d is, tt))

pub loop-name-init : goal.loop-name-init
loop-name-init c =
    record {
      parts = λ d is. subst (λ ps. AreParts d ps []) (sym c.new-parts.ensures.items) tt;
      clear = λ b h. subst (AreClearParts b (names_found (entries_of c.args.scope.now))) (sym c.new-parts.ensures.items) tt;
    }

pub loop-name-preserved : goal.loop-name-preserved
loop-name-preserved c =
    let items = c.deref-name-items.result.now in
    let i = c.loop-name.name-index in
    let n = name_items c.name-item.result in
    let ns = names_found (entries_of c.args.scope.now) in
    record {
      parts = λ d is.
          let before = map name_items (take i items) in
          let o = c.args.outer in
          let here : map name_items (take (i + 1) items) ≡ before ++ n ∷ [] = front_more name_items items i c.name-item.result c.loop-name-test.true c.name-item.is in
          let all = list_of (named_before d.known before NoTerm) in
          let one = subst (λ w. IsPart d c.named_part.result (extended_if o (term_named d.known w))) c.as_slice.ensures.value (c.named_part.ensures.part d is) in
          subst₂ (AreParts d) (sym c.in_ok-push-in-Span.ensures.items)
          (sym (ap (λ names. each_extended o (list_of (named_before d.known names NoTerm))) here ∙ ap (each_extended o) (range_more d.known before n) ∙ each_append o all (term_named d.known n ∷ [])))
          (parts_append (IsPart d) c.loop-name.parts.items (c.named_part.result ∷ []) (each_extended o all) (extended_if o (term_named d.known n) ∷ []) (c.loop-name.invariant.parts d is) (one, tt));
      clear = λ b h.
          subst (AreClearParts b ns) (sym c.in_ok-push-in-Span.ensures.items)
          (clear_append b ns c.loop-name.parts.items (c.named_part.result ∷ []) (c.loop-name.invariant.clear b h)
          (c.named_part.ensures.clear b (subst (IsClearName ns) (sym c.as_slice.ensures.value) (names_at ns items i c.name-item.result c.loop-name-test.true c.name-item.is h)), tt));
    }

pub returns-in_ok-push-in-One-clause-clear : goal.returns-in_ok-push-in-One-clause-clear
returns-in_ok-push-in-One-clause-clear c b h =
    let ns = names_found (entries_of c.args.scope.now) in
    subst (AreClearParts b ns) (sym (c.in_ok-push-in-One.ensures.items ∙ ap (λ xs. xs ++ c.part_of.result ∷ []) c.new-parts.ensures.items))
    (c.part_of.ensures.clear b (subst (IsClearMember b ns) (ap view_member c.in-One.is ∙ view_one c.in-One.expr) h), tt)

pub returns-after-loop-name-clause-clear : goal.returns-after-loop-name-clause-clear
returns-after-loop-name-clause-clear c b h =
    let ns = names_found (entries_of c.args.scope.now) in
    let all = ap (map name_items) c.deref-name-items.ensures.value ∙ (c.in_ok-names-in-Span.ensures ∙ ap₂ range_names c.bytes.ensures c.bytes-in-Span.ensures) in
    c.loop-name.invariant.clear b (subst (AreClearNames ns) (sym all) (subst (IsClearMember b ns) (ap view_member c.in-Span.is ∙ view_span c.in-Span.first c.in-Span.last) h))

pub returns-after-loop-name-clause-parts : goal.returns-after-loop-name-clause-parts
returns-after-loop-name-clause-parts c d is =
    let ps = c.loop-name.parts.items in
    let all : map name_items (take c.loop-name.name-index c.deref-name-items.result.now) ≡ range_names c.in-Span.first.text c.in-Span.last.text =
    whole_front name_items c.deref-name-items.result.now c.loop-name.name-index c.loop-name-test.false
    ∙ (ap (map name_items) c.deref-name-items.ensures.value ∙ (c.in_ok-names-in-Span.ensures ∙ ap₂ range_names c.bytes.ensures c.bytes-in-Span.ensures)) in
    subst (λ m. AreParts d ps (each_extended c.args.outer (list_of (member_before d.known m NoTerm)))) (sym (ap view_member c.in-Span.is ∙ view_span c.in-Span.first c.in-Span.last))
    (subst (λ names. AreParts d ps (each_extended c.args.outer (list_of (named_before d.known names NoTerm)))) all (c.loop-name.invariant.parts d is))
