-- A name that is refused, one that represents something else, and one that represents signals and X.
use Rattle.std.proofs.Common.{◌≡◌, ℕ, ◌++◌, Option, None, Some, List, [], refl, ap, sym, ◌∙◌, subst}
use Rattle.truth_tables.proofs.Common.{find, none_refused, Context, term_named, Place, SectionFault, NotAnOutput, found_use, name_found, names_found, SumsUp, section_order, Names, entries_of, Aim, IsOver, AreSignals, header_name, named_outputs, outputs_at, refused_header, IsAdded, found_in}
use Rattle.set_expr.specs.declared.checked.Checked.{Checked}
use Rattle.truth_tables.proofs.HeaderLaws.{added_none, named_listed, named_other, named_refused}
use Rattle.truth_tables.proofs.RowsWalked.{no_fault}
use Rattle.truth_tables.proofs.headings.push_name.Goals as goal

over : (n : Names) (d : Context) (k : Checked) (p : Place) (w : List ℕ) → IsOver n d → SumsUp k (found_use p (name_found (names_found (entries_of n)) w)) → SumsUp k (found_use p (name_found (names_found d.names) w))
over n d k p w is s = subst (λ es. SumsUp k (found_use p (name_found (names_found es) w))) (sym is.names) s

-- a name of which nothing is refused
clear : (d : Context) (k : Checked) (p : Place) (w : List ℕ) (f : Option SectionFault) (old new : List (Option Aim)) → SumsUp k (found_use p (name_found (names_found d.names) w)) → k.fault ≡ None → IsAdded (named_outputs [] p (find d.names w) (term_named d.known w)) f old new → IsAdded (header_name d p w) f old new
clear d k p w f old new s e a =
    let rs = (found_use p (name_found (names_found d.names) w)).refusals in
    subst (λ rs. IsAdded (named_outputs rs p (find d.names w) (term_named d.known w)) f old new) (sym (none_refused section_order rs (sym e ∙ s.fault))) a

pub part_signals-requires : goal.part_signals-requires
part_signals-requires c = λ d is. record { term = term_named d.known c.args.text.now; is = c.named_part.ensures.part d is }

pub returns-then-is_some : goal.returns-then-is_some
returns-then-is_some c d is =
    let w = c.args.text.now in
    let p = c.args.place in
    named_refused _ p (find d.names w) (term_named d.known w) c.check_name-found.result.fault c.args.outputs.now.items (sym c.is_some.ensures ∙ c.if-is_some.true)
    (over c.args.scope.now d c.check_name-found.result p w is c.check_name-found.ensures).fault

pub returns-in-None : goal.returns-in-None
returns-in-None c d is =
    let w = c.args.text.now in
    let p = c.args.place in
    let t = term_named d.known w in
    let xs = c.args.outputs.now.items in
    let s = subst (AreSignals t) c.in-None.is (c.in_ok-signals.ensures d t is (c.named_part.ensures.part d is)) in
    clear d c.check_name-found.result p w _ xs xs (over c.args.scope.now d c.check_name-found.result p w is c.check_name-found.ensures) (no_fault c.check_name-found.result.fault (sym c.is_some.ensures ∙ c.if-is_some.false))
    (subst (λ x. IsAdded x (Some (NotAnOutput p c.number_of-number.result)) xs xs) (sym (named_other p (find d.names w) t s))
    (added_none (refused_header (NotAnOutput p (find d.names w))) _ xs (ap (λ n. Some (NotAnOutput p n)) (found_in w is.names c.number_of-number.ensures)) refl))

pub returns-in_ok-extend_from_slice-in-Some : goal.returns-in_ok-extend_from_slice-in-Some
returns-in_ok-extend_from_slice-in-Some c d is =
    let w = c.args.text.now in
    let p = c.args.place in
    let t = term_named d.known w in
    let old = c.args.outputs.now.items in
    let now = c.extend_from_slice.new.self.items in
    let ss = c.in-Some.signals.items in
    let s = subst (AreSignals t) c.in-Some.is (c.in_ok-signals.ensures d t is (c.named_part.ensures.part d is)) in
    clear d c.check_name-found.result p w None old now (over c.args.scope.now d c.check_name-found.result p w is c.check_name-found.ensures) (no_fault c.check_name-found.result.fault (sym c.is_some.ensures ∙ c.if-is_some.false))
    (subst (λ x. IsAdded x None old now) (sym (named_listed p (find d.names w) t ss s.0 s.1))
    (record { fault = refl; outputs = c.in_ok-extend_from_slice-in-Some.ensures.items ∙ ap (λ zs. old ++ zs) (c.deref.ensures.value ∙ c.in_ok-more-in-Some.ensures ∙ ap (outputs_at p) c.as_slice.ensures.value) }))
