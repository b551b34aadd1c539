-- What a part is, one by one.
use Rattle.std.proofs.Common.{◌≡◌, None, Some, ◌++◌, sym, ap, ◌∙◌, subst, map}
use Rattle.truth_tables.proofs.Common.{members_of, view_member, special_term, targets_of, terms_of, names_positions, IsPart}
use Rattle.abel_meaning.specs.Terms as term
use Rattle.truth_tables.proofs.RowsWalked.{no_fault}
use Rattle.truth_tables.proofs.SignalLaws.{other_unnamed, put_one, put_set}
use Rattle.truth_tables.proofs.parts.put_part.Goals as goal

pub returns-in_ok-push-in-Signal : goal.returns-in_ok-push-in-Signal
returns-in_ok-push-in-Signal c d t is x =
    let s = c.in-Signal.signal in
    let r : t ≡ term.Read s None = subst (λ z. IsPart d z t) c.in-Signal.is x ∙ ap (term.Read s) (no_fault c.in-Signal.extension (sym c.is_some.ensures ∙ c.if-is_some.false)) in
    put_one d t (Some s) c.args.stack.now.items c.args.signals.now.items c.push.new.self.items (ap names_positions r) (ap targets_of r) c.in_ok-push-in-Signal.ensures.items

pub returns-in_ok-push-in-Special : goal.returns-in_ok-push-in-Special
returns-in_ok-push-in-Special c d t is x =
    let r : t ≡ term.X = subst (λ z. IsPart d z t) c.in-Special.is x ∙ ap special_term c.if-letter-ne88.false in
    put_one d t None c.args.stack.now.items c.args.signals.now.items c.push-in-Special.new.self.items (ap names_positions r) (ap targets_of r) c.in_ok-push-in-Special.ensures.items

pub returns-then-letter-ne88 : goal.returns-then-letter-ne88
returns-then-letter-ne88 c d t is x = ap names_positions (subst (λ z. IsPart d z t) c.in-Special.is x) ∙ other_unnamed c.in-Special.letter c.if-letter-ne88.true

pub returns-in_ok-extend_from_slice-in-Set : goal.returns-in_ok-extend_from_slice-in-Set
returns-in_ok-extend_from_slice-in-Set c d t is x =
    let ts = terms_of d.known (members_of (map view_member c.in-Set.members.now)) in
    put_set d t c.in-Set.outer ts c.in_ok-parts-in-Set.parts.items c.args.stack.now.items c.extend_from_slice.new.self.items c.args.signals.now.items
    (subst (λ z. IsPart d z t) c.in-Set.is x).is (c.in_ok-parts-in-Set.ensures.parts d is)
    (c.in_ok-extend_from_slice-in-Set.ensures.items ∙ ap (λ ps. c.args.stack.now.items ++ ps) c.as_slice.ensures.value)
