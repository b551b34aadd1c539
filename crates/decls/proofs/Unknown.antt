-- Names that must all be known, as refusals.
use Rattle.std.proofs.Common.{◌≡◌, Bool, true, false, ℕ, List, [], ◌∷◌, if◌then◌else◌, refl, sym, ap, ◌∙◌, append_assoc}
use Rattle.decls.proofs.Common.{append-nil, Place, Item, Kind, is_signal, names_any, is_bad, item_names, refused_if, first_undeclared, item_refused, Progress, refuse, refuse_all, all_known}
use Rattle.decls.specs.declared.fault.NameFault.TheVariants as fault

pub known_all : (test : Kind → Bool) (p : Place) (names : List (List ℕ)) (s : Progress) → all_known test p names s ≡ refuse_all (first_undeclared test s.entries p names) s
known_all test p [] s = ap (λ fs. record s { faults = fs }) (sym (append-nil s.faults))
known_all test p (name ∷ names) s = by (names_any test s.entries name) (known_all test p names s)
  where
    by : (b : Bool) → all_known test p names s ≡ refuse_all (first_undeclared test s.entries p names) s → (if b then all_known test p names s else refuse (fault.Undeclared p name) s) ≡ refuse_all (if b then first_undeclared test s.entries p names else fault.Undeclared p name ∷ []) s
    by true e = e
    by false e = refl

pub item_known : (s : Progress) (i : Item) → all_known is_signal i.first.place (item_names i) (refuse_all (refused_if (is_bad i) (fault.BadRange i.first.place)) s) ≡ refuse_all (item_refused s.entries i) s
item_known s i =
    known_all is_signal i.first.place (item_names i) (refuse_all (refused_if (is_bad i) (fault.BadRange i.first.place)) s)
    ∙ ap (λ fs. record s { faults = fs }) (append_assoc s.faults (refused_if (is_bad i) (fault.BadRange i.first.place)) (first_undeclared is_signal s.entries i.first.place (item_names i)))
