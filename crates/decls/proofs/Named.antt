-- If no use is refused, each name that is used is known.
use Rattle.std.proofs.Common.{◌≡◌, ℕ, Bool, true, false, ◌&&◌, if◌then◌else◌, List, [], ◌∷◌, ◌++◌, refl, ap₂, ◌∙◌}
use Rattle.decls.proofs.Common.{list_all, list_all-append, Place, Kind, Entry, is_value, names_any, ends_agree, names_between, is_named, are_named, Use, OneName, Range, first_undeclared, use_refused, uses_refused}
use Rattle.decls.specs.declared.fault.NameFault.TheVariants as fault
use Rattle.decls.proofs.NoRefusals.{none_left, none_right}

pub names_known : (test : Kind → Bool) (es : List Entry) (p : Place) (names : List (List ℕ)) → first_undeclared test es p names ≡ [] → list_all (names_any test es) names ≡ true
names_known test es p [] h = refl
names_known test es p (name ∷ names) h = by (names_any test es name) h (names_known test es p names)
  where
    by : (b : Bool) → (if b then first_undeclared test es p names else fault.Undeclared p name ∷ []) ≡ [] → (first_undeclared test es p names ≡ [] → list_all (names_any test es) names ≡ true) → (b && list_all (names_any test es) names) ≡ true
    by true g f = f g
    by false g f = absurd cc

use_known : (es : List Entry) (u : Use) → use_refused es u ≡ [] → is_named es u ≡ true
use_known es (OneName word) h = names_known is_value es word.place (word.text ∷ []) h
use_known es (Range first last) h = by (ends_agree first.text last.text) h
  where
    by : (b : Bool) → (if b then first_undeclared is_value es first.place (names_between first.text last.text) else fault.BadRange first.place ∷ []) ≡ [] → list_all (names_any is_value es) (if b then names_between first.text last.text else []) ≡ true
    by true g = names_known is_value es first.place (names_between first.text last.text) g
    by false g = refl

pub uses_known : (es : List Entry) (us : List Use) → uses_refused es us ≡ [] → are_named es us ≡ true
uses_known es [] h = refl
uses_known es (u ∷ us) h =
    ap₂ (λ a b. a && b) (use_known es u (none_left (use_refused es u) _ h)) (uses_known es us (none_right (use_refused es u) _ h))

pub named_append : (es : List Entry) (us vs : List Use) → are_named es us ≡ true → are_named es vs ≡ true → are_named es (us ++ vs) ≡ true
named_append es us vs g h = list_all-append (is_named es) us vs ∙ ap₂ (λ a b. a && b) g h
