-- Names that must all be known.
use Rattle.std.proofs.Common.{◌≡◌, ℕ, ◌+◌, ◌<◌, Bool, true, false, List, map, drop, length, get_or, Some, None, if◌then◌else◌, refl, sym, ap, ◌∙◌}
use Rattle.decls.proofs.Common.{at_drop_more, Vec, Place, Word, Kind, is_value, names_any, ends_agree, names_between, name_items, names_if_agree, Progress, refuse, all_known, range_used}
use Rattle.decls.specs.declared.fault.NameFault.TheVariants as fault

abbrev pub known_from : (Kind → Bool) → Place → List (Vec ℕ) → Progress → Progress
known_from test p names s = all_known test p (map name_items names) s

known_next : (test : Kind → Bool) (p : Place) (names : List (Vec ℕ)) (s : Progress) (k : ℕ) (n : Vec ℕ) → k < length names → n ≡ get_or names k n
    → known_from test p (drop k names) s ≡ (if names_any test s.entries n.items then known_from test p (drop (k + 1) names) s else refuse (fault.Undeclared p n.items) s)
known_next test p names s k n h e =
    at_drop_more (λ l. known_from test p l s) names k n h
    ∙ ap (λ (y : Vec ℕ). if names_any test s.entries y.items then known_from test p (drop (k + 1) names) s else refuse (fault.Undeclared p y.items) s) (sym e)

pub known_more : (test : Kind → Bool) (p : Place) (names : List (Vec ℕ)) (s : Progress) (k : ℕ) (n : Vec ℕ) → k < length names → n ≡ get_or names k n → names_any test s.entries n.items ≡ true
    → known_from test p (drop k names) s ≡ known_from test p (drop (k + 1) names) s
known_more test p names s k n h e b = known_next test p names s k n h e ∙ ap (λ c. if c then known_from test p (drop (k + 1) names) s else refuse (fault.Undeclared p n.items) s) b

pub unknown_here : (test : Kind → Bool) (p : Place) (names : List (Vec ℕ)) (s : Progress) (k : ℕ) (n : Vec ℕ) (text : List ℕ) → k < length names → n ≡ get_or names k n → names_any test s.entries n.items ≡ false → text ≡ n.items
    → known_from test p (drop k names) s ≡ refuse (fault.Undeclared p text) s
unknown_here test p names s k n text h e b f =
    known_next test p names s k n h e ∙ (ap (λ c. if c then known_from test p (drop (k + 1) names) s else refuse (fault.Undeclared p n.items) s) b ∙ ap (λ u. refuse (fault.Undeclared p u) s) (sym f))

-- ---- a range

range_by : (b : Bool) (first last : Word) (s : Progress) (xs : List (List ℕ)) → Some xs ≡ (if b then Some (names_between first.text last.text) else None) → all_known is_value first.place xs s ≡ range_used b first last s
range_by true first last s xs e = let same : xs ≡ names_between first.text last.text = cc in ap (λ l. all_known is_value first.place l s) same
range_by false first last s xs e = absurd cc

pub range_known : (first last : Word) (s : Progress) (xs : List (List ℕ)) → Some xs ≡ names_if_agree first.text last.text → all_known is_value first.place xs s ≡ range_used (ends_agree first.text last.text) first last s
range_known first last s xs e = range_by (ends_agree first.text last.text) first last s xs e

bad_by : (b : Bool) (first last : Word) (s : Progress) → None ≡ (if b then Some (names_between first.text last.text) else None) → refuse (fault.BadRange first.place) s ≡ range_used b first last s
bad_by true first last s e = absurd cc
bad_by false first last s e = refl

pub range_bad : (first last : Word) (s : Progress) → None ≡ names_if_agree first.text last.text → refuse (fault.BadRange first.place) s ≡ range_used (ends_agree first.text last.text) first last s
range_bad first last s e = bad_by (ends_agree first.text last.text) first last s e
