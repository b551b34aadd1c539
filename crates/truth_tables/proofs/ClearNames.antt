-- If nothing is refused of an expression or inside an entry, nothing is of what its names and members represent, so that
-- their shapes may be asked.
use Rattle.std.proofs.Common.{◌≡◌, ℕ, zero, suc, ◌<◌, Bool, true, false, Some, List, [], ◌∷◌, ◌++◌, if◌then◌else◌, take, get_or, bytes_eq, unwrap_or, refl, sym, ap, ◌∙◌, subst, arith, length, map}
use Rattle.truth_tables.proofs.Common.{slice_get-get_or, Entry, Kind, AConstant, find, range_names, Tree, ANumber, ASpecial, AName, ASet, AParen, AUnary, ABinary, SetMember, OneMember, SpanMember, Members, NoMember, MoreMembers, Place, SectionFault, MisplacedSpecial, NameFound, Found, found_use, name_found, names_found, left_empty, right_empty, too_wide, refused_inside, all_refused_inside, member_refused_inside, names_refused, holds_pulse, is_plain, Part, IsOfKind, view, view_member, members_of, Member, Vec, name_items, position-Some, all_found, found_entry, found_kind, found_constant, found_of, range_found, named, nothing_found, is_pulse, refused_there, at_name, members_refused, members_width, members_specials, members_value, large_member, NamesEarlier, AreInOrder, Value, IsUnrefused, IsClearName, AreClearNames, IsClear, AreClear, IsClearMember, IsClearPart, AreClearParts, IsClearStand, Stand}
use Rattle.set_expr.specs.Refusals.{unless_refused}
use Rattle.truth_tables.specs.declared.part.Part.TheVariants as part
use Rattle.truth_tables.specs.declared.part.Stand.TheVariants as stand
use Rattle.truth_tables.proofs.NamesKept.{kept_tree, named_at}

-- ---- if nothing is refused

unless_clear : (rs xs : List SectionFault) (v : Value) → (unless_refused rs xs v).refusals ≡ [] → rs ≡ []
unless_clear [] xs v e = refl
unless_clear (r ∷ rs) xs v e = absurd cc

use_clear : (p : Place) (n : NameFound) → (found_use p n).refusals ≡ [] → n.found.refusals ≡ []
use_clear p n e = by_pulse n.is_pulse e
  where
    by_pulse : (b : Bool) → (if b then refused_there (MisplacedSpecial p) else record n.found { specials = at_name p n.found.specials }).refusals ≡ [] → n.found.refusals ≡ []
    by_pulse true e = absurd cc
    by_pulse false e = e

range_clear : (ns : List NameFound) (p q : Place) (names : List (List ℕ)) (fs : List Found) → members_refused q (range_found ns p names fs) ≡ [] → AreClearNames ns names × (members_refused q fs ≡ [])
range_clear ns p q [] fs e = (tt, e)
range_clear ns p q (n ∷ names) fs e =
    let f = found_use p (name_found ns n) in
    let own = left_empty (f.refusals ++ large_member q f.value) (members_refused q (range_found ns p names fs)) e in
    let rest = range_clear ns p q names fs (right_empty (f.refusals ++ large_member q f.value) (members_refused q (range_found ns p names fs)) e) in
    ((use_clear p (name_found ns n) (left_empty f.refusals (large_member q f.value) own), rest.0), rest.1)

mutual
  pub found_clear : (b : Bool) (ns : List NameFound) (t : Tree) → IsUnrefused ns t → IsClear b ns t
  found_clear b ns (ANumber n) e = tt
  found_clear b ns (ASpecial letter p) e = tt
  found_clear b ns (AName word x) e = use_clear word.place (name_found ns word.text) e
  found_clear b ns (ASet p ms x) e =
      let fs = all_found ns ms in
      (λ h. e, members_clear b ns p ms (left_empty (members_refused p fs) (too_wide p (members_width fs)) (unless_clear (members_refused p fs ++ too_wide p (members_width fs)) (members_specials fs) (members_value fs) e)))
  found_clear b ns (AParen p t) e = found_clear b ns t e
  found_clear b ns (AUnary sign p t) e = e
  found_clear b ns (ABinary sign p t u) e = e

  members_clear : (b : Bool) (ns : List NameFound) (p : Place) (ms : Members) → members_refused p (all_found ns ms) ≡ [] → AreClear b ns ms
  members_clear b ns p NoMember e = tt
  members_clear b ns p (MoreMembers (OneMember t) ms) e =
      let f = found_of ns t in
      let rest = members_refused p (all_found ns ms) in (
        found_clear b ns t (left_empty f.refusals (large_member p f.value) (left_empty (f.refusals ++ large_member p f.value) rest e)),
        members_clear b ns p ms (right_empty (f.refusals ++ large_member p f.value) rest e),
      )
  members_clear b ns p (MoreMembers (SpanMember first last) ms) e =
      let r = range_clear ns first.place p (range_names first.text last.text) (all_found ns ms) e in
      (r.0, members_clear b ns p ms r.1)

operator_clear : (b : Bool) (r : SectionFault) (rs : List SectionFault) → (if b then r ∷ [] else rs) ≡ [] → rs ≡ []
operator_clear true r rs e = absurd cc
operator_clear false r rs e = e

names_clear : (ns : List NameFound) (names : List (List ℕ)) → names_refused ns names ≡ [] → AreClearNames ns names
names_clear ns [] e = tt
names_clear ns (n ∷ names) e =
    let rs = (name_found ns n).found.refusals in
    (left_empty rs (names_refused ns names) e, names_clear ns names (right_empty rs (names_refused ns names) e))

mutual
  pub inside_clear : (ns : List NameFound) (r : SectionFault) (t : Tree) → refused_inside ns r t ≡ [] → IsClear false ns t
  inside_clear ns r (ANumber n) e = tt
  inside_clear ns r (ASpecial letter p) e = tt
  inside_clear ns r (AName word x) e = e
  inside_clear ns r (ASet p ms x) e = (λ h. absurd cc, all_clear ns r ms e)
  inside_clear ns r (AParen p t) e = inside_clear ns r t e
  inside_clear ns r (AUnary sign p t) e = operator_clear (holds_pulse ns (AUnary sign p t)) r (found_of ns (AUnary sign p t)).refusals e
  inside_clear ns r (ABinary sign p t u) e = operator_clear (holds_pulse ns (ABinary sign p t u)) r (found_of ns (ABinary sign p t u)).refusals e

  all_clear : (ns : List NameFound) (r : SectionFault) (ms : Members) → all_refused_inside ns r ms ≡ [] → AreClear false ns ms
  all_clear ns r NoMember e = tt
  all_clear ns r (MoreMembers m ms) e =
      let xs = member_refused_inside ns r m in
      (member_clear ns r m (left_empty xs (all_refused_inside ns r ms) e), all_clear ns r ms (right_empty xs (all_refused_inside ns r ms) e))

  member_clear : (ns : List NameFound) (r : SectionFault) (m : SetMember) → member_refused_inside ns r m ≡ [] → IsClearMember false ns m
  member_clear ns r (OneMember t) e = inside_clear ns r t e
  member_clear ns r (SpanMember first last) e = names_clear ns (range_names first.text last.text) e

-- ---- lists

pub names_at : (ns : List NameFound) (xs : List (Vec ℕ)) (i : ℕ) (x : Vec ℕ) → i < length xs → x ≡ get_or xs i x → AreClearNames ns (map name_items xs) → IsClearName ns (name_items x)
names_at ns [] i x lt e h = absurd (omega (arith, lt))
names_at ns (y ∷ xs) zero x lt e h = subst (λ z. IsClearName ns (name_items z)) (sym e) h.0
names_at ns (y ∷ xs) (suc i) x lt e h = names_at ns xs i x (omega (arith, lt)) e h.1

pub members_at : (b : Bool) (ns : List NameFound) (ms : List Member) (i : ℕ) (x : Member) → i < length ms → x ≡ get_or ms i x → AreClear b ns (members_of (map view_member ms)) → IsClearMember b ns (view_member x)
members_at b ns [] i x lt e h = absurd (omega (arith, lt))
members_at b ns (y ∷ ms) zero x lt e h = subst (λ z. IsClearMember b ns (view_member z)) (sym e) h.0
members_at b ns (y ∷ ms) (suc i) x lt e h = members_at b ns ms i x (omega (arith, lt)) e h.1

pub clear_append : (b : Bool) (ns : List NameFound) (ps qs : List Part) → AreClearParts b ns ps → AreClearParts b ns qs → AreClearParts b ns (ps ++ qs)
clear_append b ns [] qs h k = k
clear_append b ns (p ∷ ps) qs h k = (h.0, clear_append b ns ps qs h.1 k)

-- ---- constants

pulse_clear : (b : Bool) (ns : List NameFound) (t : Tree) → is_pulse t ≡ true → IsClear b ns t
pulse_clear b ns (ASpecial letter p) e = tt
pulse_clear b ns (AParen p t) e = pulse_clear b ns t e
pulse_clear b ns _ e = absurd cc

constant_clear : (b : Bool) (ns : List NameFound) (t : Tree) (f : Found) → found_of ns t ≡ f → (found_constant (is_pulse t) f).refusals ≡ [] → IsClear b ns t
constant_clear b ns t f k e = by_pulse (is_pulse t) refl e
  where
    by_pulse : (x : Bool) → is_pulse t ≡ x → (found_constant x f).refusals ≡ [] → IsClear b ns t
    by_pulse true h e = pulse_clear b ns t h
    by_pulse false h e = found_clear b ns t (ap (λ (g : Found). g.refusals) k ∙ e)

plain_clear : (b : Bool) (ns : List NameFound) (p : Part) → is_plain p ≡ true → IsClearPart b ns p
plain_clear b ns (part.Signal s e) h = tt
plain_clear b ns (part.Number n) h = tt
plain_clear b ns (part.Special letter) h = tt
plain_clear b ns _ h = absurd cc

-- what a name represents of which nothing is refused
pub stand_clear : (b : Bool) (es : List Entry) (w : List ℕ) (k : ℕ) (y : Entry) (s : Stand) → AreInOrder es → find es w ≡ Some k → get_or es k y ≡ y → IsOfKind s y.kind → IsClearName (names_found es) w → IsClearStand b (names_found es) s
stand_clear b es w k y (stand.Part p) o h g e c = plain_clear b (names_found es) p e
stand_clear b es w k y (stand.Constant x) o h g e c =
    let t = view x.now in
    let ns = names_found (take k es) in
    let at : named (names_found es) w ≡ Some (found_entry ns y) = named_at es w k y h g in
    let n : NamesEarlier (take k es) (AConstant t) = subst (NamesEarlier (take k es)) e (o k y (slice_get-get_or es k y (position-Some (λ (e : Entry). bytes_eq w e.name) es k y h).0 ∙ ap Some g)) in
    let here : (found_kind ns (AConstant t)).refusals ≡ [] = ap (λ (q : Kind). (found_kind ns q).refusals) (sym e) ∙ ap (λ o. (unwrap_or o nothing_found).found.refusals) (sym at) ∙ c in
    constant_clear b (names_found es) t (found_of ns t) (kept_tree es k t n) here
