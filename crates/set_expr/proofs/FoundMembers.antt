-- What is found of a set's members, one more at a time.
use Rattle.std.proofs.Common.{◌≡◌, ℕ, ◌+◌, ◌<◌, ◌≤◌, List, [], ◌∷◌, ◌++◌, map, take, length, get_or, refl, sym, ap, ◌∙◌, append_assoc, rules, Option}
use Rattle.set_expr.proofs.Common.{length-map, length-take-le, take_more, take_all, map-append, Expr, the_lemmas, Member, view, view_member, Place, range_names, SetMember, OneMember, SpanMember, members_of, NameFound, all_found, found_before, found_of, found_use, name_found, range_found, Found, found_set}
use Rattle.abel_tree.specs.declared.expressions.Expr as expr
use Rattle.abel_tree.specs.declared.expressions.Member as member
use Rattle.abel_tree.specs.declared.words.Extension.{Extension}
use Rattle.abel_tree.specs.declared.words.Word.{Word}

range_before : (ns : List NameFound) (p : Place) (names : List (List ℕ)) (fs : List Found) → range_found ns p names fs ≡ range_found ns p names [] ++ fs
range_before ns p [] fs = refl
range_before ns p (n ∷ names) fs = ap (λ gs. found_use p (name_found ns n) ∷ gs) (range_before ns p names fs)

member_first : (ns : List NameFound) (m : SetMember) (fs : List Found) → found_before ns m fs ≡ found_before ns m [] ++ fs
member_first ns (OneMember t) fs = refl
member_first ns (SpanMember first last) fs = range_before ns first.place (range_names first.text last.text) fs

-- one member more
pub members_more : (ns : List NameFound) (ms : List SetMember) (m : SetMember) → all_found ns (members_of (ms ++ m ∷ [])) ≡ all_found ns (members_of ms) ++ found_before ns m []
members_more ns [] m = refl
members_more ns (x ∷ ms) m =
    ap (found_before ns x) (members_more ns ms m)
    ∙ (member_first ns x (all_found ns (members_of ms) ++ found_before ns m [])
    ∙ (sym (append_assoc (found_before ns x []) (all_found ns (members_of ms)) (found_before ns m []))
    ∙ ap (λ gs. gs ++ found_before ns m []) (sym (member_first ns x (all_found ns (members_of ms))))))

-- one name of a range more
pub range_more : (ns : List NameFound) (p : Place) (names : List (List ℕ)) (n : List ℕ) → range_found ns p (names ++ n ∷ []) [] ≡ range_found ns p names [] ++ found_use p (name_found ns n) ∷ []
range_more ns p [] n = refl
range_more ns p (x ∷ names) n = ap (λ gs. found_use p (name_found ns x) ∷ gs) (range_more ns p names n)

-- the front of a list with one element more, the whole list, and how long a front is
pub front_more : {A B : Type 0} (f : A → B) (xs : List A) (k : ℕ) (x : A) → k < length xs → x ≡ get_or xs k x → map f (take (k + 1) xs) ≡ map f (take k xs) ++ f x ∷ []
front_more f xs k x h i = ap (map f) (take_more xs k x h ∙ ap (λ y. take k xs ++ y ∷ []) (sym i)) ∙ map-append f (take k xs) (x ∷ [])

pub whole_front : {A B : Type 0} (f : A → B) (xs : List A) (k : ℕ) → length xs ≤ k → map f (take k xs) ≡ map f xs
whole_front f xs k h = ap (map f) (take_all k xs h)

pub front_long : {A B : Type 0} (f : A → B) (xs : List A) (k : ℕ) → k ≤ length xs → length (map f (take k xs)) ≡ k
front_long f xs k h = length-map (take k xs) f ∙ length-take-le k xs h

-- what is found of a set
pub view_set : (p : Place) (ms : List Member) (e : Option Extension) (ns : List NameFound) → found_of ns (view (expr.Set p ms e)) ≡ found_set p (all_found ns (members_of (map view_member ms)))
view_set p ms e ns = search (rules, the_lemmas)

-- and of a range
pub view_span : (first last : Word) (ns : List NameFound) → found_before ns (view_member (member.Span first last)) [] ≡ range_found ns first.place (range_names first.text last.text) []
view_span first last ns = search (rules, the_lemmas)
