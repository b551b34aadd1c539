-- What is refused of an entry, by what is inside and by whether it meets its header.
use Rattle.std.proofs.Common.{◌≡◌, Bool, true, false, Option, Some, List, [], ◌∷◌, refl, sym, ap, ap₂, ◌∙◌, subst, ℕ, ◌+◌, ◌<◌, ◌||◌, ◌++◌, length, map, drop, get_or, rules}
use Rattle.truth_tables.proofs.Common.{Names, entries_of, first_refusal, Tree, Context, SectionFault, names_found, section_order, IsOver, refused_inside, unless_met, list_any, Vec, Place, the_lemmas, Member, Extension, members_of, view, view_member, name_items, NameFound, holds_pulse, any_holds_pulse, all_refused_inside, earlier, first_append, earlier_assoc, next_of}
use Rattle.abel_tree.specs.declared.expressions.Expr as expr

pub inside_first : (rs : List SectionFault) (r f : SectionFault) (b : Bool) → Some f ≡ first_refusal section_order rs → first_refusal section_order (unless_met rs r b) ≡ Some f
inside_first [] r f b e = absurd cc
inside_first (x ∷ xs) r f b e = sym e

pub none_unmet : (rs : List SectionFault) (r : SectionFault) (b : Bool) → rs ≡ [] → b ≡ false → unless_met rs r b ≡ r ∷ []
none_unmet rs r b e h = ap₂ (λ xs met. unless_met xs r met) e h

pub none_met : (rs : List SectionFault) (r : SectionFault) (b : Bool) → rs ≡ [] → b ≡ true → unless_met rs r b ≡ []
none_met rs r b e h = ap₂ (λ xs met. unless_met xs r met) e h

-- what is refused inside, over a design of these names
pub inside_over : (n : Names) (d : Context) → IsOver n d → (r : SectionFault) (t : Tree) (o : Option SectionFault) → o ≡ first_refusal section_order (refused_inside (names_found (entries_of n)) r t) → o ≡ first_refusal section_order (refused_inside (names_found d.names) r t)
inside_over n d is r t o e = subst (λ es. o ≡ first_refusal section_order (refused_inside (names_found es) r t)) (sym is.names) e

-- ---- sets and ranges

-- what is left from a place on
pub rest_more : {A B : Type 0} (f : A → B) (xs : List A) (i : ℕ) (x : A) → i < length xs → x ≡ get_or xs i x → map f (drop i xs) ≡ f x ∷ map f (drop (i + 1) xs)
rest_more f xs i x lt e = ap (map f) (next_of xs i x lt) ∙ ap (λ y. f y ∷ map f (drop (i + 1) xs)) (sym e)

-- what was found of one more, before what is left
pub first_next : (f g h : Option SectionFault) (rs more : List SectionFault) → h ≡ earlier section_order f g → g ≡ first_refusal section_order rs
    → earlier section_order h (first_refusal section_order more) ≡ earlier section_order f (first_refusal section_order (rs ++ more))
first_next f g h rs more e k =
    ap (λ x. earlier section_order x (first_refusal section_order more)) (e ∙ ap (earlier section_order f) k)
    ∙ earlier_assoc section_order f (first_refusal section_order rs) (first_refusal section_order more)
    ∙ ap (earlier section_order f) (sym (first_append section_order rs more))

pub any_named : (test : List ℕ → Bool) (names : List (Vec ℕ)) → list_any (λ (n : Vec ℕ). test (name_items n)) names ≡ list_any test (map name_items names)
any_named test [] = refl
any_named test (n ∷ names) = ap (λ b. test (name_items n) || b) (any_named test names)

-- trees of the code at sets and operators
pub holds_set : (p : Place) (ms : List Member) (e : Option Extension) (ns : List NameFound) → holds_pulse ns (view (expr.Set p ms e)) ≡ any_holds_pulse ns (members_of (map view_member ms))
holds_set p ms e ns = search (rules, the_lemmas)

pub inside_set : (p : Place) (ms : List Member) (e : Option Extension) (ns : List NameFound) (r : SectionFault) → refused_inside ns r (view (expr.Set p ms e)) ≡ all_refused_inside ns r (members_of (map view_member ms))
inside_set p ms e ns r = search (rules, the_lemmas)
