-- What is refused of the signals of a target, one more.
use Rattle.std.proofs.Common.{◌≡◌, ℕ, Bool, true, false, List, [], ◌∷◌, ◌++◌, Option, Some, ◌||◌, if◌then◌else◌, length, map, take, get_or, refl, sym, ap, ap₂, ◌∙◌, subst, append_assoc, append-nil, ◌<◌, ◌+◌, arith}
use Rattle.section_targets.proofs.Common.{cond_both, nat_tests, Place, take_more, map-append, get_or_from_slice_get, Extension, sooner, is_before, earlier, first_refusal, before_by, first_append, Entry, entries_of, view_declared, IsContextOf, Context, name_at, no_name, SectionFault, section_order, Aim, Manner, NotAnOutput, MixedAssignment, is_output, no_output, mixed, first_manner, manner_of, aims_refused, AreFirsts, part_of, differs_from, is_against_kind}
use Rattle.abel_tree.specs.declared.names.Declared.{Declared}
use Rattle.abel_tree.specs.declared.names.Names.{Names}
use Rattle.pld_device.specs.Table.{Table}
use Rattle.expr_bits.proofs.NamesBefore.{entry_at, entries_long}

-- at one place no output is reported first
pub output_first : (t : Table) (before : List Manner) (x : Entry) (p : Place) (m : Manner) (b : Bool) → b ≡ is_output t x m.extension → b ≡ false → Some (NotAnOutput p (Some m.signal)) ≡ first_refusal section_order (no_output t x p m ++ mixed before x p m)
output_first t before x p m true e n = absurd cc
output_first t before x p m false e n =
    rw (sym e)
    (cond_both (differs_from (first_manner before m.signal (part_of m.extension)) m || is_against_kind x m) (MixedAssignment p m.signal ∷ []) [] (λ rs. Some (NotAnOutput p (Some m.signal)) ≡ first_refusal section_order (NotAnOutput p (Some m.signal) ∷ rs))
    (λ k. rw later refl) (λ k. refl))
  where
    later : is_before section_order (MixedAssignment p m.signal) (NotAnOutput p (Some m.signal)) ≡ false
    later =
        let ranked : sooner p.line p.column 5 p.line p.column 4 ≡ false = grind (arith, nat_tests) in
        before_by section_order (MixedAssignment p m.signal) (NotAnOutput p (Some m.signal)) ∙ ranked

-- what is refused of one signal
abbrev pub aim_refused : Context → List Manner → Option Extension → (complement clocked : Bool) → Aim → List SectionFault
aim_refused d before e complement clocked a =
    no_output d.device (name_at d a.signal) a.place (manner_of e complement clocked a)
    ++ mixed before (name_at d a.signal) a.place (manner_of e complement clocked a)

refused_push : (d : Context) (before : List Manner) (e : Option Extension) (c k : Bool) (xs : List Aim) (x : Aim) → aims_refused d before e c k (xs ++ x ∷ []) ≡ aims_refused d before e c k xs ++ aim_refused d (before ++ map (manner_of e c k) xs) e c k x
refused_push d before e c k [] x = append-nil (aim_refused d before e c k x) ∙ ap (λ ms. aim_refused d ms e c k x) (sym (append-nil before))
refused_push d before e c k (y ∷ xs) x =
    let next = before ++ manner_of e c k y ∷ [] in
    ap (λ rs. aim_refused d before e c k y ++ rs) (refused_push d next e c k xs x)
    ∙ sym (append_assoc (aim_refused d before e c k y) (aims_refused d next e c k xs) (aim_refused d (next ++ map (manner_of e c k) xs) e c k x))
    ∙ ap (λ ms. (aim_refused d before e c k y ++ aims_refused d next e c k xs) ++ aim_refused d ms e c k x) (append_assoc before (manner_of e c k y ∷ []) (map (manner_of e c k) xs))

-- only the firsts of what was assigned before count
firsts_refused : (d : Context) (firsts all : List Manner) (e : Option Extension) (c k : Bool) (a : Aim) → AreFirsts firsts all → aim_refused d firsts e c k a ≡ aim_refused d all e c k a
firsts_refused d firsts all e c k a h =
    ap (λ (f : Option Manner). no_output d.device (name_at d a.signal) a.place (manner_of e c k a) ++ (if differs_from f (manner_of e c k a) || is_against_kind (name_at d a.signal) (manner_of e c k a) then MixedAssignment a.place a.signal ∷ [] else [])) (h a.signal (part_of e))

-- the first refusal with the signal at i
pub refused_next : (d : Context) (before now : List Manner) (e : Option Extension) (c k : Bool) (xs : List Aim) (i : ℕ) (x : Aim) → i < length xs → AreFirsts now (before ++ map (manner_of e c k) (take i xs))
    → first_refusal section_order (aims_refused d before e c k (take (i + 1) xs)) ≡ earlier section_order (first_refusal section_order (aims_refused d before e c k (take i xs))) (first_refusal section_order (aim_refused d now e c k (get_or xs i x)))
refused_next d before now e c k xs i x lt h =
    ap (λ ys. first_refusal section_order (aims_refused d before e c k ys)) (take_more xs i x lt)
    ∙ ap (first_refusal section_order) (refused_push d before e c k (take i xs) (get_or xs i x))
    ∙ first_append section_order (aims_refused d before e c k (take i xs)) (aim_refused d (before ++ map (manner_of e c k) (take i xs)) e c k (get_or xs i x))
    ∙ ap (λ rs. earlier section_order (first_refusal section_order (aims_refused d before e c k (take i xs))) (first_refusal section_order rs)) (sym (firsts_refused d now (before ++ map (manner_of e c k) (take i xs)) e c k (get_or xs i x) h))

-- the signals up to i, and the one at i
pub noted_next : (before new : List Manner) (e : Option Extension) (c k : Bool) (xs : List Aim) (i : ℕ) (x : Aim) → i < length xs → AreFirsts new ((before ++ map (manner_of e c k) (take i xs)) ++ manner_of e c k (get_or xs i x) ∷ []) → AreFirsts new (before ++ map (manner_of e c k) (take (i + 1) xs))
noted_next before new e c k xs i x lt h =
    subst (AreFirsts new)
    (append_assoc before (map (manner_of e c k) (take i xs)) (manner_of e c k (get_or xs i x) ∷ [])
    ∙ ap (λ ms. before ++ ms) (sym (map-append (manner_of e c k) (take i xs) (get_or xs i x ∷ [])))
    ∙ ap (λ ys. before ++ map (manner_of e c k) ys) (sym (take_more xs i x lt)))
    h

-- what is refused of a signal that is declared so
pub aim_refused_as : (n : Names) (t : Table) (d : Context) (ds : List Declared) (x : Declared) (before : List Manner) (e : Option Extension) (c k : Bool) (a : Aim) → IsContextOf t n d → a.signal < length (entries_of n) → ds ≡ n.list → x ≡ get_or ds a.signal x
    → first_refusal section_order (no_output t (view_declared x) a.place (manner_of e c k a) ++ mixed before (view_declared x) a.place (manner_of e c k a))
    ≡ first_refusal section_order (aim_refused d before e c k a)
aim_refused_as n t d ds x before e c k a is lt l h =
    let entry = entry_at n ds a.signal x l (omega (arith, lt, entries_long n ds l)) h in
    let named : name_at d a.signal ≡ view_declared x = ap (λ es. get_or es a.signal no_name) is.names ∙ get_or_from_slice_get (entries_of n) a.signal (view_declared x) no_name entry in
    ap₂ (λ u z. first_refusal section_order (no_output u z a.place (manner_of e c k a) ++ mixed before z a.place (manner_of e c k a))) (sym is.device) (sym named)
