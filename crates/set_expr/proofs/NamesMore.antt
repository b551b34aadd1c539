-- Look-ups in the table of names, and what is known with one name more.
use Rattle.std.proofs.Common.{◌≡◌, ℕ, ◌+◌, Bool, true, false, Option, None, Some, List, [], ◌∷◌, ◌++◌, length, refl, sym, ap, ap₂, subst, ◌∙◌, arith, if◌then◌else◌, bytes_eq, cond, append_assoc, append-nil}
use Rattle.set_expr.proofs.Common.{option_or, Entry, find, earlier, first_refusal, first_append, KnownName, NameFound, named, names_found, found_after, found_entry, found_refusals, Table, by_bytes, under, IsKnownIf, IsKnownName, IsPlaced, IsKnown, section_order}
use Rattle.std.specs.Global.{Vec}
use Rattle.std.specs.List.{position_from}
use Rattle.std.specs.Map.{lookup}
use Rattle.std.proofs.lemmas.Iterator.Adapters.{position_from-zero}
use Rattle.indexmap.specs.IndexMap.{insert_entry}

pub looked_up : (es : List (Vec ℕ × KnownName)) (w : List ℕ) → lookup (λ k. bytes_eq w k.items) es ≡ under (by_bytes es) w
looked_up [] w = refl
looked_up (e ∷ es) w = ap (λ (o : Option KnownName). if bytes_eq w e.0.items then Some e.1 else o) (looked_up es w)

-- a name that isn't there is not the first one
not_first : (b : Bool) (k : KnownName) (o : Option KnownName) → (if b then Some k else o) ≡ None → (b ≡ false) × (o ≡ None)
not_first true k o e = absurd cc
not_first false k o e = (refl, e)

first_or : {A : Type 0} (b : Bool) (x : A) (o more n : Option A) → more ≡ option_or o n → (if b then Some x else more) ≡ option_or (if b then Some x else o) n
first_or true x o more n e = refl
first_or false x o more n e = e

-- a new name follows the others
pub inserted : (es : List (Vec ℕ × KnownName)) (key : Vec ℕ) (v : KnownName) (w : List ℕ) → under (by_bytes es) key.items ≡ None
    → under (by_bytes (insert_entry (λ a b. bytes_eq a.items b.items) es key v)) w ≡ option_or (under (by_bytes es) w) (if bytes_eq w key.items then Some v else None)
inserted [] key v w e = refl
inserted (x ∷ es) key v w e =
    let p = not_first (bytes_eq key.items x.0.items) x.1 (under (by_bytes es) key.items) e in
    rw p.0 (first_or (bytes_eq w x.0.items) x.1 (under (by_bytes es) w) (under (by_bytes (insert_entry (λ a b. bytes_eq a.items b.items) es key v)) w) (if bytes_eq w key.items then Some v else None) (inserted es key v w p.1))

found_more : (ns : List NameFound) (es : List Entry) (e : Entry) → found_after ns (es ++ e ∷ []) ≡ found_after ns es ++ found_entry (found_after ns es) e ∷ []
found_more ns [] e = refl
found_more ns (x ∷ es) e = found_more (ns ++ found_entry ns x ∷ []) es e

refusals_more : (ns : List NameFound) (n : NameFound) → found_refusals (ns ++ n ∷ []) ≡ found_refusals ns ++ n.found.refusals
refusals_more [] n = append-nil n.found.refusals
refusals_more (x ∷ ns) n = ap (λ rs. x.found.refusals ++ rs) (refusals_more ns n) ∙ sym (append_assoc x.found.refusals (found_refusals ns) n.found.refusals)

named_more : (ns : List NameFound) (n : NameFound) (w : List ℕ) → named (ns ++ n ∷ []) w ≡ option_or (named ns w) (if bytes_eq w n.name then Some n else None)
named_more [] n w = refl
named_more (x ∷ ns) n w = first_or (bytes_eq w x.name) x (named ns w) (named (ns ++ n ∷ []) w) (if bytes_eq w n.name then Some n else None) (named_more ns n w)

placed_more : (i n : ℕ) (es : List Entry) (e : Entry) (w : List ℕ) → n ≡ i + length es → position_from (λ (x : Entry). bytes_eq w x.name) i (es ++ e ∷ []) ≡ option_or (position_from (λ (x : Entry). bytes_eq w x.name) i es) (cond (bytes_eq w e.name) (Some n) None)
placed_more i n [] e w h = ap (λ k. cond (bytes_eq w e.name) (Some k) None) (omega (arith, h))
placed_more i n (x ∷ es) e w h = here (bytes_eq w x.name) _ _ _ (placed_more (i + 1) n es e w (omega (arith, h)))
  where
    here : (b : Bool) (o more m : Option ℕ) → more ≡ option_or o m → cond b (Some i) more ≡ option_or (cond b (Some i) o) m
    here true o more m k = refl
    here false o more m k = k

find_more : (es : List Entry) (e : Entry) (w : List ℕ) → find (es ++ e ∷ []) w ≡ option_or (find es w) (cond (bytes_eq w e.name) (Some (length es)) None)
find_more es e w =
    let test = λ (x : Entry). bytes_eq w x.name in
    position_from-zero test (es ++ e ∷ [])
    ∙ (placed_more 0 (length es) es e w (omega arith) ∙ ap (λ o. option_or o (cond (bytes_eq w e.name) (Some (length es)) None)) (sym (position_from-zero test es)))

-- what is known of a name, else of the new one
known_or : (k : Option KnownName) (n : Option NameFound) (b : Bool) (new : KnownName) (m : NameFound) → IsKnownIf k n → IsKnownName new m → IsKnownIf (option_or k (if b then Some new else None)) (option_or n (if b then Some m else None))
known_or (Some k) (Some n) b new m i j = i
known_or (Some k) None b new m i j = absurd i
known_or None (Some n) b new m i j = absurd i
known_or None None true new m i j = j
known_or None None false new m i j = tt

placed_or : (k : Option KnownName) (p : Option ℕ) (b : Bool) (new : KnownName) (i : ℕ) → IsPlaced k p → new.number ≡ i → IsPlaced (option_or k (if b then Some new else None)) (option_or p (cond b (Some i) None))
placed_or (Some k) p b new i h e = ap (λ o. option_or o (cond b (Some i) None)) h
placed_or None p true new i h e = ap (λ o. option_or o (Some i)) h ∙ ap Some (sym e)
placed_or None p false new i h e = ap (λ o. option_or o None) h

-- a table with one name more knows the names with it
pub known_more : (es : List Entry) (e : Entry) (t new : Table) (k : KnownName) → IsKnown es t → IsKnownName k (found_entry (names_found es) e) → k.number ≡ length es → ((w : List ℕ) → under new.names w ≡ option_or (under t.names w) (if bytes_eq w e.name then Some k else None)) → new.fault ≡ earlier section_order t.fault k.checked.fault → IsKnown (es ++ e ∷ []) new
known_more es e t new k is here number kept fault =
    let ns = names_found es in
    let n = found_entry ns e in
    let all = found_more [] es e in
    record {
      names = λ w. subst (λ o. IsKnownIf o (named (names_found (es ++ e ∷ [])) w)) (sym (kept w))
          (subst (λ o. IsKnownIf (option_or (under t.names w) (if bytes_eq w e.name then Some k else None)) o) (sym (ap (λ ms. named ms w) all ∙ named_more ns n w))
          (known_or (under t.names w) (named ns w) (bytes_eq w e.name) k n (is.names w) here));
      places = λ w. subst (λ o. IsPlaced o (find (es ++ e ∷ []) w)) (sym (kept w))
          (subst (λ o. IsPlaced (option_or (under t.names w) (if bytes_eq w e.name then Some k else None)) o) (sym (find_more es e w))
          (placed_or (under t.names w) (find es w) (bytes_eq w e.name) k (length es) (is.places w) number));
      fault =
          fault
          ∙ (ap₂ (earlier section_order) is.fault here.checked.fault
          ∙ (sym (first_append section_order (found_refusals ns) n.found.refusals)
          ∙ ap (first_refusal section_order) (sym (refusals_more ns n) ∙ ap found_refusals (sym all))));
    }
