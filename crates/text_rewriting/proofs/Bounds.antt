-- The arguments by the parameters that they represent, the last pair kept first.
use Rattle.std.proofs.Common.{◌≡◌, ◌+◌, ◌<◌, ◌≤◌, ℕ, zero, suc, Bool, true, false, inl, inr, ◌⊎◌, List, [], ◌∷◌, Option, Some, None, length, drop, get_or, refl, sym, ap, ◌∙◌, arith, add-one, if◌then◌else◌, option_map, min, nat_lt}
use Rattle.text_rewriting.proofs.Common.{le-min, ltb-true, ltb-false, Vec, bytes_eq, drop_all, joined, bool_cases, standing_for, names, texts, under, by_bytes, with_name, bound}
use Rattle.std.specs.Map.{lookup}
use Rattle.std.specs.Option.{option_copied}
use Rattle.std.specs.Borrow.{Bor}
use Rattle.indexmap.specs.IndexMap.{insert_entry}
use Rattle.abel_macros.proofs.Looked.{inserted, looked_up}

abbrev Pieces : Type 0
Pieces = List (List ℕ)

named_at : (ps : List (Vec ℕ)) (i : ℕ) (d : Vec ℕ) → i < length ps → names (drop i ps) ≡ (get_or ps i d).items ∷ names (drop (suc i) ps)
named_at [] i d h = absurd (omega arith)
named_at (p ∷ ps) zero d h = refl
named_at (p ∷ ps) (suc i) d h = named_at ps i d (omega arith)

text_at : (ws : List (Vec (List ℕ))) (i : ℕ) (d : Vec (List ℕ)) → i < length ws → texts (drop i ws) ≡ joined (get_or ws i d).items ∷ texts (drop (suc i) ws)
text_at [] i d h = absurd (omega arith)
text_at (w ∷ ws) zero d h = refl
text_at (w ∷ ws) (suc i) d h = text_at ws i d (omega arith)

no_text : (ns : List (List ℕ)) (name : List ℕ) → standing_for ns [] name ≡ None
no_text [] name = refl
no_text (n ∷ ns) name = refl

-- if no pair is left nothing represents a name
none_left : (ps : List (Vec ℕ)) (ws : List (Vec (List ℕ))) (n : ℕ) (w : List ℕ) → (length ps ≤ n) ⊎ (length ws ≤ n) → None ≡ standing_for (names (drop n ps)) (texts (drop n ws)) w
none_left ps ws n w (inl l) = sym (ap (λ (qs : List (Vec ℕ)). standing_for (names qs) (texts (drop n ws)) w) (drop_all n ps l))
none_left ps ws n w (inr l) = sym (ap (λ (vs : List (Vec (List ℕ))). standing_for (names (drop n ps)) (texts vs) w) (drop_all n ws l) ∙ no_text (names (drop n ps)) w)

shorter : (a b n : ℕ) → n ≡ min a b → (a ≤ n) ⊎ (b ≤ n)
shorter a b n e =
    elim (bool_cases (nat_lt b a)) [
      | inl t ↦ let l : b < a = ltb-true b a t in let m : b ≤ min a b = le-min {k = b} {a = a} {b = b} (omega (arith, l)) (omega arith) in inr (omega (arith, e, m))
      | inr f ↦ let l : a ≤ b = ltb-false b a f in let m : a ≤ min a b = le-min {k = a} {a = a} {b = b} (omega arith) l in inl (omega (arith, e, m))
    ]

pub none_bound : (ps : List (Vec ℕ)) (ws : List (Vec (List ℕ))) (n : ℕ) → n ≡ min (length ps) (length ws) → bound [] ≡ standing_for (names (drop n ps)) (texts (drop n ws))
none_bound ps ws n e = λ i w. none_left ps ws n w (shorter (length ps) (length ws) n e) i

-- all pairs
pub all_bound : (ps : List (Vec ℕ)) (ws : List (Vec (List ℕ))) (n : ℕ) (f : List ℕ → Option (List ℕ)) → n ≡ 0 → f ≡ standing_for (names (drop n ps)) (texts (drop n ws)) → f ≡ standing_for (names ps) (texts ws)
all_bound ps ws n f z e = e ∙ ap (λ (k : ℕ). standing_for (names (drop k ps)) (texts (drop k ws))) z

abbrev told : Option (Bor Pieces) → Option (List ℕ)
told o = option_map (λ a. joined a.now) o

chosen : (t : Bool) (x : List ℕ) (v : Bor Pieces) → joined v.now ≡ x → (o : Option (Bor Pieces)) (m : Option (List ℕ)) → told o ≡ m → told (if t then Some v else o) ≡ (if t then Some x else m)
chosen true x v q o m e = ap Some q
chosen false x v q o m e = e

-- one pair more
pub next_bound : (es new : List (Vec ℕ × Bor Pieces)) (key : Vec ℕ) (v : Bor Pieces) (ps : List (Vec ℕ)) (ws : List (Vec (List ℕ))) (i : ℕ) (d : Vec ℕ) (e : Vec (List ℕ))
    → i < length ps → i < length ws → key.items ≡ (get_or ps i d).items → v.now ≡ (get_or ws i e).items
    → new ≡ insert_entry (λ a b. bytes_eq a.items b.items) es key v → bound es ≡ standing_for (names (drop (i + 1) ps)) (texts (drop (i + 1) ws)) → bound new ≡ standing_for (names (drop i ps)) (texts (drop i ws))
next_bound es new key v ps ws i d e h k n t u b = λ j w. at w j
  where
    at : (w : List ℕ) → bound new w ≡ standing_for (names (drop i ps)) (texts (drop i ws)) w
    at w =
        let more : List ℕ → Option (List ℕ) = standing_for (names (drop (suc i) ps)) (texts (drop (suc i) ws)) in
        let old : bound es w ≡ more w = ap (λ (f : List ℕ → Option (List ℕ)). f w) b ∙ ap (λ (m : ℕ). standing_for (names (drop m ps)) (texts (drop m ws)) w) (add-one i) in
        let made : bound new w ≡ told (with_name key.items v (under (by_bytes es)) w) = ap (λ (x : List (Vec ℕ × Bor Pieces)). bound x w) u ∙ ap told (inserted es key v w) in
        let step : standing_for (names (drop i ps)) (texts (drop i ws)) w ≡ (if bytes_eq key.items w then Some (joined v.now) else more w) =
        ap (λ (ns : List (List ℕ)). standing_for ns (texts (drop i ws)) w) (named_at ps i d h) ∙ ap (λ (ts : List (List ℕ)). standing_for ((get_or ps i d).items ∷ names (drop (suc i) ps)) ts w) (text_at ws i e k)
        ∙ ap (λ (q : List ℕ). if bytes_eq q w then Some (joined (get_or ws i e).items) else more w) (sym n) ∙ ap (λ (x : Pieces). if bytes_eq key.items w then Some (joined x) else more w) (sym t) in
        made ∙ chosen (bytes_eq key.items w) (joined v.now) v refl (under (by_bytes es) w) (more w) old ∙ sym step

-- what is looked up
pub bound_some : (es : List (Vec ℕ × Bor Pieces)) (w : List ℕ) (o : Option (Bor (Bor Pieces))) (a : Bor (Bor Pieces)) → o ≡ Some a → option_copied o ≡ lookup (λ k. bytes_eq w k.items) es → bound es w ≡ Some (joined a.now.now)
bound_some es w o a s e = ap told (sym (looked_up es w) ∙ sym e ∙ ap option_copied s)

pub bound_none : (es : List (Vec ℕ × Bor Pieces)) (w : List ℕ) (o : Option (Bor (Bor Pieces))) → o ≡ None → option_copied o ≡ lookup (λ k. bytes_eq w k.items) es → bound es w ≡ None
bound_none es w o s e = ap told (sym (looked_up es w) ∙ sym e ∙ ap option_copied s)
