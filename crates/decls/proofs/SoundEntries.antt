-- Names that are sound by the names before them.
use Rattle.std.proofs.Common.{◌≡◌, ℕ, zero, suc, ◌<◌, ◌≤◌, ◌==◌, nat_le, nat_lt, Bool, true, false, not, ◌&&◌, ◌||◌, if◌then◌else◌, Some, List, [], ◌∷◌, ◌++◌, zip, take, refl, sym, ap, ap₂, subst, ◌∙◌, append_assoc, arith, is_some, slice_get}
use Rattle.decls.proofs.Common.{true≢false, and_parts, nat_tests, append-nil, list_all-append, Table, Word, Kind, APin, ANode, AConstant, ADeviceName, Words, Entry, kind_of, IsSoundKind, is_named, are_named, Tree, uses, all_uses, GivenName, is_unnumbered, pin_entries, node_entries, constant_entries, is_on_pin, is_taken, refused_if, is_signal_pin, number_refused}
use Rattle.decls.specs.declared.fault.NameFault.TheVariants as fault
use Rattle.decls.proofs.NoRefusals.{not_refused}
use Rattle.decls.proofs.NamesAlike.{Alike, alike_kinds, alike_push, Extends, extends_alike, named_more}

-- no earlier name has the pin, if it has a number
abbrev pub IsNewPin : (earlier : List Entry) → Kind → Type 0
IsNewPin earlier (APin pin negated) = (pin == 0) ≡ false → is_taken earlier pin ≡ false
IsNewPin earlier (ANode number) = Unit {0}
IsNewPin earlier (AConstant value) = Unit {0}
IsNewPin earlier ADeviceName = Unit {0}

-- a name is sound after these: what it is declared as, its pin, if it has a number, and that none of them is the same
pub record IsSoundEntry (pins : ℕ) (earlier : List Entry) (e : Entry) : Type 0 where
  pub kind : is_unnumbered e.kind ≡ false → IsSoundKind pins earlier e.kind
  pub pin : IsNewPin earlier e.kind
  pub name : is_some (kind_of earlier e.name) ≡ false

-- each name is sound after these and those before it
abbrev pub AreSound : (pins : ℕ) → (earlier : List Entry) → List Entry → Type 0
AreSound pins earlier [] = Unit {0}
AreSound pins earlier (e ∷ es) = IsSoundEntry pins earlier e × AreSound pins (earlier ++ e ∷ []) es

pub sound_append : (pins : ℕ) (earlier xs ys : List Entry) → AreSound pins earlier xs → AreSound pins (earlier ++ xs) ys → AreSound pins earlier (xs ++ ys)
sound_append pins earlier [] ys s t = subst (λ l. AreSound pins l ys) (append-nil earlier) t
sound_append pins earlier (x ∷ xs) ys s t =
    (s.0, sound_append pins (earlier ++ x ∷ []) xs ys s.1 (subst (λ l. AreSound pins l ys) (sym (append_assoc earlier (x ∷ []) xs)) t))

pub sound_at : (pins : ℕ) (earlier es : List Entry) → AreSound pins earlier es → (k : ℕ) (e : Entry) → slice_get es k ≡ Some e → IsSoundEntry pins (earlier ++ take k es) e
sound_at pins earlier [] s k e h = absurd cc
sound_at pins earlier (x ∷ es) s zero e h =
    let same : x ≡ e = cc in
    subst (IsSoundEntry pins (earlier ++ [])) same (subst (λ l. IsSoundEntry pins l x) (sym (append-nil earlier)) s.0)
sound_at pins earlier (x ∷ es) s (suc k) e h =
    subst (λ l. IsSoundEntry pins l e) (append_assoc earlier (x ∷ []) (take k es)) (sound_at pins (earlier ++ x ∷ []) es s.1 k e h)

-- ---- names of the same kinds are as sound

kind_more : (pins : ℕ) (es fs : List Entry) (k : Kind) → Extends es fs → IsSoundKind pins es k → IsSoundKind pins fs k
kind_more pins es fs (APin pin negated) f s = s
kind_more pins es fs (ANode number) f s = s
kind_more pins es fs (AConstant value) f s = named_more es fs (uses value) f s
kind_more pins es fs ADeviceName f s = tt

pub taken_alike : (xs ys : List Entry) (n : ℕ) → Alike xs ys → is_taken xs n ≡ is_taken ys n
taken_alike [] [] n a = refl
taken_alike [] (y ∷ ys) n a = absurd a
taken_alike (x ∷ xs) [] n a = absurd a
taken_alike (x ∷ xs) (y ∷ ys) n a = ap₂ (λ b c. b || c) (ap (is_on_pin n) a.1.0) (taken_alike xs ys n a.1.1)

pin_alike : (es fs : List Entry) (k : Kind) → Alike es fs → IsNewPin es k → IsNewPin fs k
pin_alike es fs (APin pin negated) a s = λ numbered. sym (taken_alike es fs pin a) ∙ s numbered
pin_alike es fs (ANode number) a s = tt
pin_alike es fs (AConstant value) a s = tt
pin_alike es fs ADeviceName a s = tt

entry_alike : (pins : ℕ) (es fs : List Entry) (x y : Entry) → Alike es fs → x.name ≡ y.name → x.kind ≡ y.kind → IsSoundEntry pins es x → IsSoundEntry pins fs y
entry_alike pins es fs x y a n k s = record {
  kind = λ numbered. subst (IsSoundKind pins fs) k (kind_more pins es fs x.kind (extends_alike es fs a) (s.kind (ap is_unnumbered k ∙ numbered)));
  pin = subst (IsNewPin fs) k (pin_alike es fs x.kind a s.pin);
  name = sym (ap is_some (alike_kinds es fs a x.name ∙ ap (kind_of fs) n)) ∙ s.name;
}

pub sound_alike : (pins : ℕ) (earlier others xs ys : List Entry) → Alike earlier others → Alike xs ys → AreSound pins earlier xs → AreSound pins others ys
sound_alike pins earlier others [] [] a b s = tt
sound_alike pins earlier others [] (y ∷ ys) a b s = absurd b
sound_alike pins earlier others (x ∷ xs) [] a b s = absurd b
sound_alike pins earlier others (x ∷ xs) (y ∷ ys) a b s = (
  entry_alike pins earlier others x y a b.0 b.1.0 s.0,
  sound_alike pins (earlier ++ x ∷ []) (others ++ y ∷ []) xs ys (alike_push earlier others x y a b.0 b.1.0) b.1.1 s.1,
)

-- ---- names whose numbers are not refused

-- what a constant uses is known before
abbrev pub IsNamedKind : List Entry → Kind → Type 0
IsNamedKind es (APin pin negated) = Unit {0}
IsNamedKind es (ANode number) = Unit {0}
IsNamedKind es (AConstant value) = are_named es (uses value) ≡ true
IsNamedKind es ADeviceName = Unit {0}

abbrev pub AreNamedKinds : List Entry → List Entry → Type 0
AreNamedKinds es [] = Unit {0}
AreNamedKinds es (x ∷ xs) = IsNamedKind es x.kind × AreNamedKinds es xs

good_pin : (t : Table) (n : ℕ) → is_signal_pin t n ≡ true → (0 < n) × (n ≤ t.pins)
good_pin t n h = pins n t.ground_pin t.pins h
  where
    pins : (m g p : ℕ) → (not (m == 0) && not (m == g) && nat_lt m p) ≡ true → (0 < m) × (m ≤ p)
    pins m g p i = (grind (arith, nat_tests), grind (arith, nat_tests))

good_node : (n : ℕ) → nat_le 128 n ≡ false → n < 128
good_node n h = grind (arith, nat_tests)

pub one_sound : (t : Table) (base es : List Entry) (e : Entry) (k : Kind) → Extends base es → IsNamedKind base k → number_refused t es e k ≡ [] → IsSoundKind t.pins es k
one_sound t base es e (APin n negated) f named h = by (is_signal_pin t n) refl h
  where
    by : (b : Bool) → is_signal_pin t n ≡ b → (if b then refused_if (is_taken es n) (fault.PinTaken e.place e.name) else fault.BadPin e.place e.name ∷ []) ≡ [] → (0 < n) × (n ≤ t.pins)
    by true g i = good_pin t n g
    by false g i = absurd cc
one_sound t base es e (ANode n) f named h = good_node n (not_refused (nat_le 128 n) (fault.TooManyNodes e.place e.name) h)
one_sound t base es e (AConstant v) f named h = named_more base es (uses v) f named
one_sound t base es e ADeviceName f named h = tt

pub one_new : (t : Table) (es : List Entry) (e : Entry) (k : Kind) → number_refused t es e k ≡ [] → IsNewPin es k
one_new t es e (APin n negated) h = λ numbered. by (is_signal_pin t n) h
  where
    by : (b : Bool) → (if b then refused_if (is_taken es n) (fault.PinTaken e.place e.name) else fault.BadPin e.place e.name ∷ []) ≡ [] → is_taken es n ≡ false
    by true g = not_refused (is_taken es n) (fault.PinTaken e.place e.name) g
    by false g = absurd cc
one_new t es e (ANode n) h = tt
one_new t es e (AConstant v) h = tt
one_new t es e ADeviceName h = tt

pub unnumbered_new : (es : List Entry) (k : Kind) → is_unnumbered k ≡ true → IsNewPin es k
unnumbered_new es (APin pin negated) none = λ numbered. absurd (true≢false (sym none ∙ numbered))
unnumbered_new es (ANode n) none = tt
unnumbered_new es (AConstant v) none = tt
unnumbered_new es ADeviceName none = tt

-- ---- what declarations make

pub pins_named : (es : List Entry) (w : Words) (xs : List GivenName) (ns : List ℕ) → AreNamedKinds es (pin_entries w xs ns)
pins_named es w [] ns = tt
pins_named es w (x ∷ xs) [] = (tt, pins_named es w xs [])
pins_named es w (x ∷ xs) (n ∷ ns) = (tt, pins_named es w xs ns)

pub nodes_named : (es : List Entry) (w : Words) (n : ℕ) (xs : List GivenName) → AreNamedKinds es (node_entries w n xs)
nodes_named es w n [] = tt
nodes_named es w n (x ∷ xs) = (tt, nodes_named es w (suc n) xs)

pub constants_named : (es : List Entry) (names : List Word) (values : List Tree) → are_named es (all_uses values) ≡ true → AreNamedKinds es (constant_entries (zip names values))
constants_named es [] values h = tt
constants_named es (name ∷ names) [] h = tt
constants_named es (name ∷ names) (v ∷ values) h =
    let b = and_parts (are_named es (uses v)) (are_named es (all_uses values)) (sym (list_all-append (is_named es) (uses v) (all_uses values)) ∙ h) in
    (b.0, constants_named es names values b.1)
