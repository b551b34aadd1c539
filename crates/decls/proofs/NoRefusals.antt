-- If nothing is refused of a name, the table keeps it as it is.
use Rattle.std.proofs.Common.{◌≡◌, ℕ, zero, suc, nat_le, nat_lt, Bool, true, false, List, [], ◌∷◌, ◌++◌, length, if◌then◌else◌, refl, sym, ap, subst, ◌∙◌, arith, eqb-true}
use Rattle.decls.proofs.Common.{nat_tests, Table, Kind, APin, ANode, AConstant, ADeviceName, Words, Entry, GivenName, is_unnumbered, pin_entries, NameFault, is_taken, refused_if, is_signal_pin, number_refused, kept_kind}
use Rattle.decls.specs.declared.fault.NameFault.TheVariants as fault

-- ---- empty lists

pub none_left : {A : Type 0} (xs ys : List A) → xs ++ ys ≡ [] → xs ≡ []
none_left [] ys e = refl
none_left (x ∷ xs) ys e = absurd cc

pub none_right : {A : Type 0} (xs ys : List A) → xs ++ ys ≡ [] → ys ≡ []
none_right [] ys e = e
none_right (x ∷ xs) ys e = absurd cc

pub not_refused : (b : Bool) (f : NameFault) → refused_if b f ≡ [] → b ≡ false
not_refused true f e = absurd cc
not_refused false f e = refl

-- ---- one name

pub kept_number : (t : Table) (es : List Entry) (e : Entry) (k : Kind) → number_refused t es e k ≡ [] → kept_kind t k ≡ k
kept_number t es e (APin n negated) h = by (is_signal_pin t n) h
  where
    by : (b : Bool) → (if b then refused_if (is_taken es n) (fault.PinTaken e.place e.name) else fault.BadPin e.place e.name ∷ []) ≡ [] → APin (if b then n else 0) negated ≡ APin n negated
    by true g = refl
    by false g = absurd cc
kept_number t es e (ANode n) h = ap ANode (by (nat_lt n 128) refl)
  where
    low : nat_le 128 n ≡ false → nat_lt n 128 ≡ true
    low g = grind (arith, nat_tests)

    by : (b : Bool) → nat_lt n 128 ≡ b → (if b then n else 0) ≡ n
    by true g = refl
    by false g = absurd (let z : nat_lt n 128 ≡ true = low (not_refused (nat_le 128 n) (fault.TooManyNodes e.place e.name) h) in let bad : false ≡ true = sym g ∙ z in cc)
kept_number t es e (AConstant v) h = refl
kept_number t es e ADeviceName h = refl

-- the names past those that have numbers are pins without one
abbrev pub RestIsUnnumbered : (given : ℕ) → List Entry → Type 0
RestIsUnnumbered given [] = Unit {0}
RestIsUnnumbered zero (e ∷ es) = (is_unnumbered e.kind ≡ true) × RestIsUnnumbered zero es
RestIsUnnumbered (suc given) (e ∷ es) = RestIsUnnumbered given es

pub no_rest : (es : List Entry) → RestIsUnnumbered (length es) es
no_rest [] = tt
no_rest (e ∷ es) = no_rest es

pub pins_rest : (w : Words) (xs : List GivenName) (ns : List ℕ) → RestIsUnnumbered (length ns) (pin_entries w xs ns)
pins_rest w [] ns = tt
pins_rest w (x ∷ xs) [] = (refl, pins_rest w xs [])
pins_rest w (x ∷ xs) (n ∷ ns) = pins_rest w xs ns

-- the table keeps these as they are
pub kept_unnumbered : (t : Table) (k : Kind) → is_unnumbered k ≡ true → kept_kind t k ≡ k
kept_unnumbered t (APin pin negated) none = subst (λ n. kept_kind t (APin n negated) ≡ APin n negated) (sym (eqb-true pin 0 none)) refl
kept_unnumbered t (ANode n) none = absurd cc
kept_unnumbered t (AConstant v) none = absurd cc
kept_unnumbered t ADeviceName none = absurd cc
