-- The name of a pin represents its signal.
use Rattle.std.proofs.Common.{◌≡◌, ℕ, zero, suc, ◌+◌, ◌<◌, inl, inr, Bool, true, false, Option, None, Some, List, [], ◌∷◌, ◌++◌, slice_get, refl, sym, ap, ◌∙◌, arith, append_assoc, if◌then◌else◌, bytes_eq}
use Rattle.decompiled.proofs.Common.{cases_Bool, APin, Entry, entry, Term, Known, Read, known_after, term_meant, term_named, PinLine, name_text, said, ArePinsApart, PinsAreKnown}
use Rattle.std.proofs.lemmas.Fmt.{decimal_injective}
use Rattle.std.proofs.lemmas.Slice.Eq.{bytes_eq-Decides}

-- names are apart as their pins are
same_pin : (a b : ℕ) → a < 32 → b < 32 → bytes_eq (name_text a) (name_text b) ≡ true → a ≡ b
same_pin a b la lb e =
    let names : name_text a ≡ name_text b = (bytes_eq-Decides (name_text a) (name_text b)).0 e in
    decimal_injective a b (omega (arith, la)) (omega (arith, lb)) (ap rest names)
  where
    rest : List ℕ → List ℕ
    rest [] = []
    rest (x ∷ xs) = xs

abbrev known_pin : ℕ → ℕ → Known
known_pin pin s = record { name = name_text pin; term = Read s None }

-- what a name represents at the front stays
stays : (es : List Entry) (known : List Known) (s : ℕ) (name : List ℕ) (t : Term) → ((more : List Known) → term_named (known ++ more) name ≡ t) → term_named (known_after known s es) name ≡ t
stays [] known s name t front = ap (λ (ks : List Known). term_named ks name) (sym (append_none known)) ∙ front []
  where
    append_none : (ks : List Known) → ks ++ [] ≡ ks
    append_none [] = refl
    append_none (k ∷ ks) = ap (λ (xs : List Known). k ∷ xs) (append_none ks)
stays (e ∷ es) known s name t front =
    let k : Known = record { name = e.name; term = term_meant known s e.kind } in
    stays es (known ++ k ∷ []) (suc s) name t (λ more. ap (λ (ks : List Known). term_named ks name) (append_assoc known (k ∷ []) more) ∙ front (k ∷ more))

tail_apart : (l : PinLine) (ls : List PinLine) → ArePinsApart (l ∷ ls) → ArePinsApart ls
tail_apart l ls apart i j a b ia jb same = let e : suc i ≡ suc j = apart (suc i) (suc j) a b ia jb same in omega (arith, e)

pub knows : PinsAreKnown
knows [] es known s k l are apart low front at = absurd (none at)
  where
    none : slice_get [] k ≡ Some l → ⊥
    none e = cc
knows (x ∷ xs) es known s zero l are apart low front at =
    let same : x.pin ≡ l.pin = ap pin_of at in
    let entry_is : es ≡ entry (name_text x.pin) are.2.0 (APin x.pin false) (said x.follows) ∷ are.1 = are.4 ∙ ap (λ (e : Entry). e ∷ are.1) are.2.1 in
    let hit : bytes_eq (name_text l.pin) (name_text x.pin) ≡ true = (bytes_eq-Decides (name_text l.pin) (name_text x.pin)).1 (ap name_text (sym same)) in
    let zero_more : Read s None ≡ Read (s + 0) None = ap (λ (i : ℕ). Read i None) (omega arith) in
    ap (λ (xs : List Entry). term_named (known_after known s xs) (name_text l.pin)) entry_is
    ∙ stays are.1 (known ++ known_pin x.pin s ∷ []) (suc s) (name_text l.pin) (Read s None)
    (λ more. ap (λ (ks : List Known). term_named ks (name_text l.pin)) (append_assoc known (known_pin x.pin s ∷ []) more)
    ∙ front (known_pin x.pin s ∷ more) ∙ ap (λ (b : Bool). if b then Read s None else term_named more (name_text l.pin)) hit)
    ∙ zero_more
  where
    pin_of : Option PinLine → ℕ
    pin_of None = 0
    pin_of (Some y) = y.pin
knows (x ∷ xs) es known s (suc k) l are apart low front at =
    let entry_is : es ≡ entry (name_text x.pin) are.2.0 (APin x.pin false) (said x.follows) ∷ are.1 = are.4 ∙ ap (λ (e : Entry). e ∷ are.1) are.2.1 in
    let other : bytes_eq (name_text l.pin) (name_text x.pin) ≡ false = differ refl in
    let more_is : Read (suc s + k) None ≡ Read (s + suc k) None = ap (λ (i : ℕ). Read i None) (omega arith) in
    ap (λ (ys : List Entry). term_named (known_after known s ys) (name_text l.pin)) entry_is
    ∙ knows xs are.1 (known ++ known_pin x.pin s ∷ []) (suc s) k l are.3 (tail_apart x xs apart) (λ i a e. low (suc i) a e)
    (λ more. ap (λ (ks : List Known). term_named ks (name_text l.pin)) (append_assoc known (known_pin x.pin s ∷ []) more)
    ∙ front (known_pin x.pin s ∷ more) ∙ ap (λ (b : Bool). if b then Read s None else term_named more (name_text l.pin)) other)
    at
    ∙ more_is
  where
    differ : slice_get (x ∷ xs) 0 ≡ Some x → bytes_eq (name_text l.pin) (name_text x.pin) ≡ false
    differ first = elim (cases_Bool (bytes_eq (name_text l.pin) (name_text x.pin))) [
      | inl e ↦
          let same : l.pin ≡ x.pin = same_pin l.pin x.pin (low (suc k) l at) (low 0 x first) e in
          let never : suc k ≡ 0 = apart (suc k) 0 l x at first same in
          absurd (omega (arith, never))
      | inr e ↦ e
    ]
