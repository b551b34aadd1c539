-- Nothing is refused of the declarations of a source whose pins are apart and are signal pins.
use Rattle.std.proofs.Common.{◌≡◌, ℕ, suc, ◌<◌, inl, inr, Bool, true, false, Option, None, Some, List, [], ◌∷◌, ◌++◌, length, slice_get, refl, sym, ap, subst, ◌∙◌, arith, append-nil, append_assoc, ◌==◌, ◌||◌, bytes_eq, drop, fold}
use Rattle.decompiler.proofs.Common.{cases_Bool, lt-ltb, ne_eqb, or_from, bytes_eq-Decides, Place, IsSignalPin, Table, APin, Entry, Words, kind_of, Declaration, SomePins, all_said, declared, entry, no_words, NameFault, added, is_on_pin, is_taken, names_behind, declaration_refused, declarations_refused, given_count, is_signal_pin, name_refused, names_refused, parts_refused, PinLine, name_text, attributes_in, word, IsPinLine, ArePins, said, ArePinEntries, ArePinsApart}
use Rattle.std.proofs.lemmas.List.Folds.{list_any-append}
use Rattle.std.proofs.lemmas.List.Sums.{fold-append}
use Rattle.std.proofs.lemmas.Fmt.{decimal_injective}
use Rattle.std.proofs.Math.Seq.{drop-append_seam}
use Rattle.decls.specs.Attributes.{strings_refused}

pub signal_pin_passes : (t : Table) (pin : ℕ) → IsSignalPin t pin → is_signal_pin t pin ≡ true
signal_pin_passes t pin is =
    rw (ne_eqb pin 0 (λ e. omega (arith, e, is.low)))
    (rw (ne_eqb pin t.ground_pin is.not_ground) (rw (lt-ltb pin t.pins is.high) refl))

-- a pin's entry at a place
abbrev pub pin_entry : PinLine → Place → Entry
pin_entry l p = entry (name_text l.pin) p (APin l.pin false) (said l.follows)

-- ---- words

-- the place of a string says nothing
said_anywhere : (follows : Option Bool) (p : Place) → all_said (attributes_in follows p) ≡ said follows
said_anywhere None p = refl
said_anywhere (Some true) p = refl
said_anywhere (Some false) p = refl

-- names are apart as their pins are
same_pin : (a b : ℕ) → a < 32 → b < 32 → bytes_eq (name_text a) (name_text b) ≡ true → a ≡ b
same_pin a b la lb e =
    let names : name_text a ≡ name_text b = (bytes_eq-Decides (name_text a) (name_text b)).0 e in
    decimal_injective a b (omega (arith, la)) (omega (arith, lb)) (ap rest names)
  where
    rest : List ℕ → List ℕ
    rest [] = []
    rest (x ∷ xs) = xs

-- ---- what one declaration adds

module _ (l : PinLine) (d : Declaration) (is : IsPinLine l d) where
  abbrev written : Declaration
  written = SomePins (record { negated = false; first = word (name_text l.pin) is.name; last = None } ∷ [])
      (record { first = record { value = l.pin; place = is.number }; last = None } ∷ []) (attributes_in l.follows is.attributes)

  pub one_added : (es : List Entry) → declared es d ≡ es ++ pin_entry l is.name ∷ []
  one_added es =
      ap (declared es) is.is
      ∙ ap (λ (w : Words). es ++ entry (name_text l.pin) is.name (APin l.pin false) w ∷ []) (said_anywhere l.follows is.attributes)

  added_is : (es : List Entry) → added es d ≡ pin_entry l is.name ∷ []
  added_is es = ap (drop (length es)) (one_added es) ∙ drop-append_seam es (pin_entry l is.name ∷ [])

  -- its one name has a number
  count_is : (es : List Entry) → given_count es d ≡ 1
  count_is es = ap (given_count es) is.is

  strings_pass : (follows : Option Bool) (p : Place) → strings_refused (no_words ∷ []) no_words (attributes_in follows p) ≡ []
  strings_pass None p = refl
  strings_pass (Some true) p = refl
  strings_pass (Some false) p = refl

  parts_pass : (before : List Declaration) (es : List Entry) → parts_refused before es d ≡ []
  parts_pass before es = ap (parts_refused before es) is.is ∙ strings_pass l.follows is.attributes

-- ---- pins that are new after names

pub record IsNew (es : List Entry) (l : PinLine) : Type 0 where
  pub free : is_taken es l.pin ≡ false
  pub unknown : kind_of es (name_text l.pin) ≡ None

kind_behind : (es : List Entry) (e : Entry) (name : List ℕ) → kind_of es name ≡ None → bytes_eq name e.name ≡ false → kind_of (es ++ e ∷ []) name ≡ None
kind_behind [] e name none other = rw other refl
kind_behind (x ∷ xs) e name none other = by_test (bytes_eq name x.name) refl (λ later. kind_behind xs e name later other)
  where
    by_test : (b : Bool) → bytes_eq name x.name ≡ b → (kind_of xs name ≡ None → kind_of (xs ++ e ∷ []) name ≡ None) → kind_of (x ∷ (xs ++ e ∷ [])) name ≡ None
    by_test true hit later = absurd (some_none (rw hit at none))
      where
        some_none : Some x.kind ≡ None → ⊥
        some_none e = cc
    by_test false miss later = rw miss (later (rw miss at none))

names_apart : (a l : PinLine) → a.pin < 32 → l.pin < 32 → (a.pin ≡ l.pin → ⊥) → bytes_eq (name_text a.pin) (name_text l.pin) ≡ false
names_apart a l a_low l_low apart = elim (cases_Bool (bytes_eq (name_text a.pin) (name_text l.pin))) [
  | inl e ↦ absurd (apart (same_pin a.pin l.pin a_low l_low e))
  | inr e ↦ e
]

new_behind : (es : List Entry) (a l : PinLine) (p : Place) → a.pin < 32 → l.pin < 32 → (a.pin ≡ l.pin → ⊥) → IsNew es a → IsNew (es ++ pin_entry l p ∷ []) a
new_behind es a l p a_low l_low apart new = record {
  free =
      list_any-append (λ (e : Entry). is_on_pin a.pin e.kind) es (pin_entry l p ∷ [])
      ∙ or_from (is_taken es a.pin) ((l.pin == a.pin) || false) new.free
      (or_from (l.pin == a.pin) false (ne_eqb l.pin a.pin (λ e. apart (sym e))) refl);
  unknown = kind_behind es (pin_entry l p) (name_text a.pin) new.unknown (names_apart a l a_low l_low apart);
}

-- ---- declarations

module _ (t : Table) where
  pub record IsGoodPin (l : PinLine) : Type 0 where
    pub signal : IsSignalPin t l.pin
    pub low : l.pin < 32

  name_passes : (es : List Entry) (l : PinLine) (p : Place) → IsGoodPin l → IsNew es l → name_refused t es true (pin_entry l p) ≡ []
  name_passes es l p good new = rw (signal_pin_passes t l.pin good.signal) (rw new.free (rw new.unknown refl))

  one_passes : (before : List Declaration) (l : PinLine) (d : Declaration) → IsPinLine l d → IsGoodPin l → IsNew (names_behind before) l → declaration_refused t before d ≡ []
  one_passes before l d is good new =
      let es : List Entry = names_behind before in
      ap (λ (fs : List NameFault). fs ++ names_refused t es (given_count es d) (added es d)) (parts_pass l d is before es)
      ∙ ap (λ (count : ℕ). names_refused t es count (added es d)) (count_is l d is es)
      ∙ ap (names_refused t es 1) (added_is l d is es)
      ∙ append-nil (name_refused t es true (pin_entry l is.name))
      ∙ name_passes es l is.name good new

  behind_one : (before : List Declaration) (l : PinLine) (d : Declaration) (is : IsPinLine l d) → names_behind (before ++ d ∷ []) ≡ names_behind before ++ pin_entry l is.name ∷ []
  behind_one before l d is = fold-append declared [] before (d ∷ []) ∙ one_added l d is (names_behind before)

  later_apart : (l : PinLine) (ls : List PinLine) → ArePinsApart (l ∷ ls) → ArePinsApart ls
  later_apart l ls apart i j a b ia jb same = let e : suc i ≡ suc j = apart (suc i) (suc j) a b ia jb same in omega (arith, e)

  pub declarations_pass : (ls : List PinLine) (ds before : List Declaration) → ArePins ls ds → ArePinsApart ls
      → ((i : ℕ) (a : PinLine) → slice_get ls i ≡ Some a → IsGoodPin a)
      → ((i : ℕ) (a : PinLine) → slice_get ls i ≡ Some a → IsNew (names_behind before) a)
      → declarations_refused t before ds ≡ []
  declarations_pass [] ds before are apart good new = ap (declarations_refused t before) are
  declarations_pass (l ∷ ls) ds before are apart good new =
      ap (declarations_refused t before) are.4
      ∙ ap (λ (fs : List NameFault). fs ++ declarations_refused t (before ++ are.0 ∷ []) are.1) (one_passes before l are.0 are.2 (good 0 l refl) (new 0 l refl))
      ∙ declarations_pass ls are.1 (before ++ are.0 ∷ []) are.3 (later_apart l ls apart) (λ i a there. good (suc i) a there) later
    where
      other : (i : ℕ) (a : PinLine) → slice_get ls i ≡ Some a → a.pin ≡ l.pin → ⊥
      other i a there same = let e : suc i ≡ 0 = apart (suc i) 0 a l there refl same in omega (arith, e)

      later : (i : ℕ) (a : PinLine) → slice_get ls i ≡ Some a → IsNew (names_behind (before ++ are.0 ∷ [])) a
      later i a there =
          subst (λ (es : List Entry). IsNew es a) (sym (behind_one before l are.0 are.2))
          (new_behind (names_behind before) a l are.2.name (good (suc i) a there).low (good 0 l refl).low (other i a there) (new (suc i) a there))

-- the names after the declarations are those of the pins
pub behind_pins : (ls : List PinLine) (ds : List Declaration) (es : List Entry) → ArePins ls ds → (more : List Entry) × ArePinEntries ls more × (fold declared es ds ≡ es ++ more)
behind_pins [] ds es are = ([], refl, ap (fold declared es) are ∙ sym (append-nil es))
behind_pins (l ∷ ls) ds es are =
    let e : Entry = pin_entry l are.2.name in
    let rest = behind_pins ls are.1 (es ++ e ∷ []) are.3 in (
      e ∷ rest.0,
      (e, rest.0, (are.2.name, refl), rest.1, refl),
      ap (fold declared es) are.4 ∙ ap (λ (xs : List Entry). fold declared xs are.1) (one_added l are.0 are.2 es) ∙ rest.2 ∙ append_assoc es (e ∷ []) rest.0,
    )
