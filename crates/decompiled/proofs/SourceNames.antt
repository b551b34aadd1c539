-- The names of a decompiled source: the device's, and one for each pin that is declared.
use Rattle.std.proofs.Common.{◌≡◌, ℕ, zero, suc, ◌+◌, ◌⊎◌, inl, inr, Bool, false, Option, Some, None, List, [], ◌∷◌, ◌++◌, slice_get, get_or, refl, sym, ap, subst, ◌∙◌, arith, codes}
use Rattle.decompiled.proofs.Common.{option_map, get_or_from_slice_get, Place, Flip, IsDevice, Table, Assigned, named_of, sections_assign, APin, ADeviceName, Entry, is_stored, ModuleTree, declared_names, entry, no_words, design_of, name_at, no_name, Holds, holds_of, names_of, with_kind, with_kinds, Known, Read, known_after, known_of, term_meant, term_named, PinLine, name_text, IsSourceTree, said, ArePinEntries, pin_line, pins_of, source_of, place_of, signal_of}
use Rattle.abel_meaning.specs.Terms.{Number}
use Rattle.decompiled.proofs.Declared.{declares}
use Rattle.decompiled.proofs.KnownPins.{knows}
use Rattle.decompiled.proofs.PinPlaces.{same_some}
use Rattle.decompiled.proofs.SourcePins.{IsDeclared, declared_at, line_there, pins_low, pins_apart}

-- kinds change neither names nor what they represent
known_kinded : (flip : Flip) (held : Holds) (found : List Assigned) (k s : ℕ) (known : List Known) (xs : List Entry)
    → known_after known s (with_kinds flip held found k xs) ≡ known_after known s xs
known_kinded flip held found k s known [] = refl
known_kinded flip held found k s known (x ∷ xs) = known_kinded flip held found (suc k) (suc s) (known ++ record { name = x.name; term = term_meant known s x.kind } ∷ []) xs

-- a name with its kind, by its number
kinded_at : (flip : Flip) (held : Holds) (found : List Assigned) (k : ℕ) (xs : List Entry) (i : ℕ)
    → slice_get (with_kinds flip held found k xs) i ≡ option_map (with_kind flip held found (k + i)) (slice_get xs i)
kinded_at flip held found k [] i = refl
kinded_at flip held found k (x ∷ xs) zero = ap (λ (n : ℕ). Some (with_kind flip held found n x)) (omega arith)
kinded_at flip held found k (x ∷ xs) (suc i) =
    kinded_at flip held found (suc k) xs i ∙ ap (λ (n : ℕ). option_map (with_kind flip held found n) (slice_get xs i)) (omega arith)

get_or_none : {A : Type 0} (xs : List A) (i : ℕ) (d : A) → slice_get xs i ≡ None → get_or xs i d ≡ d
get_or_none [] i d none = refl
get_or_none (x ∷ xs) zero d none = absurd (some_none none)
  where
    some_none : Some x ≡ None → ⊥
    some_none e = cc
get_or_none (x ∷ xs) (suc i) d none = get_or_none xs i d none

-- the entry of a pin, by its number
pub record IsEntryAt (l : PinLine) (es : List Entry) (k : ℕ) : Type 0 where
  pub place : Place
  pub there : slice_get es k ≡ Some (entry (name_text l.pin) place (APin l.pin false) (said l.follows))

entry_at : (ls : List PinLine) (es : List Entry) (k : ℕ) (l : PinLine) → ArePinEntries ls es → slice_get ls k ≡ Some l → IsEntryAt l es k
entry_at [] es k l are there = absurd cc
entry_at (x ∷ xs) es zero l are there =
    let same : x ≡ l = same_some x l there in
    subst (λ (y : PinLine). IsEntryAt y es 0) same (record { place = are.2.0; there = ap (λ (ys : List Entry). slice_get ys 0) are.4 ∙ ap Some are.2.1 })
entry_at (x ∷ xs) es (suc k) l are there =
    let later = entry_at xs are.1 k l are.3 there in
    record { place = later.place; there = ap (λ (ys : List Entry). slice_get ys (suc k)) are.4 ∙ later.there }

-- the pin of an entry, by its number
pub record IsEntryOf (ls : List PinLine) (k : ℕ) (e : Entry) : Type 0 where
  pub line : PinLine
  pub there : slice_get ls k ≡ Some line
  pub kind : e.kind ≡ APin line.pin false

entry_of : (ls : List PinLine) (es : List Entry) (k : ℕ) (e : Entry) → ArePinEntries ls es → slice_get es k ≡ Some e → IsEntryOf ls k e
entry_of [] es k e are there = absurd (none_there (sym (ap (λ (xs : List Entry). slice_get xs k) are) ∙ there))
  where
    none_there : slice_get [] k ≡ Some e → ⊥
    none_there found = cc
entry_of (l ∷ ls) es zero e are there =
    let same : are.0 ≡ e = same_some are.0 e (sym (ap (λ (xs : List Entry). slice_get xs 0) are.4) ∙ there) in
    record { line = l; there = refl; kind = ap (λ (x : Entry). x.kind) (sym same) ∙ ap (λ (x : Entry). x.kind) are.2.1 }
entry_of (l ∷ ls) es (suc k) e are there =
    let later = entry_of ls are.1 k e are.3 (sym (ap (λ (xs : List Entry). slice_get xs (suc k)) are.4) ∙ there) in
    record { line = later.line; there = later.there; kind = later.kind }

module _ (t : Table) (fuses : List Bool) (laws : IsDevice t) (m : ModuleTree) (is : IsSourceTree (source_of t fuses) m) where
  abbrev pub held : Holds
  held = holds_of (declared_names m) m.sections

  abbrev pub found : List Assigned
  found = sections_assign (named_of (declared_names m)) m.sections

  abbrev pub entries : List Entry
  entries = (declares (source_of t fuses) m is).1

  abbrev device_entry : Entry
  device_entry = entry (codes "d") (declares (source_of t fuses) m is).0 ADeviceName no_words

  names_are : declared_names m ≡ device_entry ∷ entries
  names_are = (declares (source_of t fuses) m is).3

  -- ---- what names represent

  pub known_is : (pin : ℕ) → IsDeclared t fuses laws pin → term_named (design_of t m).context.known (name_text pin) ≡ Read (signal_of t fuses pin) None
  known_is pin dec =
      ap (λ (ks : List Known). term_named ks (name_text pin)) (known_kinded t.flip held found 0 0 [] (declared_names m))
      ∙ ap (λ (xs : List Entry). term_named (known_of xs) (name_text pin)) names_are
      ∙ knows (source_of t fuses).pins entries (record { name = codes "d"; term = Number 0 } ∷ []) 1 (place_of (pins_of t fuses) pin) (pin_line t fuses pin)
      (declares (source_of t fuses) m is).2 (pins_apart t fuses laws) (pins_low t fuses laws) (λ more. refl) (line_there t fuses laws pin dec)
      ∙ ap (λ (i : ℕ). Read i None) (omega arith)

  -- ---- entries

  -- the name of a pin
  pub record IsPinName (pin : ℕ) : Type 0 where
    pub place : Place
    pub there : slice_get (names_of t m) (signal_of t fuses pin)
        ≡ Some (with_kind t.flip held found (signal_of t fuses pin) (entry (name_text pin) place (APin pin false) (said (pin_line t fuses pin).follows)))

  pub pin_named : (pin : ℕ) → IsDeclared t fuses laws pin → IsPinName pin
  pin_named pin dec =
      let k : ℕ = place_of (pins_of t fuses) pin in
      let at = entry_at (source_of t fuses).pins entries k (pin_line t fuses pin) (declares (source_of t fuses) m is).2 (line_there t fuses laws pin dec) in
      record {
        place = at.place;
        there = ap (λ (xs : List Entry). slice_get (with_kinds t.flip held found 0 xs) (suc k)) names_are
            ∙ kinded_at t.flip held found 0 (device_entry ∷ entries) (suc k)
            ∙ ap (λ (n : ℕ). option_map (with_kind t.flip held found n) (slice_get entries k)) (omega arith)
            ∙ ap (option_map (with_kind t.flip held found (suc k))) at.there;
      }

  pub name_is : (pin : ℕ) → (dec : IsDeclared t fuses laws pin)
      → name_at (design_of t m).context (signal_of t fuses pin)
      ≡ with_kind t.flip held found (signal_of t fuses pin) (entry (name_text pin) (pin_named pin dec).place (APin pin false) (said (pin_line t fuses pin).follows))
  name_is pin dec = get_or_from_slice_get (names_of t m) (signal_of t fuses pin) _ no_name (pin_named pin dec).there

  -- ---- all names

  -- the device's name, or one past the last; or that of a pin
  abbrev pub IsNameAt : ℕ → Type 0
  IsNameAt j =
      (((get_or (names_of t m) j no_name).kind ≡ ADeviceName) × (is_stored (get_or (names_of t m) j no_name) ≡ false))
      ⊎ ((k : ℕ) × (pin : ℕ) × (j ≡ suc k) × (slice_get (pins_of t fuses) k ≡ Some pin) × ((get_or (names_of t m) j no_name).kind ≡ APin pin false))

  abbrev kinded : ℕ → Entry → Entry
  kinded s x = with_kind t.flip held found s x

  names_kinded : names_of t m ≡ kinded 0 device_entry ∷ with_kinds t.flip held found 1 entries
  names_kinded = ap (with_kinds t.flip held found 0) names_are

  pub names_at : (j : ℕ) → IsNameAt j
  names_at zero = inl (
    ap (λ (xs : List Entry). (get_or xs 0 no_name).kind) names_kinded,
    ap (λ (xs : List Entry). is_stored (get_or xs 0 no_name)) names_kinded,
  )
  names_at (suc k) = by_entry (slice_get entries k) refl
    where
      there : slice_get (names_of t m) (suc k) ≡ option_map (kinded (1 + k)) (slice_get entries k)
      there = ap (λ (xs : List Entry). slice_get xs (suc k)) names_kinded ∙ kinded_at t.flip held found 1 entries k

      by_entry : (o : Option Entry) → slice_get entries k ≡ o → IsNameAt (suc k)
      by_entry None e =
          let past : get_or (names_of t m) (suc k) no_name ≡ no_name = get_or_none (names_of t m) (suc k) no_name (there ∙ ap (option_map (kinded (1 + k))) e) in
          inl (ap (λ (x : Entry). x.kind) past, ap is_stored past)
      by_entry (Some x) e =
          let of = entry_of (source_of t fuses).pins entries k x (declares (source_of t fuses) m is).2 e in
          let at = declared_at t fuses laws k of.line of.there in
          let here : get_or (names_of t m) (suc k) no_name ≡ kinded (1 + k) x = get_or_from_slice_get (names_of t m) (suc k) (kinded (1 + k) x) no_name (there ∙ ap (option_map (kinded (1 + k))) e) in
          inr (k, at.pin, refl, at.there, ap (λ (y : Entry). y.kind) here ∙ of.kind ∙ ap (λ (l : PinLine). APin l.pin false) at.is)
