-- A decompiled source gives each pin its number and declares no node, so it has nothing to place.
use Rattle.std.proofs.Common.{◌≡◌, ℕ, suc, ◌≤◌, Bool, false, Some, List, [], ◌∷◌, slice_get, take, refl, ap, ◌∙◌, arith, codes, ◌&&◌, if◌then◌else◌}
use Rattle.decompiler.proofs.Common.{and_right, ne_eqb, or_from, Place, IsDevice, Table, Assigned, APin, ADeviceName, Entry, ModuleTree, entry, no_words, is_unnumbered, is_buffer_by_default, names_of, with_kind, with_kinds, is_registered_node, PinLine, name_text, IsSourceTree, said, IsPinEntry, ArePinEntries, source_of, found, held}
use Rattle.abel_meaning.specs.Held.{Holds}
use Rattle.placer.specs.Signals.{is_buried_register, needs_pin, to_place, to_place_from}
use Rattle.placer.proofs.MadeModules.{itself}
use Rattle.decompiled.proofs.Declared.{declares}
use Rattle.decompiler.specs.Placed.{SourcesArePlaced}
use Rattle.decompiler.proofs.SignalPins.{pins_signal}
use Rattle.decompiler.proofs.UnrefusedNames.{names_unrefused}

module _ (t : Table) (holds : Holds) (assigned : List Assigned) where
  -- the device's name is no signal
  device_stays : (k : ℕ) (p : Place) → needs_pin t (with_kind t.flip holds assigned k (entry (codes "d") p ADeviceName no_words)) ≡ false
  device_stays k p = and_right (is_buffer_by_default t.flip) false refl

  -- a pin with a number stays if it is
  pin_stays : (k : ℕ) (l : PinLine) (e : Entry) → IsPinEntry l e → 1 ≤ l.pin → needs_pin t (with_kind t.flip holds assigned k e) ≡ false
  pin_stays k l e is low =
      let x : Entry = with_kind t.flip holds assigned k (entry (name_text l.pin) is.0 (APin l.pin false) (said l.follows)) in
      ap (λ (y : Entry). needs_pin t (with_kind t.flip holds assigned k y)) is.1
      ∙ or_from (is_unnumbered x.kind) (is_buried_register t x) (ne_eqb l.pin 0 (λ none. omega (arith, none, low)))
      (and_right (is_buffer_by_default t.flip) (is_registered_node x && x.assigned) refl)

  pins_stay : (ls : List PinLine) (es : List Entry) (s k : ℕ) → ArePinEntries ls es → ((i : ℕ) (a : PinLine) → slice_get ls i ≡ Some a → 1 ≤ a.pin)
      → to_place_from t s (with_kinds t.flip holds assigned k es) ≡ []
  pins_stay [] es s k are low = ap (λ (xs : List Entry). to_place_from t s (with_kinds t.flip holds assigned k xs)) are
  pins_stay (l ∷ ls) es s k are low =
      ap (λ (xs : List Entry). to_place_from t s (with_kinds t.flip holds assigned k xs)) are.4
      ∙ ap (λ (b : Bool). if b then s ∷ to_place_from t (suc s) (with_kinds t.flip holds assigned (suc k) are.1) else to_place_from t (suc s) (with_kinds t.flip holds assigned (suc k) are.1))
      (pin_stays k l are.0 are.2 (low 0 l refl))
      ∙ pins_stay ls are.1 (suc s) (suc k) are.3 (λ i a there. low (suc i) a there)

module _ (t : Table) (fuses : List Bool) (m : ModuleTree) (laws : IsDevice t) (is : IsSourceTree (source_of t fuses) m) where
  abbrev holds : Holds
  holds = held t fuses laws m is

  abbrev assigned_by : List Assigned
  assigned_by = found t fuses laws m is

  nothing : to_place t (names_of t m) ≡ []
  nothing =
      let named = declares (source_of t fuses) m is in
      ap (λ (xs : List Entry). to_place_from t 0 (with_kinds t.flip holds assigned_by 0 xs)) named.3
      ∙ ap (λ (b : Bool). if b then 0 ∷ to_place_from t 1 (with_kinds t.flip holds assigned_by 1 named.1) else to_place_from t 1 (with_kinds t.flip holds assigned_by 1 named.1))
      (device_stays t holds assigned_by 0 named.0)
      ∙ pins_stay t holds assigned_by (source_of t fuses).pins named.1 1 1 named.2 (λ i a there. (pins_signal t fuses laws i a there).low)

pub sources_placed : SourcesArePlaced
sources_placed t fuses m laws is = itself t m (names_unrefused t fuses m laws is) (ap (take 32) (nothing t fuses m laws is))
