-- Nothing is refused of the names of a decompiled source.
use Rattle.std.proofs.Common.{◌≡◌, ℕ, inl, inr, Bool, true, None, Some, List, [], ◌∷◌, ◌++◌, slice_get, refl, sym, ap, ◌∙◌, append-nil, codes}
use Rattle.decompiler.proofs.Common.{AllByRecursion, cases_Bool, IsDevice, Table, device_text, Assigned, named_of, sections_assign, ADeviceName, Entry, is_value, names_any, Declaration, ADevice, Equations, ModuleTree, list_uses, entry, no_words, NameFault, all_buffered, always_inverts, buffers_refused, module_buffers_refused, name_refusals, names_once, read_refusals, sections_refused, names_behind, declarations_refused, uses_refused, PinLiteral, PinLine, SumLine, name_text, word, IsSourceTree, lines_of, pin_line, source_of, each_weaker, IsDeclared, IsDeclaredLine, IsDeclaredLiteral, declared_at, line_there, lines_declared, pins_apart, pins_low}
use Rattle.decompiler.proofs.SignalPins.{pins_signal}
use Rattle.decompiler.specs.Names.{NamesAreUnrefused}
use Rattle.decompiler.proofs.NewPins.{IsGoodPin, IsNew, behind_pins, declarations_pass}
use Rattle.decompiler.proofs.UsedPins.{IsValueLine, lines_pass, pins_known}
use Rattle.decompiler.proofs.Inverted.{none_buffered, pins_inverted}

module _ (t : Table) (fuses : List Bool) (laws : IsDevice t) (m : ModuleTree) (is : IsSourceTree (source_of t fuses) m) where
  abbrev device : Declaration
  device = ADevice (word (codes "d") is.device) (word (codes "'" ++ device_text t.name ++ codes "'") is.text)

  abbrev first : Entry
  first = entry (codes "d") is.device ADeviceName no_words

  abbrev written : ModuleTree
  written = record {
    place = is.place;
    name = word (codes "chip") is.name;
    title = None;
    options = [];
    decls = device ∷ is.pins;
    sections = Equations is.lines ∷ [];
  }

  -- ---- declarations

  good : (i : ℕ) (a : PinLine) → slice_get (source_of t fuses).pins i ≡ Some a → IsGoodPin t a
  good i a there = record { signal = pins_signal t fuses laws i a there; low = pins_low t fuses laws i a there }

  -- a pin's name is not the device's
  new : (i : ℕ) (a : PinLine) → slice_get (source_of t fuses).pins i ≡ Some a → IsNew (names_behind (device ∷ [])) a
  new i a there = record { free = refl; unknown = refl }

  declarations_unrefused : declarations_refused t [] (device ∷ is.pins) ≡ []
  declarations_unrefused = declarations_pass t (source_of t fuses).pins is.pins (device ∷ []) is.are_pins (pins_apart t fuses laws) good new

  -- ---- uses

  abbrev entries : List Entry
  entries = (behind_pins (source_of t fuses).pins is.pins (first ∷ []) is.are_pins).0

  names_are : names_behind (device ∷ is.pins) ≡ first ∷ entries
  names_are = (behind_pins (source_of t fuses).pins is.pins (first ∷ []) is.are_pins).2

  pin_known : (pin : ℕ) → IsDeclared t fuses laws pin → names_any is_value (names_behind (device ∷ is.pins)) (name_text pin) ≡ true
  pin_known pin dec =
      ap (λ (es : List Entry). names_any is_value es (name_text pin)) names_are
      ∙ pins_known (source_of t fuses).pins entries _ (pin_line t fuses pin) (behind_pins (source_of t fuses).pins is.pins (first ∷ []) is.are_pins).1 (line_there t fuses laws pin dec)

  line_known : (l : SumLine) → IsDeclaredLine t fuses laws l → IsValueLine (names_behind (device ∷ is.pins)) l
  line_known l of = (
    pin_known l.pin of.pin,
    each_weaker (AllByRecursion (IsDeclaredLiteral t fuses laws)) (AllByRecursion (λ (k : PinLiteral). names_any is_value (names_behind (device ∷ is.pins)) (name_text k.pin) ≡ true))
        (λ p all. each_weaker (IsDeclaredLiteral t fuses laws) (λ (k : PinLiteral). names_any is_value (names_behind (device ∷ is.pins)) (name_text k.pin) ≡ true) (λ k dec. pin_known k.pin dec.1) p all)
        l.products of.literals,
  )

  uses_unrefused : uses_refused (names_behind (device ∷ is.pins)) (list_uses is.lines) ≡ []
  uses_unrefused =
      lines_pass (names_behind (device ∷ is.pins)) (lines_of t fuses) is.lines is.are_lines
      (each_weaker (IsDeclaredLine t fuses laws) (IsValueLine (names_behind (device ∷ is.pins))) line_known (lines_of t fuses) (lines_declared t fuses laws))

  read_unrefused : read_refusals t written ≡ []
  read_unrefused =
      ap (λ (fs : List NameFault). fs ++ sections_refused t (device ∷ is.pins) (Equations is.lines ∷ [])) declarations_unrefused
      ∙ append-nil (uses_refused (names_behind (device ∷ is.pins)) (list_uses is.lines))
      ∙ uses_unrefused

  -- ---- registers that the device can't buffer

  other : always_inverts t ≡ true → (i : ℕ) (a : PinLine) → slice_get (source_of t fuses).pins i ≡ Some a → a.follows ≡ Some true → ⊥
  other always i a there equals =
      let at = declared_at t fuses laws i a there in
      pins_inverted t fuses always at.pin (ap (λ (l : PinLine). l.follows) (sym at.is) ∙ equals)

  buffers_unrefused : module_buffers_refused t written ≡ []
  buffers_unrefused = elim (cases_Bool (always_inverts t)) [
    | inl always ↦ rw always (
        ap (λ (ds : List Declaration). buffers_refused assigned (names_once written) (all_buffered [] ds)) (append-nil (device ∷ is.pins))
        ∙ ap (buffers_refused assigned (names_once written)) (none_buffered (source_of t fuses).pins is.pins (device ∷ []) is.are_pins (other always))
        )
    | inr never ↦ rw never refl
  ]
    where
      assigned : List Assigned
      assigned = sections_assign (named_of (names_once written)) written.sections

  pub unrefused : name_refusals t m ≡ []
  unrefused =
      ap (name_refusals t) is.is
      ∙ ap (λ (fs : List NameFault). fs ++ module_buffers_refused t written) read_unrefused
      ∙ buffers_unrefused

pub names_unrefused : NamesAreUnrefused
names_unrefused t fuses m laws is = unrefused t fuses laws m is
