-- The declarations of a source declare its pins.
use Rattle.std.proofs.Common.{◌≡◌, Bool, true, false, Option, None, Some, List, [], ◌∷◌, ◌++◌, refl, sym, ap, ◌∙◌, append_assoc, append-nil, codes, fold}
use Rattle.decompiled.proofs.Common.{Place, APin, ADeviceName, Entry, Words, Declaration, all_said, declared, declared_names, entry, no_words, PinLine, name_text, attributes_in, IsPinLine, ArePins, said, ArePinEntries, PinsAreDeclared}

-- the place of a string says nothing
said_anywhere : (follows : Option Bool) (p : Place) → all_said (attributes_in follows p) ≡ said follows
said_anywhere None p = refl
said_anywhere (Some true) p = refl
said_anywhere (Some false) p = refl

abbrev pin_entry : PinLine → Place → Entry
pin_entry l p = entry (name_text l.pin) p (APin l.pin false) (said l.follows)

one_declared : (es : List Entry) (l : PinLine) (d : Declaration) (is : IsPinLine l d) → declared es d ≡ es ++ pin_entry l is.name ∷ []
one_declared es l d is = ap (declared es) is.is ∙ ap (λ (w : Words). es ++ entry (name_text l.pin) is.name (APin l.pin false) w ∷ []) (said_anywhere l.follows is.attributes)

pins_declared : (ls : List PinLine) (ds : List Declaration) (es : List Entry) → ArePins ls ds → (more : List Entry) × ArePinEntries ls more × (fold declared es ds ≡ es ++ more)
pins_declared [] ds es are = ([], refl, ap (fold declared es) are ∙ sym (append-nil es))
pins_declared (l ∷ ls) ds es are =
    let e : Entry = pin_entry l are.2.name in
    let rest = pins_declared ls are.1 (es ++ e ∷ []) are.3 in (
      e ∷ rest.0,
      (e, rest.0, (are.2.name, refl), rest.1, refl),
      ap (fold declared es) are.4 ∙ ap (λ (xs : List Entry). fold declared xs are.1) (one_declared es l are.0 are.2) ∙ rest.2 ∙ append_assoc es (e ∷ []) rest.0,
    )

pub declares : PinsAreDeclared
declares c m is =
    let first : Entry = entry (codes "d") is.device ADeviceName no_words in
    let rest = pins_declared c.pins is.pins (first ∷ []) is.are_pins in (
      is.device,
      rest.0,
      rest.1,
      ap declared_names is.is ∙ ap (λ (ds : List Declaration). fold declared (first ∷ []) ds) (append-nil is.pins) ∙ rest.2,
    )
