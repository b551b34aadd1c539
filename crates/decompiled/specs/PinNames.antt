-- The names that a source of pins and sums of products declares, and what they represent (this project's rule).
use Rattle.std.specs.Prelude.{◌≡◌, ℕ, ◌+◌, ◌<◌, false, None, Some, Option, Bool, List, [], ◌∷◌, ◌++◌, slice_get, codes}
use Rattle.decompiled.specs.Prelude.{Place, ModuleTree, Known, Read, known_after, term_named}
use Rattle.abel_tree.specs.Entries.{APin, ADeviceName, Entry, Words}
use Rattle.abel_meaning.specs.Declarations.{all_said, declared_names, entry, no_words}
use Rattle.decompiled.specs.declared.pin_line.PinLine.{PinLine}
use Rattle.decompiled.specs.declared.source.PinSource.{PinSource}
use Rattle.decompiled.specs.SourceText.{name_text}
use Rattle.decompiled.specs.SourceTrees.{attributes_in, IsSourceTree}

-- what the string of a declaration says
abbrev pub said : Option Bool → Words
said follows = all_said (attributes_in follows (record { line = 0; column = 0 }))

-- a pin's entry, somewhere
abbrev pub IsPinEntry : PinLine → Entry → Type 0
IsPinEntry l e = (p : Place) × (e ≡ entry (name_text l.pin) p (APin l.pin false) (said l.follows))

-- the entries of pins, in order
abbrev pub ArePinEntries : List PinLine → List Entry → Type 0
ArePinEntries [] es = es ≡ []
ArePinEntries (l ∷ ls) es = (e : Entry) × (more : List Entry) × IsPinEntry l e × ArePinEntries ls more × (es ≡ e ∷ more)

-- a source declares the device's name and then its pins
abbrev pub PinsAreDeclared : Type 0
PinsAreDeclared =
    (s : PinSource) (m : ModuleTree) → IsSourceTree s m
    → (p : Place) × (es : List Entry) × ArePinEntries s.pins es × (declared_names m ≡ entry (codes "d") p ADeviceName no_words ∷ es)

-- no pin is twice
abbrev pub ArePinsApart : List PinLine → Type 0
ArePinsApart ls =
    (i j : ℕ) (a b : PinLine) → slice_get ls i ≡ Some a → slice_get ls j ≡ Some b → a.pin ≡ b.pin → i ≡ j

-- after names that aren't this one, the name of the pin with number k represents the signal with number s + k
abbrev pub PinsAreKnown : Type 0
PinsAreKnown =
    (ls : List PinLine) (es : List Entry) (known : List Known) (s k : ℕ) (l : PinLine) → ArePinEntries ls es → ArePinsApart ls
    → ((i : ℕ) (a : PinLine) → slice_get ls i ≡ Some a → a.pin < 32)
    → ((more : List Known) → term_named (known ++ more) (name_text l.pin) ≡ term_named more (name_text l.pin))
    → slice_get ls k ≡ Some l → term_named (known_after known s es) (name_text l.pin) ≡ Read (s + k) None
