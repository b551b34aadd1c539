-- What holds of the names of a module of which nothing is refused (this project's rule).
use Rattle.std.specs.Prelude.{◌≡◌, ◌≢◌, ℕ, ◌==◌, true, false, Some, List, get_or, slice_get, take}
use Rattle.declared_names.specs.Prelude.{Table, Entry, entries_of, is_stored, follows_q, IsSoundKind, SoundNames, are_numbered, is_unnumbered}
use Rattle.pld_base.specs.declared.device_name.DeviceName.{DeviceName}
use Rattle.pld_device.specs.declared.flip.Flip.TheVariants.{AfterRegister}
use Rattle.abel_tree.specs.declared.names.Names.{Names}
use Rattle.abel_meaning.specs.Controls.{is_on_pin}
use Rattle.abel_meaning.specs.Designs.{no_name}

-- the names are those of a device with so many pins: each pin that has a number is one of them, nodes are below 128, and
-- a constant names earlier names alone
pub record AreDeclaredFor (name : DeviceName) (pins : ℕ) (n : Names) : Type 0 where
  pub device : n.device ≡ name
  pub kinds : (k : ℕ) (e : Entry) → slice_get (entries_of n) k ≡ Some e → is_unnumbered e.kind ≡ false
      → IsSoundKind pins (take k (entries_of n)) e.kind

-- no two names have one number
abbrev pub NumbersAreApart : List Entry → Type 0
NumbersAreApart es =
    (pin i j : ℕ) → (pin == 0) ≡ false → is_on_pin pin (get_or es i no_name).kind ≡ true → is_on_pin pin (get_or es j no_name).kind ≡ true → i ≡ j

-- no two names are one pin
abbrev pub PinsAreApart : List Entry → Type 0
PinsAreApart es =
    (pin i j : ℕ) → is_on_pin pin (get_or es i no_name).kind ≡ true → is_on_pin pin (get_or es j no_name).kind ≡ true → i ≡ j

-- on a device that has registers, none follows Q, or may, if the device can't complement after it
abbrev pub BuffersAreAllowed : Table → List Entry → Type 0
BuffersAreAllowed t es =
    (s : ℕ) → is_stored (get_or es s no_name) ≡ true → follows_q (get_or es s no_name) ≡ true → t.clock ≢ 0
    → t.flip ≡ AfterRegister

-- ---- if each pin has a number

abbrev pub NumberedNamesAreSound : Type 0
NumberedNamesAreSound =
    (name : DeviceName) (pins : ℕ) (n : Names) → AreDeclaredFor name pins n → are_numbered (entries_of n) ≡ true → SoundNames name pins n

abbrev pub NumberedPinsAreApart : Type 0
NumberedPinsAreApart = (es : List Entry) → NumbersAreApart es → are_numbered es ≡ true → PinsAreApart es
