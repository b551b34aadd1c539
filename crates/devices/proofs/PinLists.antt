-- A pin in a list of pins, and one that is in none.
use Rattle.std.proofs.Common.{◌≡◌, ◌≢◌, ◌↔◌, ℕ, zero, suc, List, [], ◌∷◌, Option, Some, None, slice_get}

-- a pin that is found at a place
pub found_at : (pins : List ℕ) (i pin : ℕ) → slice_get pins i ≡ Some pin → ◌≡◌ {A = Option ℕ} (Some i) None ↔ ((k : ℕ) → slice_get pins k ≢ Some pin)
found_at pins i pin found = (λ e. absurd (cc), λ none. absurd (none i found))

-- the pin isn't one of the list
abbrev pub IsNone : List ℕ → ℕ → Type 0
IsNone [] pin = Unit {0}
IsNone (first ∷ pins) pin = (first ≢ pin) × IsNone pins pin

nowhere : (pins : List ℕ) (pin : ℕ) → IsNone pins pin → (k : ℕ) → slice_get pins k ≢ Some pin
nowhere [] pin none k = λ e. cc
nowhere (first ∷ pins) pin none zero = λ e. absurd (none.0 (cc))
nowhere (first ∷ pins) pin none (suc k) = nowhere pins pin none.1 k

pub not_found : (pins : List ℕ) (pin : ℕ) → IsNone pins pin → ◌≡◌ {A = Option ℕ} None None ↔ ((k : ℕ) → slice_get pins k ≢ Some pin)
not_found pins pin none = (λ e. nowhere pins pin none, λ absent. (λ i. None))
