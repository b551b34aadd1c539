-- The pins that are shown as driven, cell by cell.
use Rattle.std.proofs.Common.{◌≡◌, ◌≢◌, ℕ, ◌+◌, ◌<◌, Bool, false, List, length, set, sym, ◌∙◌, subst, arith, inl, inr, get_or-set_same, get_or-set_other}
use Rattle.pld_machine.proofs.Common.{cases_eq, bits, is_on, Levels, Lookups, HasPins, is_on-zero}

-- the pins of the cells below i show whether these are enabled, and the others show nothing
pub record ShownBelow (m : Lookups) (at : Levels) (driven : List Bool) (i : ℕ) : Type 0 where
  pub cells : (c : ℕ) → c < i → is_on driven (m.pin c) ≡ m.enable at c
  pub others : (k : ℕ) → k < 32 → ((c : ℕ) → c < i → m.pin c ≢ k) → is_on driven k ≡ false

pub shown_none : (m : Lookups) (at : Levels) → ShownBelow m at (bits 32 0) 0
shown_none m at = record { cells = λ c low. absurd (omega arith); others = λ k low none. is_on-zero 32 k low }

pub shown_more : (m : Lookups) (at : Levels) (driven : List Bool) (i : ℕ) (on : Bool) → HasPins m → length driven ≡ 32 → i < m.cells → on ≡ m.enable at i → ShownBelow m at driven i → ShownBelow m at (set driven (m.pin i) on) (i + 1)
shown_more m at driven i on pins long within is below = record { cells = cells; others = others }
  where
    cells : (c : ℕ) → c < i + 1 → is_on (set driven (m.pin i) on) (m.pin c) ≡ m.enable at c
    cells c low =
        elim (cases_eq c i) [
          | inl here ↦ rw here (get_or-set_same driven (m.pin i) on false (subst (λ l. m.pin i < l) (sym long) (pins.last i within)) ∙ is)
          | inr other ↦ get_or-set_other driven (m.pin i) (m.pin c) on false (λ e. other (pins.apart c i (omega arith) within e)) ∙ below.cells c (omega arith)
        ]

    others : (k : ℕ) → k < 32 → ((c : ℕ) → c < i + 1 → m.pin c ≢ k) → is_on (set driven (m.pin i) on) k ≡ false
    others k low none = get_or-set_other driven (m.pin i) k on false (λ e. none i (omega arith) (sym e)) ∙ below.others k low (λ c less. none c (omega arith))
