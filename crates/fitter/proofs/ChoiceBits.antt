-- Which pairs carry a cell that stores the complement, bit by bit.
use Rattle.std.proofs.Common.{◌≡◌, ℕ, ◌<◌, ◌≤◌, ◌^◌, List, length, get_or, slice_get, Some, sym, ap, ◌∙◌, arith}
use Rattle.fitter.proofs.Common.{get_or_from_slice_get, bits, is_on-bits, Carry, IsDevice, Table, Netlist, CellForm, IsChoiceMask, carries_choice}
use Rattle.pld_device.specs.declared.carry.Carry.TheVariants as carry
use Rattle.fitter.proofs.Stepping.{LevelsBelow}

-- what a pair carries, by its entry
pub choice_is : (t : Table) (net : Netlist) (forms : List CellForm) (pair : ℕ) (x : Carry) → slice_get t.pairs pair ≡ Some x
    → carries_choice net forms (get_or t.pairs pair (carry.Pin 0)) ≡ carries_choice net forms x
choice_is t net forms pair x there = ap (carries_choice net forms) (get_or_from_slice_get t.pairs pair x (carry.Pin 0) there)

pub is_choice_mask : (t : Table) → IsDevice t → (net : Netlist) (forms : List CellForm) (n mask : ℕ) → mask < 2 ^ 32 → length t.pairs ≤ n
    → LevelsBelow (λ v. carries_choice net forms (get_or t.pairs v (carry.Pin 0))) 32 n (bits 32 mask) → IsChoiceMask t net forms mask
is_choice_mask t laws net forms n mask low all below = record {
  low = low;
  bits = λ v within. sym (is_on-bits 32 mask v (omega (arith, within, laws.sizes.columns_even, laws.sizes.columns_high))) ∙ below.each v (omega (arith, within, all));
}
