-- Which pairs carry complements, bit by bit.
use Rattle.std.proofs.Common.{◌≡◌, ℕ, ◌<◌, ◌≤◌, ◌^◌, length, get_or, slice_get, Some, sym, ap, ◌∙◌, arith}
use Rattle.fitter.proofs.Common.{option_map, get_or_from_slice_get, bits, is_on-bits, Carry, IsDevice, Table, cell_at, Netlist, arena, PlainNetlist, plain_netlist, plain_wanted, netlist_stores, registers_as, IsTurnMask, carries_complement, cell_wanted}
use Rattle.pld_device.specs.declared.carry.Carry.TheVariants as carry
use Rattle.fitter.proofs.WantedIds.{wanted_is}
use Rattle.fitter.proofs.Stepping.{LevelsBelow}

pub stores_is : (t : Table) (net : Netlist) (c : ℕ) → netlist_stores t (plain_netlist net) c ≡ registers_as (cell_at t c).kinds (option_map (plain_wanted (arena net.exprs)) (cell_wanted net c))
stores_is t net c = ap (registers_as (cell_at t c).kinds) (wanted_is net c)

-- what a pair carries, by its entry
pub turned_is : (t : Table) (net : PlainNetlist) (pair : ℕ) (x : Carry) → slice_get t.pairs pair ≡ Some x → carries_complement t net (get_or t.pairs pair (carry.Pin 0)) ≡ carries_complement t net x
turned_is t net pair x there = ap (carries_complement t net) (get_or_from_slice_get t.pairs pair x (carry.Pin 0) there)

pub is_mask : (t : Table) → IsDevice t → (net : PlainNetlist) (n mask : ℕ) → mask < 2 ^ 32 → length t.pairs ≤ n
    → LevelsBelow (λ v. carries_complement t net (get_or t.pairs v (carry.Pin 0))) 32 n (bits 32 mask) → IsTurnMask t net mask
is_mask t laws net n mask low all below = record {
  low = low;
  bits = λ v within. sym (is_on-bits 32 mask v (omega (arith, within, laws.sizes.columns_even, laws.sizes.columns_high))) ∙ below.each v (omega (arith, within, all));
}
