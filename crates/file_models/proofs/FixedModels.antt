-- Fuses that have the fixed levels of a model say a model of the same table.
use Rattle.std.proofs.Common.{◌≡◌, ℕ, zero, suc, ◌+◌, ◌<◌, ◌≤◌, Bool, true, false, not, List, [], length, All, get_or, map, refl, ap, ap₂, ◌∙◌, subst, arith}
use Rattle.std.specs.List.{range_with_len}
use Rattle.pld_base.specs.Bits.{is_on}
use Rattle.pld_device.specs.FixedFuses.{HasFixedLevels}
use Rattle.pld_device.specs.declared.fuse_bit.FuseBit.{FuseBit}
use Rattle.pld_device.proofs.Common.{get_or_from_slice_get}
use Rattle.devices.specs.Gal16V8Tables.{ac0_fuse, bit, first_ac1, mode_fuses, syn_fuse}
use Rattle.devices.specs.Models.{is_in_set, mode_by}
use Rattle.devices.specs.V8Tables.{V8, control_of, eight, v8_in}
use Rattle.devices.proofs.ModeFuses.{ac1_is}

-- what is past the end of a list of fuses
no_bit : FuseBit
no_bit = bit 0 false

twice : (b c : Bool) → b ≡ not c → not b ≡ c
twice b true is = ap not is
twice b false is = ap not is

-- functions that are alike on a range
map_same : (f g : ℕ → Bool) (n from : ℕ) → ((k : ℕ) → from ≤ k → k < from + n → f k ≡ g k) → map f (range_with_len from n) ≡ map g (range_with_len from n)
map_same f g zero from each = refl
map_same f g (suc n) from each =
    rw (each from (omega arith) (omega arith), map_same f g n (from + 1) (λ k low high. each k (omega (arith, low)) (omega (arith, high)))) refl

module _ (v : V8) (fuses : List Bool) where
  abbrev set_said : List Bool
  set_said = map (is_in_set (control_of v) fuses) (range_with_len 0 8)

  module _ (syn ac0 : Bool) (set : List Bool) where
    abbrev fixed : List FuseBit
    fixed = mode_fuses (control_of v) syn ac0 (eight set)

    ten : length fixed ≡ 10
    ten = refl

    module _ (has : All (λ (b : FuseBit). is_on fuses b.fuse ≡ b.level) fixed) where
      syn_is : is_on fuses (syn_fuse (control_of v)) ≡ syn
      syn_is = has 8 no_bit (omega (arith, ten))

      ac0_is : is_on fuses (ac0_fuse (control_of v)) ≡ ac0
      ac0_is = has 9 no_bit (omega (arith, ten))

      in_set : (cell : ℕ) → cell < 8 → is_in_set (control_of v) fuses cell ≡ is_on set cell
      in_set cell within =
          let n = first_ac1 (control_of v) + cell in
          let here : get_or fixed cell no_bit ≡ bit n (not (is_on set cell)) =
          get_or_from_slice_get fixed cell (bit n (not (is_on set cell))) no_bit (ac1_is (control_of v) syn ac0 set cell n within refl) in
          let said : is_on fuses n ≡ not (is_on set cell) = subst (λ (b : FuseBit). is_on fuses b.fuse ≡ b.level) here (has cell no_bit (omega (arith, within, ten))) in
          twice (is_on fuses n) (is_on set cell) said

      -- the set of a mode is the one that AC1 says
      set_is : set_said ≡ eight set
      set_is = map_same (is_in_set (control_of v) fuses) (λ cell. is_on set cell) 8 0 (λ cell low high. in_set cell (omega (arith, high)))

  pub same_mode : (syn ac0 : Bool) (set : List Bool) → HasFixedLevels (v8_in v (mode_by syn ac0 set)) fuses
      → v8_in v (mode_by (is_on fuses (syn_fuse (control_of v))) (is_on fuses (ac0_fuse (control_of v))) set_said) ≡ v8_in v (mode_by syn ac0 set)
  same_mode true true set has = ap₂ (λ syn ac0. v8_in v (mode_by syn ac0 set_said)) (syn_is true true [] has) (ac0_is true true [] has)
  same_mode true false set has =
      ap (λ s. v8_in v (mode_by (is_on fuses (syn_fuse (control_of v))) (is_on fuses (ac0_fuse (control_of v))) s)) (set_is true false set has)
      ∙ ap₂ (λ syn ac0. v8_in v (mode_by syn ac0 (eight set))) (syn_is true false set has) (ac0_is true false set has)
  same_mode false ac0 set has =
      ap (λ s. v8_in v (mode_by (is_on fuses (syn_fuse (control_of v))) (is_on fuses (ac0_fuse (control_of v))) s)) (set_is false true set has)
      ∙ ap₂ (λ syn ac0. v8_in v (mode_by syn ac0 (eight set))) (syn_is false true set has) (ac0_is false true set has)
