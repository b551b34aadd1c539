-- The fuses that say a mode, one by one.
use Rattle.std.proofs.Common.{◌≡◌, ℕ, zero, suc, ◌+◌, ◌<◌, Bool, false, not, Some, List, [], ◌∷◌, ◌++◌, length, slice_get, ap, ◌∙◌, refl, arith}
use Rattle.std.proofs.lemmas.List.FromFn.{get_or-map-range_with_len}
use Rattle.pld_base.specs.Bits.{is_on}
use Rattle.pld_device.specs.declared.fuse_bit.FuseBit.{FuseBit}
use Rattle.devices.specs.Gal16V8Tables.{ac0_fuse, ac1, bit, first_ac1, mode_fuses, syn_fuse}
use Rattle.devices.specs.V8Tables.{eight}

eight_at : (set : List Bool) (i : ℕ) → i < 8 → is_on (eight set) i ≡ is_on set i
eight_at set i within = get_or-map-range_with_len (λ cell. is_on set cell) 0 8 i i false within (omega arith)

-- AC1 of a cell, in front of others
ac1_at : (fuse : ℕ) (set : List Bool) (others : List FuseBit) (i n : ℕ) → i < length set → n ≡ fuse + i → slice_get (ac1 fuse set ++ others) i ≡ Some (bit n (not (is_on set i)))
ac1_at fuse [] others i n within is = absurd (omega arith)
ac1_at fuse (on ∷ set) others zero n within is =
    let same : n ≡ fuse = omega (arith, is) in
    rw same refl
ac1_at fuse (on ∷ set) others (suc i) n within is = ac1_at (suc fuse) set others i n (omega (arith, within)) (omega (arith, is))

pub ac1_is : (control : ℕ) (syn ac0 : Bool) (set : List Bool) (i n : ℕ) → i < 8 → n ≡ first_ac1 control + i → slice_get (mode_fuses control syn ac0 (eight set)) i ≡ Some (bit n (not (is_on set i)))
ac1_is control syn ac0 set i n within is =
    ac1_at (first_ac1 control) (eight set) (bit (syn_fuse control) syn ∷ bit (ac0_fuse control) ac0 ∷ []) i n within is
    ∙ ap (λ on. Some (bit n (not on))) (eight_at set i within)
