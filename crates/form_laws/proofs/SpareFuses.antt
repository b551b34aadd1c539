-- The last fuse of an ATF22V10C is read by no row and no cell.
use Rattle.std.proofs.Common.{◌≡◌, ℕ, zero, suc, ◌+◌, ◌<◌, nat_lt, Bool, true, false, List, [], ◌∷◌, ◌++◌, length, Option, Some, None, refl, ap, arith}
use Rattle.std.proofs.lemmas.Bool.Decides.{nat_tests}
use Rattle.std.proofs.lemmas.List.{get_or-take, length-append, length-take}
use Rattle.devices.specs.Atf22V10CTable.{atf22v10c}
use Rattle.devices.specs.DeviceLaws.{table_sound}
use Rattle.devices.specs.Gal22V10Table.{gal22v10}
use Rattle.pld_base.specs.Bits.{is_on, same_level}
use Rattle.pld_base.specs.declared.device_name.DeviceName.TheVariants as device
use Rattle.pld_device.specs.Macrocells.{device_logic}
use Rattle.pld_device.specs.Registers.{says}
use Rattle.pld_device.specs.Table.{inverted_at, registered_at}
use Rattle.pld_device.specs.declared.fuse_bit.FuseBit.{FuseBit}
use Rattle.form_laws.proofs.IdleFuses.{passes_at}
use Rattle.form_laws.proofs.SameLogic.{same_logic}
use Rattle.fuse_forms.specs.InForm.{with_spare, without_spare}

-- ---- one fuse more

zero_more : (fuses : List Bool) (k : ℕ) → is_on (fuses ++ false ∷ []) k ≡ is_on fuses k
zero_more [] zero = refl
zero_more [] (suc k) = refl
zero_more (level ∷ levels) zero = refl
zero_more (level ∷ levels) (suc k) = zero_more levels k

says_more : (fuses : List Bool) (bit : Option FuseBit) → says (fuses ++ false ∷ []) bit ≡ says fuses bit
says_more fuses None = refl
says_more fuses (Some bit) = ap (same_level bit.level) (zero_more fuses bit.fuse)

more_logic : (fuses : List Bool) → length fuses ≡ 5892 → device_logic gal22v10 (fuses ++ false ∷ []) ≡ device_logic gal22v10 fuses
more_logic fuses size =
    same_logic gal22v10 (table_sound device.GAL22V10) (omega arith) (fuses ++ false ∷ []) fuses (record {
      long_a = omega (arith, length-append fuses (false ∷ []), size);
      long_b = omega (arith, size);
      array = λ k low. zero_more fuses k;
      inverted = λ c. says_more fuses (inverted_at gal22v10 c);
      registered = λ c. says_more fuses (registered_at gal22v10 c);
      switches = λ row. refl;
    })

pub longer_behaves : (fuses : List Bool) → length fuses ≡ 5892 → device_logic atf22v10c (with_spare fuses) ≡ device_logic gal22v10 fuses
longer_behaves fuses size = rw size (more_logic fuses size)

-- ---- one fuse less

abbrev is_low : Option FuseBit → Bool
is_low None = true
is_low (Some bit) = nat_lt bit.fuse 5892

low_same : (fuses : List Bool) (k : ℕ) → k < 5892 → is_on (without_spare fuses) k ≡ is_on fuses k
low_same fuses k low = rw get_or-take refl

says_less : (fuses : List Bool) (bit : Option FuseBit) → is_low bit ≡ true → says (without_spare fuses) bit ≡ says fuses bit
says_less fuses None is = refl
says_less fuses (Some bit) is = ap (same_level bit.level) (low_same fuses bit.fuse (grind (arith, nat_tests)))

pub shorter_behaves : (fuses : List Bool) → length fuses ≡ 5893 → device_logic gal22v10 (without_spare fuses) ≡ device_logic atf22v10c fuses
shorter_behaves fuses size =
    same_logic gal22v10 (table_sound device.GAL22V10) (omega arith) (without_spare fuses) fuses (record {
      long_a = omega (arith, length-take 5892 fuses, size);
      long_b = omega (arith, size);
      array = λ k low. low_same fuses k (omega (arith, low));
      inverted = λ c. says_less fuses (inverted_at gal22v10 c) (passes_at is_low gal22v10.inverted c None refl refl);
      registered = λ c. says_less fuses (registered_at gal22v10 c) (passes_at is_low gal22v10.registered c None refl refl);
      switches = λ row. refl;
    })
