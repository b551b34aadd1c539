-- What is tested of every device's name holds of each: the one case distinction over them, for laws that are computed.
use Rattle.std.proofs.Common.{◌≡◌, ℕ, ◌==◌, ◌≤◌, nat_lt, Bool, true, false, Option, None, Some, length, get_or, refl, sym, ap, ◌∙◌, arith, eqb-true, ltb-true}
use Rattle.std.specs.Prelude.{nat_le}
use Rattle.std.specs.List.{list_all}
use Rattle.std.proofs.lemmas.List.Sums.{AllPass-from_list_all}
use Rattle.std.proofs.lemmas.Bool.{true≢false}
use Rattle.std.proofs.lemmas.Bool.Decides.{nat_tests}
use Rattle.pld_base.specs.DeviceNames.{device_names, device_text}
use Rattle.pld_base.specs.declared.device_name.DeviceName.{DeviceName}
use Rattle.pld_base.specs.declared.device_name.DeviceName.TheVariants as device

-- where a device's name is in the list of them all
pub record IsPlaced (name : DeviceName) : Type 0 where
  pub at : ℕ
  pub within : nat_lt at (length device_names) ≡ true
  pub is : (d : DeviceName) → get_or device_names at d ≡ name

abbrev pub placed : (name : DeviceName) → IsPlaced name
placed device.P16L8 = record { at = 0; within = refl; is = λ d. refl }
placed device.P16R4 = record { at = 1; within = refl; is = λ d. refl }
placed device.P16R6 = record { at = 2; within = refl; is = λ d. refl }
placed device.P16R8 = record { at = 3; within = refl; is = λ d. refl }
placed device.GAL22V10 = record { at = 4; within = refl; is = λ d. refl }
placed device.GAL16V8C = record { at = 5; within = refl; is = λ d. refl }
placed device.GAL16V8R4 = record { at = 6; within = refl; is = λ d. refl }
placed device.GAL16V8R6 = record { at = 7; within = refl; is = λ d. refl }
placed device.GAL16V8R8 = record { at = 8; within = refl; is = λ d. refl }
placed device.P20L8 = record { at = 9; within = refl; is = λ d. refl }
placed device.P20R4 = record { at = 10; within = refl; is = λ d. refl }
placed device.P20R6 = record { at = 11; within = refl; is = λ d. refl }
placed device.P20R8 = record { at = 12; within = refl; is = λ d. refl }
placed device.P20L10 = record { at = 13; within = refl; is = λ d. refl }
placed device.P16P8 = record { at = 14; within = refl; is = λ d. refl }
placed device.P18P8 = record { at = 15; within = refl; is = λ d. refl }
placed device.GAL18V10 = record { at = 16; within = refl; is = λ d. refl }
placed device.ATF22V10C = record { at = 17; within = refl; is = λ d. refl }
placed device.GAL16V8 = record { at = 18; within = refl; is = λ d. refl }
placed device.GAL20V8 = record { at = 19; within = refl; is = λ d. refl }

pub each_device : (test : DeviceName → Bool) → list_all test device_names ≡ true → (name : DeviceName) → test name ≡ true
each_device test all name =
    let here = placed name in
    ap test (sym (here.is name)) ∙ AllPass-from_list_all test device_names all here.at name (ltb-true here.at (length device_names) here.within)

-- two names are the same, by their places
abbrev pub is_same : DeviceName → DeviceName → Bool
is_same a b = (placed a).at == (placed b).at

pub same_from_test : (a b : DeviceName) → is_same a b ≡ true → a ≡ b
same_from_test a b is =
    let same : (placed a).at ≡ (placed b).at = eqb-true (placed a).at (placed b).at is in
    sym ((placed a).is a) ∙ ap (λ (at : ℕ). get_or device_names at a) same ∙ (placed b).is a

-- the device, if there is one, is the one of this name
abbrev pub is_device : Option DeviceName → DeviceName → Bool
is_device None name = false
is_device (Some found) name = is_same found name

pub device_from_test : (found : Option DeviceName) (name : DeviceName) → is_device found name ≡ true → found ≡ Some name
device_from_test None name is = absurd (true≢false (sym is))
device_from_test (Some found) name is = ap (λ (d : DeviceName). Some d) (same_from_test found name is)

-- no name is longer than nine bytes
pub device_short : (name : DeviceName) → length (device_text name) ≤ 9
device_short name = let short = each_device (λ d. nat_le (length (device_text d)) 9) refl name in grind (arith, nat_tests)
