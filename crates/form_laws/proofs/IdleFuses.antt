-- The fuses of a signature are read by no row and no cell.
use Rattle.std.proofs.Common.{◌≡◌, ℕ, zero, suc, ◌+◌, ◌-◌, ◌*◌, ◌<◌, ◌≤◌, nat_lt, nat_le, ◌&&◌, ◌||◌, Bool, true, false, List, [], ◌∷◌, length, get_or, slice_get, Option, Some, None, refl, ap, subst, arith}
use Rattle.std.proofs.lemmas.Bool.{and_parts}
use Rattle.std.proofs.lemmas.Bool.Decides.{nat_tests}
use Rattle.std.specs.List.{list_all}
use Rattle.devices.specs.Devices.{table_in}
use Rattle.devices.specs.Models.{mode_by, model_sound, table_at}
use Rattle.devices.specs.V8Tables.{Mode}
use Rattle.pld_base.specs.Bits.{is_on, same_level}
use Rattle.pld_base.specs.declared.device_name.DeviceName.{DeviceName}
use Rattle.pld_base.specs.declared.device_name.DeviceName.TheVariants as device
use Rattle.pld_base.specs.declared.model.Model.{Model}
use Rattle.pld_device.specs.Laws.{IsDevice}
use Rattle.pld_device.specs.Macrocells.{device_logic}
use Rattle.pld_device.specs.Registers.{says}
use Rattle.pld_device.specs.Rows.{switched_by}
use Rattle.pld_device.specs.Table.{Table, inverted_at, registered_at}
use Rattle.pld_device.specs.declared.fuse_bit.FuseBit.{FuseBit}
use Rattle.form_laws.proofs.SameLogic.{same_logic}
use Rattle.fuse_forms.specs.InForm.{signature_of}
use Rattle.fuse_forms.specs.Signature.{signed, signed_from}

-- ---- outside of the signature the levels stay

-- the fuse is none of the signature
abbrev pub is_outside : (first fuse : ℕ) → Bool
is_outside first fuse = nat_lt fuse first || nat_le (first + 64) fuse

outside : (first fuse : ℕ) → is_outside first fuse ≡ true → (nat_le first fuse && nat_lt (fuse - first) 64) ≡ false
outside first fuse is = grind (arith, nat_tests)

below_first : (first fuse : ℕ) → fuse < first → is_outside first fuse ≡ true
below_first first fuse low = grind (arith, nat_tests)

stays_from : (text : List ℕ) (first fuse : ℕ) (levels : List Bool) (k : ℕ) → is_outside first (fuse + k) ≡ true → is_on (signed_from fuse text first levels) k ≡ is_on levels k
stays_from text first fuse [] k is = refl
stays_from text first fuse (level ∷ levels) zero is =
    let same : fuse + 0 ≡ fuse = omega arith in
    let at : is_outside first fuse ≡ true = subst (λ (n : ℕ). is_outside first n ≡ true) same is in
    rw (outside first fuse at) refl
stays_from text first fuse (level ∷ levels) (suc k) is =
    let same : fuse + suc k ≡ suc fuse + k = omega arith in
    stays_from text first (suc fuse) levels k (subst (λ (n : ℕ). is_outside first n ≡ true) same is)

stays : (text : List ℕ) (first : ℕ) (fuses : List Bool) (k : ℕ) → is_outside first k ≡ true → is_on (signed text first fuses) k ≡ is_on fuses k
stays text first fuses k is = stays_from text first 0 fuses k (subst (λ (n : ℕ). is_outside first n ≡ true) (let same : k ≡ 0 + k = omega arith in same) is)

length_from : (text : List ℕ) (first fuse : ℕ) (levels : List Bool) → length (signed_from fuse text first levels) ≡ length levels
length_from text first fuse [] = refl
length_from text first fuse (level ∷ levels) = ap suc (length_from text first (suc fuse) levels)

-- ---- a table whose control fuses are all outside

abbrev pub is_bit_outside : ℕ → Option FuseBit → Bool
is_bit_outside first None = true
is_bit_outside first (Some bit) = is_outside first bit.fuse

-- the signature is past the array, and no control fuse is in it
abbrev pub is_idle : Table → ℕ → Bool
is_idle t first =
    nat_lt 0 t.rows
    && (nat_le (t.columns * t.rows) first
    && (list_all (is_bit_outside first) t.inverted
    && (list_all (is_bit_outside first) t.registered
    && list_all (is_outside first) t.row_switches)))

pub passes_at : {X : Type 0} (test : X → Bool) (xs : List X) (k : ℕ) (x : X) → list_all test xs ≡ true → test x ≡ true → test (get_or xs k x) ≡ true
passes_at test [] k x all here = here
passes_at test (y ∷ ys) zero x all here = (and_parts (test y) (list_all test ys) all).0
passes_at test (y ∷ ys) (suc k) x all here = passes_at test ys k x (and_parts (test y) (list_all test ys) all).1 here

module _ (text : List ℕ) (first : ℕ) (fuses : List Bool) where
  says_same : (bit : Option FuseBit) → is_bit_outside first bit ≡ true → says (signed text first fuses) bit ≡ says fuses bit
  says_same None is = refl
  says_same (Some bit) is = ap (same_level bit.level) (stays text first fuses bit.fuse is)

  switch_same : (xs : List ℕ) (k : ℕ) → list_all (is_outside first) xs ≡ true → switched_by (signed text first fuses) (slice_get xs k) ≡ switched_by fuses (slice_get xs k)
  switch_same [] k all = refl
  switch_same (x ∷ xs) zero all = stays text first fuses x (and_parts (is_outside first x) (list_all (is_outside first) xs) all).0
  switch_same (x ∷ xs) (suc k) all = switch_same xs k (and_parts (is_outside first x) (list_all (is_outside first) xs) all).1

  signed_logic : (t : Table) → IsDevice t → is_idle t first ≡ true → length fuses ≡ t.fuses → device_logic t (signed text first fuses) ≡ device_logic t fuses
  signed_logic t laws idle size =
      let past = nat_le (t.columns * t.rows) first in
      let inverted = list_all (is_bit_outside first) t.inverted in
      let registered = list_all (is_bit_outside first) t.registered in
      let switches = list_all (is_outside first) t.row_switches in
      let one = and_parts (nat_lt 0 t.rows) (past && (inverted && (registered && switches))) idle in
      let two = and_parts past (inverted && (registered && switches)) one.1 in
      let three = and_parts inverted (registered && switches) two.1 in
      let four = and_parts registered switches three.1 in
      let fits = laws.sizes.array_fits in
      let array : t.columns * t.rows ≤ first = grind (arith, nat_tests, two.0) in
      same_logic t laws (grind (arith, nat_tests, one.0)) (signed text first fuses) fuses (record {
        long_a = let long = length_from text first 0 fuses in omega (arith, long, size, fits);
        long_b = omega (arith, size, fits);
        array = λ k low. stays text first fuses k (below_first first k (omega (arith, low, array)));
        inverted = λ c. says_same (inverted_at t c) (passes_at (is_bit_outside first) t.inverted c None three.0 refl);
        registered = λ c. says_same (registered_at t c) (passes_at (is_bit_outside first) t.registered c None four.0 refl);
        switches = λ row. switch_same t.row_switches row four.1;
      })

-- ---- by model

abbrev is_idle_if_any : Table → Option ℕ → Bool
is_idle_if_any t None = true
is_idle_if_any t (Some first) = is_idle t first

-- no mode has a control fuse in the signature
each_idle : (name : DeviceName) (mode : Mode) → is_idle_if_any (table_in name mode) (signature_of name) ≡ true
each_idle device.GAL16V8 mode = refl
each_idle device.GAL20V8 mode = refl
each_idle name mode = refl

pub signed_behaves : (model : Model) (first : ℕ) (text : List ℕ) (fuses : List Bool) → signature_of model.name ≡ Some first → length fuses ≡ (table_at model).fuses
    → device_logic (table_at model) (signed text first fuses) ≡ device_logic (table_at model) fuses
signed_behaves model first text fuses is size =
    let t = table_at model in
    let idle = each_idle model.name (mode_by model.syn model.ac0 model.set) in
    signed_logic text first fuses t (model_sound model) (subst (λ (o : Option ℕ). is_idle_if_any t o ≡ true) is idle) size
