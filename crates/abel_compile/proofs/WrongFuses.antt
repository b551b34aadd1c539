-- Fuses that differ from those of a module in one way are not its fuses: each kind of fuse for itself.
use Rattle.std.proofs.Common.{◌≡◌, ◌≢◌, ℕ, ◌*◌, ◌<◌, ◌≤◌, Bool, true, false, not, Option, Some, None, List, length, slice_get, refl, sym, ap, ◌∙◌, subst, inl, inr, arith}
use Rattle.std.proofs.lemmas.List.Elements.{All-get_or}
use Rattle.std.proofs.lemmas.Option.{slice_get_within, get_or_from_slice_get}
use Rattle.std.specs.Global.{Vec}
use Rattle.abel_compile.proofs.Common.{Table, Netlist, ModuleTree, design_of}
use Rattle.devices.specs.Devices.{table_of}
use Rattle.pld_base.specs.declared.device_name.DeviceName.TheVariants.{GAL16V8C}
use Rattle.bit_expr.specs.declared.netlist.CellWanted.{CellWanted}
use Rattle.covers.specs.declared.cube.Cube.{Cube}
use Rattle.pld_base.specs.Bits.{is_on}
use Rattle.pld_order.specs.Graphs.{has}
use Rattle.pld_device.specs.ControlFuses.{control_fuses}
use Rattle.pld_device.specs.FixedFuses.{HasFixedLevels}
use Rattle.pld_device.specs.Rows.{is_switched_on}
use Rattle.pld_device.specs.Registers.{is_inverted, says}
use Rattle.pld_device.specs.Table.{cell_at, registered_at}
use Rattle.pld_device.specs.declared.flip.Flip.TheVariants.{Always}
use Rattle.pld_device.specs.declared.fuse_bit.FuseBit.{FuseBit}
use Rattle.pld_device.specs.declared.kinds.Kinds.TheVariants.{Either}
use Rattle.netlist_laws.specs.PrimeCorrect.{IsAssignedCell}
use Rattle.netlist_laws.specs.RowCovers.{is_used}
use Rattle.fit_plans.specs.Choices.{FitsRoom}
use Rattle.fit_plans.specs.Covering.{IsTried}
use Rattle.fit_plans.specs.Forms.{may_be_inverted_as, rows_are_positive}
use Rattle.fit_plans.specs.Tries.{allowed_of, needed_of}
use Rattle.fitter.specs.Plans.{cell_wanted}
use Rattle.compile_phases.specs.SourceRefusals.{IsNetlistOf}
use Rattle.abel_compile.specs.Fuses.{AreFusesOf}

not_itself : (b : Bool) → b ≡ not b → ⊥
not_itself true e = cc
not_itself false e = cc

its_level : (t : Table) (fuses : List Bool) (k : ℕ) (bit : FuseBit) → slice_get t.fixed k ≡ Some bit → HasFixedLevels t fuses → is_on fuses bit.fuse ≡ bit.level
its_level t fuses k bit is all =
    subst (λ (b : FuseBit). is_on fuses b.fuse ≡ b.level) (get_or_from_slice_get t.fixed k bit bit is)
    (All-get_or (λ (b : FuseBit). is_on fuses b.fuse ≡ b.level) t.fixed k bit (slice_get_within t.fixed k bit is) all)

-- a fixed fuse is flipped, as SYN, AC0 or an AC1 of a GAL16V8
pub mode_flipped : (t : Table) (m : ModuleTree) (fuses other : List Bool) (k : ℕ) (bit : FuseBit) → slice_get t.fixed k ≡ Some bit
    → is_on other bit.fuse ≡ not (is_on fuses bit.fuse) → AreFusesOf t m fuses → AreFusesOf t m other → ⊥
mode_flipped t m fuses other k bit is flipped right also =
    not_itself (is_on fuses bit.fuse) (its_level t fuses k bit is right.fixed ∙ sym (its_level t other k bit is also.fixed) ∙ flipped)

-- a row is switched as it wasn't, and no fuse of it changed
pub row_switched : (t : Table) (m : ModuleTree) (fuses other : List Bool) (row : ℕ) → row < length t.row_switches
    → is_used t other row ≡ is_used t fuses row → is_switched_on t other row ≡ not (is_switched_on t fuses row)
    → AreFusesOf t m fuses → AreFusesOf t m other → ⊥
row_switched t m fuses other row low same flipped right also =
    not_itself (is_switched_on t fuses row) (right.switches row low ∙ sym same ∙ sym (also.switches row low) ∙ flipped)

-- the kind of an assigned cell is turned, if a fuse chooses it, as S1 of a GAL22V10
pub kind_turned : (t : Table) (m : ModuleTree) (fuses other : List Bool) (c : ℕ) → c < length t.cells → IsAssignedCell (design_of t m).context c
    → (cell_at t c).kinds ≡ Either → says other (registered_at t c) ≡ not (says fuses (registered_at t c)) → AreFusesOf t m fuses → AreFusesOf t m other → ⊥
kind_turned t m fuses other c low assigned either turned right also =
    not_itself (says fuses (registered_at t c)) ((right.forms c low assigned).kind either ∙ sym ((also.forms c low assigned).kind either) ∙ turned)

-- a fuse that controls nothing is 1, as one of the signature
pub signature_set : (t : Table) (m : ModuleTree) (other : List Bool) (n : ℕ) → t.columns * t.rows ≤ n → has (control_fuses t) n ≡ false
    → is_on other n ≡ true → AreFusesOf t m other → ⊥
signature_set t m other n past none set also = let off = also.others n past none in cc

same_list : (a b : List Cube) → Some a ≡ Some b → a ≡ b
same_list a b e = cc

none_list : (a : List Cube) → None ≡ Some a → ⊥
none_list a e = absurd cc

module _ (room vars mask : ℕ) (needed allowed : Option (List Cube)) (needs allows : List Cube) (needed_is : needed ≡ Some needs) (allowed_is : allowed ≡ Some allows) (few : length needs ≤ room) where
  cover_fits : (cover : Option (Vec Cube)) → IsTried vars mask needed allowed cover → FitsRoom room cover
  cover_fits None (inl none) = absurd (none_list needs (sym none ∙ needed_is))
  cover_fits None (inr none) = absurd (none_list allows (sym none ∙ allowed_is))
  cover_fits (Some rows) tried =
      let same = ap (λ (xs : List Cube). length xs) (same_list tried.needs needs (sym tried.needs_is ∙ needed_is)) in
      let short = tried.few in
      omega (arith, same, short, few)

-- a cell is inverted whose direct form fits as it is written, and which may have that form
pub needlessly_inverted : (t : Table) (m : ModuleTree) (fuses : List Bool) (c : ℕ) → c < length t.cells → IsAssignedCell (design_of t m).context c
    → (net : Netlist) (w : CellWanted) (needs allows : List Cube) → IsNetlistOf t m net → cell_wanted net c ≡ Some w → t.flip ≢ Always → may_be_inverted_as t.flip w false ≡ true
    → needed_of net w.function (rows_are_positive t.flip w false) ≡ Some needs → allowed_of net w.function (rows_are_positive t.flip w false) ≡ Some allows
    → length needs ≤ (cell_at t c).room → is_inverted t fuses c ≡ true → AreFusesOf t m fuses → ⊥
needlessly_inverted t m fuses c low assigned net w needs allows netlist wanted flips may needed allowed few inverted right =
    let over = (right.forms c low assigned).direct_first flips inverted net w netlist wanted in
    over.over (cover_fits (cell_at t c).room (length t.pairs) over.mask (needed_of net w.function (rows_are_positive t.flip w false)) (allowed_of net w.function (rows_are_positive t.flip w false)) needs allows needed allowed few over.cover (over.tried.0 may))

-- ---- of one device

pub syn_flipped : (m : ModuleTree) (fuses other : List Bool) → is_on other 2192 ≡ not (is_on fuses 2192)
    → AreFusesOf (table_of GAL16V8C) m fuses → AreFusesOf (table_of GAL16V8C) m other → ⊥
syn_flipped m fuses other = mode_flipped (table_of GAL16V8C) m fuses other 8 (record { fuse = 2192; level = true }) refl

pub ac1_flipped : (m : ModuleTree) (fuses other : List Bool) → is_on other 2120 ≡ not (is_on fuses 2120)
    → AreFusesOf (table_of GAL16V8C) m fuses → AreFusesOf (table_of GAL16V8C) m other → ⊥
ac1_flipped m fuses other = mode_flipped (table_of GAL16V8C) m fuses other 0 (record { fuse = 2120; level = true }) refl

pub first_signature_set : (m : ModuleTree) (other : List Bool) → is_on other 2056 ≡ true → AreFusesOf (table_of GAL16V8C) m other → ⊥
first_signature_set m other = signature_set (table_of GAL16V8C) m other 2056 (omega arith) refl
