-- Fuses that mean the same make devices that are alike.
use Rattle.std.proofs.Common.{◌≡◌, ℕ, ◌<◌, Bool, true, List, length, Option, None, Some, refl, sym, subst, arith}
use Rattle.wrong_fuses.proofs.Common.{reset_in, preset_in, any_same, AreAlike, IsPoint, Levels, IsDevice, device_logic, enabled_by, is_enabled, next_q, or_value, pin_level, row_if_any, Table, cell_at, no_cell, Refines, RestsOnce, MeanSame}
use Rattle.pld_base.specs.Bits.{same_level}
use Rattle.pld_device.specs.declared.enable.Enable.{Enable}
use Rattle.pld_device.specs.declared.enable.Enable.TheVariants.{Row, PinLow, Driven, Released}
use Rattle.pld_machine.specs.Through.{AllowsAt}
use Rattle.fuse_compare.proofs.SameFunctions.{alike_by_functions}

pub mean_same_back : (t : Table) (a b : List Bool) → MeanSame t a b → MeanSame t b a
mean_same_back t a b same = record {
  rows = λ row within at point. sym (same.rows row within at point);
  kinds = λ c within. (sym (same.kinds c within).0, sym (same.kinds c within).1);
}

module _ (t : Table) (laws : IsDevice t) (a b : List Bool) (same : MeanSame t a b) where
  module _ (at : Levels) (point : IsPoint at) where
    or_same : (c : ℕ) → c < length t.cells → or_value t a at c ≡ or_value t b at c
    or_same c within =
        any_same _ _ (cell_at t c).first (cell_at t c).room (λ row low high. same.rows row (omega (arith, high, (laws.cells c no_cell within).data_below)) at point)

    enable_same : (c : ℕ) → c < length t.cells → is_enabled t a at c ≡ is_enabled t b at c
    enable_same c within = by_enable (cell_at t c).enable refl
      where
        by_enable : (e : Enable) → (cell_at t c).enable ≡ e → enabled_by t a at e ≡ enabled_by t b at e
        by_enable (Row row) is = same.rows row ((laws.cells c no_cell within).enable_below row is) at point
        by_enable (PinLow pin) is = refl
        by_enable Driven is = refl
        by_enable Released is = refl

    level_same : (c : ℕ) → c < length t.cells → pin_level t a at c ≡ pin_level t b at c
    level_same c within = rw ((same.kinds c within).0, (same.kinds c within).1, or_same c within) refl

    next_same : (c : ℕ) → c < length t.cells → next_q t a at c ≡ next_q t b at c
    next_same c within = rw ((same.kinds c within).1, or_same c within) refl

    if_any_same : (row : Option ℕ) → ((r : ℕ) → row ≡ Some r → r < t.rows) → row_if_any t a at row ≡ row_if_any t b at row
    if_any_same None within = refl
    if_any_same (Some r) within = same.rows r (within r refl) at point

    allows_same : AllowsAt (device_logic t a) (device_logic t b) at at
    allows_same = record {
      enabled = λ c within. enable_same c within;
      level = λ c within on v is. subst (λ x. same_level v x ≡ true) (level_same c within) is;
      reset = λ c within register. if_any_same t.reset (reset_in t laws);
      preset = λ c within register. if_any_same t.preset (preset_in t laws);
      next = λ c within register v is. subst (λ x. same_level v x ≡ true) (next_same c within) is;
    }

  refines_same : Refines (device_logic t a) (device_logic t b)
  refines_same = record {
    same_cells = record { cells = refl; pin = λ c within. refl; stores = λ c within. (same.kinds c within).0; clock = refl };
    is_node = λ n low. refl;
    allows = λ at point. allows_same at point;
    node = λ at point n low v is. is;
  }

pub alike_same : (t : Table) → IsDevice t → (a b : List Bool) → MeanSame t a b → RestsOnce (device_logic t b) → AreAlike (device_logic t a) (device_logic t b)
alike_same t laws a b same once =
    alike_by_functions (device_logic t a) (device_logic t b) (refines_same t laws a b same) (refines_same t laws b a (mean_same_back t a b same)) once
