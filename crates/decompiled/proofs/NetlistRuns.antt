-- A device with fuses does what a netlist says that allows the same and has no nodes.
use Rattle.std.proofs.Common.{◌≡◌, ℕ, ◌<◌, Bool, true, false, not, Option, Some, None, List, [], ◌∷◌, refl, sym, ap, ap₂, subst, ◌∙◌, if◌then◌else◌}
use Rattle.decompiled.proofs.Common.{list_any, true≢false, bits, is_on, same_level, Levels, AllowsOne, DoesTheSame, HasNoDontCare, IsValuedOf, RefinesValued, ValuesOnce, Refines, IsDetermined, Enable, Row, PinLow, Driven, Released, complement_if, data_complements, data_rows, device_logic, enabled_by, is_enabled, next_q, or_value, pin_complements, pin_level, row_if_any, is_inverted, stores, row_value, Table, cell_at, netlist_logic, netlist_values, PlainNetlist}
use Rattle.pld_base.proofs.BitLemmas.{is_on-zero, length-bits, same_levels}
use Rattle.pld_machine.specs.Through.{AllowsAt}
use Rattle.pld_machine.proofs.Compared.{does_the_same}
use Rattle.pld_machine.proofs.OneRest.{levels_equal}
use Rattle.netlist_laws.proofs.CellValues.{row_as}

-- one value passes
one_level : (x : Bool) → AllowsOne (λ v. same_level v x)
one_level true e = true≢false e
one_level false e = true≢false (sym e)

-- a device has no don't-care
no_dontcare : (t : Table) (fuses : List Bool) → HasNoDontCare (device_logic t fuses)
no_dontcare t fuses = record {
  level = λ at is c within on. one_level (pin_level t fuses at c);
  node = λ at is n low node. absurd (true≢false (sym node));
  next = λ at is c within kept. one_level (next_q t fuses at c);
}

-- ---- a point with its nodes valued

module _ (t : Table) (fuses : List Bool) (net : PlainNetlist) (at seen : Levels) (of : IsValuedOf (netlist_logic t net) (netlist_values net) at seen) where
  row_same : (row : ℕ) → row_value t fuses at row ≡ row_value t fuses seen row
  row_same row = row_as t fuses net at seen of row

  any_same : (rows : List ℕ) → list_any (row_value t fuses at) rows ≡ list_any (row_value t fuses seen) rows
  any_same [] = refl
  any_same (row ∷ rows) = rw (row_same row, any_same rows) refl

  or_same : (c : ℕ) → or_value t fuses at c ≡ or_value t fuses seen c
  or_same c = any_same (data_rows t c)

  enabled_same : (c : ℕ) → is_enabled t fuses at c ≡ is_enabled t fuses seen c
  enabled_same c = by_enable (cell_at t c).enable
    where
      by_enable : (e : Enable) → enabled_by t fuses at e ≡ enabled_by t fuses seen e
      by_enable (Row row) = row_same row
      by_enable (PinLow pin) = ap (λ (xs : List Bool). not (is_on xs pin)) (sym of.pins)
      by_enable Driven = refl
      by_enable Released = refl

  level_same : (c : ℕ) → pin_level t fuses at c ≡ pin_level t fuses seen c
  level_same c =
      ap₂ (λ (q : Bool) (value : Bool). complement_if (pin_complements t.flip (stores t fuses c) (is_inverted t fuses c)) (if stores t fuses c then q else value))
      (ap (λ (xs : List Bool). is_on xs c) (sym of.q)) (or_same c)

  next_same : (c : ℕ) → next_q t fuses at c ≡ next_q t fuses seen c
  next_same c = ap (complement_if (data_complements t.flip (is_inverted t fuses c))) (or_same c)

  shared_same : (row : Option ℕ) → row_if_any t fuses at row ≡ row_if_any t fuses seen row
  shared_same None = refl
  shared_same (Some row) = row_same row

  seen_allows : AllowsAt (device_logic t fuses) (netlist_logic t net) seen seen → AllowsAt (device_logic t fuses) (netlist_logic t net) at seen
  seen_allows a = record {
    enabled = λ c within. enabled_same c ∙ a.enabled c within;
    level = λ c within on v allowed. a.level c within on v (ap (same_level v) (sym (level_same c)) ∙ allowed);
    reset = λ c within kept. shared_same t.reset ∙ a.reset c within kept;
    preset = λ c within kept. shared_same t.preset ∙ a.preset c within kept;
    next = λ c within kept v allowed. a.next c within kept v (ap (same_level v) (sym (next_same c)) ∙ allowed);
  }

-- ---- no nodes

module _ (t : Table) (fuses : List Bool) (net : PlainNetlist) (no_node : (n : ℕ) → n < 128 → (netlist_logic t net).is_node n ≡ false) where
  one_value : ValuesOnce (netlist_logic t net) (netlist_values net)
  one_value at is = (
    valued,
    record {
      is = record {
        pins = refl;
        q = refl;
        is_valued = record {
          is_point = record { pins = is.pins; q = is.q; nodes = length-bits 128 0 };
          node = λ n low node. absurd (true≢false (sym node ∙ no_node n low));
          no_node = λ n low none. is_on-zero 128 n low;
        };
      };
      only = λ other of. levels_equal other valued of.pins of.q
          (same_levels other.nodes (bits 128 0) (of.is_valued.is_point.nodes ∙ sym (length-bits 128 0))
          (λ n within. let low : n < 128 = subst (λ k. n < k) of.is_valued.is_point.nodes within in of.is_valued.no_node n low (no_node n low) ∙ sym (is_on-zero 128 n low)));
    },
  )
    where
      valued : Levels
      valued = record { pins = at.pins; q = at.q; nodes = bits 128 0 }

  pub netlist_same : Refines (device_logic t fuses) (netlist_logic t net) → IsDetermined (device_logic t fuses) → DoesTheSame (device_logic t fuses) (netlist_logic t net) (netlist_values net)
  netlist_same to once = does_the_same (device_logic t fuses) (netlist_logic t net) (netlist_values net) refines once.rests once.runs
    where
      refines : RefinesValued (device_logic t fuses) (netlist_logic t net) (netlist_values net)
      refines = record {
        same_cells = to.same_cells;
        no_nodes = λ n low. refl;
        one_each = no_dontcare t fuses;
        one_value = one_value;
        allowed = λ at is n low node. absurd (true≢false (sym node ∙ no_node n low));
        allows = λ at seen is of. seen_allows t fuses net at seen of (to.allows seen of.is_valued.is_point);
      }
