-- Masks that ask opposite levels.
use Rattle.std.proofs.Common.{◌≡◌, ◌≤◌, Bool, true, false, List, length, sym, subst, arith}
use Rattle.device_logic.proofs.Common.{and_parts, false_from_ne_true, Levels, Cube, AsksBelow, has_point, is_empty, meets, apart, empty_has_none, holds, RowMask}

module _ (c : Cube) (below : AsksBelow 32 c) (p : List Bool) (long : length p ≡ 32) where
  below_length : AsksBelow (length p) c
  below_length = subst (λ l. AsksBelow l c) (sym long) below

  few : length p ≤ 32
  few = omega (arith, long)

  pub apart_at : (d : Cube) → meets c d ≡ false → has_point c p ≡ true → has_point d p ≡ true → ⊥
  apart_at d never first second = apart c d p few below_length never first second

  pub empty_at : is_empty c ≡ true → has_point c p ≡ false
  empty_at empty = false_from_ne_true (has_point c p) (λ has. empty_has_none c p few below_length empty has)

pub parts_of : (m : RowMask) (at : Levels) → holds m at ≡ true → (has_point m.pins at.pins ≡ true) × (has_point m.q at.q ≡ true)
parts_of m at is = and_parts (has_point m.pins at.pins) (has_point m.q at.q) is
