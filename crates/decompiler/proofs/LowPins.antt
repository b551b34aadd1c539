-- Each pin of a device's source is below 32.
use Rattle.std.proofs.Common.{ℕ, ◌<◌, Bool, List, length, sym, subst, arith}
use Rattle.decompiler.proofs.Common.{AllByRecursion, list_any, range_with_len, Carry, IsPair, IsDevice, Table, cell_at, no_cell, PinLiteral, PinLine, SumLine, IsLow, IsLowProduct, IsLowLine, HasLowPins, named_by, lines_of, names_pin, pin_line, source_of, each_filter, each_map, each_in_range, each_weaker, IsPairLiteral, IsCellLine, lines_on}
use Rattle.pld_device.specs.declared.carry.Carry.TheVariants as carry

module _ (t : Table) (fuses : List Bool) (laws : IsDevice t) where
  cell_low : (c : ℕ) → c < length t.cells → IsLow (cell_at t c).pin
  cell_low c within = omega (arith, (laws.cells c no_cell within).pin.high, laws.sizes.pins_high)

  pair_low : (higher : Bool) (x : Carry) → IsPair t x → IsLow (named_by t fuses higher x).pin
  pair_low higher (carry.Pin pin) law = omega (arith, law.0.high, laws.sizes.pins_high)
  pair_low higher (carry.Cell c) law = cell_low c law

  literal_low : (l : PinLiteral) → IsPairLiteral t fuses l → IsLow l.pin
  literal_low l of = subst (λ (k : PinLiteral). IsLow k.pin) (sym of.is) (pair_low of.higher of.pair of.law)

  product_low : (p : List PinLiteral) → AllByRecursion (IsPairLiteral t fuses) p → IsLowProduct p
  product_low p all = each_weaker (IsPairLiteral t fuses) (λ (l : PinLiteral). IsLow l.pin) literal_low p all

  line_low : (l : SumLine) → IsCellLine t fuses l → IsLowLine l
  line_low l on = (
    subst IsLow (sym on.pin) (cell_low on.cell on.within),
    each_weaker (AllByRecursion (IsPairLiteral t fuses)) IsLowProduct product_low l.products on.literals,
  )

  pub source_low : HasLowPins (source_of t fuses)
  source_low = record {
    pins =
        each_map (λ (l : PinLine). IsLow l.pin) (pin_line t fuses) _
        (each_filter IsLow (λ pin. list_any (names_pin pin) (lines_of t fuses)) (range_with_len 1 t.pins)
        (each_in_range IsLow 1 t.pins (λ k within. omega (arith, within, laws.sizes.pins_high))));
    lines = each_weaker (IsCellLine t fuses) IsLowLine line_low (lines_of t fuses) (lines_on t fuses laws);
  }
