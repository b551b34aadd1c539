-- The text of a device's fuses is short enough to be compiled.
use Rattle.std.proofs.Common.{◌≡◌, ℕ, ◌+◌, ◌*◌, ◌≤◌, Bool, true, false, Option, None, Some, List, [], ◌∷◌, ◌++◌, length, filter, arith, length-append, inl, inr, codes, flat_map}
use Rattle.decompiler.proofs.Common.{AllByRecursion, list_any, range_with_len, cases_Bool, ltb-false, length-map, length-range_with_len, device_text, IsDevice, Table, Extension, PinLiteral, PinLine, SumLine, attributes_text, extension_text, head_text, line_text, literal_text, name_text, pin_text, product_text, q_if, sign_text, sum_text, target_text, IsLow, IsLowLine, IsLowProduct, decompiled_text, lines_of, names_pin, pin_line, pins_of, source_of, each_weaker}
use Rattle.std.specs.Fmt.{decimal}
use Rattle.pld_base.proofs.EachDevice.{device_short}
use Rattle.abel_tree.specs.declared.words.Extension.TheVariants as extension
use Rattle.decompiled.proofs.PinNumbers.{pin_number}
use Rattle.decompiler.proofs.OwnLines.{IsOwnLine, IsShortProduct, few_lines, own_lines}
use Rattle.decompiler.proofs.LowPins.{source_low}

-- ---- lengths

few_kept : {X : Type 0} (test : X → Bool) (xs : List X) → length (filter test xs) ≤ length xs
few_kept test [] = omega arith
few_kept test (x ∷ xs) = elim (cases_Bool (test x)) [ inl e ↦ rw e (omega (arith, few_kept test xs)) | inr e ↦ rw e (omega (arith, few_kept test xs)) ]

flat_short : {X : Type 0} (text : X → List ℕ) (most : ℕ) (xs : List X) → AllByRecursion (λ x. length (text x) ≤ most) xs → length (flat_map text xs) ≤ most * length xs
flat_short text most [] each = omega arith
flat_short text most (x ∷ xs) each =
    let here = each.0 in
    let later = flat_short text most xs each.1 in
    omega (arith, here, later, length-append (text x) (flat_map text xs))

three : (a b c : List ℕ) → length (a ++ b ++ c) ≡ length a + length b + length c
three a b c = omega (arith, length-append (a ++ b) c, length-append a b)

five : (a b c d e : List ℕ) → length (a ++ b ++ c ++ d ++ e) ≡ length a + length b + length c + length d + length e
five a b c d e = omega (arith, length-append (a ++ b ++ c ++ d) e, length-append (a ++ b ++ c) d, three a b c)

-- ---- words

name_short : (pin : ℕ) → IsLow pin → length (name_text pin) ≤ 31
name_short pin low = ltb-false 31 (length (name_text pin)) (pin_number pin low).short

number_short : (pin : ℕ) → IsLow pin → length (decimal pin) ≤ 31
number_short pin low = let name = name_short pin low in omega (arith, name, length-append (codes "p") (decimal pin))

sign_short : (negated : Bool) → length (sign_text negated) ≤ 1
sign_short true = omega arith
sign_short false = omega arith

extension_short : (e : Option Extension) → length (extension_text e) ≤ 4
extension_short None = omega arith
extension_short (Some extension.Clk) = omega arith
extension_short (Some extension.Oe) = omega arith
extension_short (Some extension.Ar) = omega arith
extension_short (Some extension.Sp) = omega arith
extension_short (Some extension.D) = omega arith
extension_short (Some extension.Q) = omega arith
extension_short (Some extension.Fb) = omega arith
extension_short (Some extension.Pin) = omega arith

attributes_short : (follows : Option Bool) → length (attributes_text follows) ≤ 20
attributes_short None = omega arith
attributes_short (Some true) = omega arith
attributes_short (Some false) = omega arith

-- ---- sums

literal_short : (l : PinLiteral) → IsLow l.pin → length (literal_text l) ≤ 36
literal_short l low =
    let sign = sign_short l.negated in
    let name = name_short l.pin low in
    let end = extension_short (q_if l.of_q) in
    omega (arith, sign, name, end, three (sign_text l.negated) (name_text l.pin) (extension_text (q_if l.of_q)))

product_short : (p : List PinLiteral) → IsLowProduct p → IsShortProduct p → length (product_text p) ≤ 1716
product_short [] low short = omega arith
product_short (l ∷ ls) low short =
    let first = literal_short l low.0 in
    let rest = flat_short (λ (k : PinLiteral). codes " & " ++ literal_text k) 39 ls (each_weaker (λ (k : PinLiteral). IsLow k.pin) (λ k. length (codes " & " ++ literal_text k) ≤ 39) joined ls low.1) in
    let size : length (l ∷ ls) ≤ 44 = short in
    omega (arith, first, rest, size, length-append (literal_text l) (flat_map (λ (k : PinLiteral). codes " & " ++ literal_text k) ls))
  where
    joined : (k : PinLiteral) → IsLow k.pin → length (codes " & " ++ literal_text k) ≤ 39
    joined k low = let one = literal_short k low in omega (arith, one, length-append (codes " & ") (literal_text k))

sum_short : (ps : List (List PinLiteral)) → AllByRecursion IsLowProduct ps → AllByRecursion IsShortProduct ps → length ps ≤ 16 → length (sum_text ps) ≤ 27504
sum_short [] low short few = omega arith
sum_short (p ∷ ps) low short few =
    let first = product_short p low.0 short.0 in
    let rest = flat_short (λ (q : List PinLiteral). codes " # " ++ product_text q) 1719 ps (joined ps low.1 short.1) in
    omega (arith, first, rest, few, length-append (product_text p) (flat_map (λ (q : List PinLiteral). codes " # " ++ product_text q) ps))
  where
    joined : (qs : List (List PinLiteral)) → AllByRecursion IsLowProduct qs → AllByRecursion IsShortProduct qs
        → AllByRecursion (λ q. length (codes " # " ++ product_text q) ≤ 1719) qs
    joined [] low short = tt
    joined (q ∷ qs) low short =
        let one = product_short q low.0 short.0 in
        (omega (arith, one, length-append (codes " # ") (product_text q)), joined qs low.1 short.1)

-- ---- lines

abbrev IsShortLine : SumLine → Type 0
IsShortLine l = length (line_text l) ≤ 27545

module _ (t : Table) (fuses : List Bool) where
  line_short : (l : SumLine) → IsLowLine l → IsOwnLine t fuses l → IsShortLine l
  line_short l low own =
      let sign = sign_short l.negated in
      let name = name_short l.pin low.0 in
      let end = extension_short l.extension in
      let sum = sum_short l.products low.1 own.short own.few in
      let target = three (sign_text l.negated) (name_text l.pin) (extension_text l.extension) in
      let outer = length-append (target_text l ++ codes " = " ++ sum_text l.products) (codes ";\n") in
      omega (arith, sign, name, end, sum, target, outer, three (target_text l) (codes " = ") (sum_text l.products))

  lines_short : (ls : List SumLine) → AllByRecursion IsLowLine ls → AllByRecursion (IsOwnLine t fuses) ls → AllByRecursion IsShortLine ls
  lines_short [] low own = tt
  lines_short (l ∷ ls) low own = (line_short l low.0 own.0, lines_short ls low.1 own.1)

  pin_short : (l : PinLine) → IsLow l.pin → length (pin_text l) ≤ 89
  pin_short l low =
      let name = name_short l.pin low in
      let number = number_short l.pin low in
      let end = attributes_short l.follows in
      omega (arith, name, number, end, five (name_text l.pin) (codes " pin ") (decimal l.pin) (attributes_text l.follows) (codes ";\n"))

  few_pins : length (source_of t fuses).pins ≤ t.pins
  few_pins =
      let kept = few_kept (λ pin. list_any (names_pin pin) (lines_of t fuses)) (range_with_len 1 t.pins) in
      omega (arith, kept, length-map (pins_of t fuses) (pin_line t fuses), length-range_with_len 1 t.pins)

  pub text_short : IsDevice t → length (decompiled_text t fuses) ≤ 1048576
  text_short laws =
      let low = source_low t fuses laws in
      let head = three (codes "module chip\nd device '") (device_text t.name) (codes "';\n") in
      let pins = flat_short pin_text 89 (source_of t fuses).pins (each_weaker (λ (l : PinLine). IsLow l.pin) (λ l. length (pin_text l) ≤ 89) pin_short (source_of t fuses).pins low.pins) in
      let lines = flat_short line_text 27545 (lines_of t fuses) (lines_short (lines_of t fuses) low.lines (own_lines t fuses laws)) in
      omega (
        arith,
        head,
        device_short t.name,
        pins,
        few_pins,
        laws.sizes.pins_high,
        lines,
        few_lines t fuses laws,
        five (head_text t.name) (flat_map pin_text (source_of t fuses).pins) (codes "equations\n") (flat_map line_text (lines_of t fuses)) (codes "end\n"),
      )
