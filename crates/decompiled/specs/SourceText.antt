-- The text of a source of pins and sums of products (ABEL-HDL Reference Manual, source file structure; the names are this
-- project's rule).
use Rattle.std.specs.Prelude.{ℕ, Bool, Option, None, Some, List, [], ◌∷◌, ◌++◌, if◌then◌else◌, flat_map, codes}
use Rattle.decompiled.specs.Prelude.{decimal, device_text, Extension}
use Rattle.pld_base.specs.declared.device_name.DeviceName.{DeviceName}
use Rattle.abel_tree.specs.declared.words.Extension.TheVariants as extension
use Rattle.decompiled.specs.declared.literal.PinLiteral.{PinLiteral}
use Rattle.decompiled.specs.declared.pin_line.PinLine.{PinLine}
use Rattle.decompiled.specs.declared.sum_line.SumLine.{SumLine}
use Rattle.decompiled.specs.declared.source.PinSource.{PinSource}

-- ---- names

-- what is negated has `!` before it
abbrev pub sign_text : Bool → List ℕ
sign_text negated = if negated then codes "!" else []

-- the name of a pin
abbrev pub name_text : (pin : ℕ) → List ℕ
name_text pin = codes "p" ++ decimal pin

abbrev pub extension_text : Option Extension → List ℕ
extension_text None = []
extension_text (Some extension.Clk) = codes ".CLK"
extension_text (Some extension.Oe) = codes ".OE"
extension_text (Some extension.Ar) = codes ".AR"
extension_text (Some extension.Sp) = codes ".SP"
extension_text (Some extension.D) = codes ".D"
extension_text (Some extension.Q) = codes ".Q"
extension_text (Some extension.Fb) = codes ".FB"
extension_text (Some extension.Pin) = codes ".PIN"

-- ---- sums of products

-- the extension of a literal's name: a register's Q, or the level of its pin
abbrev pub q_if : (of_q : Bool) → Option Extension
q_if of_q = if of_q then Some extension.Q else None

abbrev pub literal_text : PinLiteral → List ℕ
literal_text l = sign_text l.negated ++ name_text l.pin ++ extension_text (q_if l.of_q)

-- a product without literals is 1
abbrev pub product_text : List PinLiteral → List ℕ
product_text [] = codes "1"
product_text (first ∷ rest) = literal_text first ++ flat_map (λ l. codes " & " ++ literal_text l) rest

-- a sum without products is 0
abbrev pub sum_text : List (List PinLiteral) → List ℕ
sum_text [] = codes "0"
sum_text (first ∷ rest) = product_text first ++ flat_map (λ p. codes " # " ++ product_text p) rest

-- ---- lines

-- what a sum is assigned to
abbrev pub target_text : SumLine → List ℕ
target_text l = sign_text l.negated ++ name_text l.pin ++ extension_text l.extension

abbrev pub line_text : SumLine → List ℕ
line_text l = target_text l ++ codes " = " ++ sum_text l.products ++ codes ";\n"

-- the attributes of a register: whether its pin equals Q
abbrev pub attributes_text : Option Bool → List ℕ
attributes_text None = []
attributes_text (Some follows) = if follows then codes " istype 'reg,buffer'" else codes " istype 'reg,invert'"

abbrev pub pin_text : PinLine → List ℕ
pin_text l = name_text l.pin ++ codes " pin " ++ decimal l.pin ++ attributes_text l.follows ++ codes ";\n"

-- ---- the whole

abbrev pub head_text : DeviceName → List ℕ
head_text device = codes "module chip\nd device '" ++ device_text device ++ codes "';\n"

abbrev pub source_text : PinSource → List ℕ
source_text s = head_text s.device ++ flat_map pin_text s.pins ++ codes "equations\n" ++ flat_map line_text s.lines ++ codes "end\n"
