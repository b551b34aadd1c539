-- A pin source, token by token (this project's rule). Each part is written before the pieces that follow it.
use Rattle.std.specs.Prelude.{ℕ, Bool, true, false, Option, None, Some, List, [], ◌∷◌, ◌++◌, if◌then◌else◌, codes}
use Rattle.decompiled.specs.Prelude.{decimal, device_text, Extension}
use Rattle.abel_lexer.specs.declared.token.TokenKind.TheVariants as kind
use Rattle.decompiled.specs.Pieces.{Piece}
use Rattle.decompiled.specs.declared.literal.PinLiteral.{PinLiteral}
use Rattle.decompiled.specs.declared.pin_line.PinLine.{PinLine}
use Rattle.decompiled.specs.declared.sum_line.SumLine.{SumLine}
use Rattle.decompiled.specs.declared.source.PinSource.{PinSource}
use Rattle.decompiled.specs.SourceText.{q_if, name_text, extension_text}

-- ---- tokens, and the gaps before them

-- nothing before a token
abbrev pub none : List ℕ
none = []

-- one space
abbrev pub space : List ℕ
space = codes " "

-- one line feed, with which a line begins that is not the first
abbrev pub feed : List ℕ
feed = codes "\n"

-- a sign after a gap
abbrev pub sign : (gap w : List ℕ) → Piece
sign gap w = record { gap = gap; kind = kind.Sign; word = w }

-- a keyword
abbrev pub keyword : (gap w : List ℕ) → Piece
keyword gap w = record { gap = gap; kind = kind.Keyword; word = w }

-- an identifier
abbrev pub identifier : (gap w : List ℕ) → Piece
identifier gap w = record { gap = gap; kind = kind.Identifier; word = w }

-- a number
abbrev pub number : (gap w : List ℕ) → Piece
number gap w = record { gap = gap; kind = kind.Number; word = w }

-- a string with its quotes
abbrev pub string : (gap w : List ℕ) → Piece
string gap w = record { gap = gap; kind = kind.Text; word = w }

-- an extension, right after its name
abbrev pub extension : (w : List ℕ) → Piece
extension w = record { gap = none; kind = kind.Extension; word = w }

-- ---- sums of products

-- a pin's name, after `!` or not
abbrev pub name_pieces : (gap : List ℕ) → (negated : Bool) → (pin : ℕ) → (more : List Piece) → List Piece
name_pieces gap false pin more = identifier gap (name_text pin) ∷ more
name_pieces gap true pin more = sign gap (codes "!") ∷ identifier none (name_text pin) ∷ more

-- the extension that there may be
abbrev pub extension_pieces : Option Extension → (more : List Piece) → List Piece
extension_pieces None more = more
extension_pieces (Some e) more = extension (extension_text (Some e)) ∷ more

-- a literal
abbrev pub literal_pieces : PinLiteral → (more : List Piece) → List Piece
literal_pieces l more = name_pieces space l.negated l.pin (extension_pieces (q_if l.of_q) more)

-- further parts, this piece before each
abbrev pub further : {A : Type 0} → Piece → (A → (more : List Piece) → List Piece) → List A → (more : List Piece) → List Piece
further s write [] more = more
further s write (x ∷ xs) more = s ∷ write x (further s write xs more)

-- a product
abbrev pub product_pieces : List PinLiteral → (more : List Piece) → List Piece
product_pieces [] more = number space (codes "1") ∷ more
product_pieces (l ∷ ls) more = literal_pieces l (further (sign space (codes "&")) literal_pieces ls more)

-- a sum
abbrev pub sum_pieces : List (List PinLiteral) → (more : List Piece) → List Piece
sum_pieces [] more = number space (codes "0") ∷ more
sum_pieces (p ∷ ps) more = product_pieces p (further (sign space (codes "#")) product_pieces ps more)

-- ---- lines

-- the line of a sum
abbrev pub line_pieces : SumLine → (more : List Piece) → List Piece
line_pieces l more =
    name_pieces feed l.negated l.pin
    (extension_pieces l.extension (sign space (codes "=") ∷ sum_pieces l.products (sign none (codes ";") ∷ more)))

abbrev pub lines_pieces : List SumLine → (more : List Piece) → List Piece
lines_pieces [] more = more
lines_pieces (l ∷ ls) more = line_pieces l (lines_pieces ls more)

-- the attributes of a register
abbrev pub attribute_pieces : Option Bool → (more : List Piece) → List Piece
attribute_pieces None more = more
attribute_pieces (Some follows) more =
    keyword space (codes "istype") ∷ string space (if follows then codes "'reg,buffer'" else codes "'reg,invert'") ∷ more

-- the line of a pin
abbrev pub pin_pieces : PinLine → (more : List Piece) → List Piece
pin_pieces l more =
    identifier feed (name_text l.pin) ∷ keyword space (codes "pin") ∷ number space (decimal l.pin)
    ∷ attribute_pieces l.follows (sign none (codes ";") ∷ more)

abbrev pub pins_pieces : List PinLine → (more : List Piece) → List Piece
pins_pieces [] more = more
pins_pieces (l ∷ ls) more = pin_pieces l (pins_pieces ls more)

-- the whole source; a line feed ends it
abbrev pub source_pieces : PinSource → List Piece
source_pieces s =
    keyword none (codes "module") ∷ identifier space (codes "chip") ∷ identifier feed (codes "d") ∷ keyword space (codes "device")
    ∷ string space (codes "'" ++ device_text s.device ++ codes "'") ∷ sign none (codes ";")
    ∷ pins_pieces s.pins (keyword feed (codes "equations") ∷ lines_pieces s.lines (keyword feed (codes "end") ∷ []))
