-- The pieces that a page is written of (this project's rule).
use Rattle.std.specs.Prelude.{ℕ, List, flat_map}
use Rattle.std.specs.Fmt.{decimal}
use Rattle.design_drawings.specs.declared.page.Piece.{Piece}
use Rattle.design_drawings.specs.declared.page.Piece.TheVariants.{Markup, Text, Number}
use Rattle.design_drawings.specs.Escaped.{escaped}

-- what is in the page
abbrev pub shown : Piece → List ℕ
shown (Markup markup) = markup.now
shown (Text bytes) = escaped bytes.now
shown (Number n) = decimal n

abbrev pub all_shown : List Piece → List ℕ
all_shown pieces = flat_map shown pieces
