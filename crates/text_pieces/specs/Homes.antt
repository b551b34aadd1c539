-- The bytes that a piece is of.
use Rattle.std.specs.Prelude.{ℕ, List}
use Rattle.text_pieces.specs.declared.home.Home.{Home}
use Rattle.text_pieces.specs.declared.home.Home.TheVariants.{Lent, Kept}

abbrev pub home_bytes : Home → List ℕ
home_bytes (Lent bytes offset) = bytes.now
home_bytes (Kept text) = text.value
