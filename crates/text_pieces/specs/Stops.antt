-- The bytes that a look stops at.
use Rattle.std.specs.Prelude.{ℕ, Bool, ◌==◌, ◌||◌}
use Rattle.text_pieces.specs.declared.stop.Stop.{Stop}
use Rattle.text_pieces.specs.declared.stop.Stop.TheVariants as stop

abbrev pub is_stop : Stop → ℕ → Bool
is_stop stop.Question b = b == 63
is_stop stop.Argument b = b == 39 || b == 40 || b == 41 || b == 44 || b == 91 || b == 93
