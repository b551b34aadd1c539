-- The words that a program was given (this project's rule).
use Rattle.std.specs.Prelude.{ℕ, List, [], Option, Some, None}
use Rattle.abel_cli.specs.Prelude.{texts}
use Rattle.abel_cli.specs.declared.starting.Given.{Given}
use Rattle.abel_cli.specs.declared.starting.Given.TheVariants.{Words, NotText, Unknown}

-- the words, if they are known; if one of them is no text it is as if there were none
abbrev pub words_of : Given → Option (List (List ℕ))
words_of (Words words) = Some (texts words.items)
words_of NotText = Some []
words_of Unknown = None
