-- What is known of the end of a text: that no word MACRO follows its first blanks and comments.
use Rattle.std.specs.Prelude.{◌≡◌, ℕ, ◌-◌, List, length, drop, Some, None}
use Rattle.text_rewriting.specs.Prelude.{word, macro_word}

-- the last bytes of a text, so many
abbrev pub last : ℕ → List ℕ → List ℕ
last n w = drop (length w - n) w

-- the word MACRO follows no name at the front
abbrev pub DefinesNone : List ℕ → Type 0
DefinesNone w = (behind : List ℕ) → word w ≡ Some behind → macro_word behind ≡ None
