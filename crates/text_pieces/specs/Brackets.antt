-- Where blocks and arguments end (ABEL-HDL Reference Manual, macros; how braces, strings and comments
-- are passed is this project's rule).
use Rattle.std.specs.Prelude.{ℕ, ◌+◌, ◌-◌, Bool, ◌==◌, ◌&&◌, ◌||◌, List, [], ◌∷◌, Option, Some, None, if◌then◌else◌}
use Rattle.text_pieces.specs.declared.mode.Mode.{Mode}
use Rattle.text_pieces.specs.Modes.{is_plain, quoting, passing}

-- ---- blocks

-- how many of a pair of brackets are open after a byte of the plain text
abbrev pub nested : ℕ → ℕ → ℕ → ℕ → ℕ
nested opening shutting inside b = if b == opening then inside + 1 else if b == shutting then inside - 1 else inside

-- how many braces are open after a byte that is in such a mode
abbrev pub braces : Mode → ℕ → ℕ → ℕ
braces m inside b = if is_plain m then nested 123 125 inside b else inside

-- whether this byte closes the block
abbrev pub closes_block : Mode → ℕ → ℕ → Bool
closes_block m inside b = is_plain m && b == 125 && inside == 0

-- from the brace on that closes a block; so many are open within it, and the first byte is in such a mode
abbrev pub closing : ℕ → Mode → List ℕ → Option (List ℕ)
closing inside m [] = None
closing inside m (b ∷ bs) = if closes_block m inside b then Some (b ∷ bs) else closing (braces m inside b) (passing m b bs) bs

-- ---- arguments

-- how many parentheses, or brackets, are open after a byte that is in such a mode
abbrev pub open_in : Mode → ℕ → ℕ → ℕ → ℕ → ℕ
open_in m opening shutting inside b = if is_plain m then nested opening shutting inside b else inside

-- whether this byte ends an argument: the closing parenthesis, or a comma
abbrev pub ends_argument : ℕ → ℕ → Mode → ℕ → Bool
ends_argument parens brackets m b = is_plain m && parens == 0 && (b == 41 || b == 44 && brackets == 0)

-- from the byte on that ends the argument; so many parentheses and brackets are open in it
abbrev pub argument_end : ℕ → ℕ → Mode → List ℕ → Option (List ℕ)
argument_end parens brackets m [] = None
argument_end parens brackets m (b ∷ bs) =
    if ends_argument parens brackets m b then Some (b ∷ bs)
    else argument_end (open_in m 40 41 parens b) (open_in m 91 93 brackets b) (quoting m b) bs
