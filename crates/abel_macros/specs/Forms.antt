-- Blocks, arguments, and what represents a parameter (ABEL-HDL Reference Manual, macros, and the @IRP
-- directive; how braces, strings and comments are passed is this project's rule).
use Rattle.std.specs.Prelude.{ℕ, zero, suc, true, false, ◌==◌, List, [], ◌∷◌, ◌++◌, length, take, drop, Option, Some, None, if◌then◌else◌}
use Rattle.abel_macros.specs.Prelude.{list_all, prefix_len, bytes_eq, is_blank, is_name_later, word_head, shaped_len}
use Rattle.text_pieces.specs.declared.mode.Mode.TheVariants as mode
use Rattle.abel_macros.specs.Gaps.{◌>>=◌, given, starts_byte, rest_of, before, gap, name}
pub use Rattle.text_pieces.specs.Brackets.{nested, braces, closes_block, closing, open_in, ends_argument, argument_end}

-- ---- blocks

-- a block's text after its opening brace, and what follows its closing brace
abbrev pub block_inside : List ℕ → Option (List ℕ × List ℕ)
block_inside text = closing 0 mode.Plain text >>= λ end. Some (before text end, rest_of end)

-- a block's text, blanks and comments before it passed over, and what follows it
abbrev pub block : List ℕ → Option (List ℕ × List ℕ)
block text = given (starts_byte 123 (gap text)) (rest_of (gap text)) >>= λ inside. block_inside inside

-- ---- arguments

-- a text without the blanks at its end
abbrev pub trimmed_end : List ℕ → List ℕ
trimmed_end [] = []
trimmed_end (b ∷ bs) = if list_all is_blank (b ∷ bs) then [] else b ∷ trimmed_end bs

-- a text without the blanks at both ends
abbrev pub trimmed : List ℕ → List ℕ
trimmed text = trimmed_end (drop (prefix_len is_blank text) text)

-- an argument, and what follows it: a comma or the closing parenthesis
abbrev pub argument : List ℕ → Option (List ℕ × List ℕ)
argument text = argument_end 0 0 mode.Plain text >>= λ end. Some (trimmed (before text end), end)

-- the arguments up to the closing parenthesis, and what follows it; at most so many
abbrev pub arguments_in : ℕ → List ℕ → Option (List (List ℕ) × List ℕ)
arguments_in zero text = None
arguments_in (suc most) text =
    argument text >>= λ a. if starts_byte 41 a.1 then Some (a.0 ∷ [], rest_of a.1) else (arguments_in most (rest_of a.1) >>= λ more. Some (a.0 ∷ more.0, more.1))

-- the arguments in parentheses, blanks and comments before them passed over, and what follows
abbrev pub arguments : List ℕ → Option (List (List ℕ) × List ℕ)
arguments text = given (starts_byte 40 (gap text)) (rest_of (gap text)) >>= λ inside. arguments_in (length text) inside

-- ---- parameters

-- the names in front of a closing parenthesis, separated by commas, and what follows it; at most so many
abbrev pub parameters_in : ℕ → List ℕ → Option (List (List ℕ) × List ℕ)
parameters_in zero text = None
parameters_in (suc most) text =
    name text >>= λ p.
    if starts_byte 41 (gap p.1) then Some (p.0 ∷ [], rest_of (gap p.1))
    else (given (starts_byte 44 (gap p.1)) (rest_of (gap p.1)) >>= λ behind. parameters_in most behind >>= λ ps. Some (p.0 ∷ ps.0, ps.1))

-- what represents a name: the argument in the place of the first such parameter
abbrev pub standing_for : List (List ℕ) → List (List ℕ) → List ℕ → Option (List ℕ)
standing_for [] found p = None
standing_for (q ∷ qs) [] p = None
standing_for (q ∷ qs) (a ∷ found) p = if bytes_eq q p then Some a else standing_for qs found p

-- the name after a `?`; empty if there isn't one
abbrev pub asked : List ℕ → List ℕ
asked bs = take (shaped_len word_head is_name_later bs) bs

-- a block's text if each `?p` is replaced by its argument and other bytes stay; so many bytes at the front are
-- of a name that was replaced
abbrev pub replaced : (List ℕ → Option (List ℕ)) → ℕ → List ℕ → List ℕ
replaced argument left [] = []
replaced argument (suc left) (b ∷ bs) = replaced argument left bs
replaced argument zero (b ∷ bs) =
    elim (b == 63) [
      | false ↦ b ∷ replaced argument 0 bs
      | true ↦
          elim (argument (asked bs)) [
            | None ↦ b ∷ replaced argument 0 bs
            | Some a ↦ a ++ replaced argument (length (asked bs)) bs
          ]
    ]
