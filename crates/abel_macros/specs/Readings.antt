-- The forms of definitions and directives, after their words (ABEL-HDL Reference Manual, macros and
-- directives; what is broken is this project's rule).
use Rattle.std.specs.Prelude.{ℕ, Bool, ◌==◌, List, [], ◌∷◌, ◌++◌, length, map, Option, Some, None, codes, if◌then◌else◌}
use Rattle.abel_macros.specs.Prelude.{concat, bytes_eq, str_eq_ignore_ascii_case, line_feed, known_radix, Mode}
use Rattle.text_pieces.specs.declared.mode.Mode.TheVariants as mode
use Rattle.abel_macros.specs.Gaps.{◌>>=◌, given, starts_byte, rest_of, before, passing, gap, name, number, sign, behind_sign}
use Rattle.abel_macros.specs.Forms.{block, arguments, parameters_in, standing_for, replaced}
use Rattle.abel_macros.specs.Values.{expression, digits_in}
use Rattle.abel_macros.specs.Defined.{Macro, Tables, is_defined}

-- ---- macros

-- the word MACRO after blanks and comments, and what follows it
abbrev pub macro_word : List ℕ → Option (List ℕ)
macro_word text = name text >>= λ w. given (str_eq_ignore_ascii_case (codes "MACRO") w.0) w.1

-- the parameters of a definition, if it has them
abbrev pub heading : List ℕ → Option (Option (List (List ℕ)) × List ℕ)
heading text =
    if starts_byte 40 (gap text) then (parameters_in (length text) (rest_of (gap text)) >>= λ ps. Some (Some ps.0, ps.1))
    else Some (None, text)

-- after a semicolon that may be there
abbrev pub optional_semicolon : List ℕ → List ℕ
optional_semicolon text = if starts_byte 59 (gap text) then rest_of (gap text) else text

-- a macro's parameters and block after the word MACRO, and what follows its form
abbrev pub macro_form : List ℕ → Option (Macro × List ℕ)
macro_form text = heading text >>= λ h. block h.1 >>= λ b. Some (record { parameters = h.0; block = b.0 }, optional_semicolon b.1)

-- ---- directives

-- what follows this sign
abbrev pub past_sign : List ℕ → List ℕ → Option (List ℕ)
past_sign s text = given (bytes_eq (sign (gap text)) s) (behind_sign text)

-- the value of the expression at the front, by what the text has defined
abbrev pub value_at : Tables → List ℕ → Option (ℕ × List ℕ)
value_at t text = expression t.radix t.values text

-- `e ;`
abbrev pub terminated : Tables → List ℕ → Option (ℕ × List ℕ)
terminated t text = value_at t text >>= λ v. past_sign (codes ";") v.1 >>= λ end. Some (v.0, end)

-- `= e ;`
abbrev pub assigned : Tables → List ℕ → Option (ℕ × List ℕ)
assigned t text = past_sign (codes "=") text >>= λ equal. terminated t equal

-- `@CONST name = e ;`
abbrev pub const_form : Tables → List ℕ → Option ((List ℕ × ℕ) × List ℕ)
const_form t behind = name behind >>= λ n. assigned t n.1 >>= λ v. Some ((n.0, v.0), v.1)

-- `@IF e {block}`, `@REPEAT e {block}`: a number and a block
abbrev pub counted_form : Tables → List ℕ → Option ((ℕ × List ℕ) × List ℕ)
counted_form t behind = value_at t behind >>= λ v. block v.1 >>= λ b. Some ((v.0, b.0), b.1)

-- `@IFDEF name {block}`, `@IFNDEF name {block}`: whether the name is defined, and a block
abbrev pub defined_form : Tables → List ℕ → Option ((Bool × List ℕ) × List ℕ)
defined_form t behind = name behind >>= λ n. block n.1 >>= λ b. Some ((is_defined t n.0, b.0), b.1)

-- `(a1, ..) {block}`
abbrev pub arguments_and_block : List ℕ → Option ((List (List ℕ) × List ℕ) × List ℕ)
arguments_and_block text = arguments text >>= λ found. block found.1 >>= λ b. Some ((found.0, b.0), b.1)

-- a block once for each argument, which represents this parameter
abbrev pub each_replaced : List ℕ → List (List ℕ) → List ℕ → List ℕ
each_replaced n found b = concat (map (λ a. replaced (standing_for (n ∷ []) (a ∷ [])) 0 b) found)

-- `@IRP p (a1, ..) {block}`: the block once for each argument
abbrev pub each_form : List ℕ → Option (List ℕ × List ℕ)
each_form behind = name behind >>= λ n. arguments_and_block n.1 >>= λ r. Some (each_replaced n.0 r.0.0 r.0.1, r.1)

-- a block that may be there
abbrev pub optional_block : List ℕ → Option (List ℕ × List ℕ)
optional_block text = if starts_byte 123 (gap text) then block text else Some ([], text)

-- `@EXPR {block} e ;` or `@EXPR e ;`: the block, and the value in the radix in force
abbrev pub value_form : Tables → List ℕ → Option (List ℕ × List ℕ)
value_form t behind = optional_block behind >>= λ b. terminated t b.1 >>= λ v. Some (b.0 ++ digits_in 32 t.radix v.0, v.1)

-- a text with each comment as one space; the first byte is in such a mode
abbrev pub shown_in : Mode → List ℕ → List ℕ
shown_in m [] = []
shown_in m (b ∷ bs) = shown_byte m (passing m b bs) ++ shown_in (passing m b bs) bs
  where
    shown_byte : Mode → Mode → List ℕ
    shown_byte mode.Plain mode.Note = codes " "
    shown_byte mode.Plain mode.Line = codes " "
    shown_byte mode.Note _ = if b == line_feed then b ∷ [] else []
    shown_byte mode.Line _ = if b == line_feed then b ∷ [] else []
    shown_byte _ _ = b ∷ []

-- a number that says one of the four radices
abbrev pub radix_number : ℕ → List ℕ → Option (ℕ × List ℕ)
radix_number radix text = number (gap text) >>= λ past. known_radix radix (before (gap text) past) >>= λ n. Some (n, past)

-- `@RADIX number ;`
abbrev pub radix_form : ℕ → List ℕ → Option (ℕ × List ℕ)
radix_form radix behind = radix_number radix behind >>= λ n. past_sign (codes ";") n.1 >>= λ end. Some (n.0, end)
