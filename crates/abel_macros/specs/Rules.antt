-- The rules of expansion: what a turn makes of the front of a text (ABEL-HDL Reference Manual, comments,
-- macros and directives; what is refused is this project's rule).
use Rattle.std.specs.Prelude.{ℕ, true, false, ◌==◌, List, [], length, take, drop, replicate, Option, Some, None, codes, if◌then◌else◌}
use Rattle.abel_macros.specs.Prelude.{concat, quote, larger, longest_at}
use Rattle.abel_macros.specs.declared.directive.Directive.{Directive}
use Rattle.abel_macros.specs.declared.directive.Directive.TheVariants as directive
use Rattle.text_pieces.specs.declared.mode.Mode.TheVariants as mode
use Rattle.abel_macros.specs.Gaps.{◌>>=◌, given, starts_byte, before, comment, string_len, word}
use Rattle.abel_macros.specs.Forms.{arguments, standing_for, replaced}
pub use Rattle.abel_macros.specs.Defined.{Macro, Tables, with_name, is_defined, Cause, TooLong, ExpansionLimit, BadDirective, Unsupported, Move, Done, Rewritten, Refused, or_bad, line_feeds}
pub use Rattle.abel_macros.specs.Words.{left_out, is_word, is_dont_care, plain_directive, further_directive, directive_of, behind_directive}
pub use Rattle.abel_macros.specs.Readings.{macro_word, heading, optional_semicolon, macro_form, past_sign, value_at, terminated, assigned, const_form, counted_form, defined_form, arguments_and_block, each_replaced, each_form, optional_block, value_form, shown_in, radix_number, radix_form}

-- ---- macros

-- `name MACRO (p1, ..) {block}`
abbrev pub definition : Tables → List ℕ → List ℕ → List ℕ → Option Move
definition t text named behind =
    macro_form behind >>= λ m. Some (Done (record t { macros = with_name named m.0 t.macros }) (line_feeds (before text m.1)) m.1)

-- a macro's block, if its parameters are replaced if it has them, and what follows the call
abbrev pub called : Macro → List ℕ → Option (List ℕ × List ℕ)
called m behind =
    elim m.parameters [
      | None ↦ Some (m.block, behind)
      | Some ps ↦ arguments behind >>= λ found. given (length found.0 == length ps) (replaced (standing_for ps found.0) 0 m.block, found.1)
    ]

-- a name that follows no `@`: a definition, a call, or itself
abbrev pub named : Tables → List ℕ → List ℕ → Move
named t text behind =
    elim (macro_word behind) [
      | Some past ↦ or_bad (definition t text (before text behind) past)
      | None ↦ elim (t.macros (before text behind)) [
        | Some m ↦ or_bad (called m behind >>= λ r. Some (Rewritten r.0 r.1))
        | None ↦ Done t (before text behind) behind
      ]
    ]

-- ---- directives

-- a directive, whose word was passed
abbrev pub directed : Directive → Tables → List ℕ → List ℕ → Move
directed directive.Const t text behind =
    or_bad (const_form t behind >>= λ c. Some (Done (record t { values = with_name c.0.0 c.0.1 t.values }) (line_feeds (before text c.1)) c.1))
directed directive.If t text behind = or_bad (counted_form t behind >>= λ c. Some (Rewritten (if c.0.0 == 0 then [] else c.0.1) c.1))
directed directive.IfDefined t text behind = or_bad (defined_form t behind >>= λ c. Some (Rewritten (if c.0.0 then c.0.1 else []) c.1))
directed directive.IfUndefined t text behind = or_bad (defined_form t behind >>= λ c. Some (Rewritten (if c.0.0 then [] else c.0.1) c.1))
directed directive.Each t text behind = or_bad (each_form behind >>= λ r. Some (Rewritten r.0 r.1))
directed directive.Repeat t text behind = or_bad (counted_form t behind >>= λ c. Some (Rewritten (concat (replicate c.0.0 c.0.1)) c.1))
directed directive.Value t text behind = or_bad (value_form t behind >>= λ r. Some (Rewritten r.0 r.1))
directed directive.Radix t text behind = or_bad (radix_form t.radix behind >>= λ r. Some (Done (record t { radix = r.0 }) (shown_in mode.Plain (before text r.1)) r.1))
directed directive.DontCare t text behind = Done t (before text behind) behind
directed directive.LeftOut t text behind = Refused Unsupported
directed directive.Unknown t text behind = Refused BadDirective

-- ---- the first rule that fits

-- how long the token at the front is that is no name, no string and no directive; a byte that begins
-- none is taken alone
abbrev pub token_len : List ℕ → ℕ
token_len text = larger 1 (longest_at text).1

-- the first rule that fits the front of a text that isn't empty: a comment, a string, a directive, a
-- name, or another token or byte
abbrev pub move : Tables → List ℕ → Move
move t text =
    elim (comment text) [
      | Some behind ↦ Done t (codes " ") behind
      | None ↦
          elim (starts_byte quote text) [
            | true ↦ Done t (take (string_len text) text) (drop (string_len text) text)
            | false ↦
                elim (starts_byte 64 text) [
                  | true ↦ directed (directive_of (before text (behind_directive text))) t text (behind_directive text)
                  | false ↦
                      elim (word text) [
                        | Some behind ↦ named t text behind
                        | None ↦ Done t (take (token_len text) text) (drop (token_len text) text)
                      ]
                ]
          ]
    ]
