-- Private: the characters that the positions of a row give to pins, each with its pin.
use Rattle.std.specs.Prelude.{ℕ, ◌==◌, Bool, if◌then◌else◌, Option, None, Some, List, [], ◌∷◌, ◌++◌, filter_map, zip}
use Rattle.abel_vectors.specs.Prelude.{list_any, Entry, Mark, input_char, output_char, view_mark}
use Rattle.truth_tables.specs.declared.mark.Mark as code
use Rattle.abel_vectors.specs.declared.chars.Role.{Role}
use Rattle.abel_vectors.specs.declared.chars.Role.TheVariants as role
use Rattle.abel_vectors.specs.VectorRefusals.{position_gives, position_pulses}

-- the character of an input or of an output
abbrev pub char_in : Role → (negated : Bool) → Mark → Option ℕ
char_in role.Driven = input_char
char_in role.Tested = output_char

-- the first character of a pin
abbrev pub found_at : List (ℕ × ℕ) → (pin : ℕ) → Option ℕ
found_at [] pin = None
found_at (x ∷ xs) pin = if x.0 == pin then Some x.1 else found_at xs pin

-- the characters that marks give as they were read, and whether one of them is `.C.` at a pin
abbrev pub chars_read : List Entry → (Bool → Mark → Option ℕ) → List (Option ℕ) → List code.Mark → List (ℕ × ℕ)
chars_read es char ss ms = filter_map (λ (x : Option ℕ × code.Mark). position_gives es char x.0 (view_mark x.1)) (zip ss ms)

abbrev pub pulse_read : List (Option ℕ) → List code.Mark → Bool
pulse_read ss ms = list_any (λ (x : Option ℕ × code.Mark). position_pulses x.0 (view_mark x.1)) (zip ss ms)

abbrev pub all_read : List Entry → (inputs : List (Option ℕ)) → List code.Mark → (outputs : List (Option ℕ)) → List code.Mark → List (ℕ × ℕ)
all_read es ss given ts tested = chars_read es input_char ss given ++ chars_read es output_char ts tested
