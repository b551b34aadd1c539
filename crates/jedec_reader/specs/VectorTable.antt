-- Test vectors by their numbers, with their characters at the pins (JESD3-C, test vector and pin sequence
-- fields; the later of two vectors with one number counts).
use Rattle.std.specs.Prelude.{◌≡◌, ℕ, ◌+◌, ◌<◌, ◌≤◌, ◌==◌, if◌then◌else◌, Option, None, Some, IfSome, option_map, filter_map, unwrap_or, List, length, get_or, position}
use Rattle.jedec_reader.specs.Prelude.{Vector, Field, last_of, vector_at, by_pins, Table, chars_of}
use Rattle.jedec_reader.specs.Contents.{IsPadded}

-- the place at which a vector has the character of a pin
abbrev pub place_of : (order : List ℕ) → (pin : ℕ) → ℕ
place_of order pin = unwrap_or (position (λ other. other == pin) order) 0

-- the places of the pins from 1 on
abbrev pub ArePlaces : (order places : List ℕ) → Type 0
ArePlaces order places = (k : ℕ) → k < length order → get_or places k 0 ≡ place_of order (k + 1)

-- the vectors by their numbers: the last one of each number, None if there isn't one
pub record HasVectors (t : Table) (order : List ℕ) (fields : List Field) (table : List (Option Vector)) : Type 0 where
  pub chars : (n : ℕ) → option_map (chars_of t) (get_or table n None) ≡ option_map (by_pins order) (last_of (vector_at n) fields)
  pub padded : (n : ℕ) → IfSome (get_or table n None) (IsPadded t)

-- the places of so many pins are places in a vector of so many characters
abbrev pub AreWithin : (places : List ℕ) → (count : ℕ) → Type 0
AreWithin places count = (k : ℕ) → k < count → get_or places k 0 < count

-- the vector has the characters at their pins, and `N` past them
pub record IsPlaced (places chars : List ℕ) (vector : Vector) : Type 0 where
  pub pins : length vector.chars ≡ 24
  pub placed : (k : ℕ) → k < length chars → get_or vector.chars k 0 ≡ get_or chars (get_or places k 0) 0
  pub padded : (k : ℕ) → length chars ≤ k → k < 24 → get_or vector.chars k 0 ≡ 78

-- the vector is at the number, and all others stay
abbrev pub HasPutVector : (number : ℕ) → Vector → (old new : List (Option Vector)) → Type 0
HasPutVector number vector old new =
    (n : ℕ) → get_or new n None ≡ (if number == n then Some vector else get_or old n None)

-- the vectors that are there
abbrev pub present : List (Option Vector) → List Vector
present = filter_map (λ vector. vector)
