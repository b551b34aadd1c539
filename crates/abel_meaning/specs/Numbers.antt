-- Shapes, and unsigned numbers by their positions; position 0 is the rightmost (ABEL-HDL Reference Manual, sets).
use Rattle.std.specs.Prelude.{ℕ, zero, suc, ◌+◌, ◌-◌, ◌*◌, ◌/◌, ◌%◌, ◌^◌, ◌==◌, Bool, true, false, ◌||◌, List, [], ◌∷◌, reverse, replicate}

-- a number without a width, one bit, or a set of bits
pub data Shape : Type 0 where
  Number Single : Shape
  Set : (width : ℕ) → Shape

-- a number has 32 bits
abbrev pub width_of : Shape → ℕ
width_of Number = 32
width_of Single = 1
width_of (Set w) = w

-- as a member of a set, a number is one position
abbrev pub member_width : Shape → ℕ
member_width Number = 1
member_width Single = 1
member_width (Set w) = w

-- the shape of two operands that meet: a number takes the other's, one bit is spread over a set
abbrev pub meeting : Shape → Shape → Shape
meeting Number s = s
meeting Single Number = Single
meeting Single Single = Single
meeting Single (Set w) = Set w
meeting (Set w) s = Set w

-- a shape with a number, and for each position from 0 on whether it is X
pub record Value : Type 0 where
  pub shape : Shape
  pub number : ℕ
  pub unknown : List Bool

-- the number in w bits: a number is cut or filled with zeros, one bit is spread; a set has w bits, or is refused
abbrev pub met_number : ℕ → Shape → ℕ → ℕ
met_number w Number n = n % 2 ^ w
met_number w Single n = n * (2 ^ w - 1)
met_number w (Set v) n = n % 2 ^ w

-- the number of a value in w bits
abbrev pub met : ℕ → Value → ℕ
met w v = met_number w v.shape v.number

-- the X positions in w bits, by shape
abbrev pub met_unknown_by : ℕ → Shape → List Bool → List Bool
met_unknown_by w Number xs = replicate w false
met_unknown_by w Single [] = replicate w false
met_unknown_by w Single (x ∷ xs) = replicate w x
met_unknown_by w (Set v) xs = xs

-- the X positions of a value in w bits
abbrev pub met_unknown : ℕ → Value → List Bool
met_unknown w v = met_unknown_by w v.shape v.unknown

-- either side is X
abbrev pub either_unknown : List Bool → List Bool → List Bool
either_unknown [] ys = ys
either_unknown (x ∷ xs) [] = x ∷ xs
either_unknown (x ∷ xs) (y ∷ ys) = (x || y) ∷ either_unknown xs ys

-- the number of the positions that are not dropped
abbrev pub kept : (dropped : List Bool) → ℕ → ℕ
kept [] n = 0
kept (true ∷ xs) n = kept xs (n / 2)
kept (false ∷ xs) n = n % 2 + 2 * kept xs (n / 2)

-- the bits of a number in w positions, from position 0 on
abbrev pub digits_low_first : ℕ → ℕ → List Bool
digits_low_first zero n = []
digits_low_first (suc w) n = (n % 2 == 1) ∷ digits_low_first w (n / 2)

-- the same from the left
abbrev pub digits : ℕ → ℕ → List Bool
digits w n = reverse (digits_low_first w n)

-- the number that one truth value is
abbrev pub one_bit : Bool → ℕ
one_bit true = 1
one_bit false = 0

-- the number with these bits from position 0 on
abbrev pub number_with : List Bool → ℕ
number_with [] = 0
number_with (b ∷ bs) = one_bit b + 2 * number_with bs

-- an operator on truth values, by position
abbrev pub zipped : (Bool → Bool → Bool) → List Bool → List Bool → List Bool
zipped f [] ys = []
zipped f (x ∷ xs) [] = []
zipped f (x ∷ xs) (y ∷ ys) = f x y ∷ zipped f xs ys

-- an operator on the bits of two numbers of w bits
abbrev pub by_position : (Bool → Bool → Bool) → (w : ℕ) → ℕ → ℕ → ℕ
by_position f w x y = number_with (zipped f (digits_low_first w x) (digits_low_first w y))
