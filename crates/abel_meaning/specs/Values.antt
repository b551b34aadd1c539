-- The value of an expression at a point, by arithmetic (ABEL-HDL Reference Manual, operators). What is refused has
-- some value too.
use Rattle.std.specs.Prelude.{ℕ, ◌+◌, ◌-◌, ◌*◌, ◌/◌, ◌%◌, ◌^◌, min, ◌==◌, nat_lt, nat_le, Bool, true, false, not, ◌&&◌, ◌||◌, List, [], ◌∷◌, ◌++◌, map, replicate}
use Rattle.abel_meaning.specs.Prelude.{same_level, Levels, differ, Binary, Unary}
use Rattle.abel_tree.specs.declared.words.Binary.TheVariants as binary
use Rattle.abel_tree.specs.declared.words.Unary.TheVariants as unary
use Rattle.abel_meaning.specs.Terms.{Term, Terms}
use Rattle.abel_meaning.specs.Terms as term
use Rattle.abel_meaning.specs.Designs.{Context}
use Rattle.abel_meaning.specs.Sources.{source_of, source_value}
use Rattle.abel_meaning.specs.Numbers.{Shape, Number, Single, Set, width_of, member_width, meeting, Value, met, met_unknown, either_unknown, kept, one_bit, number_with, by_position, digits_low_first}

-- the value of a number
abbrev pub plain_value : ℕ → Value
plain_value n = record { shape = Number; number = n; unknown = [] }

-- the value of one bit
abbrev pub bit_value : Bool → Value
bit_value b = record { shape = Single; number = one_bit b; unknown = false ∷ [] }

-- how two numbers of w bits compare
abbrev pub compares : Binary → ℕ → ℕ → Bool
compares binary.Equal x y = x == y
compares binary.Unequal x y = not (x == y)
compares binary.Less x y = nat_lt x y
compares binary.LessEqual x y = nat_le x y
compares binary.Greater x y = nat_lt y x
compares binary.GreaterEqual x y = nat_le y x
compares _ x y = false

-- the sign is a relation's
abbrev pub is_relation : Binary → Bool
is_relation binary.Equal = true
is_relation binary.Unequal = true
is_relation binary.Less = true
is_relation binary.LessEqual = true
is_relation binary.Greater = true
is_relation binary.GreaterEqual = true
is_relation _ = false

-- an operator on w bits
abbrev pub computes : Binary → (w : ℕ) → ℕ → ℕ → ℕ
computes binary.Plus w x y = (x + y) % 2 ^ w
computes binary.Minus w x y = (x + (2 ^ w - y)) % 2 ^ w
computes binary.And w x y = by_position (λ a b. a && b) w x y
computes binary.Or w x y = by_position (λ a b. a || b) w x y
computes binary.Xor w x y = by_position differ w x y
computes binary.Xnor w x y = by_position same_level w x y
computes _ w x y = 0

-- an operator on two numbers without a width, of 32 bits; a shift of 32 or more gives 0
abbrev pub computes_numbers : Binary → ℕ → ℕ → ℕ
computes_numbers binary.Times x y = x * y % 2 ^ 32
computes_numbers binary.Over x y = x / y
computes_numbers binary.Rest x y = x % y
computes_numbers binary.ShiftLeft x y = x * 2 ^ min y 32 % 2 ^ 32
computes_numbers binary.ShiftRight x y = x / 2 ^ min y 32
computes_numbers sign x y = computes sign 32 x y

-- the number that an operator gives in a shape
abbrev pub operator_number : Binary → Shape → ℕ → ℕ → ℕ
operator_number sign Number x y = computes_numbers sign x y
operator_number sign Single x y = computes sign 1 x y
operator_number sign (Set w) x y = computes sign w x y

-- the two numbers compare when the dropped positions are left out of both
abbrev pub compares_kept : Binary → (dropped : List Bool) → ℕ → ℕ → Bool
compares_kept sign dropped x y = compares sign (kept dropped x) (kept dropped y)

-- a relation of w bits drops each position that is X on either side; with none left, ==, <= and >= are true and the
-- others false, since the two numbers left are 0
abbrev pub relation_value : Binary → (w : ℕ) → Value → Value → Value
relation_value sign w v u =
    bit_value (compares_kept sign (either_unknown (met_unknown w v) (met_unknown w u)) (met w v) (met w u))

-- any other operator keeps the shape
abbrev pub operator_value : Binary → (shape : Shape) → Value → Value → Value
operator_value sign shape v u =
    record {
      shape = shape;
      number = operator_number sign shape (met (width_of shape) v) (met (width_of shape) u);
      unknown = replicate (width_of shape) false;
    }

-- an operator that is a relation or not
abbrev pub binary_by : (relation : Bool) → Binary → Value → Value → Value
binary_by true sign v u = relation_value sign (width_of (meeting v.shape u.shape)) v u
binary_by false sign v u = operator_value sign (meeting v.shape u.shape) v u

-- an operator on two values
abbrev pub binary_value : Binary → Value → Value → Value
binary_value sign v u = binary_by (is_relation sign) sign v u

-- the number of the complement of each position, or of two's complement, in w bits
abbrev pub unary_number : Unary → (w : ℕ) → ℕ → ℕ
unary_number unary.Not w n = number_with (map not (digits_low_first w n))
unary_number unary.Minus w n = (2 ^ w - n % 2 ^ w) % 2 ^ w

-- an operator on one value
abbrev pub unary_value : Unary → Value → Value
unary_value sign v = record v { number = unary_number sign (width_of v.shape) v.number }

-- a member of m positions before the others of a set, which have w
abbrev pub joined_value_at : (w : ℕ) → (member_width : ℕ) → Value → Value → Value
joined_value_at w m v rest =
    record {
      shape = Set (m + w);
      number = v.number % 2 ^ m * 2 ^ w + rest.number;
      unknown = rest.unknown ++ met_unknown m v;
    }

-- a member before the others of a set
abbrev pub joined_value : Value → Value → Value
joined_value v rest = joined_value_at (width_of rest.shape) (member_width v.shape) v rest

-- a set without members
abbrev pub no_position : Value
no_position = record { shape = Set 0; number = 0; unknown = [] }

-- the value of a term
abbrev mutual
  pub term_value : Context → Levels → Term → Value
  term_value d at (term.Number n) = plain_value n
  term_value d at term.X = record { shape = Single; number = 0; unknown = true ∷ [] }
  term_value d at term.Pulse = plain_value 0
  term_value d at term.Release = plain_value 0
  term_value d at (term.Read s e) = bit_value (source_value at (source_of d s e))
  term_value d at (term.Set ts) = set_value d at ts
  term_value d at (term.UnaryOf sign t) = unary_value sign (term_value d at t)
  term_value d at (term.BinaryOf sign t u) = binary_value sign (term_value d at t) (term_value d at u)

  pub set_value : Context → Levels → Terms → Value
  set_value d at term.NoTerm = no_position
  set_value d at (term.Before t ts) = joined_value (term_value d at t) (set_value d at ts)

-- a point that gives no level
abbrev pub empty_point : Levels
empty_point = record { pins = []; q = []; nodes = [] }

-- shapes, X positions and the numbers of constants are the same at every point, and so at that one
abbrev pub constant_of : Context → Term → Value
constant_of d t = term_value d empty_point t
