-- The expressions of directives: numbers of 32 bits, and names that have a value (ABEL-HDL Reference
-- Manual, operators and directives; a relation gives 1 or 0, by this project's rule).
use Rattle.std.specs.Prelude.{ℕ, zero, suc, ◌+◌, ◌-◌, ◌*◌, ◌/◌, ◌%◌, ◌^◌, Bool, true, false, not, ◌==◌, nat_lt, nat_le, bit_and, bit_or, bit_xor, List, [], ◌∷◌, ◌++◌, length, slice_index, Option, Some, None, codes, if◌then◌else◌}
use Rattle.abel_macros.specs.Prelude.{bytes_eq}
use Rattle.abel_lexer.specs.Numbers.{number_value, is_good_number}
use Rattle.abel_macros.specs.declared.operator.Operator.{Operator}
use Rattle.abel_macros.specs.declared.operator.Operator.TheVariants as operator
use Rattle.abel_macros.specs.declared.operator.Prefix.{Prefix}
use Rattle.abel_macros.specs.declared.operator.Prefix.TheVariants as prefix
use Rattle.abel_macros.specs.declared.operator.Priority.{Priority}
use Rattle.abel_macros.specs.declared.operator.Priority.TheVariants as priority
use Rattle.abel_macros.specs.Gaps.{◌>>=◌, given, before, gap, word, number, sign, behind_sign}

-- ---- operators

-- 2 to the 32
abbrev pub whole : ℕ
whole = 2 ^ 32

abbrev pub bit : Bool → Option ℕ
bit b = Some (if b then 1 else 0)

-- what an operator makes of two numbers below 2 to the 32; nothing of a division by 0
abbrev pub applied : Operator → ℕ → ℕ → Option ℕ
applied operator.Equal a b = bit (a == b)
applied operator.Unequal a b = bit (not (a == b))
applied operator.Less a b = bit (nat_lt a b)
applied operator.LessEqual a b = bit (nat_le a b)
applied operator.Greater a b = bit (nat_lt b a)
applied operator.GreaterEqual a b = bit (nat_le b a)
applied operator.Plus a b = Some ((a + b) % whole)
applied operator.Minus a b = Some ((a + (whole - b)) % whole)
applied operator.Or a b = Some (bit_or a b)
applied operator.Xor a b = Some (bit_xor a b)
applied operator.Xnor a b = Some (whole - 1 - bit_xor a b)
applied operator.And a b = Some (bit_and a b)
applied operator.ShiftLeft a b = Some (if nat_lt b 32 then (a * 2 ^ b) % whole else 0)
applied operator.ShiftRight a b = Some (if nat_lt b 32 then a / 2 ^ b else 0)
applied operator.Times a b = Some ((a * b) % whole)
applied operator.Over a b = if b == 0 then None else Some (a / b)
applied operator.Rest a b = if b == 0 then None else Some (a % b)

-- the relation that a sign is
abbrev pub relation_of : List ℕ → Option Operator
relation_of s =
    if bytes_eq s (codes "==") then Some operator.Equal
    else if bytes_eq s (codes "!=") then Some operator.Unequal
    else if bytes_eq s (codes "<") then Some operator.Less
    else if bytes_eq s (codes "<=") then Some operator.LessEqual
    else if bytes_eq s (codes ">") then Some operator.Greater else if bytes_eq s (codes ">=") then Some operator.GreaterEqual else None

-- the operator of sums that a sign is
abbrev pub sum_of : List ℕ → Option Operator
sum_of s =
    if bytes_eq s (codes "+") then Some operator.Plus
    else if bytes_eq s (codes "-") then Some operator.Minus
    else if bytes_eq s (codes "#") then Some operator.Or
    else if bytes_eq s (codes "$") then Some operator.Xor else if bytes_eq s (codes "!$") then Some operator.Xnor else None

-- the operator of products that a sign is
abbrev pub product_of : List ℕ → Option Operator
product_of s =
    if bytes_eq s (codes "&") then Some operator.And
    else if bytes_eq s (codes "<<") then Some operator.ShiftLeft
    else if bytes_eq s (codes ">>") then Some operator.ShiftRight
    else if bytes_eq s (codes "*") then Some operator.Times
    else if bytes_eq s (codes "/") then Some operator.Over else if bytes_eq s (codes "%") then Some operator.Rest else None

-- the operator of a priority that a sign is
abbrev pub operator_of : Priority → List ℕ → Option Operator
operator_of priority.Relation s = relation_of s
operator_of priority.Sum s = sum_of s
operator_of priority.Product s = product_of s

-- what may precede an operand: `!`, `-` or a parenthesis
abbrev pub prefix_of : List ℕ → Prefix
prefix_of s = if bytes_eq s (codes "!") then prefix.Not else if bytes_eq s (codes "-") then prefix.Minus else if bytes_eq s (codes "(") then prefix.Open else prefix.Plain

-- ---- the grammar

-- a value and what follows its expression
abbrev pub Read : Type 0
Read = Option (ℕ × List ℕ)

-- items with operators of one priority between them, from the left: at most so many more, after a value
abbrev pub chain_on : Priority → (List ℕ → Read) → ℕ → ℕ → List ℕ → Read
chain_on p item zero value text = Some (value, text)
chain_on p item (suc more) value text =
    elim (operator_of p (sign (gap text))) [
      | None ↦ Some (value, text)
      | Some o ↦ item (behind_sign text) >>= λ x. applied o value x.0 >>= λ v. chain_on p item more v x.1
    ]

abbrev pub chain : Priority → (List ℕ → Read) → List ℕ → Read
chain p item text = item text >>= λ x. chain_on p item (length text) x.0 x.1

-- what operators of a priority are between: relations between sums, these between products, and these
-- between operands
abbrev pub item : Priority → (List ℕ → Read) → List ℕ → Read
item priority.Relation operand text = chain priority.Sum (chain priority.Product operand) text
item priority.Sum operand text = chain priority.Product operand text
item priority.Product operand text = operand text

-- what operators of a priority and stronger ones make of operands
abbrev pub level : Priority → (List ℕ → Read) → List ℕ → Read
level p operand text = chain p (item p operand) text

-- a number that is good in the radix in force, or a name that has a value
abbrev pub primary : ℕ → (List ℕ → Option ℕ) → List ℕ → Read
primary radix values text =
    elim (number text) [
      | Some behind ↦ given (is_good_number radix (before text behind)) (number_value radix (before text behind), behind)
      | None ↦ word text >>= λ behind. values (before text behind) >>= λ v. Some (v, behind)
    ]

-- a value before a closing parenthesis
abbrev pub closed : ℕ → List ℕ → Read
closed value text = given (bytes_eq (sign (gap text)) (codes ")")) (value, behind_sign text)

-- what a prefix makes of what follows it, an operand or an expression
abbrev pub behind_prefix : Prefix → (List ℕ → Read) → (List ℕ → Read) → List ℕ → Read
behind_prefix prefix.Not operand plain text = operand text >>= λ x. Some (whole - 1 - x.0, x.1)
behind_prefix prefix.Minus operand plain text = operand text >>= λ x. Some ((whole - x.0) % whole, x.1)
behind_prefix prefix.Open operand plain text = level priority.Relation operand text >>= λ x. closed x.0 x.1
behind_prefix prefix.Plain operand plain text = plain text

-- what follows a prefix; without one, after blanks and comments
abbrev pub past_prefix : Prefix → List ℕ → List ℕ
past_prefix prefix.Not text = behind_sign text
past_prefix prefix.Minus text = behind_sign text
past_prefix prefix.Open text = behind_sign text
past_prefix prefix.Plain text = gap text

-- an operand that begins with a prefix, or with none; a prefix is one of at most so many
abbrev pub begun : Prefix → Option (List ℕ → Read) → (List ℕ → Read) → List ℕ → Read
begun prefix.Plain nested plain text = plain text
begun prefix.Not nested plain text = nested >>= λ operand. behind_prefix prefix.Not operand plain text
begun prefix.Minus nested plain text = nested >>= λ operand. behind_prefix prefix.Minus operand plain text
begun prefix.Open nested plain text = nested >>= λ operand. behind_prefix prefix.Open operand plain text

-- an operand: a primary, or `!`, unary `-` or a parenthesis before what they take; so many of the
-- three may be nested
abbrev pub operand : ℕ → ℕ → (List ℕ → Option ℕ) → List ℕ → Read
operand zero radix values text = begun (prefix_of (sign (gap text))) None (primary radix values) (past_prefix (prefix_of (sign (gap text))) text)
operand (suc more) radix values text =
    begun (prefix_of (sign (gap text))) (Some (operand more radix values)) (primary radix values) (past_prefix (prefix_of (sign (gap text))) text)

-- what a prefix makes of what follows it, where so many may be nested in that
abbrev pub prefixed : Prefix → ℕ → ℕ → (List ℕ → Option ℕ) → List ℕ → Read
prefixed p more radix values text = behind_prefix p (operand more radix values) (primary radix values) text

-- the deepest nesting
abbrev pub deepest : ℕ
deepest = 64

-- the value of the expression at the front, and what follows it
abbrev pub expression : ℕ → (List ℕ → Option ℕ) → List ℕ → Read
expression radix values text = level priority.Relation (operand deepest radix values) text

-- ---- values in words

-- the digits of a value in a radix, at most so many, letters upper-case
abbrev pub digits_in : ℕ → ℕ → ℕ → List ℕ
digits_in zero radix value = []
digits_in (suc most) radix value =
    elim (nat_lt value radix) [
      | true ↦ slice_index (codes "0123456789ABCDEF") value ∷ []
      | false ↦ digits_in most radix (value / radix) ++ slice_index (codes "0123456789ABCDEF") (value % radix) ∷ []
    ]
