-- Values with their words of formulas, and what operators and sets make of them (ABEL-HDL Reference Manual, operators
-- and sets; this project's rule how they are counted).
use Rattle.std.specs.Prelude.{ℕ, Bool, List, [], ◌++◌}
use Rattle.expr_bits.specs.Prelude.{Made, Formula, Binary, Word, unary_word, relation_bit, binary_word, kept_bits, met_word, Value, meeting, member_width, width_of, met_unknown, either_unknown, is_relation, plain_value, binary_value, unary_value, operator_value, joined_value, no_position}
use Rattle.abel_tree.specs.declared.words.Unary.{Unary}
use Rattle.expr_bits.specs.declared.forms.Bits.{Bits}
use Rattle.expr_bits.specs.Showing.{IsBits}

-- a value with its word
pub record Part : Type 0 where
  pub value : Value
  pub word : Word

-- the bits are those of a value
abbrev pub IsPart : List Formula → Bits → Part → Type 0
IsPart fs b p = IsBits fs b p.value p.word

-- the bits are those of some value
pub record Stands (fs : List Formula) (b : Bits) : Type 0 where
  pub part : Part
  pub is : IsPart fs b part

-- a number
abbrev pub number_part : ℕ → Part
number_part n = record { value = plain_value n; word = [] }

-- a value whose word was made
abbrev pub with_value : Value → Made Word → Made Part
with_value v m = record { what = record { value = v; word = m.what }; nodes = m.nodes }

-- an operator on one value
abbrev pub under_part : Unary → Part → Made Part
under_part sign p = with_value (unary_value sign p.value) (unary_word sign p.word)

-- in how many positions two values meet
abbrev pub width_of_two : Part → Part → ℕ
width_of_two p q = width_of (meeting p.value.shape q.value.shape)

-- a word in so many positions
abbrev pub word_in : ℕ → Part → Word
word_in w p = met_word w p.value p.word

-- the positions that a relation drops
abbrev pub dropped_of : Part → Part → List Bool
dropped_of p q = either_unknown (met_unknown (width_of_two p q) p.value) (met_unknown (width_of_two p q) q.value)

-- the one bit of a relation
abbrev pub relation_of : Binary → Part → Part → Made Formula
relation_of sign p q =
    relation_bit sign
    (kept_bits (dropped_of p q) (word_in (width_of_two p q) p)) (kept_bits (dropped_of p q) (word_in (width_of_two p q) q))

-- the value of an operator that is no relation
abbrev pub computed_value : Binary → Part → Part → Value
computed_value sign p q = operator_value sign (meeting p.value.shape q.value.shape) p.value q.value

-- an operator on two values
abbrev pub both_part : Binary → Part → Part → Made Part
both_part sign p q =
    with_value (binary_value sign p.value q.value)
    (binary_word (is_relation sign) sign (meeting p.value.shape q.value.shape) p.value q.value p.word q.word)

-- a set without members
abbrev pub no_part : Part
no_part = record { value = no_position; word = [] }

-- a member before the others of a set
abbrev pub joined_part : Part → Part → Part
joined_part p rest =
    record { value = joined_value p.value rest.value; word = rest.word ++ word_in (member_width p.value.shape) p }
