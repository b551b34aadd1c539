-- Private: operators on two values by kind (this project's rule).
use Rattle.std.specs.Prelude.{ℕ, false, true}
use Rattle.expr_bits.specs.Prelude.{Made, Binary, binary_word, Shape, Number, Single, Set, Value, meeting, binary_by}
use Rattle.expr_bits.specs.declared.forms.Form.{Form}
use Rattle.expr_bits.specs.Parts.{Part, with_value}
use Rattle.expr_bits.specs.Showing.{HasForm}

-- how many positions the bits of a shape have
abbrev pub positions_of : Shape → ℕ
positions_of Number = 0
positions_of Single = 1
positions_of (Set w) = w

-- a form is that of a value
abbrev pub MeetsAs : Form → Value → Type 0
MeetsAs f v = HasForm f v (positions_of v.shape)

-- a relation
abbrev pub related_part : Binary → Part → Part → Made Part
related_part sign p q =
    with_value (binary_by true sign p.value q.value)
    (binary_word true sign (meeting p.value.shape q.value.shape) p.value q.value p.word q.word)

-- any other operator
abbrev pub computed_part : Binary → Part → Part → Made Part
computed_part sign p q =
    with_value (binary_by false sign p.value q.value)
    (binary_word false sign (meeting p.value.shape q.value.shape) p.value q.value p.word q.word)
