-- What is refused of set expressions, with places (ABEL-HDL Reference Manual, operators and sets; the places at which
-- special values are allowed are this project's rule).
use Rattle.std.specs.Prelude.{ℕ, ◌+◌, ◌==◌, nat_lt, Bool, true, false, if◌then◌else◌, Option, None, Some, List, [], ◌∷◌, ◌++◌}
use Rattle.set_expr.specs.Prelude.{Place, Shape, Number, Single, Set, member_width, Value, is_relation, plain_value, binary_value, unary_value, joined_value, no_position}
use Rattle.abel_tree.specs.declared.words.Binary.{Binary}
use Rattle.abel_tree.specs.declared.words.Binary.TheVariants as binary
use Rattle.abel_tree.specs.declared.words.Unary.{Unary}
use Rattle.set_expr.specs.declared.fault.SectionFault.{SectionFault}
use Rattle.set_expr.specs.declared.fault.SectionFault.TheVariants.{NotConstant, ZeroDivisor, BadWidth}

-- what is found of an expression: its refusals; what its X positions are refused as at a place at which none is
-- allowed; and its value at a point that gives no level, none if it is refused
pub record Found : Type 0 where
  pub refusals : List SectionFault
  pub specials : List SectionFault
  pub value : Option Value

-- what is refused has no value and no position
abbrev pub unless_refused : (refusals specials : List SectionFault) → Value → Found
unless_refused [] specials v = record { refusals = []; specials = specials; value = Some v }
unless_refused (r ∷ rs) specials v = record { refusals = r ∷ rs; specials = []; value = None }

-- ---- operators

-- sets of unequal width
abbrev pub unequal : Place → Shape → Shape → List SectionFault
unequal p (Set v) (Set w) = if v == w then [] else BadWidth p ∷ []
unequal p s t = []

-- and, if one bit isn't spread, one bit beside a set of several
abbrev pub unequal_unspread : Place → Shape → Shape → List SectionFault
unequal_unspread p Single (Set w) = if w == 1 then [] else BadWidth p ∷ []
unequal_unspread p (Set w) Single = if w == 1 then [] else BadWidth p ∷ []
unequal_unspread p s t = unequal p s t

-- what isn't two numbers
abbrev pub not_numbers : Place → Shape → Shape → List SectionFault
not_numbers p Number Number = []
not_numbers p s t = NotConstant p ∷ []

-- and a number divided by 0
abbrev pub no_divisor : Place → (s t : Shape) → (divisor : ℕ) → List SectionFault
no_divisor p Number Number n = if n == 0 then ZeroDivisor p ∷ [] else []
no_divisor p s t n = NotConstant p ∷ []

-- what an operator refuses of two shapes
abbrev pub operator_refusals : Binary → Place → (s t : Shape) → (right : ℕ) → List SectionFault
operator_refusals binary.And p s t n = unequal p s t
operator_refusals binary.Or p s t n = unequal p s t
operator_refusals binary.Xor p s t n = unequal p s t
operator_refusals binary.Xnor p s t n = unequal p s t
operator_refusals binary.Times p s t n = not_numbers p s t
operator_refusals binary.ShiftLeft p s t n = not_numbers p s t
operator_refusals binary.ShiftRight p s t n = not_numbers p s t
operator_refusals binary.Over p s t n = no_divisor p s t n
operator_refusals binary.Rest p s t n = no_divisor p s t n
operator_refusals _ p s t n = unequal_unspread p s t

-- and of two operands, if both have a value
abbrev pub operands_refused : Binary → Place → Option Value → Option Value → List SectionFault
operands_refused sign p None u = []
operands_refused sign p (Some v) None = []
operands_refused sign p (Some v) (Some u) = operator_refusals sign p v.shape u.shape u.number

-- the values of an operator's operands that have one
abbrev pub value_of_both : Binary → Option Value → Option Value → Value
value_of_both sign None u = plain_value 0
value_of_both sign (Some v) None = plain_value 0
value_of_both sign (Some v) (Some u) = binary_value sign v u

-- a side of a relation may have X positions
abbrev pub specials_refused : (relation : Bool) → (xs ys : List SectionFault) → List SectionFault
specials_refused true xs ys = []
specials_refused false xs ys = xs ++ ys

-- two operands under an operator
abbrev pub found_both : Binary → Place → Found → Found → Found
found_both sign p f g =
    unless_refused
    ((f.refusals ++ g.refusals)
    ++ (specials_refused (is_relation sign) f.specials g.specials ++ operands_refused sign p f.value g.value))
    [] (value_of_both sign f.value g.value)

-- the value of an operand, a number's if it has none
abbrev pub value_or_none : Option Value → Value
value_or_none None = plain_value 0
value_or_none (Some v) = v

-- an operand under an operator
abbrev pub found_under : Unary → Found → Found
found_under sign f = unless_refused (f.refusals ++ f.specials) [] (unary_value sign (value_or_none f.value))

-- ---- sets

-- a member that is a number is 0 or 1
abbrev pub large_number : Place → Shape → (number : ℕ) → List SectionFault
large_number p Number n = if nat_lt n 2 then [] else BadWidth p ∷ []
large_number p s n = []

abbrev pub large_member : Place → Option Value → List SectionFault
large_member p None = []
large_member p (Some v) = large_number p v.shape v.number

-- the positions of the members that have some
abbrev pub width_with : Option Value → ℕ
width_with None = 0
width_with (Some v) = member_width v.shape

abbrev pub members_width : List Found → ℕ
members_width [] = 0
members_width (f ∷ fs) = width_with f.value + members_width fs

-- a set has at most 32 positions
abbrev pub too_wide : Place → ℕ → List SectionFault
too_wide p w = if nat_lt 32 w then BadWidth p ∷ [] else []

-- the refusals of members, and the X positions of all
abbrev pub members_refused : Place → List Found → List SectionFault
members_refused p [] = []
members_refused p (f ∷ fs) = (f.refusals ++ large_member p f.value) ++ members_refused p fs

abbrev pub members_specials : List Found → List SectionFault
members_specials [] = []
members_specials (f ∷ fs) = f.specials ++ members_specials fs

-- the value of a set
abbrev pub members_value : List Found → Value
members_value [] = no_position
members_value (f ∷ fs) = joined_value (value_or_none f.value) (members_value fs)

-- a set at this bracket
abbrev pub found_set : Place → List Found → Found
found_set p fs =
    unless_refused (members_refused p fs ++ too_wide p (members_width fs)) (members_specials fs) (members_value fs)
