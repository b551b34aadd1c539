-- Private: the bits of a term, step by step over a stack of values (this project's rule).
use Rattle.std.specs.Prelude.{List, [], ◌∷◌}
use Rattle.expr_bits.specs.Prelude.{Made, free, ◌>>=◌, Context, bits_of, Shape, Number, Single, Set, Term, constant_of}
use Rattle.abel_meaning.specs.Terms as term
use Rattle.expr_bits.specs.Parts.{Part, with_value, number_part, under_part, both_part, no_part, joined_part}
use Rattle.expr_bits.specs.declared.work.Step.{Step}
use Rattle.expr_bits.specs.declared.work.Step.TheVariants as step

-- what a term amounts to
abbrev pub term_part : Context → Term → Made Part
term_part d t = with_value (constant_of d t) (bits_of d t)

-- the value on top, the number 0 if there isn't one, and those below it
abbrev pub top : List Part → Part
top [] = number_part 0
top (p ∷ ps) = p

abbrev pub below : List Part → List Part
below [] = []
below (p ∷ ps) = ps

-- something made, on top of others
abbrev pub pushed : Made Part → List Part → Made (List Part)
pushed m ps = record { what = m.what ∷ ps; nodes = m.nodes }

-- a part as the set that it is; what isn't one as a set without members
abbrev pub set_by : Shape → Part → Part
set_by Number p = no_part
set_by Single p = no_part
set_by (Set w) p = p

abbrev pub as_set : Part → Part
as_set p = set_by p.value.shape p

-- what a step makes of the values on top
abbrev pub made_by : Context → Step → List Part → Made Part
made_by d (step.Number n) ps = term_part d (term.Number n)
made_by d step.Unknown ps = term_part d term.X
made_by d (step.Read s e) ps = term_part d (term.Read s e)
made_by d (step.Under sign) ps = under_part sign (top ps)
made_by d (step.Both sign) ps = both_part sign (top (below ps)) (top ps)
made_by d step.Empty ps = free no_part
made_by d step.Member ps = free (joined_part (top ps) (as_set (top (below ps))))

-- and which values it leaves
abbrev pub left_by : Step → List Part → List Part
left_by (step.Number n) ps = ps
left_by step.Unknown ps = ps
left_by (step.Read s e) ps = ps
left_by (step.Under sign) ps = below ps
left_by (step.Both sign) ps = below (below ps)
left_by step.Empty ps = ps
left_by step.Member ps = below (below ps)

abbrev pub after_step : Context → Step → List Part → Made (List Part)
after_step d s ps = pushed (made_by d s ps) (left_by s ps)

-- a term, or a step
pub data Task : Type 0 where
  Push : Term → Task
  Do : Step → Task

abbrev pub after_task : Context → Task → List Part → Made (List Part)
after_task d (Push t) ps = pushed (term_part d t) ps
after_task d (Do s) ps = after_step d s ps

-- all tasks, the first of them first
abbrev pub after_all : Context → List Task → List Part → Made (List Part)
after_all d [] ps = free ps
after_all d (t ∷ ts) ps = after_task d t ps >>= after_all d ts
