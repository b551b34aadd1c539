-- What signals are given by a unit under a guard (ABEL-HDL Reference Manual, equations).
use Rattle.std.specs.Prelude.{List, [], ◌∷◌, map}
use Rattle.section_targets.specs.Prelude.{formula_at, Formula, contribution, Context, view_gives, view_guard}
use Rattle.bit_expr.specs.Folding.{make_and}
use Rattle.abel_meaning.specs.Contributions as meant
use Rattle.section_targets.specs.declared.aim.Aim.{Aim}
use Rattle.section_targets.specs.Units.{CountedUnit, part}
use Rattle.section_targets.specs.declared.giving.Giving.{Giving}

-- the guard's formula
abbrev pub guard_bit : List Formula → Giving → Formula
guard_bit fs g = formula_at fs g.guard.when

-- what one signal is given, where guard and bit are 1
abbrev pub one_given : Context → List Formula → Giving → Aim → Formula → meant.Contribution Formula
one_given d fs g a f =
    contribution d (view_guard fs g.guard) g.extension g.complement g.clocked (view_gives g.what) a.signal
    (make_and (guard_bit fs g) f).what

-- the nodes of that, as a part of the unit
abbrev pub one_part : List Formula → Giving → Formula → CountedUnit
one_part fs g f = part g.unit (make_and (guard_bit fs g) f).nodes

-- each signal with its bit, from the left
abbrev pub each_given : Context → List Formula → Giving → List Aim → List Formula → List (meant.Contribution Formula)
each_given d fs g [] bs = []
each_given d fs g (a ∷ aims) [] = []
each_given d fs g (a ∷ aims) (b ∷ bs) = one_given d fs g a b ∷ each_given d fs g aims bs

abbrev pub each_part : List Formula → Giving → List Formula → List CountedUnit
each_part fs g bs = map (one_part fs g) bs
