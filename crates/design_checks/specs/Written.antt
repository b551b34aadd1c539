-- How a value is written, and which equations for a clock, or for an enable by a pin, are not written as its level is
-- (this project's rule). A value is written as levels at which it is made of signals, `!` and sets alone: parentheses
-- are passed over, and a constant's name represents its expression. A level's folded bit then gives the pin, as nothing
-- but pairs of complements is folded.
use Rattle.std.specs.Prelude.{ℕ, suc, ◌+◌, ◌==◌, nat_lt, Bool, true, false, not, ◌&&◌, ◌||◌, Option, List, [], ◌∷◌, ◌++◌, length, if◌then◌else◌}
use Rattle.design_checks.specs.Prelude.{flat_map, Place, Extension, target_extension, Tree, Statement, AnAssign, AWhen, AGroup, ADontCare, Otherwise, NoElse, AnElse, Statements, NoStatement, MoreStatements, statements_of, SectionTree, Declarations, Equations, ATable, ADiagram, SomeVectors, DontCareSection, Context, Design, name_at, Term, Terms, Number, X, Pulse, Release, Set, UnaryOf, BinaryOf, NoTerm, Before, term_of}
use Rattle.abel_tree.specs.declared.words.Unary.TheVariants as unary
use Rattle.abel_meaning.specs.Terms.{Read}
use Rattle.section_targets.specs.declared.aim.Aim.{Aim}
use Rattle.section_targets.specs.TargetSignals.{left_side}
use Rattle.design_checks.specs.declared.refused.RefusedUse.{RefusedUse}
use Rattle.design_checks.specs.Compared.{is_compared_of}
use Rattle.design_checks.specs.UsesRefused.{told_if}

-- ---- values

-- so many positions of a value, from the left, are written as levels, and all of it is or isn't
pub record Written : Type 0 where
  pub count : ℕ
  pub whole : Bool

abbrev pub not_written : Written
not_written = record { count = 0; whole = false }

abbrev pub one_written : Written
one_written = record { count = 1; whole = true }

abbrev pub none_written : Written
none_written = record { count = 0; whole = true }

-- a part of a value before others: what follows what is no level isn't counted
abbrev pub joined : Written → Written → Written
joined x y = if x.whole then record { count = x.count + y.count; whole = y.whole } else x

-- a signal is a level, and so is its complement; a set is one of its members after another
abbrev mutual
  pub written_of : Term → Written
  written_of (Read s e) = one_written
  written_of (UnaryOf unary.Not t) = written_of t
  written_of (Set ts) = written_of_all ts
  written_of (UnaryOf unary.Minus t) = not_written
  written_of (BinaryOf sign t u) = not_written
  written_of (Number n) = not_written
  written_of X = not_written
  written_of Pulse = not_written
  written_of Release = not_written

  pub written_of_all : Terms → Written
  written_of_all NoTerm = none_written
  written_of_all (Before t ts) = joined (written_of t) (written_of_all ts)

-- the value is written as a level at a position of its target; one bit is spread over all
abbrev pub is_written_at : Written → ℕ → Bool
is_written_at w i = nat_lt i w.count || (w.whole && (w.count == 1))

-- ---- equations

-- one signal of a target
abbrev pub aim_refused : Context → Option Extension → (written : Bool) → Aim → List RefusedUse
aim_refused d e written a =
    told_if (not written && is_compared_of d.device e (name_at d a.signal)) (record { place = a.place; name = a.signal })

-- the signals of a target from a position on
abbrev pub aims_refused : Context → Option Extension → Written → (position : ℕ) → List Aim → List RefusedUse
aims_refused d e w i [] = []
aims_refused d e w i (a ∷ aims) = aim_refused d e (is_written_at w i) a ++ aims_refused d e w (suc i) aims

-- a target of more than 32 signals is refused before
abbrev pub narrow : List Aim → List Aim
narrow aims = if nat_lt 32 (length aims) then [] else aims

-- under a guard nothing is written as a level
abbrev pub written_if : (guarded : Bool) → Term → Written
written_if true t = not_written
written_if false t = written_of t

abbrev pub assign_refused : Context → (guarded : Bool) → Place → (target value : Tree) → List RefusedUse
assign_refused d guarded p target value =
    aims_refused d (target_extension target) (written_if guarded (term_of d.known value)) 0 (narrow (left_side d p target).aims)

abbrev mutual
  pub statement_refused : Context → (guarded : Bool) → Statement → List RefusedUse
  statement_refused d guarded (AnAssign place complement target sign sign_place value) =
      assign_refused d guarded place target value
  statement_refused d guarded (AWhen place c s other) = statement_refused d true s ++ else_refused d other
  statement_refused d guarded (AGroup ss) = statements_refused d guarded ss
  statement_refused d guarded (ADontCare directive) = []

  pub else_refused : Context → Otherwise → List RefusedUse
  else_refused d NoElse = []
  else_refused d (AnElse s) = statement_refused d true s

  pub statements_refused : Context → (guarded : Bool) → Statements → List RefusedUse
  statements_refused d guarded NoStatement = []
  statements_refused d guarded (MoreStatements s ss) = statement_refused d guarded s ++ statements_refused d guarded ss

-- ---- all equations

-- what is in a diagram is given by its block
abbrev pub section_refused : Context → SectionTree → List RefusedUse
section_refused d (Declarations ds) = []
section_refused d (Equations ss) = statements_refused d false (statements_of ss)
section_refused d (ATable place inputs clocked outputs rows) = []
section_refused d (ADiagram place registers states) = []
section_refused d (SomeVectors text place inputs outputs rows) = []
section_refused d (DontCareSection directive) = []

abbrev pub sections_refused : Context → List SectionTree → List RefusedUse
sections_refused d ss = flat_map (section_refused d) ss

-- the signals of a design's targets whose equation is compared and not written as levels, in order of the source
abbrev pub unwritten : Design → List RefusedUse
unwritten d = sections_refused d.context d.sections
