-- The units of statements in order of their first tokens, with what is refused of each and the nodes that it makes
-- (ABEL-HDL Reference Manual, equations and WHEN-THEN-ELSE; units are this project's rule).
use Rattle.std.specs.Prelude.{ℕ, Bool, Option, List, [], ◌∷◌, ◌++◌, length, map}
use Rattle.equations.specs.Prelude.{Place, Tree, Statement, AnAssign, AWhen, AGroup, ADontCare, Otherwise, NoElse, AnElse, Statements, NoStatement, MoreStatements, Context, targets_of, term_of, value_nodes, choice_nodes, condition_of, guard_then, guard_else, has_else, SectionFault, expression_found, Found, Manner, manner_of, aims_refused, CountedUnit, value_refused, TargetFound, left_side}
use Rattle.bit_expr.specs.Formulas.{Formula}
use Rattle.abel_tree.specs.Assigned.{target_extension, is_clocked}
use Rattle.abel_tree.specs.declared.words.Sign.{Sign}
use Rattle.abel_tree.specs.declared.words.Extension.{Extension}
use Rattle.section_targets.specs.declared.aim.Aim.{Aim}
use Rattle.section_targets.specs.Given.{places_of}

-- ---- conditions and assignments

-- a condition is one bit
abbrev pub condition_refused : Context → Place → Tree → List SectionFault
condition_refused d p c = value_refused p 1 (expression_found d.names c)

-- a target that is refused assigns nothing
abbrev pub unless_any : List SectionFault → List Aim → List Aim
unless_any [] aims = aims
unless_any (r ∷ rs) aims = []

abbrev pub assigned_aims : TargetFound → List Aim
assigned_aims t = unless_any t.refusals t.aims

-- a value meets a target that isn't refused
abbrev pub taken_refused : List SectionFault → Place → (n : ℕ) → Found → List SectionFault
taken_refused [] q n f = value_refused q n f
taken_refused (r ∷ rs) q n f = f.refusals ++ f.specials

-- how an assignment's signals are assigned
abbrev pub assigned_manners : Option Extension → (complement : Bool) → Sign → List Aim → List Manner
assigned_manners e complement sign aims = map (manner_of e complement (is_clocked sign)) aims

-- what is refused of an assignment: its target, its value, and how the signals are assigned
abbrev pub assign_refused : Context → List Manner → Option Extension → (complement : Bool) → Sign → Place
    → TargetFound → Found → List SectionFault
assign_refused d before e complement sign q t f =
    t.refusals
    ++ (taken_refused t.refusals q (length t.aims) f
    ++ aims_refused d before e complement (is_clocked sign) (assigned_aims t))

-- ---- units

-- how the statements assign signals, in order
abbrev mutual
  pub statement_manners : Context → Statement → List Manner
  statement_manners d (AnAssign place complement target sign q value) =
      assigned_manners (target_extension target) complement sign (assigned_aims (left_side d place target))
  statement_manners d (AWhen place c s other) = statement_manners d s ++ else_manners d other
  statement_manners d (AGroup ss) = statements_manners d ss
  statement_manners d (ADontCare directive) = []

  pub else_manners : Context → Otherwise → List Manner
  else_manners d NoElse = []
  else_manners d (AnElse s) = statement_manners d s

  pub statements_manners : Context → Statements → List Manner
  statements_manners d NoStatement = []
  statements_manners d (MoreStatements s ss) = statement_manners d s ++ statements_manners d ss

-- the places of the signals that statements assign, in order
abbrev mutual
  pub statement_places : Context → Statement → List Place
  statement_places d (AnAssign place complement target sign q value) =
      places_of (assigned_aims (left_side d place target))
  statement_places d (AWhen place c s other) = statement_places d s ++ else_places d other
  statement_places d (AGroup ss) = statements_places d ss
  statement_places d (ADontCare directive) = []

  pub else_places : Context → Otherwise → List Place
  else_places d NoElse = []
  else_places d (AnElse s) = statement_places d s

  pub statements_places : Context → Statements → List Place
  statements_places d NoStatement = []
  statements_places d (MoreStatements s ss) = statement_places d s ++ statements_places d ss

-- the units of statements under a guard, after what was assigned before
abbrev mutual
  pub units_of_statement : Context → (guard : Formula) → List Manner → Statement → List CountedUnit
  units_of_statement d g before (AnAssign place complement target sign q value) =
      record {
        place = place;
        refusals = assign_refused d before (target_extension target) complement sign q (left_side d place target)
            (expression_found d.names value);
        nodes = value_nodes d g (length (targets_of (term_of d.known target))) value;
      } ∷ []
  units_of_statement d g before (AWhen place c s other) =
      record {
        place = place;
        refusals = condition_refused d place c;
        nodes = choice_nodes d g c (has_else other);
      }
      ∷ units_of_statement d (guard_then g (condition_of d c)).what before s
      ++ units_of_else d (guard_else g (condition_of d c)).what (before ++ statement_manners d s) other
  units_of_statement d g before (AGroup ss) = units_of_statements d g before ss
  units_of_statement d g before (ADontCare directive) = []

  pub units_of_else : Context → (guard : Formula) → List Manner → Otherwise → List CountedUnit
  units_of_else d g before NoElse = []
  units_of_else d g before (AnElse s) = units_of_statement d g before s

  pub units_of_statements : Context → (guard : Formula) → List Manner → Statements → List CountedUnit
  units_of_statements d g before NoStatement = []
  units_of_statements d g before (MoreStatements s ss) =
      units_of_statement d g before s ++ units_of_statements d g (before ++ statement_manners d s) ss
