-- Units of a source with what is refused of each and the nodes that it makes, and the limit of nodes (this project's
-- rule).
use Rattle.std.specs.Prelude.{ℕ, ◌+◌, nat_lt, Bool, true, false, ◌&&◌, List, [], ◌∷◌, ◌++◌}
use Rattle.section_targets.specs.Prelude.{Place, MOST, SectionFault}
use Rattle.set_expr.specs.declared.fault.SectionFault.TheVariants as fault

-- a unit at its first token: what is refused of it, and the nodes that it makes
pub record CountedUnit : Type 0 where
  pub place : Place
  pub refusals : List SectionFault
  pub nodes : ℕ

-- a part of a unit at this place that isn't refused
abbrev pub part : Place → ℕ → CountedUnit
part p n = record { place = p; refusals = []; nodes = n }

-- all refusals of units but the limit
abbrev pub units_refused : List CountedUnit → List SectionFault
units_refused [] = []
units_refused (u ∷ us) = u.refusals ++ units_refused us

-- the nodes of all units
abbrev pub units_nodes : List CountedUnit → ℕ
units_nodes [] = 0
units_nodes (u ∷ us) = u.nodes + units_nodes us

-- making so many nodes in an arena of that many formulas passes the limit
abbrev pub is_past : (count nodes : ℕ) → Bool
is_past count nodes = nat_lt 0 nodes && nat_lt MOST (count + nodes)

-- a unit that isn't refused passes the limit, or those after it may; none after a refused one is counted
abbrev pub limit_at : (refusals : List SectionFault) → Place → (past : Bool) → (later : List SectionFault)
    → List SectionFault
limit_at [] p true later = fault.NodeLimit p ∷ []
limit_at [] p false later = later
limit_at (r ∷ rs) p past later = []

abbrev pub limit_refused : (count : ℕ) → List CountedUnit → List SectionFault
limit_refused count [] = []
limit_refused count (u ∷ us) = limit_at u.refusals u.place (is_past count u.nodes) (limit_refused (count + u.nodes) us)

-- all that is refused of units in an arena of that many formulas, the limit too
abbrev pub all_refused : (count : ℕ) → List CountedUnit → List SectionFault
all_refused count us = limit_refused count us ++ units_refused us
