-- Nothing is refused of the equations of a decompiled source.
use Rattle.std.proofs.Common.{◌≡◌, ℕ, ◌+◌, ◌*◌, ◌≤◌, Bool, true, false, List, [], ◌∷◌, ◌++◌, length, refl, sym, ap, subst, ◌∙◌, arith, append-nil, nat_lt}
use Rattle.decompiler.proofs.Common.{AllByRecursion, and_right, le-ltb, IsDevice, Table, MOST, arena, Const, Statement, Equations, ModuleTree, statements_of, Design, design_of, SectionFault, Manner, CountedUnit, all_refused, is_past, limit_at, limit_refused, units_nodes, units_refused, statement_manners, units_of_statements, source_units, units_of_sections, SumLine, AreLines, IsSourceTree, lines_of, source_of, each_append, IsDeclaredLine, lines_declared}
use Rattle.source_sections.specs.SectionAnswers.{sections_refused}
use Rattle.abel_vectors.specs.AllSections.{all_sections_refused}
use Rattle.abel_vectors.specs.SourceVectors.{refused_behind}
use Rattle.decompiler.specs.Sections.{SectionsAreUnrefused}
use Rattle.decompiler.proofs.LineManners.{IsGoodLine, IsLineManner, line_manner}
use Rattle.decompiler.proofs.LineUnits.{manner_is, unit_is}
use Rattle.decompiler.proofs.OwnLines.{IsOwnLine, few_lines, own_lines}
use Rattle.decompiler.proofs.PlainNames.{constants_unrefused}

-- ---- units that aren't refused

-- none is refused, and they make at most so many nodes
pub record AreUnrefused (us : List CountedUnit) (most : ℕ) : Type 0 where
  pub each : AllByRecursion (λ (u : CountedUnit). u.refusals ≡ []) us
  pub nodes : units_nodes us ≤ most

none_refused : (us : List CountedUnit) → AllByRecursion (λ (u : CountedUnit). u.refusals ≡ []) us → units_refused us ≡ []
none_refused [] each = refl
none_refused (u ∷ us) each = ap (λ (rs : List SectionFault). rs ++ units_refused us) each.0 ∙ none_refused us each.1

not_past : (count nodes : ℕ) → count + nodes ≤ MOST → is_past count nodes ≡ false
not_past count nodes low = and_right (nat_lt 0 nodes) (nat_lt MOST (count + nodes)) (le-ltb MOST (count + nodes) low)

within_limit : (us : List CountedUnit) (count : ℕ) → AllByRecursion (λ (u : CountedUnit). u.refusals ≡ []) us → count + units_nodes us ≤ MOST → limit_refused count us ≡ []
within_limit [] count each low = refl
within_limit (u ∷ us) count each low =
    ap (λ (rs : List SectionFault). limit_at rs u.place (is_past count u.nodes) (limit_refused (count + u.nodes) us)) each.0
    ∙ ap (λ (past : Bool). limit_at [] u.place past (limit_refused (count + u.nodes) us)) (not_past count u.nodes (omega (arith, low)))
    ∙ within_limit us (count + u.nodes) each.1 (omega (arith, low))

first_arena : length (arena []) ≡ 2
unfolding arena
first_arena = refl

units_pass : (us : List CountedUnit) (most : ℕ) → AreUnrefused us most → 2 + most ≤ MOST → all_refused (length (arena [])) us ≡ []
units_pass us most are low =
    ap (λ (rs : List SectionFault). limit_refused (length (arena [])) us ++ rs) (none_refused us are.each)
    ∙ ap (λ (ls : List SectionFault). ls ++ []) (within_limit us (length (arena [])) are.each (omega (arith, first_arena, low, are.nodes)))

-- ---- the units of lines

module _ (t : Table) (fuses : List Bool) (laws : IsDevice t) (m : ModuleTree) (is : IsSourceTree (source_of t fuses) m) where
  abbrev d : Design
  d = design_of t m

  lines_pass : (ls : List SumLine) (ss : List Statement) (before : List Manner) → AreLines ls ss → AllByRecursion (IsGoodLine t fuses laws m is) ls
      → AllByRecursion (IsLineManner t fuses laws m is) before → AreUnrefused (units_of_statements d.context (Const true) before (statements_of ss)) (2832 * length ls)
  lines_pass [] ss before are good all =
      subst (λ (xs : List Statement). AreUnrefused (units_of_statements d.context (Const true) before (statements_of xs)) 0) (sym are)
      (record { each = tt; nodes = omega arith })
  lines_pass (l ∷ ls) ss before are good all =
      let unit = unit_is t fuses laws m is l good.0 are.0 are.2 before all in
      let manner = manner_is t fuses laws m is l good.0 are.0 are.2 in
      let rest = lines_pass ls are.1 (before ++ line_manner t fuses laws m is l ∷ []) are.3 good.1
      (each_append (IsLineManner t fuses laws m is) before (line_manner t fuses laws m is l ∷ []) all (record { line = l; good = good.0; equals = refl }, tt)) in
      let later : List CountedUnit = units_of_statements d.context (Const true) (before ++ line_manner t fuses laws m is l ∷ []) (statements_of are.1) in
      let whole : units_of_statements d.context (Const true) before (statements_of ss) ≡ unit.unit ∷ later =
      ap (λ (xs : List Statement). units_of_statements d.context (Const true) before (statements_of xs)) are.4
      ∙ ap (λ (us : List CountedUnit). us ++ units_of_statements d.context (Const true) (before ++ statement_manners d.context are.0) (statements_of are.1)) unit.equals
      ∙ ap (λ (ms : List Manner). unit.unit ∷ units_of_statements d.context (Const true) (before ++ ms) (statements_of are.1)) manner in
      subst (λ (us : List CountedUnit). AreUnrefused us (2832 * length (l ∷ ls))) (sym whole)
      (record { each = (unit.refusals, rest.each); nodes = omega (arith, unit.nodes, rest.nodes) })

  pub good_lines : AllByRecursion (IsGoodLine t fuses laws m is) (lines_of t fuses)
  good_lines = both (lines_of t fuses) (own_lines t fuses laws) (lines_declared t fuses laws)
    where
      both : (ls : List SumLine) → AllByRecursion (IsOwnLine t fuses) ls → AllByRecursion (IsDeclaredLine t fuses laws) ls → AllByRecursion (IsGoodLine t fuses laws m is) ls
      both [] own declared = tt
      both (l ∷ ls) own declared = ((own.0, declared.0), both ls own.1 declared.1)

  -- the sections are the equations alone
  pub sections_are : d.sections ≡ Equations is.lines ∷ []
  sections_are = ap (λ (x : ModuleTree). x.sections) is.is

  abbrev line_units : List CountedUnit
  line_units = units_of_statements d.context (Const true) [] (statements_of is.lines)

  pub units_are : source_units d ≡ line_units
  units_are = ap (units_of_sections d.context []) sections_are ∙ append-nil line_units

  pub sections_pass : sections_refused d ≡ []
  sections_pass =
      let lines = lines_pass (lines_of t fuses) is.lines [] is.are_lines good_lines tt in
      ap (λ (rs : List SectionFault). rs ++ all_refused (length (arena [])) (source_units d)) (constants_unrefused t fuses laws m is)
      ∙ ap (all_refused (length (arena []))) units_are
      ∙ units_pass line_units (2832 * length (lines_of t fuses)) lines (omega (arith, few_lines t fuses laws))

  pub all_pass : all_sections_refused d ≡ []
  all_pass = ap (λ (rs : List SectionFault). rs ++ refused_behind d.context 0 d.sections) sections_pass ∙ ap (refused_behind d.context 0) sections_are

pub sections_unrefused : SectionsAreUnrefused
sections_unrefused t fuses m laws is = all_pass t fuses laws m is
