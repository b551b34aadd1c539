-- The formulas of a source's lines have no more nodes than its units were counted for; and the place of its
-- lines.
use Rattle.std.proofs.Common.{◌≡◌, ◌+◌, ◌≤◌, Bool, true, List, [], ◌∷◌, ◌++◌, length, map, refl, ap, ◌∙◌, arith}
use Rattle.decompiler.proofs.Common.{AllByRecursion, Place, IsDevice, Table, Formula, Const, all_nodes_of, nodes_of, Statement, ModuleTree, statements_of, Design, design_of, bits_of, term_of, Manner, CountedUnit, units_nodes, statement_manners, statements_places, units_of_statements, SumLine, AreLines, IsLine, IsSourceTree, sum_formula, source_of, each_append, each_weaker, leaf_of, IsDeclaredLiteral, literals_read}
use Rattle.decompiled.proofs.SumBits.{sums}
use Rattle.decompiler.proofs.EachTree.{sum_holds}
use Rattle.decompiler.proofs.LineManners.{IsGoodLine, IsLineManner, line_manner}
use Rattle.decompiler.proofs.LineUnits.{known_pin, manner_is, place_is, unit_is}
use Rattle.decompiler.proofs.SmallBits.{IsKnownPin, weight}
use Rattle.decompiler.proofs.PaidBits.{IsPaidTree, bit_paid, paid_steps}

module _ (t : Table) (fuses : List Bool) (laws : IsDevice t) (m : ModuleTree) (is : IsSourceTree (source_of t fuses) m) where
  abbrev d : Design
  d = design_of t m

  abbrev pub line_formula : SumLine → Formula
  line_formula l = sum_formula (leaf_of t) l.products

  abbrev IsGood : SumLine → Type 0
  IsGood l = IsGoodLine t fuses laws m is l

  -- ---- one line

  value_paid : (l : SumLine) (s : Statement) (good : IsGood l) (line : IsLine l s) → nodes_of (line_formula l) ≤ (bits_of d.context (term_of d.context.known line.value)).nodes
  value_paid l s good line =
      bit_paid d.context (term_of d.context.known line.value) (weight line.value) (line_formula l)
      (
      sum_holds (IsKnownPin d.context) (IsPaidTree d.context) (paid_steps d.context) l.products line.value
      (
      each_weaker (AllByRecursion (IsDeclaredLiteral t fuses laws)) (AllByRecursion (IsKnownPin d.context))
      (λ p all. each_weaker (IsDeclaredLiteral t fuses laws) (IsKnownPin d.context) (known_pin t fuses laws m is l good s line) p all) l.products good.1.literals
      )
      line.sum
      )
      (sums d.context (leaf_of t) l.products line.value (literals_read t fuses laws m is l.products good.1.literals) line.sum)

  -- ---- all lines

  pub lines_paid : (ls : List SumLine) (ss : List Statement) (before : List Manner) → AreLines ls ss → AllByRecursion IsGood ls → AllByRecursion (IsLineManner t fuses laws m is) before
      → all_nodes_of (map line_formula ls) ≤ units_nodes (units_of_statements d.context (Const true) before (statements_of ss))
  lines_paid [] ss before are good all = omega arith
  lines_paid (l ∷ ls) ss before are good all =
      let unit = unit_is t fuses laws m is l good.0 are.0 are.2 before all in
      let manner = manner_is t fuses laws m is l good.0 are.0 are.2 in
      let rest = lines_paid ls are.1 (before ++ line_manner t fuses laws m is l ∷ []) are.3 good.1
      (each_append (IsLineManner t fuses laws m is) before (line_manner t fuses laws m is l ∷ []) all (record { line = l; good = good.0; equals = refl }, tt)) in
      let one = value_paid l are.0 good.0 are.2 in
      let later : List CountedUnit = units_of_statements d.context (Const true) (before ++ line_manner t fuses laws m is l ∷ []) (statements_of are.1) in
      let whole : units_of_statements d.context (Const true) before (statements_of ss) ≡ unit.unit ∷ later =
      ap (λ (xs : List Statement). units_of_statements d.context (Const true) before (statements_of xs)) are.4
      ∙ ap (λ (us : List CountedUnit). us ++ units_of_statements d.context (Const true) (before ++ statement_manners d.context are.0) (statements_of are.1)) unit.equals
      ∙ ap (λ (ms : List Manner). unit.unit ∷ units_of_statements d.context (Const true) (before ++ ms) (statements_of are.1)) manner in
      let nodes : units_nodes (units_of_statements d.context (Const true) before (statements_of ss)) ≡ unit.unit.nodes + units_nodes later = ap units_nodes whole in
      omega (arith, one, rest, nodes, unit.counted)

  -- ---- their places

  -- a place for each line
  pub record HavePlaces (ls : List SumLine) (ss : List Statement) : Type 0 where
    pub places : List Place
    pub are : statements_places d.context (statements_of ss) ≡ places
    pub long : length places ≡ length ls

  pub lines_placed : (ls : List SumLine) (ss : List Statement) → AreLines ls ss → AllByRecursion IsGood ls → HavePlaces ls ss
  lines_placed [] ss are good = record { places = []; are = ap (λ (xs : List Statement). statements_places d.context (statements_of xs)) are; long = refl }
  lines_placed (l ∷ ls) ss are good =
      let rest = lines_placed ls are.1 are.3 good.1 in
      let one = place_is t fuses laws m is l good.0 are.0 are.2 in
      record {
        places = one.place ∷ rest.places;
        are = ap (λ (xs : List Statement). statements_places d.context (statements_of xs)) are.4
            ∙ ap (λ (ps : List Place). ps ++ statements_places d.context (statements_of are.1)) one.equals
            ∙ ap (λ (ps : List Place). one.place ∷ ps) rest.are;
        long = omega (arith, rest.long);
      }
