-- There is what a decompiled source contributes: its lines, each at its target, over an arena of their formulas.
use Rattle.std.proofs.Common.{◌≡◌, ℕ, ◌<◌, Bool, false, None, List, [], ◌∷◌, length, map, refl, sym, ap, ap₂, ◌∙◌, arith, append-nil}
use Rattle.decompiler.proofs.Common.{AllByRecursion, Place, IsDevice, Table, ExprId, Leaf, arena, formula_at, Formula, IsHeld, ModuleTree, Design, design_of, Contribution, Contributions, view_contribution, units_nodes, AreContributed, source_units, sections_places, statements_places, statements_of, PinLiteral, SumLine, IsSourceTree, line_gives, sum_formula, lines_of, source_of, leaf_of, signal_of, given_is}
use Rattle.std.proofs.lemmas.List.Elements.{All-from_recursion}
use Rattle.decompiler.proofs.Holding.{arenas_there}
use Rattle.abel_meaning.specs.Contributions as meant
use Rattle.set_expr.specs.declared.contributions.Gives.TheVariants as gives
use Rattle.decompiler.proofs.UnrefusedSections.{good_lines, sections_are, sections_pass, units_are}
use Rattle.decompiler.specs.Contributions.{ContributionsAreThere}
use Rattle.decompiler.proofs.PaidLines.{HavePlaces, lines_paid, lines_placed}

-- ---- lists

same_first : {A : Type 0} (x y : A) (xs ys : List A) → x ∷ xs ≡ y ∷ ys → x ≡ y
same_first x y xs ys e = cc

same_rest : {A : Type 0} (x y : A) (xs ys : List A) → x ∷ xs ≡ y ∷ ys → xs ≡ ys
same_rest x y xs ys e = cc

-- ---- lines over an arena

module _ (signal : ℕ → ℕ) (leaf_at : PinLiteral → Leaf) where
  -- what a line contributes, at this place and by this bit
  abbrev written : SumLine → ExprId → Place → Contribution
  written l id p = record {
    target = record { signal = signal l.pin; extension = l.extension };
    complement = l.negated;
    clocked = false;
    block = None;
    dontcare = false;
    what = gives.One;
    when = id;
    place = p;
  }

  all_written : List SumLine → List ExprId → List Place → List Contribution
  all_written (l ∷ ls) (id ∷ ids) (p ∷ ps) = written l id p ∷ all_written ls ids ps
  all_written _ _ _ = []

  module _ (fs : List Formula) where
    abbrev line_formula : SumLine → Formula
    line_formula l = sum_formula leaf_at l.products

    abbrev IsInside : ExprId → Type 0
    IsInside id = id.0 < length fs

    -- they contribute what the lines give, at these places
    record AreWritten (ls : List SumLine) (ps : List Place) (cs : List Contribution) : Type 0 where
      pub given : map (view_contribution fs) cs ≡ map (line_gives signal leaf_at) ls
      pub places : map (λ (c : Contribution). c.place) cs ≡ ps
      pub inside : AllByRecursion (λ (c : Contribution). c.when.0 < length fs) cs

    are_written : (ls : List SumLine) (ids : List ExprId) (ps : List Place) → map (formula_at fs) ids ≡ map line_formula ls → length ps ≡ length ls → AllByRecursion IsInside ids
        → AreWritten ls ps (all_written ls ids ps)
    unfolding all_written
    are_written [] [] [] held long inside = record { given = refl; places = refl; inside = tt }
    are_written [] [] (p ∷ ps) held long inside = absurd (omega (arith, long))
    are_written [] (id ∷ ids) ps held long inside = absurd cc
    are_written (l ∷ ls) [] ps held long inside = absurd cc
    are_written (l ∷ ls) (id ∷ ids) [] held long inside = absurd (omega (arith, long))
    are_written (l ∷ ls) (id ∷ ids) (p ∷ ps) held long inside =
        let here : formula_at fs id ≡ line_formula l = same_first (formula_at fs id) (line_formula l) (map (formula_at fs) ids) (map line_formula ls) held in
        let rest = are_written ls ids ps (same_rest (formula_at fs id) (line_formula l) (map (formula_at fs) ids) (map line_formula ls) held) (omega (arith, long)) inside.1 in
        record {
          given = ap₂ (λ (f : Formula) (gs : List (meant.Contribution Formula)). record (line_gives signal leaf_at l) { holds = f } ∷ gs) here rest.given;
          places = ap (λ (qs : List Place). p ∷ qs) rest.places;
          inside = (inside.0, rest.inside);
        }

-- ---- the contributions of a decompiled source

module _ (t : Table) (fuses : List Bool) (laws : IsDevice t) (m : ModuleTree) (is : IsSourceTree (source_of t fuses) m) where
  abbrev d : Design
  d = design_of t m

  abbrev ls : List SumLine
  ls = lines_of t fuses

  abbrev count : ℕ
  count = units_nodes (source_units d)

  abbrev sums_of : List Formula
  sums_of = map (λ (l : SumLine). sum_formula (leaf_of t) l.products) ls

  held : IsHeld sums_of count
  held =
      arenas_there sums_of count
      (
      let enough = lines_paid t fuses laws m is ls is.lines [] is.are_lines (good_lines t fuses laws m is) tt in
      let same = ap units_nodes (units_are t fuses laws m is) in
      omega (arith, enough, same)
      )

  abbrev fs : List Formula
  fs = arena held.nodes

  placed : HavePlaces t fuses laws m is ls is.lines
  placed = lines_placed t fuses laws m is ls is.lines is.are_lines (good_lines t fuses laws m is)

  abbrev found : Contributions
  found = record { exprs = held.nodes; list = all_written (signal_of t fuses) (leaf_of t) ls held.ids placed.places }

  are : AreWritten (signal_of t fuses) (leaf_of t) fs ls placed.places found.list
  are = are_written (signal_of t fuses) (leaf_of t) fs ls held.ids placed.places held.each placed.long held.inside

  contributed : AreContributed d found
  contributed = record {
    accepted = sections_pass t fuses laws m is;
    inside = All-from_recursion (λ (c : Contribution). c.when.0 < length fs) found.list are.inside;
    gives = are.given ∙ sym (given_is t fuses laws m is);
    places = are.places ∙ sym (ap (sections_places d.context) (sections_are t fuses laws m is) ∙ append-nil (statements_places d.context (statements_of is.lines)) ∙ placed.are);
    nodes = held.size;
  }

pub contributions_there : ContributionsAreThere
contributions_there t fuses m laws is = (found t fuses laws m is, contributed t fuses laws m is)
