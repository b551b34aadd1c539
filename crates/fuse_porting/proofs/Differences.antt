-- What differs from one of two logics that allow the same differs from the other, on either side.
use Rattle.std.proofs.Common.{◌≡◌, ◌≢◌, ℕ, ◌<◌, Bool, true, false, None, Some, List, [], ◌∷◌, refl, sym, subst, ◌∙◌, inl, inr, lt-ltb, le-ltb, arith}
use Rattle.std.proofs.lemmas.Bool.{cases_Bool, cases_lt}
use Rattle.pld_base.specs.Bits.{bits, is_on}
use Rattle.pld_base.specs.Logic.{Logic}
use Rattle.pld_base.specs.Points.{IsPoint, Levels}
use Rattle.pld_machine.proofs.Refined.{rest_refines, run_refines}
use Rattle.pld_machine.specs.Steps.{allows_q}
use Rattle.fuse_compare.specs.Alike.{DifferAs, DifferAtClock, DifferAtRest, RunsAlike, SameEdge, SameShown, ShowSame}
use Rattle.fuse_porting.specs.AllowSame.{AllowSame, FindsSame, FindsSameFirst}
use Rattle.fuse_porting.proofs.Mismatches.{ArePoints, run_points}

-- each follows from the other
both_ways : (x y : Bool) → (x ≡ true → y ≡ true) → (y ≡ true → x ≡ true) → x ≡ y
both_ways true y down up = sym (down refl)
both_ways false true down up = up refl
both_ways false false down up = refl

turned : (a b : Logic) → AllowSame a b → AllowSame b a
turned a b same = record { within = same.back; back = same.within }

-- they allow the same next Qs
module _ (x y : Logic) (same : AllowSame x y) (at : Levels) (is : IsPoint at) where
  register_edge : (c : ℕ) → c < y.cells → y.stores c ≡ true → (q : Bool) → allows_q x at c q ≡ allows_q y at c q
  register_edge c within register q =
      let in_x : c < x.cells = omega (arith, within, same.within.same_cells.cells) in
      let x_register : x.stores c ≡ true = same.within.same_cells.stores c within ∙ register in
      let there = same.within.allows at is in
      let next = both_ways (x.allows_next at c q) (y.allows_next at c q) (there.next c within register q) ((same.back.allows at is).next c in_x x_register q) in
      rw (lt-ltb c x.cells in_x, lt-ltb c y.cells within, register, x_register, there.reset c within register, there.preset c within register, next) refl

  edge_same : (c : ℕ) (q : Bool) → allows_q x at c q ≡ allows_q y at c q
  edge_same c q = elim (cases_lt c y.cells) [
    | inr past ↦ rw (le-ltb c y.cells past, le-ltb c x.cells (omega (arith, past, same.within.same_cells.cells))) refl
    | inl within ↦ elim (cases_Bool (y.stores c)) [
      | inl register ↦ register_edge c within register q
      | inr plain ↦
          rw (lt-ltb c y.cells within, lt-ltb c x.cells (omega (arith, within, same.within.same_cells.cells)), plain, same.within.same_cells.stores c within ∙ plain) refl
    ]
  ]

module _ (a x y : Logic) (cells : a.cells ≡ x.cells) (same : AllowSame x y) where
  shows : (at other : Levels) → IsPoint other → ShowSame a x at other → ShowSame a y at other
  shows at other is shown = record {
    pins = shown.pins;
    q = shown.q;
    enabled = λ c within. shown.enabled c within
        ∙ (same.within.allows other is).enabled c (omega (arith, within, cells, same.within.same_cells.cells));
  }

  edges : (at other : Levels) → IsPoint other → SameEdge a x at other → SameEdge a y at other
  edges at other is edge c low q = edge c low q ∙ edge_same x y same other is c q

module _ (a x y : Logic) (cells : a.cells ≡ x.cells) (same : AllowSame x y) where
  back_cells : a.cells ≡ y.cells
  back_cells = cells ∙ same.within.same_cells.cells

  differ_at_rest : (outside stored : List Bool) → DifferAtRest a x outside stored → DifferAtRest a y outside stored
  differ_at_rest outside stored d = record {
    at = d.at;
    other = d.other;
    first = d.first;
    second = rest_refines x y same.within outside stored d.other d.second;
    differ = λ shown. d.differ (shows a y x back_cells (turned x y same) d.at d.other d.second.is_point shown);
  }

  differ_at_clock : (outside stored : List Bool) → DifferAtClock a x outside stored → DifferAtClock a y outside stored
  differ_at_clock outside stored d = record {
    at = d.at;
    other = d.other;
    first = d.first;
    second = rest_refines x y same.within outside stored d.other d.second;
    same = shows a x y cells same d.at d.other d.second.is_point d.same;
    clock = d.clock;
    low = d.low;
    differ = λ edge. d.differ (edges a y x back_cells (turned x y same) d.at d.other d.second.is_point edge);
  }

  differ_as : (clocked : Bool) (outside stored : List Bool) → DifferAs a x clocked outside stored → DifferAs a y clocked outside stored
  differ_as true outside stored d = differ_at_clock outside stored d
  differ_as false outside stored d = differ_at_rest outside stored d

-- ---- the same on the first side

module _ (x y b : Logic) (same : AllowSame x y) where
  shows_first : (at other : Levels) → IsPoint at → ShowSame x b at other → ShowSame y b at other
  shows_first at other is shown = record {
    pins = shown.pins;
    q = shown.q;
    enabled = λ c within. sym ((same.within.allows at is).enabled c within) ∙ shown.enabled c (omega (arith, within, same.within.same_cells.cells));
  }

  edges_first : (at other : Levels) → IsPoint at → SameEdge x b at other → SameEdge y b at other
  edges_first at other is edge c low q = sym (edge_same x y same at is c q) ∙ edge c low q

module _ (x y b : Logic) (same : AllowSame x y) where
  differ_at_rest_first : (outside stored : List Bool) → DifferAtRest x b outside stored → DifferAtRest y b outside stored
  differ_at_rest_first outside stored d = record {
    at = d.at;
    other = d.other;
    first = rest_refines x y same.within outside stored d.at d.first;
    second = d.second;
    differ = λ shown. d.differ (shows_first y x b (turned x y same) d.at d.other d.first.is_point shown);
  }

  differ_at_clock_first : (outside stored : List Bool) → DifferAtClock x b outside stored → DifferAtClock y b outside stored
  differ_at_clock_first outside stored d = record {
    at = d.at;
    other = d.other;
    first = rest_refines x y same.within outside stored d.at d.first;
    second = d.second;
    same = shows_first x y b same d.at d.other d.first.is_point d.same;
    clock = subst (λ n. n ≢ 0) same.within.same_cells.clock d.clock;
    low = subst (λ n. is_on outside n ≡ false) same.within.same_cells.clock d.low;
    differ = λ edge. d.differ (edges_first y x b (turned x y same) d.at d.other d.first.is_point edge);
  }

  differ_as_first : (clocked : Bool) (outside stored : List Bool) → DifferAs x b clocked outside stored → DifferAs y b clocked outside stored
  differ_as_first true outside stored d = differ_at_clock_first outside stored d
  differ_as_first false outside stored d = differ_at_rest_first outside stored d

pub finds_same_first : (a b other : Logic) → AllowSame a other → FindsSameFirst a b other
finds_same_first a b other same None alike = record {
  rest = λ o s o_wide s_wide d. alike.rest o s o_wide s_wide (differ_at_rest_first a other b same o s d);
  edge = λ o s o_wide s_wide d. alike.edge o s o_wide s_wide (differ_at_clock_first a other b same o s d);
}
finds_same_first a b other same (Some d) is = differ_as_first other a b (turned a other same) d.clocked (bits 32 d.outside) (bits 32 d.stored) is

-- ---- either side

pub finds_same : (a b other : Logic) → a.cells ≡ b.cells → AllowSame b other → FindsSame a b other
finds_same a b other cells same None alike = record {
  rest = λ o s o_wide s_wide d. alike.rest o s o_wide s_wide (differ_at_rest a b other cells same o s d);
  edge = λ o s o_wide s_wide d. alike.edge o s o_wide s_wide (differ_at_clock a b other cells same o s d);
}
finds_same a b other cells same (Some d) is = differ_as a other b (cells ∙ same.within.same_cells.cells) (turned b other same) d.clocked (bits 32 d.outside) (bits 32 d.stored) is

-- ---- runs

module _ (x y : Logic) (cells : ℕ) (equal : cells ≡ x.cells) (same : AllowSame x y) where
  shown_same : (a : Logic) → a.cells ≡ cells → (points : List Levels) → ArePoints points → SameShown a x points → SameShown a y points
  shown_same a is [] are shown = tt
  shown_same a is (p ∷ points) are shown = (
    λ c within. shown.0 c within ∙ (same.within.allows p are.0).enabled c (omega (arith, within, is, equal, same.within.same_cells.cells)),
    shown_same a is points are.1 shown.1,
  )

pub runs_same : (a b other : Logic) → a.cells ≡ b.cells → AllowSame b other → RunsAlike a other → RunsAlike a b
runs_same a b other cells same alike outsides wide points run =
    let there = alike outsides wide points run in (
      run_refines other b same.back outsides points there.0,
      shown_same other b a.cells (cells ∙ same.within.same_cells.cells) (turned b other same) a refl points (run_points a outsides points run) there.1,
    )

module _ (x y : Logic) (same : AllowSame x y) where
  shown_first : (b : Logic) (points : List Levels) → ArePoints points → SameShown x b points → SameShown y b points
  shown_first b [] are shown = tt
  shown_first b (p ∷ points) are shown = (
    λ c within. sym ((same.within.allows p are.0).enabled c within) ∙ shown.0 c (omega (arith, within, same.within.same_cells.cells)),
    shown_first b points are.1 shown.1,
  )

pub runs_same_first : (a b other : Logic) → AllowSame a other → RunsAlike other b → RunsAlike a b
runs_same_first a b other same alike outsides wide points run =
    let moved = run_refines a other same.within outsides points run in
    let there = alike outsides wide points moved in
    (there.0, shown_first other a (turned a other same) b points (run_points a outsides points run) there.1)
