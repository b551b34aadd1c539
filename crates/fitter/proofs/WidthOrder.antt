-- The order in which cells that are too wide are reported.
use Rattle.std.proofs.Common.{◌≡◌, ℕ, ◌+◌, true, false, None, Some, length, refl, sym, ap, ◌∙◌, subst, arith, inl, inr}
use Rattle.fitter.proofs.Common.{cases_lt, true≢false, nat_tests, none-some, same_Some, Table, CellWanted, Netlist, IsSoundNetlist, cell_wanted, IsFirstBelow, IsFirstNumber, IsFirstWide, IsTooWide, width_order}
use Rattle.abel_tree.specs.FirstRefusal.{is_before, sooner}
use Rattle.abel_tree.proofs.FirstRefusals.{before_trans}
use Rattle.fitter.proofs.WantedIds.{sound_id_at}
use Rattle.fitter.proofs.Widths.{cell_low}

pub before_by : (v w : CellWanted) → is_before width_order v w ≡ sooner v.place.line v.place.column v.cell w.place.line w.place.column w.cell
unfolding is_before
before_by v w = refl

not_sooner : (a b c : ℕ) → sooner a b c a b c ≡ false
not_sooner a b c = grind (arith, nat_tests)

not_itself : (w : CellWanted) → is_before width_order w w ≡ true → ⊥
not_itself w e = true≢false (sym e ∙ (before_by w w ∙ not_sooner w.place.line w.place.column w.cell))

module _ (t : Table) (net : Netlist) where
  -- one cell more, which doesn't precede the first so far or isn't too wide
  pub first_kept : (n : ℕ) (first : CellWanted) → IsFirstBelow t net n first
      → ((v : CellWanted) → cell_wanted net n ≡ Some v → is_before width_order v first ≡ true → IsTooWide t net v → ⊥) → IsFirstBelow t net (n + 1) first
  first_kept n first is not = record {
    wanted = is.wanted;
    wide = is.wide;
    before = λ d v low at early wide. elim (cases_lt d n) [
      | inl less ↦ is.before d v less at early wide
      | inr more ↦
          let same : d ≡ n = omega (arith, low, more) in
          not v (subst (λ m. cell_wanted net m ≡ Some v) same at) early wide
    ];
  }

  pub first_alone : (n : ℕ) (first : CellWanted) → IsFirstBelow t net n first → cell_wanted net n ≡ None → IsFirstBelow t net (n + 1) first
  first_alone n first is none = first_kept n first is (λ v at early wide. none-some v (sym none ∙ at))

  pub first_later : (n : ℕ) (first w : CellWanted) → IsFirstBelow t net n first → cell_wanted net n ≡ Some w → is_before width_order w first ≡ false → IsFirstBelow t net (n + 1) first
  first_later n first w is at later =
      first_kept n first is
      (λ v there early wide. true≢false (sym early ∙ (ap (λ (u : CellWanted). is_before width_order u first) (same_Some v w (sym there ∙ at)) ∙ later)))

  pub first_fits : (n : ℕ) (first w : CellWanted) → IsFirstBelow t net n first → cell_wanted net n ≡ Some w → (IsTooWide t net w → ⊥) → IsFirstBelow t net (n + 1) first
  first_fits n first w is at fits = first_kept n first is (λ v there early wide. fits (subst (IsTooWide t net) (same_Some v w (sym there ∙ at)) wide))

  -- one cell more, which is the first now
  pub first_taken : IsSoundNetlist t net → (n : ℕ) (first w : CellWanted) → IsFirstBelow t net n first → cell_wanted net n ≡ Some w → is_before width_order w first ≡ true → IsTooWide t net w
      → IsFirstBelow t net (n + 1) w
  first_taken sound n first w is at early wide = record {
    wanted = subst (λ m. cell_wanted net m ≡ Some w) (sym (sound_id_at t net sound n w at).cell) at;
    wide = wide;
    before = λ d v low there before over. elim (cases_lt d n) [
      | inl less ↦ is.before d v less there (before_trans width_order v w first before early) over
      | inr more ↦
          let same : d ≡ n = omega (arith, low, more) in
          let own : v ≡ w = same_Some v w (sym there ∙ (subst (λ m. cell_wanted net m ≡ Some w) (sym same) at)) in
          not_itself w (subst (λ (u : CellWanted). is_before width_order u w ≡ true) own before)
    ];
  }

  -- the first by number begins
  pub first_begins : IsSoundNetlist t net → (c : ℕ) (w : CellWanted) → IsFirstNumber t net c → cell_wanted net c ≡ Some w → IsFirstBelow t net c w
  first_begins sound c w is at = record {
    wanted = subst (λ m. cell_wanted net m ≡ Some w) (sym (sound_id_at t net sound c w at).cell) at;
    wide = subst (IsTooWide t net) (same_Some is.at.cell w (sym is.at.wanted ∙ at)) is.at.wide;
    before = λ d v low there before wide. is.below d v low there wide;
  }

  -- and the first of all cells ends
  pub first_ends : IsSoundNetlist t net → (w : CellWanted) → IsFirstBelow t net (length t.cells) w → IsFirstWide t net w.cell
  first_ends sound w is = record {
    cell = w;
    wanted = is.wanted;
    wide = is.wide;
    before = λ d v there before wide. is.before d v (cell_low t net sound d v there) there before wide;
  }
