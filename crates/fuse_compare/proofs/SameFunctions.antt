-- Logics that allow the same at every point are alike.
use Rattle.std.proofs.Common.{◌≡◌, ℕ, ◌<◌, ◌≤◌, Bool, true, false, List, refl, sym, ◌∙◌, subst, inl, inr, lt-ltb, le-ltb}
use Rattle.fuse_compare.proofs.Common.{cases_Bool, cases_lt, Levels, Logic, is_register, IsWide, RestsOnce, AtRest, allows_q, ShowSame, SameEdge, AreAlike}
use Rattle.pld_machine.specs.Refines.{Refines}
use Rattle.pld_machine.proofs.Refined.{rest_refines}

-- each follows from the other
both_ways : (x y : Bool) → (x ≡ true → y ≡ true) → (y ≡ true → x ≡ true) → x ≡ y
both_ways true y down up = sym (down refl)
both_ways false true down up = up refl
both_ways false false down up = refl

module _ (a b : Logic) (down : Refines a b) (up : Refines b a) (once : RestsOnce b) where
  same_point : (o s : List Bool) → IsWide o → IsWide s → (at other : Levels) → AtRest a o s at → AtRest b o s other → other ≡ at
  same_point o s o_wide s_wide at other first second =
      let the = once o s o_wide s_wide in
      the.1.only other second ∙ sym (the.1.only at (rest_refines a b down o s at first))

  same_register : (c : ℕ) → c < b.cells → is_register a c ≡ is_register b c
  same_register c within = rw (down.same_cells.cells, down.same_cells.stores c within) refl

  allowed : (at : Levels) (o s : List Bool) → AtRest a o s at → (c : ℕ) → c < b.cells → (register : is_register b c ≡ true) → b.stores c ≡ true → (q : Bool) → allows_q a at c q ≡ allows_q b at c q
  allowed at o s first c within register stores q =
      let there = down.allows at first.is_point in
      let back = up.allows at first.is_point in
      let c_in_a : c < a.cells = subst (λ n. c < n) (sym down.same_cells.cells) within in
      let a_stores : a.stores c ≡ true = down.same_cells.stores c within ∙ stores in
      let next = both_ways (a.allows_next at c q) (b.allows_next at c q) (there.next c within stores q) (back.next c c_in_a a_stores q) in
      rw (same_register c within, register, there.reset c within stores, there.preset c within stores, next) refl

  edge_at : (at : Levels) (o s : List Bool) → AtRest a o s at → (c : ℕ) (q : Bool) → allows_q a at c q ≡ allows_q b at c q
  edge_at at o s first c q = elim (cases_lt c b.cells) [
    | inr past ↦ rw (le-ltb c b.cells past, le-ltb c a.cells (subst (λ n. n ≤ c) (sym down.same_cells.cells) past)) refl
    | inl within ↦ elim (cases_Bool (b.stores c)) [
      | inl stores ↦ allowed at o s first c within (rw (lt-ltb c b.cells within, stores) refl) stores q
      | inr plain ↦
          rw (lt-ltb c b.cells within, lt-ltb c a.cells (subst (λ n. c < n) (sym down.same_cells.cells) within), plain, down.same_cells.stores c within ∙ plain) refl
    ]
  ]

  pub alike_by_functions : AreAlike a b
  alike_by_functions = record {
    rest = λ o s o_wide s_wide d.
        let same = same_point o s o_wide s_wide d.at d.other d.first d.second in
        d.differ (rw same (let r : ShowSame a b d.at d.at =
        record { pins = refl; q = refl; enabled = λ c within. (down.allows d.at d.first.is_point).enabled c (subst (λ n. c < n) down.same_cells.cells within) } in r));
    edge = λ o s o_wide s_wide d.
        let same = same_point o s o_wide s_wide d.at d.other d.first d.second in
        d.differ (rw same (let r : SameEdge a b d.at d.at = λ c low q. edge_at d.at o s d.first c q in r));
  }
