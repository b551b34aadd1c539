-- Controls that all registers of a netlist share are shared under a choice too.
use Rattle.std.proofs.Common.{◌≡◌, ℕ, ◌<◌, Bool, true, Option, None, Some, refl, sym, ap, ◌∙◌, arith}
use Rattle.fitter.proofs.Common.{option_map, Levels, exchanged_at, point_exchanged, IsDevice, Table, Formula, formula_value, PlainNetlist, Wanted, shared_function, wanted_at, MayExchangeIn, formula_exchanged, netlist_exchanged, wanted_exchanged, shared_exchanged, wanted_at_exchanged, value_exchanged, exchanged_means_so, IsValuedFor, AreShared}

module _ (t : Table) (laws : IsDevice t) (net : PlainNetlist) (x : ℕ → Bool) (may : MayExchangeIn t net x) where
  -- a point whose nodes are valued under the choice has them valued for the netlist if it sees it
  pub valued_seen : (at : Levels) → IsValuedFor t (netlist_exchanged x net) at → IsValuedFor t net (exchanged_at x at)
  valued_seen at is =
      let means = exchanged_means_so t net x laws may in
      record {
        is_point = point_exchanged x at is.is_point;
        node = λ n low node. let also = means.to.is_node n low ∙ node in is.node n low also ∙ means.values at is.is_point n low also;
        no_node = λ n low none. is.no_node n low (means.to.is_node n low ∙ none);
      }

  low : (c : ℕ) → x c ≡ true → c < 32
  low c on = let few = laws.sizes.few_cells in omega (arith, (may c on).0, few)

  module _ (own : Wanted → Option Formula) (own_is : (w : Wanted) → own (wanted_exchanged x w) ≡ option_map (formula_exchanged x) (own w)) (shared : AreShared t net own) where
    -- the cell and its control, before the exchange
    pub record IsExchangedOf (c : ℕ) (f : Formula) : Type 0 where
      pub cell : Wanted
      pub there : wanted_at net c ≡ Some cell
      pub control : Formula
      pub own_control : own cell ≡ Some control
      pub same : f ≡ formula_exchanged x control

    of_cell : (c : ℕ) (found : Option Wanted) (w : Wanted) (f : Formula) → wanted_at net c ≡ found → option_map (wanted_exchanged x) found ≡ Some w → own w ≡ Some f → IsExchangedOf c f
    of_cell c None w f is there has = absurd cc
    of_cell c (Some v) w f is there has =
        let same : wanted_exchanged x v ≡ w = cc in
        of_control (own v) refl (sym (own_is v) ∙ (ap own same ∙ has))
      where
        of_control : (o : Option Formula) → own v ≡ o → option_map (formula_exchanged x) o ≡ Some f → IsExchangedOf c f
        of_control None e there = absurd cc
        of_control (Some g) e there = record { cell = v; there = is; control = g; own_control = e; same = let back : formula_exchanged x g ≡ f = cc in sym back }

    pub shared_chosen : AreShared t (netlist_exchanged x net) own
    shared_chosen c w f there has at valued =
        let was = of_cell c (wanted_at net c) w f refl (sym (wanted_at_exchanged x net c) ∙ there) has in
        let point = valued.is_point in
        ap (formula_value at) was.same
        ∙ (value_exchanged x low at point was.control
        ∙ (shared c was.cell was.control was.there was.own_control (exchanged_at x at) (valued_seen at valued)
        ∙ (sym (value_exchanged x low at point (shared_function own net)) ∙ ap (formula_value at) (sym (shared_exchanged x own own_is net)))))
