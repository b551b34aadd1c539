-- Fuses of a module's netlist under the choice that they show are those of it with the module's free registers exchanged.
use Rattle.std.proofs.Common.{◌≡◌, ℕ, Bool, true, ◌∙◌, List, sym, subst}
use Rattle.netlist_laws.proofs.Common.{IsDevice, is_inverted, Table, ModuleTree, inverting, PlainNetlist, IsSound, MayExchangeIn, netlist_exchanged, netlist_shown, shown, IsFitted, netlist_of}
use Rattle.netlist_laws.proofs.FreeCells.{free_may_exchange, shown_free}
use Rattle.netlist_laws.proofs.SameChoices.{same_netlist}
use Rattle.netlist_laws.proofs.Chosen.{same_shown}
use Rattle.netlist_laws.proofs.Meaning.{free_agree}
use Rattle.netlist_laws.proofs.ModulePoints.{choice}

module _ (t : Table) (m : ModuleTree) (fuses : List Bool) (laws : IsDevice t) where
  same : (c : ℕ) → shown t fuses (netlist_of t m) c ≡ choice t m fuses c
  same c = same_shown t m (netlist_of t m) fuses laws (free_agree t m laws) c

  pub may_choose : IsSound t (netlist_of t m) → MayExchangeIn t (netlist_of t m) (choice t m fuses)
  may_choose sound =
      free_may_exchange t (netlist_of t m) (choice t m fuses) sound (λ c on. shown_free t fuses (netlist_of t m) c (same c ∙ on))

  pub fits_choice : IsFitted t (netlist_shown t fuses (netlist_of t m)) fuses → IsFitted t (netlist_exchanged (choice t m fuses) (netlist_of t m)) fuses
  fits_choice fitted =
      subst (λ (n : PlainNetlist). IsFitted t n fuses) (same_netlist (shown t fuses (netlist_of t m)) (choice t m fuses) same (netlist_of t m)) fitted
