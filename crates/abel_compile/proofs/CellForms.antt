-- A cell on which a module assigns something has the kind and the polarity of its signal.
use Rattle.std.proofs.Common.{◌≡◌, ℕ, ◌<◌, Bool, true, false, not, ◌&&◌, length, Some, sym, ap, ◌∙◌, subst}
use Rattle.abel_compile.proofs.Common.{IsDevice, Table, Netlist, ModuleTree, design_of, name_at, Entry, Wanted, plain_netlist, wanted_at, Fitted, IsFitOf}
use Rattle.std.specs.Option.{option_map}
use Rattle.pld_machine.specs.Exchanged.{in_sense}
use Rattle.pld_device.specs.Registers.{is_inverted}
use Rattle.pld_device.specs.declared.flip.Flip.TheVariants.{AfterRegister}
use Rattle.abel_tree.specs.Entries.{follows_q, is_stored}
use Rattle.abel_meaning.specs.Choices.{is_free}
use Rattle.netlist_laws.specs.ExchangedNets.{is_free_wanted, netlist_shown, shown, wanted_exchanged}
use Rattle.netlist_laws.specs.Fitting.{IsFittedAs, IsFittedCell}
use Rattle.netlist_laws.specs.PrimeCorrect.{IsAssignedCell}
use Rattle.netlist_laws.proofs.ExchangedCells.{wanted_at_exchanged}
use Rattle.compile_phases.specs.SourceRefusals.{IsNetlistOf}
use Rattle.abel_compile.proofs.DirectForms.{direct_first}
use Rattle.abel_compile.proofs.OrderedRows.{asked, its}
use Rattle.abel_compile.specs.Fuses.{HasItsForm}

module _ (t : Table) (m : ModuleTree) (net : Netlist) (fitted : Fitted) (laws : IsDevice t) (netlist : IsNetlistOf t m net) (fits : IsFitOf t net fitted) (c : ℕ) (low : c < length t.cells)
    (assigned : IsAssignedCell (design_of t m).context c) where
  abbrev chosen : ℕ → Bool
  chosen = shown t fitted.fuses (plain_netlist net)

  abbrev signal : Entry
  signal = name_at (design_of t m).context assigned.0

  abbrev own : Wanted
  own = its t m net fitted laws netlist.plain fits c low assigned assigned.0

  own_is : wanted_at (plain_netlist net) c ≡ Some own
  own_is = asked t m net fitted laws netlist.plain fits c low assigned

  cell : IsFittedCell t (netlist_shown t fitted.fuses (plain_netlist net)) fitted.fuses c (wanted_exchanged chosen own)
  cell =
      subst (IsFittedAs t (netlist_shown t fitted.fuses (plain_netlist net)) fitted.fuses c)
      (wanted_at_exchanged chosen (plain_netlist net) c ∙ ap (option_map (wanted_exchanged chosen)) own_is) (fits.fits.cells c low)

  -- a register whose polarity isn't free stores what it says
  not_chosen : is_free signal ≡ false → chosen c ≡ false
  not_chosen held = ap (λ w. is_free_wanted w && is_inverted t fitted.fuses c) own_is ∙ ap (λ b. b && is_inverted t fitted.fuses c) held

  pub has_its_form : HasItsForm t m fitted.fuses c signal
  has_its_form = record {
    kind = cell.kind;
    polarity = λ after stored held. cell.polarity stored after ∙ ap (λ b. not (in_sense b (follows_q signal))) (not_chosen held);
    direct_first = direct_first t m net fitted laws netlist fits c low assigned;
  }
