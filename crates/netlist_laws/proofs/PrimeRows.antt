-- The rows of a fitted cell are prime and irredundant for what the module says whose netlist it is.
use Rattle.std.proofs.Common.{◌≡◌, ℕ, ◌<◌, Bool, true, false, not, List, length, Some, sym, ap, ◌∙◌, subst}
use Rattle.netlist_laws.proofs.Common.{option_map, IsDevice, stores, Table, ModuleTree, is_stored, signal_on, Design, design_of, name_at, Wanted, PlainNetlist, wanted_at, given_formulas, IsSound, MayExchangeIn, netlist_exchanged, netlist_shown, wanted_exchanged, IsFitted, IsFittedAs, IsFittedCell, wanted_for, netlist_of, HasPrimeRows, FittedRowsArePrime}
use Rattle.netlist_laws.proofs.ExchangedCells.{wanted_at_exchanged}
use Rattle.netlist_laws.proofs.ExchangedSound.{exchanged_is_sound}
use Rattle.netlist_laws.proofs.WantedCells.{registers_wanted}
use Rattle.netlist_laws.proofs.CellsFound.{wanted_found}
use Rattle.netlist_laws.proofs.Choosing.{fits_choice, may_choose}
use Rattle.netlist_laws.proofs.ModulePoints.{choice, valued_there, valued_back, same_or}

module _ (t : Table) (m : ModuleTree) (fuses : List Bool) (laws : IsDevice t) (sound : IsSound t (netlist_of t m)) (may : MayExchangeIn t (netlist_of t m) (choice t m fuses))
    (fitted : IsFitted t (netlist_exchanged (choice t m fuses) (netlist_of t m)) fuses) (c : ℕ) (within : c < length t.cells) (s : ℕ) (on : signal_on (design_of t m).context c ≡ Some s) where
  abbrev d : Design
  d = design_of t m

  abbrev its : Wanted
  its = wanted_for d.context (given_formulas d) c s (name_at d.context s)

  its_is : wanted_at (netlist_of t m) c ≡ Some its
  its_is =
      wanted_found d.context (given_formulas d) laws c within
      ∙ ap (λ f. option_map (λ i. wanted_for d.context (given_formulas d) c i (name_at d.context i)) f) on

  wanted_is : wanted_at (netlist_exchanged (choice t m fuses) (netlist_of t m)) c ≡ Some (wanted_exchanged (choice t m fuses) its)
  wanted_is = wanted_at_exchanged (choice t m fuses) (netlist_of t m) c ∙ ap (option_map (wanted_exchanged (choice t m fuses))) its_is

  cell : IsFittedCell t (netlist_exchanged (choice t m fuses) (netlist_of t m)) fuses c (wanted_exchanged (choice t m fuses) its)
  cell = subst (IsFittedAs t (netlist_exchanged (choice t m fuses) (netlist_of t m)) fuses c) wanted_is (fitted.cells c within)

  kind : stores t fuses c ≡ is_stored (name_at d.context s)
  kind =
      registers_wanted t (netlist_exchanged (choice t m fuses) (netlist_of t m)) fuses (exchanged_is_sound t (netlist_of t m) (choice t m fuses) sound may) c
      (wanted_exchanged (choice t m fuses) its) wanted_is cell

  pub prime_rows : HasPrimeRows t m fuses c
  prime_rows =
      let same = same_or t m fuses laws may c within s on its_is kind in
      let there = valued_there t m fuses laws may in
      let back = valued_back t m fuses laws may in
      record {
        at_needed = λ at is need. cell.rows.at_needed at (there at is) (ap not (same at is.is_point false) ∙ need);
        at_allowed = λ at is true_there. sym (same at is.is_point true) ∙ cell.rows.at_allowed at (there at is) true_there;
        prime = λ row of used column low closed all. cell.rows.no_literal row of used column low closed (λ at is without. same at is.is_point true ∙ all at (back at is) without);
        irredundant = λ row of used all. cell.rows.no_row row of used (λ at is need. all at (back at is) (ap not (sym (same at is.is_point false)) ∙ need));
      }

pub rows_are_prime : FittedRowsArePrime
rows_are_prime t m net fuses laws is sound fitted c within assigned =
    let own = subst (IsSound t) is sound in
    prime_rows t m fuses laws own (may_choose t m fuses laws own) (fits_choice t m fuses laws (subst (λ (n : PlainNetlist). IsFitted t (netlist_shown t fuses n) fuses) is fitted)) c within assigned.0 assigned.1
