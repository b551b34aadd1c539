-- What a netlist with exchanged registers is to the netlist itself (this project's rule).
use Rattle.std.specs.Prelude.{◌≡◌, ℕ, Bool, true, List}
use Rattle.netlist_laws.specs.Prelude.{Logic, IsDevice, Table, Refines, NodeValues, SameValues, PlainNetlist, wanted_at, netlist_logic, netlist_values, IsSound, exchanged, exchanged_values}
use Rattle.netlist_laws.specs.ExchangedNets.{MayExchangeIn, is_free_wanted, netlist_exchanged, netlist_shown}

-- it allows what the netlist's logic allows with these cells exchanged, and values the nodes alike
pub record MeansExchanged (t : Table) (net : PlainNetlist) (x : ℕ → Bool) : Type 0 where
  pub to : Refines (netlist_logic t (netlist_exchanged x net)) (exchanged x (netlist_logic t net))
  pub from : Refines (exchanged x (netlist_logic t net)) (netlist_logic t (netlist_exchanged x net))
  pub values : SameValues (netlist_logic t (netlist_exchanged x net)) (netlist_values (netlist_exchanged x net)) (exchanged_values x (netlist_values net))

abbrev pub ExchangedMeansSo : Type 0
ExchangedMeansSo = (t : Table) (net : PlainNetlist) (x : ℕ → Bool) → IsDevice t → MayExchangeIn t net x → MeansExchanged t net x

-- and a device can take it if it can take the netlist
abbrev pub ExchangedIsSound : Type 0
ExchangedIsSound = (t : Table) (net : PlainNetlist) (x : ℕ → Bool) → IsSound t net → MayExchangeIn t net x → IsSound t (netlist_exchanged x net)

-- the registers that a netlist leaves free may be exchanged, if a device can take it
abbrev pub FreeMayExchange : Type 0
FreeMayExchange =
    (t : Table) (net : PlainNetlist) (x : ℕ → Bool) → IsSound t net → ((c : ℕ) → x c ≡ true → is_free_wanted (wanted_at net c) ≡ true)
    → MayExchangeIn t net x

-- so a device can take the netlist under the choice that fuses show
abbrev pub ShownIsSound : Type 0
ShownIsSound = (t : Table) (net : PlainNetlist) (fuses : List Bool) → IsSound t net → IsSound t (netlist_shown t fuses net)

-- two choices that are the same at every cell give logics that allow the same
abbrev pub SameChoices : Type 0
SameChoices = (x y : ℕ → Bool) (m : Logic) → ((c : ℕ) → x c ≡ y c) → Refines (exchanged x m) (exchanged y m)

-- and the same values
abbrev pub SameChoiceValues : Type 0
SameChoiceValues =
    (x y : ℕ → Bool) (m : Logic) (values : NodeValues) → ((c : ℕ) → x c ≡ y c)
    → SameValues (exchanged x m) (exchanged_values x values) (exchanged_values y values)
