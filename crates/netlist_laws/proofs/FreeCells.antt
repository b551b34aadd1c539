-- The registers that a sound netlist leaves free may be exchanged, as fuses show them.
use Rattle.std.proofs.Common.{◌≡◌, ℕ, ◌<◌, Bool, true, false, ◌&&◌, length, List, Option, None, Some, refl, subst}
use Rattle.netlist_laws.proofs.Common.{is_inverted, Table, PlainNetlist, Wanted, wanted_at, IsSound, IsSoundCell, IsSoundFree, FreeMayExchange, ShownIsSound, IsDirectRegister, is_free_wanted, shown}
use Rattle.netlist_laws.proofs.ExchangedSound.{exchanged_is_sound}
use Rattle.netlist_laws.proofs.FoundCells.{found}

module _ (t : Table) (net : PlainNetlist) (sound : IsSound t net) (c : ℕ) where
  direct : (asked : Option Wanted) → wanted_at net c ≡ asked → is_free_wanted asked ≡ true → (c < length t.cells) × IsDirectRegister net c
  direct None is chosen = absurd cc
  direct (Some w) is chosen =
      let within = found (IsSoundCell t net) net.cells c w sound.cells is in
      let of = (found (λ (v : Wanted). v.free ≡ true → IsSoundFree t net v) net.cells c w sound.free is).has chosen in (
        subst (λ d. d < length t.cells) within.cell within.has.within,
        record { wanted = w; there = is; registered = of.registered; buffer = of.buffer; named = of.named },
      )

pub free_may_exchange : FreeMayExchange
free_may_exchange t net x sound of_free c on = direct t net sound c (wanted_at net c) refl (of_free c on)

first_true : (a b : Bool) → (a && b) ≡ true → a ≡ true
first_true true b both = refl
first_true false b both = absurd cc

-- those that fuses show are free
pub shown_free : (t : Table) (fuses : List Bool) (net : PlainNetlist) (c : ℕ) → shown t fuses net c ≡ true → is_free_wanted (wanted_at net c) ≡ true
shown_free t fuses net c on = first_true (is_free_wanted (wanted_at net c)) (is_inverted t fuses c) on

pub shown_is_sound : ShownIsSound
shown_is_sound t net fuses sound = exchanged_is_sound t net (shown t fuses net) sound (free_may_exchange t net (shown t fuses net) sound (shown_free t fuses net))
