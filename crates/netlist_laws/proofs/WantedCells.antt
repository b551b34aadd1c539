-- What a sound netlist asks of a cell, and that fitted cells are registers if it asks so.
use Rattle.std.proofs.Common.{◌≡◌, ℕ, ◌<◌, Bool, false, ◌==◌, List, [], ◌∷◌, length, Option, Some, None, refl, sym, subst, inl, inr, find}
use Rattle.netlist_laws.proofs.Common.{All, cases_Bool, eqb-true, All-head, All-tail, same_Some, Kinds, Combinational, Registered, Either, says, stores_by, stores, Table, cell_at, registered_at, Wanted, PlainNetlist, wanted_at, registers_as, netlist_stores, MayRegister, IsSoundCell, IsSound, IsFittedCell, IsFittedAs, IsFitted}
pub use Rattle.netlist_laws.proofs.FoundCells.{found}

-- what holds of what is asked of a cell
pub record IsSoundAt (t : Table) (net : PlainNetlist) (c : ℕ) (w : Wanted) : Type 0 where
  pub kind : MayRegister (cell_at t c).kinds w.registered
  pub law : IsSoundCell t net w

pub sound_at : (t : Table) (net : PlainNetlist) → IsSound t net → (c : ℕ) (w : Wanted) → wanted_at net c ≡ Some w → IsSoundAt t net c w
sound_at t net sound c w is =
    let f = found (IsSoundCell t net) net.cells c w sound.cells is in
    record { kind = subst (λ i. MayRegister (cell_at t i).kinds w.registered) f.cell f.has.kind; law = f.has }

spare_kind : (kinds : Kinds) (chosen : Bool) → (kinds ≡ Either → chosen ≡ false) → stores_by kinds chosen ≡ stores_by kinds false
spare_kind Combinational chosen either = refl
spare_kind Registered chosen either = refl
spare_kind Either chosen either = either refl

wanted_kind : (kinds : Kinds) (chosen registered : Bool) → MayRegister kinds registered → (kinds ≡ Either → chosen ≡ registered) → stores_by kinds chosen ≡ registered
wanted_kind Combinational chosen registered may either = sym may
wanted_kind Registered chosen registered may either = sym may
wanted_kind Either chosen registered may either = either refl

module _ (t : Table) (net : PlainNetlist) (fuses : List Bool) (sound : IsSound t net) where
  pub registers_wanted : (c : ℕ) (w : Wanted) → wanted_at net c ≡ Some w → IsFittedCell t net fuses c w → stores t fuses c ≡ w.registered
  registers_wanted c w is cell = wanted_kind (cell_at t c).kinds (says fuses (registered_at t c)) w.registered (sound_at t net sound c w is).kind cell.kind

  kind_as : (c : ℕ) (found : Option Wanted) → wanted_at net c ≡ found → IsFittedAs t net fuses c found → stores t fuses c ≡ registers_as (cell_at t c).kinds found
  kind_as c None is cell = spare_kind (cell_at t c).kinds (says fuses (registered_at t c)) cell.kind
  kind_as c (Some w) is cell = registers_wanted c w is cell

  -- a cell stores if the netlist has a register
  pub same_kind : IsFitted t net fuses → (c : ℕ) → c < length t.cells → stores t fuses c ≡ netlist_stores t net c
  same_kind fitted c within = kind_as c (wanted_at net c) refl (fitted.cells c within)
