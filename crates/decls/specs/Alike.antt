-- Devices that take names alike, as a chip in any two of its modes: what is refused of names is the same (this project's rule).
use Rattle.std.specs.Prelude.{◌≡◌}
use Rattle.decls.specs.Prelude.{Table, ModuleTree}
use Rattle.decls.specs.NameRefusals.{always_inverts, name_refusals}

-- a name may have the same pins, and both always complement registers or neither does
pub record TakeNamesAlike (t u : Table) : Type 0 where
  pub pins : t.pins ≡ u.pins
  pub ground : t.ground_pin ≡ u.ground_pin
  pub inverts : always_inverts t ≡ always_inverts u

abbrev pub NamesAreRefusedAlike : Type 0
NamesAreRefusedAlike = (t u : Table) (m : ModuleTree) → TakeNamesAlike t u → name_refusals t m ≡ name_refusals u m
