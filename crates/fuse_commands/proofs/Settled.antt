-- What holds if a call is not refused so.
use Rattle.std.proofs.Common.{◌≡◌, Ok, Err, inl, inr, IsErrOf, Result, ◌⊎◌}
use Rattle.outside.specs.declared.files.ReadFault.{ReadFault}
use Rattle.outside.specs.declared.files.ReadFault.TheVariants as read

-- if a call is not refused so, the other side holds
pub settled : {X E P : Type 0} {x : X} {e : E} → IsErrOf (Ok x) e ⊎ P → P
settled (inl is) = absurd cc
settled (inr p) = p

abbrev unread_by : (X : Type 0) → ReadFault → Result X ReadFault
unread_by X fault = Err fault

pub too_long_settled : (X : Type 0) {P : Type 0} (fault : ReadFault) → fault ≡ read.TooLong → IsErrOf (unread_by X fault) read.Failed ⊎ P → P
too_long_settled X fault is (inl failed) = absurd cc
too_long_settled X fault is (inr p) = p
