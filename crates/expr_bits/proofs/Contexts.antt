-- The context of a device and names is one of them.
use Rattle.std.proofs.Common.{refl}
use Rattle.expr_bits.proofs.Common.{Table, Names, IsContextOf, context_for}

pub is_context : (t : Table) (n : Names) → IsContextOf t n (context_for t n)
is_context t n = record { device = refl; names = refl; known = refl }
