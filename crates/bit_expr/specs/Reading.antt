-- The leaves that a formula names, as the bits of three numbers (this project's rule).
use Rattle.std.specs.Prelude.{◌≡◌, ℕ, ◌<◌, Bool}
use Rattle.pld_base.specs.Bits.{bits, is_on}
use Rattle.bit_expr.specs.declared.node.Leaf.{Leaf}
use Rattle.bit_expr.specs.declared.node.Leaf.TheVariants as leaf
use Rattle.bit_expr.specs.declared.reads.Reads.{Reads}

-- bit p of `pins` is 1 where pin p is one of the leaves, and so on
pub record AreReads (named : Leaf → Bool) (r : Reads) : Type 0 where
  pub pins : (p : ℕ) → p < 32 → is_on (bits 32 r.pins) p ≡ named (leaf.Pin p)
  pub q : (c : ℕ) → c < 32 → is_on (bits 32 r.q) c ≡ named (leaf.Q c)
  pub nodes : (n : ℕ) → n < 128 → is_on (bits 128 r.nodes) n ≡ named (leaf.Node n)
