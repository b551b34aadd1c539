-- Signals that a signal of a netlist names by a leaf.
use Rattle.std.proofs.Common.{◌≡◌, ℕ, ◌<◌, true, false, not, ◌&&◌, length, refl, ap, ◌∙◌}
use Rattle.netlist_laws.proofs.Common.{lt-ltb, Table, cell_at, PlainNetlist, netlist_stores, netlist_names, netlist_waits, is_register_signal, signal_leaf}
use Rattle.bit_expr.specs.declared.node.Leaf.TheVariants as leaf

-- a cell that is no register is read by its pin
pub pin_leaf : (t : Table) (net : PlainNetlist) (d pin : ℕ) → d < length t.cells → (cell_at t d).pin ≡ pin → netlist_stores t net d ≡ false → signal_leaf t net d ≡ leaf.Pin pin
pin_leaf t net d pin within same plain = rw (lt-ltb d (length t.cells) within, plain) (ap (λ p. leaf.Pin p) same)

-- a register by its Q
pub q_leaf : (t : Table) (net : PlainNetlist) (d : ℕ) → d < length t.cells → netlist_stores t net d ≡ true → signal_leaf t net d ≡ leaf.Q d
q_leaf t net d within kept = rw (lt-ltb d (length t.cells) within, kept) refl

pub pin_is_plain : (t : Table) (net : PlainNetlist) (d : ℕ) → d < length t.cells → netlist_stores t net d ≡ false → is_register_signal t net d ≡ false
pin_is_plain t net d within plain = rw (lt-ltb d (length t.cells) within, plain) refl

pub waits_for_pin : (t : Table) (net : PlainNetlist) (v d pin : ℕ) → d < length t.cells → (cell_at t d).pin ≡ pin → netlist_stores t net d ≡ false → netlist_names t net v (leaf.Pin pin) ≡ true → netlist_waits t net v d ≡ true
waits_for_pin t net v d pin within same plain named =
    ap (λ b. not b && netlist_names t net v (signal_leaf t net d)) (pin_is_plain t net d within plain)
    ∙ (ap (netlist_names t net v) (pin_leaf t net d pin within same plain) ∙ named)
