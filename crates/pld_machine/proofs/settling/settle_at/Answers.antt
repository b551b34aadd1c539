use Rattle.pld_machine.proofs.Common.{Cell, Node}
use Rattle.pld_machine.proofs.Ordered.{node_set}
use Rattle.pld_machine.proofs.settling.settle_at.Goals as goal

pub enable-requires : goal.enable-requires
enable-requires g c = c.requires.order.has_slots.range c.args.index (Cell c.in-Cell.cell) c.in-Cell.ensures

pub level-on-requires : goal.level-on-requires
level-on-requires g c = c.requires.order.has_slots.range c.args.index (Cell c.in-Cell.cell) c.in-Cell.ensures

pub pin-requires : goal.pin-requires
pin-requires g c = c.requires.order.has_slots.range c.args.index (Cell c.in-Cell.cell) c.in-Cell.ensures

pub with_level-requires : goal.with_level-requires
with_level-requires g c = rw c.pin.ensures (c.requires.order.has_pins.last c.in-Cell.cell (c.requires.order.has_slots.range c.args.index (Cell c.in-Cell.cell) c.in-Cell.ensures))

pub node-on-requires : goal.node-on-requires
node-on-requires g c = node_set _ c.args.index c.in-Node.node c.in-Node.ensures

pub with_value-requires : goal.with_value-requires
with_value-requires g c = c.requires.order.has_slots.range c.args.index (Node c.in-Node.node) c.in-Node.ensures
