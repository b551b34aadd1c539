-- Private: the signals of a netlist as others wait for them (this project's rule).
use Rattle.std.specs.Prelude.{◌≡◌, ℕ, if◌then◌else◌, List, Option, None, Some, length, slice_get}
use Rattle.source_machine.specs.Prelude.{Table, AreReads, PlainNetlist, is_register_signal, netlist_names, signal_count, signal_leaf}
use Rattle.bit_expr.specs.declared.node.Leaf.{Leaf}
use Rattle.gathering.specs.declared.link.Link.{Link}

-- the leaf by which others wait for a signal: none for a register
abbrev pub waited_leaf : Table → PlainNetlist → ℕ → Option Leaf
waited_leaf t net v = if is_register_signal t net v then None else Some (signal_leaf t net v)

-- the signal as others wait for it, and what it names
pub record IsLinkOf (t : Table) (net : PlainNetlist) (v : ℕ) (link : Link) : Type 0 where
  pub leaf : link.leaf ≡ waited_leaf t net v
  pub reads : AreReads (netlist_names t net v) link.reads

-- the links are those of the first signals
pub record AreFirstLinks (t : Table) (net : PlainNetlist) (count : ℕ) (links : List Link) : Type 0 where
  pub size : length links ≡ count
  pub each : (v : ℕ) (link : Link) → slice_get links v ≡ Some link → IsLinkOf t net v link

-- they are those of all signals
abbrev pub AreSignalLinks : Table → PlainNetlist → List Link → Type 0
AreSignalLinks t net links = AreFirstLinks t net (signal_count t net) links
