-- Signals that read one another, as a graph (this project's rule).
use Rattle.std.specs.Prelude.{ℕ, Bool, false, Option, None, Some, List, slice_get, length, ◌≡◌}
use Rattle.gathering.specs.Prelude.{bits, is_on, Leaf, IsLeaf}
use Rattle.pld_order.specs.Graphs.{IsOrder, IsLeastLoop, HasNoLoop, IsPath, HasNoPath}
use Rattle.bit_expr.specs.declared.node.Leaf.TheVariants as leaf
use Rattle.bit_expr.specs.declared.reads.Reads.{Reads}
use Rattle.gathering.specs.declared.link.Link.{Link}

-- the leaf is one of those
abbrev pub has_leaf : Reads → Leaf → Bool
has_leaf r (leaf.Pin p) = is_on (bits 32 r.pins) p
has_leaf r (leaf.Q c) = is_on (bits 32 r.q) c
has_leaf r (leaf.Node n) = is_on (bits 128 r.nodes) n

-- the leaf that may be there is one of those
abbrev pub has_if_any : Reads → Option Leaf → Bool
has_if_any r None = false
has_if_any r (Some l) = has_leaf r l

-- the leaf by which the signal of a number is read; none past the last one
abbrev pub leaf_in : List Link → ℕ → Option Leaf
leaf_in rs v = leaf_of (slice_get rs v)
  where
    leaf_of : Option Link → Option Leaf
    leaf_of None = None
    leaf_of (Some r) = r.leaf

-- some leaves are those of a signal
abbrev pub is_read_by : Reads → List Link → ℕ → Bool
is_read_by r rs v = has_if_any r (leaf_in rs v)

-- the signal of a number reads one of all
abbrev pub reads_in : (some all : List Link) → ℕ → ℕ → Bool
reads_in rs all v w = reads_by (slice_get rs v)
  where
    reads_by : Option Link → Bool
    reads_by None = false
    reads_by (Some r) = is_read_by r.reads all w

-- the first signal reads the second
abbrev pub link_reads : List Link → ℕ → ℕ → Bool
link_reads rs v w = reads_in rs rs v w

-- the signal is a register
abbrev pub is_stored_in : List Link → ℕ → Bool
is_stored_in rs v = stored_by (slice_get rs v)
  where
    stored_by : Option Link → Bool
    stored_by None = false
    stored_by (Some r) = r.stored

-- each leaf has a number that leaves may have
abbrev pub AreLeaves : List Link → Type 0
AreLeaves rs = (v : ℕ) (l : Leaf) → leaf_in rs v ≡ Some l → IsLeaf l

-- no signal reads itself through others
abbrev pub HasNoChain : List Link → Type 0
HasNoChain rs = HasNoLoop (length rs) (link_reads rs)

-- all signals, each once, none of which reads itself or one that follows it
abbrev pub IsReadOrder : List Link → List ℕ → Type 0
IsReadOrder rs order = IsOrder (length rs) (link_reads rs) order

-- some signals, each of which reads the next, and the last the first, which is the earliest of all that lie on such a loop
abbrev pub IsFirstChain : List Link → List ℕ → Type 0
IsFirstChain rs chain = IsLeastLoop (length rs) (link_reads rs) chain

-- signals, the first of which is read by the leaves, each reads the next, up to a register
abbrev pub IsRegisterPath : List Link → Reads → List ℕ → Type 0
IsRegisterPath rs reads path = IsPath (length rs) (link_reads rs) (is_read_by reads rs) (is_stored_in rs) path

-- there aren't any
abbrev pub HasNoRegisterPath : List Link → Reads → Type 0
HasNoRegisterPath rs reads = HasNoPath (length rs) (link_reads rs) (is_read_by reads rs) (is_stored_in rs)
