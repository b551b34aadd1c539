-- That the netlist of a decompiled source fits as it is written (this project's rule).
use Rattle.std.specs.Prelude.{◌≡◌, ℕ, Some, List, Bool}
use Rattle.decompiler.specs.Prelude.{IsDevice, Table, Netlist, Leaf, ModuleTree, FitsAsWritten, HasRoom, IsNetlistOf, PinLiteral, IsSourceTree, source_of}
use Rattle.bit_expr.specs.declared.netlist.CellWanted.{CellWanted}
use Rattle.abel_meaning.specs.Netlists.{plain_netlist}
use Rattle.abel_meaning.specs.SoundIds.{IsSoundNetlist}
use Rattle.fitter.specs.Plans.{cell_wanted}
use Rattle.fitter.specs.Width.{NoneWide}
use Rattle.fitter.specs.Answers.{HasControls}
use Rattle.decompiled.specs.Alike.{IsFusesNetlist}
use Rattle.decompiler.specs.ShortSums.{ReadNoNode}

-- the controls of the netlist are shared and one product each, and each assigned cell has room
pub record NetlistFits (t : Table) (net : Netlist) : Type 0 where
  pub controls : HasControls t net
  pub rooms : (c : ℕ) (w : CellWanted) → cell_wanted net c ≡ Some w → HasRoom t net w

-- a netlist that asks of each cell what the lines of fuses say fits: the cell's own rows have room
abbrev pub FusesNetlistsFit : Type 0
FusesNetlistsFit =
    (t : Table) (fuses : List Bool) (leaf_of : PinLiteral → Leaf) (net : Netlist) → IsDevice t → ReadNoNode leaf_of → IsSoundNetlist t net
    → IsFusesNetlist t fuses leaf_of (plain_netlist net) → NetlistFits t net

-- nothing is too wide in a netlist of a decompiled source
abbrev pub SourcesAreNarrow : Type 0
SourcesAreNarrow =
    (t : Table) (fuses : List Bool) (m : ModuleTree) (net : Netlist) → IsDevice t → IsSourceTree (source_of t fuses) m → IsNetlistOf t m net
    → NoneWide t net

-- a decompiled source that has a netlist fits as it is written
abbrev pub SourcesFit : Type 0
SourcesFit =
    (t : Table) (fuses : List Bool) (m : ModuleTree) (net : Netlist) → IsDevice t → IsSourceTree (source_of t fuses) m → IsNetlistOf t m net
    → FitsAsWritten t m
