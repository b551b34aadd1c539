-- Private: what is reported of a design's chains: loops of signals, and paths from the resets of a netlist's
-- cells to registers (this project's rule).
use Rattle.std.specs.Prelude.{◌≡◌, ℕ, ◌≤◌, true, Option, None, Some, List, All, length}
use Rattle.design.specs.Prelude.{Contains, Place, Formula, Ranks, Entry, Design, plain_control, given_formulas, HasNoSignalLoop, IsSignalPath, HasNoSignalPath, DesignFault}
use Rattle.bit_expr.specs.declared.netlist.CellWanted.{CellWanted}
use Rattle.gathering.specs.declared.link.Link.{Link}
use Rattle.gathering.specs.Linked.{AreLinks}
use Rattle.gathering.specs.Resets.{AssignedHaveCells}
use Rattle.bit_expr.specs.declared.netlist.Control.{Control}
use Rattle.abel_tree.specs.declared.words.Extension.TheVariants as extension
use Rattle.abel_meaning.specs.Controls.{control_of}
use Rattle.abel_meaning.specs.FormulaBits.{formulas}
use Rattle.gathering.specs.Links.{AreLeaves}
use Rattle.design_checks.specs.declared.fault.DesignFault.TheVariants as fault
use Rattle.design.specs.declared.chains.ResetPath.{ResetPath}
use Rattle.design.specs.Answers.{IsFirstLoop, is_sooner}

-- wherever it is
abbrev pub AnyPlace : Place → Type 0
AnyPlace p = Unit {0}

-- before this place
abbrev pub Before : Place → Place → Type 0
Before p q = is_sooner q p ≡ true

-- signals with their links, as chains are looked for among them
pub record AreSignals (ns : List ℕ) (ls : List Link) : Type 0 where
  pub few : length ls ≤ 256
  pub leaves : AreLeaves ls
  pub count : length ns ≡ length ls

module _ (fs : List Formula) (ns : List ℕ) (ls : List Link) where
  -- a design of these links, in which the signal of the cell has this reset
  pub record IsResetOf (w : CellWanted) (d : Design) : Type 0 where
    pub cells : AssignedHaveCells d.context
    pub links : AreLinks d.context (given_formulas d) ns ls
    pub reset : plain_control fs w.reset ≡ control_of (formulas d.context) (given_formulas d) w.name extension.Ar

  -- no path leads from the reset of the cell to a register
  abbrev pub LeadsNowhere : CellWanted → Type 0
  LeadsNowhere w = (d : Design) → IsResetOf w d → HasNoSignalPath d w.name

  -- so if there is one, and it is at such a place
  abbrev pub LeadsNowhereAt : (Place → Type 0) → CellWanted → Type 0
  LeadsNowhereAt P w = (c : Control) → w.reset ≡ Some c → P c.place → LeadsNowhere w

  -- the path is one from the reset of the cell
  pub record IsPathOf (w : CellWanted) (p : ResetPath) : Type 0 where
    pub reset : Control
    pub is : w.reset ≡ Some reset
    pub place : p.place ≡ reset.place
    pub path : (d : Design) → IsResetOf w d → IsSignalPath d w.name p.path

  -- what is found of one cell
  abbrev pub IsFoundOf : CellWanted → Option ResetPath → Type 0
  IsFoundOf w None = LeadsNowhereAt AnyPlace w
  IsFoundOf w (Some p) = IsPathOf w p

  -- the path is that of one of the cells, and from no reset of a cell that precedes it there is one
  pub record IsFirstOf (ws : List CellWanted) (p : ResetPath) : Type 0 where
    pub cell : CellWanted
    pub there : Contains ws cell
    pub path : IsPathOf cell p
    pub first : All (LeadsNowhereAt (Before p.place)) ws

  abbrev pub AllLeadNowhere : List CellWanted → Type 0
  AllLeadNowhere ws = All (LeadsNowhereAt AnyPlace) ws

  -- what is found of several cells
  abbrev pub IsFirstFound : List CellWanted → Option ResetPath → Type 0
  IsFirstFound ws None = AllLeadNowhere ws
  IsFirstFound ws (Some p) = IsFirstOf ws p

-- paths in order of their resets
abbrev pub path_order : Ranks ResetPath
path_order = record { place = λ p. p.place; rank = λ p. 0 }

-- a design of these names and links, each of whose assigned pins is that of a cell
pub record IsLinkedDesign (xs : List Entry) (ns : List ℕ) (ls : List Link) (d : Design) : Type 0 where
  pub names : d.context.names ≡ xs
  pub cells : AssignedHaveCells d.context
  pub links : AreLinks d.context (given_formulas d) ns ls

-- what is reported of a loop; and if there isn't one, of the path from the reset that is first
abbrev pub IsChainTold : Design → List Formula → List ℕ → List Link → List CellWanted → DesignFault → Type 0
IsChainTold d fs ns ls ws (fault.Loop p chain) = IsFirstLoop d p chain
IsChainTold d fs ns ls ws (fault.ResetReadsRegister p path) =
    HasNoSignalLoop d × IsFirstOf fs ns ls ws (record { place = p; path = path })
IsChainTold d fs ns ls ws fault.OutOfMemory = Unit {0}
IsChainTold d fs ns ls ws _ = ⊥
