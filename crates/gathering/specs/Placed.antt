-- The place of the ids of a netlist, and the place of its cells and controls in the source (this project's
-- rule).
use Rattle.std.specs.Prelude.{◌≡◌, ℕ, Option, Some, List, All, length}
use Rattle.gathering.specs.Prelude.{Place, CellWanted, Control, arena, Extension, IsFunctionIn, IsCellIn, Contribution}
use Rattle.bit_expr.specs.declared.netlist.Netlist.{Netlist}
use Rattle.abel_tree.specs.declared.words.Extension.TheVariants as extension
use Rattle.gathering.specs.Amounts.{first_data, first_target, target_place}

-- all ids of a netlist lie in its arena
pub record AreIdsIn (net : Netlist) : Type 0 where
  pub nodes : All (IsFunctionIn (length (arena net.exprs))) net.nodes
  pub cells : All (IsCellIn (length (arena net.exprs))) net.cells

-- a control that is there is at its first target
abbrev pub IsControlPlaced : List Contribution → ℕ → Extension → Option Control → Type 0
IsControlPlaced cs s e control = (c : Control) → control ≡ Some c → target_place (first_target s e cs) ≡ Some c.place

-- a cell is at the first data target of its signal, its controls at theirs
pub record IsPlaced (cs : List Contribution) (w : CellWanted) : Type 0 where
  pub place : (p : Place) → target_place (first_data w.name cs) ≡ Some p → w.place ≡ p
  pub enable : IsControlPlaced cs w.name extension.Oe w.enable
  pub reset : IsControlPlaced cs w.name extension.Ar w.reset
  pub preset : IsControlPlaced cs w.name extension.Sp w.preset
