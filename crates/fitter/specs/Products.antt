-- Controls that one product makes, or none (sum-of-products form; that a control has one row is the devices').
use Rattle.std.specs.Prelude.{◌≡◌, ℕ, ◌<◌, true, Bool, Option, Some, List, length}
use Rattle.fitter.specs.Prelude.{option_to_list, Point, Table, plain_netlist, CellWanted, Netlist, ExprId, Cube, covers, bit_list, AreShared}
use Rattle.fitter.specs.Plans.{cell_wanted, enable_bit}
use Rattle.fitter.specs.declared.shared.SharedControl.{SharedControl}
use Rattle.fitter.specs.declared.shared.SharedControl.TheVariants.{Preset, Reset}
use Rattle.fitter.specs.Sharing.{AreNotShared, IsSharedBit, own_formula}

-- the written products have the points of one product, or none
abbrev pub IsOneProduct : (vars : ℕ) → List Cube → Type 0
IsOneProduct vars rows =
    (c : Option Cube) × ((p : List Bool) → length p ≡ vars → covers rows p ≡ covers (option_to_list c) p)

-- so have those of a bit
pub record IsProduct (vars : ℕ) (net : Netlist) (bit : ExprId) : Type 0 where
  pub list : List Cube
  pub list_is : bit_list net bit true ≡ Some list
  pub one : IsOneProduct vars list

-- they haven't
pub record IsNoProduct (vars : ℕ) (net : Netlist) (bit : ExprId) : Type 0 where
  pub list : List Cube
  pub list_is : bit_list net bit true ≡ Some list
  pub many : IsOneProduct vars list → ⊥

-- the reset, or the preset, that all registers share is one product, or 0
pub record IsSharedProduct (t : Table) (net : Netlist) (which : SharedControl) : Type 0 where
  pub bit : ExprId
  pub shared : IsSharedBit t net which bit
  pub product : IsProduct (length t.pairs) net bit

-- it is shared, and it isn't
pub record IsSharedSum (t : Table) (net : Netlist) (which : SharedControl) : Type 0 where
  pub bit : ExprId
  pub shared : IsSharedBit t net which bit
  pub many : IsNoProduct (length t.pairs) net bit

-- the resets of two registers differ at a point; or their presets do, and no resets
abbrev pub DifferIn : Table → Netlist → SharedControl → (a b : ℕ) → Point → Type 0
DifferIn t net Reset a b point = AreNotShared t (plain_netlist net) (own_formula Reset) a b point
DifferIn t net Preset a b point =
    AreShared t (plain_netlist net) (own_formula Reset) × AreNotShared t (plain_netlist net) (own_formula Preset) a b point

-- the enables of the assigned cells below a number are one product each, or 0
abbrev pub EnablesBelow : Table → Netlist → ℕ → Type 0
EnablesBelow t net c = (d : ℕ) (w : CellWanted) → d < c → cell_wanted net d ≡ Some w → IsProduct (length t.pairs) net (enable_bit w)

-- the cell is the first whose enable isn't
pub record IsFirstSum (t : Table) (net : Netlist) (c : ℕ) : Type 0 where
  pub cell : CellWanted
  pub wanted : cell_wanted net c ≡ Some cell
  pub many : IsNoProduct (length t.pairs) net (enable_bit cell)
  pub before : EnablesBelow t net c
