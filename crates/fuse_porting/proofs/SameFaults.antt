-- Fuses that are carried over are refused by loading as the first ones are, and loaded where these are.
use Rattle.std.proofs.Common.{◌≡◌, ℕ, ◌<◌, Bool, not, ◌&&◌, List, Option, None, Some, length, get_or, map, refl, ap, sym, subst, ◌∙◌, arith, inl, inr}
use Rattle.device_logic.proofs.Ranges.{reset_in}
use Rattle.device_logic.specs.CellReads.{cell_reads, rest_reads}
use Rattle.device_logic.specs.LoadFaults.{IsLoadFault, pins_of}
use Rattle.device_logic.specs.ResetPaths.{HasNoResetPath, IsResetPath, plain_reads, reset_reads, row_reads_if_any}
use Rattle.device_logic.specs.declared.fault.SimFault.{SimFault}
use Rattle.device_logic.specs.declared.fault.SimFault.TheVariants.{UnsupportedCondition, DeviceLoop, DeviceResetReadsRegister, OutOfMemory}
use Rattle.fuse_compare.specs.Compared.{CanBeLoaded}
use Rattle.pld_device.specs.Laws.{IsDevice, IsSignalPin}
use Rattle.pld_device.specs.Registers.{stores}
use Rattle.pld_device.specs.Table.{Table, no_cell}
use Rattle.pld_device.specs.declared.cell.Cell.{Cell}
use Rattle.pld_order.proofs.SameGraphs.{least_same, no_loop_same, no_path_same, path_same}
use Rattle.pld_order.specs.Graphs.{HasNoLoop, HasNoPath, IsLeastLoop, IsPath}
use Rattle.fuse_porting.specs.SameArray.{HasSameArray, IsCarriedOver}
use Rattle.fuse_porting.proofs.CarriedLogics.{cell_same, stores_same}
use Rattle.fuse_porting.proofs.SameReads.{cells_alike, rests_alike, row_alike}

module _ (f t : Table) (a b : List Bool) (fd : IsDevice f) (td : IsDevice t) (same : HasSameArray f t) (over : IsCarriedOver f t a b) where
  cells_equal : length t.cells ≡ length f.cells
  cells_equal = ap length (sym same.cells)

  reads_same : (c d : ℕ) → c < length f.cells → d < length f.cells → cell_reads t b c d ≡ cell_reads f a c d
  reads_same c d c_in d_in = cells_alike f t a b fd td same over c d (omega (arith, c_in, cells_equal))

  plain_same : (c d : ℕ) → c < length f.cells → d < length f.cells → plain_reads t b c d ≡ plain_reads f a c d
  plain_same c d c_in d_in =
      ap (λ x. not (stores t b c) && x) (rests_alike f t a b fd td same over c d (omega (arith, c_in, cells_equal)))
      ∙ ap (λ x. not x && rest_reads f a c d) (stores_same f t a b fd td same over c)

  reset_same : (d : ℕ) → d < length f.cells → reset_reads t b d ≡ reset_reads f a d
  reset_same d d_in = by_row t.reset (reset_in t td) ∙ ap (λ row. row_reads_if_any f a row d) (sym same.reset)
    where
      by_row : (row : Option ℕ) → ((r : ℕ) → row ≡ Some r → r < t.rows) → row_reads_if_any t b row d ≡ row_reads_if_any f a row d
      by_row None within = refl
      by_row (Some row) within = row_alike f t a b fd td same over row (within row refl) d

  pins_same : (cells : List ℕ) → pins_of t cells ≡ pins_of f cells
  pins_same cells = ap (λ (all : List Cell). map (λ c. (get_or all c no_cell).pin) cells) (sym same.cells)

  no_loop_first : HasNoLoop (length t.cells) (cell_reads t b) → HasNoLoop (length f.cells) (cell_reads f a)
  no_loop_first none = no_loop_same (length f.cells) (cell_reads t b) (cell_reads f a) reads_same (subst (λ n. HasNoLoop n (cell_reads t b)) cells_equal none)

  path_first : (path : List ℕ) → IsResetPath t b path → IsResetPath f a path
  path_first path is =
      path_same (length f.cells) (plain_reads t b) (plain_reads f a) plain_same (reset_reads t b) (reset_reads f a) (stores t b) (stores f a)
      reset_same (λ c c_in. stores_same f t a b fd td same over c) path (subst (λ n. IsPath n (plain_reads t b) (reset_reads t b) (stores t b) path) cells_equal is)

  no_path_first : HasNoResetPath t b → HasNoResetPath f a
  no_path_first none =
      no_path_same (length f.cells) (plain_reads t b) (plain_reads f a) plain_same (reset_reads t b) (reset_reads f a) (stores t b) (stores f a)
      reset_same (λ c c_in. stores_same f t a b fd td same over c) (subst (λ n. HasNoPath n (plain_reads t b) (reset_reads t b) (stores t b)) cells_equal none)

  -- what refuses the fuses that are carried over refuses the first ones
  pub fault_first : (fault : SimFault) → IsLoadFault t b fault → IsLoadFault f a fault
  fault_first (UnsupportedCondition vector pin) is = is
  fault_first (DeviceLoop pins) is = (
    is.0,
    least_same (length f.cells) (cell_reads t b) (cell_reads f a) reads_same is.0 (subst (λ n. IsLeastLoop n (cell_reads t b) is.0) cells_equal is.1),
    is.2 ∙ pins_same is.0,
  )
  fault_first (DeviceResetReadsRegister pins) is = (no_loop_first is.0, (is.1.0, path_first is.1.0 is.1.1, is.1.2, is.1.3 ∙ pins_same is.1.0))
  fault_first OutOfMemory is = is

  pub loaded_first : CanBeLoaded t b → CanBeLoaded f a
  loaded_first can = record { no_loop = no_loop_first can.no_loop; no_path = no_path_first can.no_path }

  pub signal_first : (pin : ℕ) → IsSignalPin t pin → IsSignalPin f pin
  signal_first pin is = record {
    low = is.low;
    high = omega (arith, is.high, same.pins);
    not_ground = λ e. is.not_ground (e ∙ same.ground);
  }
