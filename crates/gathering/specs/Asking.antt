-- Private: what names ask of nodes and cells, as ids of an arena that grows (this project's rule).
use Rattle.std.specs.Prelude.{◌≡◌, ℕ, Bool, true, false, ◌&&◌, Option, None, List, ◌++◌, All, length, map, unwrap_or}
use Rattle.gathering.specs.Prelude.{Table, cell_at, CellWanted, Control, Formula, Entry, is_stored, follows_q, is_free, Context, plain_function, plain_wanted, IsFunctionIn, IsCellIn, Contribution, cells_from, nodes_from}
use Rattle.pld_device.specs.declared.enable.Enable.{Enable}
use Rattle.pld_device.specs.declared.enable.Enable.TheVariants.{Row, PinLow, Driven, Released}
use Rattle.abel_meaning.specs.SourceLogic.{is_negated}
use Rattle.gathering.specs.declared.signal.Totals.{Totals}
use Rattle.gathering.specs.Amounts.{contributions_in}
use Rattle.gathering.specs.declared.asked.Asked.{Asked}
use Rattle.gathering.specs.declared.link.Link.{Link}
use Rattle.gathering.specs.Linked.{AreLinksFrom}
use Rattle.gathering.specs.Placed.{IsPlaced}

-- an enable of its own, if the cell's enable is a row
abbrev pub control_by_row : Enable → Option Control → Option Control
control_by_row (Row row) control = control
control_by_row (PinLow pin) control = None
control_by_row Driven control = None
control_by_row Released control = None

-- a control of a signal that is stored
abbrev pub control_if : Bool → Option Control → Option Control
control_if true control = control
control_if false control = None

-- what a signal asks of its cell, by all that is given to it
abbrev pub asked_cell : Table → (cell name : ℕ) → Entry → Totals → CellWanted
asked_cell t c s x totals =
    record {
      cell = c;
      name = s;
      place = unwrap_or totals.place x.place;
      registered = is_stored x;
      buffer = follows_q x;
      free = is_free x;
      negated = is_negated x.kind;
      raw = is_stored x && totals.raw;
      function = totals.function;
      enable = control_by_row (cell_at t c).enable totals.controls.enable;
      reset = control_if (is_stored x) totals.controls.reset;
      preset = control_if (is_stored x) totals.controls.preset;
    }

-- what is asked, over the second arena, is the netlist of these names by contributions over the first
pub record Asks (t : Table) (first now : List Formula) (cs : List Contribution) (xs : List Entry) (asked : Asked) : Type 0 where
  pub nodes : (d : Context) → map (plain_function now) asked.nodes.items ≡ nodes_from d (contributions_in first cs) 0 xs
  pub cells : (d : Context) → d.device ≡ t → map (plain_wanted now) asked.cells.items ≡ cells_from d (contributions_in first cs) 0 xs
  pub nodes_in : All (IsFunctionIn (length now)) asked.nodes.items
  pub cells_in : All (IsCellIn (length now)) asked.cells.items
  pub places : All (IsPlaced cs) asked.cells.items
  pub links : (d : Context) → d.device ≡ t → AreLinksFrom d (contributions_in first cs) 0 xs asked.signals.items asked.links.items

-- it becomes that netlist by what the names ask that are left, the first of which has this number
pub record AsksBefore (t : Table) (first now : List Formula) (cs : List Contribution) (xs : List Entry) (s : ℕ) (left : List Entry) (asked : Asked) : Type 0 where
  pub nodes : (d : Context)
      → map (plain_function now) asked.nodes.items ++ nodes_from d (contributions_in first cs) s left ≡ nodes_from d (contributions_in first cs) 0 xs
  pub cells : (d : Context) → d.device ≡ t
      → map (plain_wanted now) asked.cells.items ++ cells_from d (contributions_in first cs) s left ≡ cells_from d (contributions_in first cs) 0 xs
  pub nodes_in : All (IsFunctionIn (length now)) asked.nodes.items
  pub cells_in : All (IsCellIn (length now)) asked.cells.items
  pub places : All (IsPlaced cs) asked.cells.items
  pub links : (d : Context) → d.device ≡ t → (ns : List ℕ) (ls : List Link) → AreLinksFrom d (contributions_in first cs) s left ns ls
      → AreLinksFrom d (contributions_in first cs) 0 xs (asked.signals.items ++ ns) (asked.links.items ++ ls)
