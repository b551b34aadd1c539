-- The cells so far are reported.
use Rattle.std.specs.List.{All}
use Rattle.design_page.specs.Costly.{IsCostly, TellsBelow}
use Rattle.design_page.proofs.costs.costly_polarities.Given as goal

abbrev pub invariant-loop-cell : goal.invariant-loop-cell
invariant-loop-cell g l = record {
  costly : All IsCostly l.list.items;
  told : TellsBelow g.D.Device.table l.net l.pins l.cell l.list.items;
}
