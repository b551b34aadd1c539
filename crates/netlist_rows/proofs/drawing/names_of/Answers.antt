-- Names in which each pin has a number are sound, and no two are one pin.
use Rattle.std.proofs.Common.{◌≡◌, true, sym, ap, ◌∙◌}
use Rattle.netlist_rows.proofs.Common.{entries_of, view_module}
use Rattle.abel_meaning.specs.Declarations.{are_numbered}
use Rattle.abel_meaning.specs.Kinds.{names_of}
use Rattle.netlist_rows.proofs.drawing.names_of.Goals as goal

pub returns-then-are_numbered : goal.returns-then-are_numbered
returns-then-are_numbered g c =
    let names = c.in-Ok-declare.names in
    let numbered : are_numbered (entries_of names) ≡ true = sym c.are_numbered.ensures ∙ c.if-are_numbered.true in
    record {
      entries = c.in-Ok-declare.ensures.names ∙ ap (λ m. names_of g.D.Device.table (view_module m)) c.in-Ok.ensures;
      sound = c.numbered_names.ensures.sound g.D.Device.table.name g.D.Device.table.pins names c.in-Ok-declare.ensures.sound numbered;
      apart = c.numbered_names.ensures.apart (entries_of names) c.in-Ok-declare.ensures.apart numbered;
      buffers = c.in-Ok-declare.ensures.buffers;
    }
