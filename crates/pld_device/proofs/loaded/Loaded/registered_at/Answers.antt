use Rattle.std.proofs.Common.{◌<◌, None, length, get_or, ap, ◌∙◌, arith}
use Rattle.std.proofs.lemmas.List.FromFn.{get_or-map-range_with_len, length-map-range_with_len}
use Rattle.pld_device.specs.Table.{registered_at}
use Rattle.pld_device.proofs.loaded.Loaded.registered_at.Goals as goal

pub bounds-as_slice-from : goal.bounds-as_slice-from
bounds-as_slice-from g c =
    let long = length-map-range_with_len (registered_at g.D.Device.table) 0 (length g.D.Device.table.cells) in
    omega (arith, c.requires, c.from.ensures, ap length (c.as_slice.ensures.value ∙ c.args.self.now.registered_are) ∙ long)

pub returns : goal.returns
returns g c =
    let cells = length g.D.Device.table.cells in
    let within : c.from.result < cells = omega (arith, c.requires, c.from.ensures) in
    ap (λ bits. get_or bits c.from.result None) (c.as_slice.ensures.value ∙ c.args.self.now.registered_are)
    ∙ get_or-map-range_with_len (registered_at g.D.Device.table) 0 cells c.from.result c.args.cell None within (omega (arith, c.from.ensures))
