-- The file, the listing and the summary are those of the fuses.
use Rattle.std.proofs.Common.{ap, ◌∙◌}
use Rattle.abel_compile.proofs.Common.{entries_of, view_module, plain_netlist, assigned_cells}
use Rattle.jedec_file.specs.TestVectors.{all_chars}
use Rattle.abel_compile.proofs.ToldFuses.{told_of}
use Rattle.abel_compile.proofs.telling.compiled_of.Goals as goal

pub write-requires-clause-lines : goal.write-requires-clause-lines
write-requires-clause-lines g c =
    (c.fits_can_be_told.ensures g.D.Device.table (view_module c.args.placed.now.module) c.args.net.now c.args.fitted.now g.D.Device.sound c.requires.netlist c.requires.fits).intact

pub returns-clause-told : goal.returns-clause-told
returns-clause-told g c =
    let t = g.D.Device.table in
    let m = view_module c.args.placed.now.module in
    let fitted = c.args.fitted.now in
    told_of t (entries_of c.args.placed.now.declared) m fitted.fuses c.bytes.result.now (entries_of c.args.placed.now.names) (assigned_cells t (plain_netlist c.args.net.now)) (all_chars t c.args.vectors.now)
    (record { device = c.args.placed.now.model; file = c.in_ok-write.field-0; listing = c.in_ok-listing.field-0; summary = c.in_ok-summary.field-0 })
    c.requires.vectors (c.bytes.ensures ∙ ap (λ x. (view_module x).name.text) c.module.ensures) c.requires.names.entries
    (c.fits_can_be_told.ensures t m c.args.net.now fitted g.D.Device.sound c.requires.netlist c.requires.fits).cells
    c.in_ok-write.ensures.canonical c.in_ok-write.ensures.short c.in_ok-write.ensures.reads_back c.in_ok-listing.ensures c.in_ok-summary.ensures
