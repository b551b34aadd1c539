use Rattle.std.proofs.Common.{ap, ◌∙◌}
use Rattle.decompiler.proofs.Common.{source_text, source_of}
use Rattle.decompiler.proofs.ReadTexts.{is_decompiled, read_as_source}
use Rattle.decompiler.proofs.decompiling.decompile.Goals as goal

pub returns-clause-read : goal.returns-clause-read
returns-clause-read g c =
    let t = g.D.Device.table in
    read_as_source t c.args.fuses.now g.D.Device.sound _ (c.in_ok-text.ensures ∙ ap source_text (c.in_ok-source.ensures ∙ ap (source_of t) c.in_ok-fuses.ensures))

pub returns-clause-right : goal.returns-clause-right
returns-clause-right g c =
    let t = g.D.Device.table in
    is_decompiled c.sources_are_right.ensures t c.args.fuses.now g.D.Device.sound c.requires c.in_ok-load.ensures.no_loop
    c.in_ok-load.ensures.no_path _ (c.in_ok-text.ensures ∙ ap source_text (c.in_ok-source.ensures ∙ ap (source_of t) c.in_ok-fuses.ensures))
