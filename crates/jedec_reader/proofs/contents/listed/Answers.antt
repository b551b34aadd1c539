use Rattle.std.proofs.Common.{◌∙◌, sym}
use Rattle.jedec_reader.proofs.Steps.{size_found, size_misfit, size_unsaid, size_few}
use Rattle.jedec_reader.proofs.contents.listed.Goals as goal

pub returns-in-Some-clause-size : goal.returns-in-Some-clause-size
returns-in-Some-clause-size g c =
    size_found g.D.Device.table c.args.fields.now c.args.said.now.pin_count c.in-Some.count (sym c.in-Some.is ∙ c.requires.fuse_count) c.requires.pin_count (sym c.is_size.ensures ∙ c.if-is_size.true)

pub returns-in-Some-clause-few : goal.returns-in-Some-clause-few
returns-in-Some-clause-few g c =
    size_few g.D.Device.table c.args.fields.now c.args.said.now.pin_count c.in-Some.count g.D.Device.sound.sizes.short_high (sym c.is_size.ensures ∙ c.if-is_size.true)

pub returns-in_default-clause-size : goal.returns-in_default-clause-size
returns-in_default-clause-size g c =
    size_misfit g.D.Device.table c.args.fields.now c.args.said.now.pin_count c.in-Some.count (sym c.in-Some.is ∙ c.requires.fuse_count) c.requires.pin_count (sym c.is_size.ensures ∙ c.if-is_size.false)

pub returns-in_default-2-clause-size : goal.returns-in_default-2-clause-size
returns-in_default-2-clause-size g c = size_unsaid g.D.Device.table c.args.fields.now (sym c.in_default.is ∙ c.requires.fuse_count)
