use Rattle.std.proofs.Common.{ap, sym, ◌∙◌, refl}
use Rattle.std.proofs.lemmas.Option.{get_or_from_slice_get}
use Rattle.pld_device.specs.declared.carry.Carry.TheVariants as carry
use Rattle.page_model.specs.LevelReads.{carries_level}
use Rattle.page_model.proofs.level_reads.reads_level.Goals as goal

pub returns-then-row_reads : goal.returns-then-row_reads
returns-then-row_reads g c =
    let t = g.D.Device.table in
    c.carries_level.ensures
    ∙ (ap (carries_level t c.args.array.now c.args.pin) (sym (get_or_from_slice_get t.pairs c.args.pair c.carry_of.result (carry.Pin 0) c.carry_of.ensures.found))
    ∙ rw (sym c.row_reads.ensures ∙ c.if-row_reads.true) refl)
