use Rattle.std.proofs.Common.{ap, sym, ◌∙◌, refl}
use Rattle.fuse_compare.proofs.Common.{get_or_from_slice_get, carries}
use Rattle.pld_device.specs.declared.carry.Carry.TheVariants as carry
use Rattle.fuse_compare.proofs.reads.reads_at.Goals as goal

pub returns-then-row_reads : goal.returns-then-row_reads
returns-then-row_reads g c =
    let t = g.D.Device.table in
    c.carries.ensures
    ∙ (ap (carries t c.args.array.now c.args.variable) (sym (get_or_from_slice_get t.pairs c.args.pair c.carry_of.result (carry.Pin 0) c.carry_of.ensures.found))
    ∙ rw (sym c.row_reads.ensures ∙ c.if-row_reads.true) refl)
