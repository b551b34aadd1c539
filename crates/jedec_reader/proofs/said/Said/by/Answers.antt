use Rattle.jedec_reader.proofs.Common.{fuse_count, pin_count, default_fuse, sum_said, default_test}
use Rattle.jedec_reader.proofs.LastOf.{more_said}
use Rattle.jedec_reader.proofs.said.Said.by.Goals as goal

pub loop-field-preserved : goal.loop-field-preserved
loop-field-preserved c =
    let fields = c.args.fields.now in
    let i = c.loop-field.field-index in
    let field = c.field-item.result in
    let before = c.loop-field.invariant in
    let next = c.then_by-said.ensures in
    record {
      fuse_count = more_said fuse_count fields i field _ _ c.loop-field-test.true c.field-item.is before.fuse_count next.fuse_count;
      pin_count = more_said pin_count fields i field _ _ c.loop-field-test.true c.field-item.is before.pin_count next.pin_count;
      default_fuse = more_said default_fuse fields i field _ _ c.loop-field-test.true c.field-item.is before.default_fuse next.default_fuse;
      fuse_sum = more_said sum_said fields i field _ _ c.loop-field-test.true c.field-item.is before.fuse_sum next.fuse_sum;
      default_test = more_said default_test fields i field _ _ c.loop-field-test.true c.field-item.is before.default_test next.default_test;
    }
