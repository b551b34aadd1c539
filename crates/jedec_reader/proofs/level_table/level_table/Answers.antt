use Rattle.std.proofs.Common.{◌≡◌, ◌∙◌, rules, ap, subst, length, None, replicate, take}
use Rattle.jedec_reader.proofs.Common.{with_items_is, FieldFits}
use Rattle.jedec_file.specs.declared.field.Field.TheVariants as field
use Rattle.jedec_reader.proofs.LevelLists.{fits_at, said_length, said_none, said_put, said_other}
use Rattle.jedec_reader.proofs.level_table.level_table.Goals as goal
use Rattle.jedec_reader.proofs.level_table.level_table.Goals.{in-Levels, in_default}

pub loop-field-init : goal.loop-field-init
loop-field-init g c =
    let made = c.in_ok-table.ensures.items_if_clones_equal (λ y same. search rules) in
    let count : c.from.result ≡ g.D.Device.table.fuses = c.from.ensures ∙ c.fuses.ensures in
    made ∙ (ap (λ n. replicate n None) count ∙ said_none g.D.Device.table.fuses)

pub put_levels-requires : goal.put_levels-requires
put_levels-requires g c =
    let fits = subst (FieldFits g.D.Device.table) c.in-Levels.is (fits_at g.D.Device.table c.args.fields.now c.loop-field.field-index c.field-item.result c.requires c.loop-field-test.true c.field-item.is) in
    let count = said_length (take c.loop-field.field-index c.args.fields.now) g.D.Device.table.fuses c.loop-field.table.items c.loop-field.invariant in
    rw (c.as_slice.ensures, c.from-in-Levels.ensures, c.deref_mut.ensures.value, count) fits

pub loop-field-preserved : goal.loop-field-preserved
loop-field-preserved g c = elim c.match-field.branch [
  | in-Levels w ↦
      let is : c.field-item.result ≡ field.Levels w.from-in-Levels.result w.as_slice.result.now = rw (w.as_slice.ensures, w.from-in-Levels.ensures) w.in-Levels.is in
      let kept : length w.put_levels.new.table ≡ c.loop-field.table.len = w.put_levels.auto.table ∙ w.deref_mut.ensures.len in
      rw (w.table-is, with_items_is c.loop-field.table w.put_levels.new.table kept)
      (said_put c.args.fields.now c.loop-field.field-index c.field-item.result w.from-in-Levels.result w.as_slice.result.now g.D.Device.table.fuses w.deref_mut.result.now w.put_levels.new.table
      c.loop-field-test.true c.field-item.is is w.put_levels.ensures w.put_levels.auto.table (rw w.deref_mut.ensures.value c.loop-field.invariant))
  | in_default w ↦ rw w.table-is
      (said_other c.args.fields.now c.loop-field.field-index c.field-item.result g.D.Device.table.fuses c.loop-field.table.items c.loop-field-test.true c.field-item.is w.in_default.not-Levels c.loop-field.invariant)
]
