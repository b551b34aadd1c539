use Rattle.std.proofs.Common.{◌∙◌, refl}
use Rattle.jedec_reader.proofs.Common.{err_from_is_err_and, contents_of, size_of, default_of, fuses_said, fuse_sum_read}
use Rattle.jedec_reader.proofs.LevelLists.{said_length}
use Rattle.jedec_reader.proofs.Steps.{refuses_with, default_found, default_read, levels_read, fuses_said-length, sum_found, size_refused, default_refused, sum_refused, all_read}
use Rattle.jedec_reader.proofs.contents.contents.Goals as goal

pub returns-in_err-listed-clause-file : goal.returns-in_err-listed-clause-file
returns-in_err-listed-clause-file g c =
    let t = g.D.Device.table in
    let fields = c.args.fields.now in
    let p = err_from_is_err_and c.from_residual.result c.from_residual.ensures.1 in
    rw (p.1, p.2) (refuses_with c.in_err-listed.field-0.0 (size_of t fields) (contents_of t fields) (size_refused t fields) c.in_err-listed.ensures.size)

pub split_at-requires : goal.split_at-requires
split_at-requires g c =
    let count = said_length c.args.fields.now g.D.Device.table.fuses c.in_ok-table.table.items c.in_ok-table.ensures in
    rw (c.as_slice.ensures.value, count, c.from-count.ensures) c.in_ok-listed.ensures.few

pub returns-in_err-default-clause-file : goal.returns-in_err-default-clause-file
returns-in_err-default-clause-file g c =
    let t = g.D.Device.table in
    let fields = c.args.fields.now in
    let p = err_from_is_err_and c.from_residual-in_err-default.result c.from_residual-in_err-default.ensures.1 in
    let step = default_found fields t.fuses c.in_ok-listed.listed c.in_ok-table.table.items c.by-said.result.default_fuse c.in_ok-table.ensures c.in_ok-listed.ensures.few c.by-said.ensures.default_fuse in
    let refused = rw (c.split_at.ensures.front, c.as_slice.ensures.value, c.from-count.ensures, step) at c.in_err-default.ensures in
    rw (p.1, p.2) (refuses_with c.in_err-default.field-0.0 (default_of fields c.in_ok-listed.listed) (contents_of t fields) (default_refused t fields c.in_ok-listed.listed c.in_ok-listed.ensures.size) refused)

pub split_at-requires-2 : goal.split_at-requires-2
split_at-requires-2 g c =
    let t = g.D.Device.table in
    let fields = c.args.fields.now in
    let levels = levels_read t fields c.in_ok-listed.listed c.in_ok-default.default c.in_ok-table.table.items c.deref.result.now c.in_ok-levels.levels.items c.in_ok-table.ensures c.deref.ensures.value c.in_ok-levels.ensures in
    rw (c.as_slice-2.ensures.value, levels, fuses_said-length t fields c.in_ok-listed.listed c.in_ok-default.default, c.from-count.ensures) c.in_ok-listed.ensures.few

pub returns-in_err-check_fuse_sum-clause-file : goal.returns-in_err-check_fuse_sum-clause-file
returns-in_err-check_fuse_sum-clause-file g c =
    let t = g.D.Device.table in
    let fields = c.args.fields.now in
    let p = err_from_is_err_and c.from_residual-in_err-check_fuse_sum.result c.from_residual-in_err-check_fuse_sum.ensures.1 in
    let default = default_read t fields c.in_ok-listed.listed c.in_ok-table.table.items c.by-said.result.default_fuse c.split_at.result.0.now c.in_ok-default.default c.in_ok-table.ensures c.in_ok-listed.ensures.few c.by-said.ensures.default_fuse
    (c.split_at.ensures.front ∙ rw (c.as_slice.ensures.value, c.from-count.ensures) refl) c.in_ok-default.ensures in
    let levels = levels_read t fields c.in_ok-listed.listed c.in_ok-default.default c.in_ok-table.table.items c.deref.result.now c.in_ok-levels.levels.items c.in_ok-table.ensures c.deref.ensures.value c.in_ok-levels.ensures in
    let sum = sum_found fields c.in_ok-listed.listed (fuses_said t fields c.in_ok-listed.listed c.in_ok-default.default) c.by-said.result.fuse_sum c.by-said.ensures.fuse_sum in
    let refused = rw (c.split_at-2.ensures.front, c.as_slice-2.ensures.value, c.from-count.ensures, levels, sum) at c.in_err-check_fuse_sum.ensures in
    rw (p.1, p.2) (refuses_with c.in_err-check_fuse_sum.field-0.0 (fuse_sum_read fields c.in_ok-listed.listed (fuses_said t fields c.in_ok-listed.listed c.in_ok-default.default)) (contents_of t fields)
    (sum_refused t fields c.in_ok-listed.listed c.in_ok-listed.ensures.size c.in_ok-default.default default) refused)

pub returns-clause-file : goal.returns-clause-file
returns-clause-file g c =
    let t = g.D.Device.table in
    let fields = c.args.fields.now in
    let default = default_read t fields c.in_ok-listed.listed c.in_ok-table.table.items c.by-said.result.default_fuse c.split_at.result.0.now c.in_ok-default.default c.in_ok-table.ensures c.in_ok-listed.ensures.few c.by-said.ensures.default_fuse
    (c.split_at.ensures.front ∙ rw (c.as_slice.ensures.value, c.from-count.ensures) refl) c.in_ok-default.ensures in
    let levels = levels_read t fields c.in_ok-listed.listed c.in_ok-default.default c.in_ok-table.table.items c.deref.result.now c.in_ok-levels.levels.items c.in_ok-table.ensures c.deref.ensures.value c.in_ok-levels.ensures in
    let sum = sum_found fields c.in_ok-listed.listed (fuses_said t fields c.in_ok-listed.listed c.in_ok-default.default) c.by-said.result.fuse_sum c.by-said.ensures.fuse_sum in
    let found = rw (c.split_at-2.ensures.front, c.as_slice-2.ensures.value, c.from-count.ensures, levels, sum) at c.in_ok-check_fuse_sum.ensures in
    let whole = all_read t fields c.in_ok-listed.listed c.in_ok-listed.ensures.size c.in_ok-default.default default c.in_ok-check_fuse_sum.field-0 found in
    rw (c.from_levels.ensures, levels, c.from_vec.ensures, c.in_ok-vectors.ensures.chars, c.unwrap_or.ensures, c.by-said.ensures.default_test) whole

pub returns-clause-fuses : goal.returns-clause-fuses
returns-clause-fuses g c =
    let t = g.D.Device.table in
    let fields = c.args.fields.now in
    let levels = levels_read t fields c.in_ok-listed.listed c.in_ok-default.default c.in_ok-table.table.items c.deref.result.now c.in_ok-levels.levels.items c.in_ok-table.ensures c.deref.ensures.value c.in_ok-levels.ensures in
    rw (c.from_levels.ensures, levels) (fuses_said-length t fields c.in_ok-listed.listed c.in_ok-default.default)
