use Rattle.std.proofs.Common.{◌∙◌, sym, inl, arith}
use Rattle.grade_report.proofs.Common.{length-map, chars_of, contents}
use Rattle.grade_report.proofs.FewVectors.{few_vectors}
use Rattle.grade_report.proofs.grading.ending_of.Goals as goal

pub judge-requires-clause-few : goal.judge-requires-clause-few
judge-requires-clause-few g c =
    let t = g.D.Device.table in
    let few = few_vectors t c.args.bytes.now (contents t c.args.file.now) c.requires.file.read in
    omega (arith, few, length-map c.args.file.now.vectors (chars_of t))
