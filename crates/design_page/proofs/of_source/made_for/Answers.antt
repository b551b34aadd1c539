-- The file was read of these bytes, so it has few vectors.
use Rattle.std.proofs.Common.{arith}
use Rattle.std.proofs.lemmas.List.{length-map}
use Rattle.jedec_file.specs.TestVectors.{chars_of}
use Rattle.jedec_reader.specs.Contents.{contents}
use Rattle.design_page.proofs.of_source.made_for.Goals as goal

pub made_with-requires-clause-few : goal.made_with-requires-clause-few
made_with-requires-clause-few g c =
    let t = g.D.Device.table in
    let good = rw c.in-File.is at c.in_ok-taken.ensures in
    let few = c.read_files_have_few_vectors.ensures t c.as_slice-bytes.result.now (contents t c.in-File.file) good.0.read in
    omega (arith, few, length-map c.in-File.file.vectors (chars_of t))
