use Rattle.spliced_files.proofs.SplicedFile.{name_is_plain_too}
use Rattle.spliced_files.proofs.splicing.spliced_text.Goals as goal

pub head-requires-clause-name : goal.head-requires-clause-name
head-requires-clause-name g c =
    name_is_plain_too c.args.text.now c.design_of.result.now c.as_bytes.result.now c.title_of-name.result.now c.requires.text c.design_of.ensures c.title_of-name.ensures
