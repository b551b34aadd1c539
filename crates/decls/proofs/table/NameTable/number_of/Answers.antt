-- A name's number is its place in the table.
use Rattle.std.proofs.Common.{◌∙◌}
use Rattle.decls.proofs.Found.{number_found}
use Rattle.decls.proofs.table.NameTable.number_of.Goals as goal

pub returns : goal.returns
returns c = λ t s sh. c.get_index_of.ensures.index ∙ number_found t c.args.self.now.names.entries s.entries c.args.name.now sh.rows
