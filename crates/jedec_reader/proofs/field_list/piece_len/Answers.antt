use Rattle.jedec_reader.proofs.FieldLoop.{pieces_at}
use Rattle.jedec_reader.proofs.field_list.piece_len.Goals as goal

pub returns-clause-pieces : goal.returns-clause-pieces
returns-clause-pieces c = pieces_at c.args.text.now c.place_of.result c.place_of.ensures.place
