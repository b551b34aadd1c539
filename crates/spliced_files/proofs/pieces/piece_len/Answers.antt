use Rattle.spliced_files.proofs.PieceLaws.{pieces_at}
use Rattle.spliced_files.proofs.pieces.piece_len.Goals as goal

pub returns-clause-pieces : goal.returns-clause-pieces
returns-clause-pieces c = pieces_at c.args.text.now c.place_of.result c.place_of.ensures.place
