-- Each source of a list is within the limit.
use Rattle.std.proofs.Common.{length, ltb-true, refl, sym}
use Rattle.abel_commands.proofs.Common.{slice_get_read}
use Rattle.abel_commands.proofs.SourceLists.{within_item}
use Rattle.abel_commands.proofs.sources.source_at.Goals as goal

pub returns-in-Some-clause-within : goal.returns-in-Some-clause-within
returns-in-Some-clause-within c =
    let sources = c.args.sources.now in
    let lookup = c.in-Some.ensures.lookup in
    let found = slice_get_read sources (length sources) c.args.place c.in-Some.source.now refl (ltb-true c.args.place (length sources) (sym lookup.0)) lookup.1 in
    rw c.as_slice.ensures.value (within_item sources c.args.place c.in-Some.source.now c.requires found)
