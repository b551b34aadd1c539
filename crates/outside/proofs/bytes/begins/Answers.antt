-- Bytes that begin with others are these and a rest.
use Rattle.std.proofs.Common.{length, drop}
use Rattle.std.proofs.lemmas.Bool.Decides.{Decides-eqb}
use Rattle.std.proofs.lemmas.Slice.Eq.{starts_is}
use Rattle.outside.proofs.bytes.begins.Goals as goal

pub returns : goal.returns
returns c =
    let is = starts_is Decides-eqb c.args.bytes.now c.args.front.now _ c.starts_with.ensures.value in
    (λ yes. (drop (length c.args.front.now) c.args.bytes.now, is.0 yes), λ begun. is.1 begun.0 begun.1)
