use Rattle.fuse_compare.proofs.Common.{bits, logic_of}
use Rattle.fuse_compare.proofs.Answering.{finds}
use Rattle.fuse_compare.proofs.Reached.{alike_everywhere}
use Rattle.fuse_compare.proofs.searching.compared.Goals as goal

pub returns-clause-found : goal.returns-clause-found
returns-clause-found g c =
    let a = g.A.Logic.meaning c.args.search.now.a.now in
    let b = g.B.Logic.meaning c.args.search.now.b.now in
    finds (logic_of a) (logic_of b) c.search_from.result
    (λ none. alike_everywhere a b c.args.search.now.vars.now (bits 32 c.args.fixed) c.requires.suffices (λ o s varies. c.search_from.ensures.alike none o s varies))
    c.search_from.ensures.differ
