use Rattle.fuse_compare.proofs.Common.{bits, levels_of, length-bits}
use Rattle.fuse_compare.proofs.Differences.{rest_differs, clock_differs}
use Rattle.fuse_compare.proofs.Looked.{too_from, too_gives}
use Rattle.fuse_compare.proofs.searching.difference_at.Goals as goal

pub returns-then-not-all_too-clause-differ : goal.returns-then-not-all_too-clause-differ
returns-then-not-all_too-clause-differ g c =
    let a = g.A.Logic.meaning c.args.a.now in
    let b = g.B.Logic.meaning c.args.b.now in
    let at = levels_of c.rest-at.result in
    let told = c.difference.ensures in
    rw (told.clocked, told.outside, told.stored)
    (rest_differs a b c.requires.shape c.requires.first c.requires.second (bits 32 c.args.state.outside) (bits 32 c.args.state.stored) (length-bits 32 c.args.state.outside) (length-bits 32 c.args.state.stored) at c.rest-at.ensures
    (λ too. c.all_too.ensures.not_all c.if-not-all_too.true (too_gives a b c.requires.shape c.requires.first c.requires.second (bits 32 c.args.state.outside) (bits 32 c.args.state.stored) at c.rest-at.ensures too)))

pub returns-then-stores_other-clause-differ : goal.returns-then-stores_other-clause-differ
returns-then-stores_other-clause-differ g c =
    let a = g.A.Logic.meaning c.args.a.now in
    let b = g.B.Logic.meaning c.args.b.now in
    let at = levels_of c.rest-at.result in
    let other = c.stores_other.ensures.other c.if-stores_other.true in
    let told = c.difference-then-stores_other.ensures in
    rw (told.clocked, told.outside, told.stored)
    (clock_differs a b c.requires.shape c.requires.first c.requires.second (bits 32 c.args.state.outside) (bits 32 c.args.state.stored) (length-bits 32 c.args.state.outside) (length-bits 32 c.args.state.stored) at c.rest-at.ensures
    (too_from a b c.requires.shape c.requires.first c.requires.second (bits 32 c.args.state.outside) (bits 32 c.args.state.stored) at c.rest-at.ensures (c.all_too.ensures.all c.if-not-all_too.false))
    other.0 other.1 other.2)

pub returns-clause-alike : goal.returns-clause-alike
returns-clause-alike g c = λ none.
    let a = g.A.Logic.meaning c.args.a.now in
    let b = g.B.Logic.meaning c.args.b.now in
    let at = levels_of c.rest-at.result in
    record {
      at = at;
      rest = c.rest-at.ensures;
      too = too_from a b c.requires.shape c.requires.first c.requires.second (bits 32 c.args.state.outside) (bits 32 c.args.state.stored) at c.rest-at.ensures (c.all_too.ensures.all c.if-not-all_too.false);
      edge = c.stores_other.ensures.too c.if-stores_other.false;
    }
