use Rattle.std.proofs.Common.{◌≡◌, take, sym, arith}
use Rattle.jedec_writer.proofs.Common.{take_all, All-more, All-same, HasPlaces}
use Rattle.jedec_writer.proofs.VectorLines.{one_vector_more}
use Rattle.jedec_writer.proofs.vectors.put_vectors.Goals as goal

pub loop-index-preserved : goal.loop-index-preserved
loop-index-preserved g c = (
  one_vector_more g.D.Device.table c.args.vectors.now c.loop-index.index _ _ c.loop-index.out.items c.put_vector.new.out.items (omega (arith, c.loop-index-test.true)) c.loop-index.invariant.0 c.in_ok-put_vector.ensures.line,
  All-more HasPlaces c.args.vectors.now c.loop-index.index _ (omega (arith, c.loop-index-test.true)) c.loop-index.invariant.1 c.put_vector.ensures.places,
)

pub returns-clause-places : goal.returns-clause-places
returns-clause-places g c =
    let all : take c.loop-index.index c.args.vectors.now ≡ c.args.vectors.now = take_all c.loop-index.index c.args.vectors.now (omega (arith, c.loop-index-test.false)) in
    All-same HasPlaces _ _ (sym all) c.loop-index.invariant.1
