use Rattle.std.proofs.Common.{◌≡◌, Option, None, Ok, IfSome, length, ap}
use Rattle.std.proofs.lemmas.Result.{IfOk-weaker}
use Rattle.pld_device.specs.Macrocells.{device_logic}
use Rattle.fuse_compare.specs.Alike.{FindsDifference}
use Rattle.fuse_compare.specs.Compared.{CanBeCompared, IsCompareFault, IsPlainState}
use Rattle.fuse_compare.specs.declared.difference.Difference.{Difference}
use Rattle.fuse_porting.specs.Across.{CanBeComparedAcross, IsAcrossFault, IsPlainAcross}
use Rattle.fuse_porting.proofs.ComparedAcross.{compared_first, err_weaker, plain_first, refused_first, some_weaker}
use Rattle.fuse_porting.proofs.Differences.{finds_same_first, runs_same_first}
use Rattle.fuse_porting.proofs.comparing.compare_in_second.Goals as goal

pub returns-clause-found : goal.returns-clause-found
returns-clause-found g c =
    let f = g.F.Device.table in
    let t = g.T.Device.table in
    IfOk-weaker c.compare.result (FindsDifference (device_logic t c.in_ok-other.other) (device_logic t c.args.b.now)) (FindsDifference (device_logic f c.args.a.now) (device_logic t c.args.b.now))
    (finds_same_first (device_logic f c.args.a.now) (device_logic t c.args.b.now) (device_logic t c.in_ok-other.other) c.in_ok-other.ensures.same) c.compare.ensures.found

pub returns-clause-plain : goal.returns-clause-plain
returns-clause-plain g c =
    let f = g.F.Device.table in
    let t = g.T.Device.table in
    IfOk-weaker c.compare.result (λ found. IfSome found (IsPlainState t c.in_ok-other.other c.args.b.now)) (λ found. IfSome found (IsPlainAcross f t c.args.a.now c.args.b.now))
    (some_weaker (IsPlainState t c.in_ok-other.other c.args.b.now) (IsPlainAcross f t c.args.a.now c.args.b.now)
    (plain_first f t c.args.a.now c.in_ok-other.other c.args.b.now g.F.Device.sound g.T.Device.sound c.requires.array c.in_ok-other.ensures.carried)) c.compare.ensures.plain

pub returns-clause-runs : goal.returns-clause-runs
returns-clause-runs g c = λ none.
    runs_same_first (device_logic g.F.Device.table c.args.a.now) (device_logic g.T.Device.table c.args.b.now) (device_logic g.T.Device.table c.in_ok-other.other)
    c.in_ok-other.ensures.same (c.compare.ensures.runs none)

pub returns-clause-loaded : goal.returns-clause-loaded
returns-clause-loaded g c =
    let f = g.F.Device.table in
    let t = g.T.Device.table in
    IfOk-weaker c.compare.result (λ found. CanBeCompared t c.in_ok-other.other c.args.b.now) (λ found. CanBeComparedAcross f t c.args.a.now c.args.b.now)
    (λ found. compared_first f t c.args.a.now c.in_ok-other.other c.args.b.now g.F.Device.sound g.T.Device.sound c.requires.array c.in_ok-other.ensures.carried) c.compare.ensures.loaded

pub returns-clause-refused : goal.returns-clause-refused
returns-clause-refused g c =
    let f = g.F.Device.table in
    let t = g.T.Device.table in
    err_weaker (IsCompareFault t c.in_ok-other.other c.args.b.now) (IsAcrossFault f t c.args.a.now c.args.b.now)
    (refused_first f t c.args.a.now c.in_ok-other.other c.args.b.now g.F.Device.sound g.T.Device.sound c.requires.array c.in_ok-other.ensures.carried) c.compare.result c.compare.ensures.refused
