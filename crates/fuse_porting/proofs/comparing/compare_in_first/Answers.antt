use Rattle.std.proofs.Common.{◌≡◌, Option, None, Ok, IfSome, length, ap, sym}
use Rattle.std.proofs.lemmas.Result.{IfOk-weaker}
use Rattle.pld_device.specs.Macrocells.{device_logic}
use Rattle.fuse_compare.specs.Alike.{FindsDifference}
use Rattle.fuse_compare.specs.Compared.{CanBeCompared, IsCompareFault, IsPlainState}
use Rattle.fuse_compare.specs.declared.difference.Difference.{Difference}
use Rattle.fuse_porting.specs.Across.{CanBeComparedAcross, IsAcrossFault, IsPlainAcross}
use Rattle.fuse_porting.proofs.ComparedAcross.{compared_second, err_weaker, plain_second, refused_second, some_weaker}
use Rattle.fuse_porting.proofs.Differences.{finds_same, runs_same}
use Rattle.fuse_porting.proofs.PairTables.{turned_array}
use Rattle.fuse_porting.proofs.comparing.compare_in_first.Goals as goal

pub returns-clause-found : goal.returns-clause-found
returns-clause-found g c =
    let f = g.F.Device.table in
    let t = g.T.Device.table in
    IfOk-weaker c.compare.result (FindsDifference (device_logic f c.args.a.now) (device_logic f c.in_ok-other.other)) (FindsDifference (device_logic f c.args.a.now) (device_logic t c.args.b.now))
    (finds_same (device_logic f c.args.a.now) (device_logic t c.args.b.now) (device_logic f c.in_ok-other.other) (ap length c.requires.array.cells) c.in_ok-other.ensures.same) c.compare.ensures.found

pub returns-clause-plain : goal.returns-clause-plain
returns-clause-plain g c =
    let f = g.F.Device.table in
    let t = g.T.Device.table in
    IfOk-weaker c.compare.result (λ found. IfSome found (IsPlainState f c.args.a.now c.in_ok-other.other)) (λ found. IfSome found (IsPlainAcross f t c.args.a.now c.args.b.now))
    (some_weaker (IsPlainState f c.args.a.now c.in_ok-other.other) (IsPlainAcross f t c.args.a.now c.args.b.now)
    (plain_second f t c.args.a.now c.args.b.now c.in_ok-other.other g.F.Device.sound g.T.Device.sound (turned_array f t c.requires.array) c.in_ok-other.ensures.carried)) c.compare.ensures.plain

pub returns-clause-runs : goal.returns-clause-runs
returns-clause-runs g c = λ none.
    runs_same (device_logic g.F.Device.table c.args.a.now) (device_logic g.T.Device.table c.args.b.now) (device_logic g.F.Device.table c.in_ok-other.other)
    (ap length c.requires.array.cells) c.in_ok-other.ensures.same (c.compare.ensures.runs none)

pub returns-clause-loaded : goal.returns-clause-loaded
returns-clause-loaded g c =
    let f = g.F.Device.table in
    let t = g.T.Device.table in
    IfOk-weaker c.compare.result (λ found. CanBeCompared f c.args.a.now c.in_ok-other.other) (λ found. CanBeComparedAcross f t c.args.a.now c.args.b.now)
    (λ found. compared_second f t c.args.a.now c.args.b.now c.in_ok-other.other g.F.Device.sound g.T.Device.sound (turned_array f t c.requires.array) c.in_ok-other.ensures.carried) c.compare.ensures.loaded

pub returns-clause-refused : goal.returns-clause-refused
returns-clause-refused g c =
    let f = g.F.Device.table in
    let t = g.T.Device.table in
    err_weaker (IsCompareFault f c.args.a.now c.in_ok-other.other) (IsAcrossFault f t c.args.a.now c.args.b.now)
    (refused_second f t c.args.a.now c.args.b.now c.in_ok-other.other g.F.Device.sound g.T.Device.sound (turned_array f t c.requires.array) c.in_ok-other.ensures.carried) c.compare.result c.compare.ensures.refused
