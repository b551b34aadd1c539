-- One source is read after the other, and the first fault is reported.
use Rattle.std.proofs.Common.{◌∙◌, ℕ, ◌<◌, List, length, Err, ap, sym, subst, arith, string_bytes}
use Rattle.abel_commands.proofs.Common.{Vec, length-map, ReadFault, bytes_at, limit}
use Rattle.abel_commands.proofs.Settled.{settled, too_long_settled}
use Rattle.abel_commands.proofs.SourceLists.{at_name, bytes_same, own_more, within_more}
use Rattle.abel_commands.proofs.sources.read_sources.Goals as goal

pub loop-name-preserved : goal.loop-name-preserved
loop-name-preserved g c =
    let old = g.F.Files.file c.args.files.now in
    let names = c.args.names.now in
    let place = c.loop-name.name-index in
    let name = c.name-item.result in
    let kept = c.loop-name.invariant in
    let read = c.in-Ok.ensures in
    let more = c.in_ok-push-in-Ok.ensures.items in (
      λ tells other. read.same tells other ∙ kept.0 tells other,
      λ tells. own_more old names place name c.loop-name-test.true c.name-item.is c.loop-name.sources.items c.in-Ok.source c.push.new.self.items more (kept.1 tells)
          (read.bytes tells ∙ (ap (bytes_at (g.F.Files.file c.loop-name.files)) c.as_str.ensures.value ∙ bytes_same old (g.F.Files.file c.loop-name.files) (string_bytes name) (kept.0 tells))),
      within_more c.loop-name.sources.items c.in-Ok.source c.push.new.self.items more read.within kept.2,
      settled read.still ∙ kept.3,
      read.no_write ∙ kept.4,
    )

pub returns-in-Err-TooLong-clause-unread : goal.returns-in-Err-TooLong-clause-unread
returns-in-Err-TooLong-clause-unread g c =
    let old = g.F.Files.file c.args.files.now in
    let names = c.args.names.now in
    let place = c.loop-name.name-index in
    let name = c.name-item.result in
    let kept = c.loop-name.invariant in
    let lt = c.loop-name-test.true in
    let size = length-map names string_bytes in
    let here = at_name old names place name lt c.name-item.is in
    let failed = ap (λ (fault : ReadFault). Err fault) c.in-Err-TooLong.field-0-is in (
      (
        place,
        omega (arith, lt, size),
        λ tells.
            let long = c.in-Err-TooLong.ensures.too_long tells failed in
            let same = ap (bytes_at (g.F.Files.file c.loop-name.files)) (c.as_str.ensures.value ∙ sym here) ∙ bytes_same old (g.F.Files.file c.loop-name.files) _ (kept.0 tells) in
            subst (λ (bytes : List ℕ). limit < length bytes) same long,
      ),
      too_long_settled (Vec ℕ) c.in-Err-TooLong.field-0 c.in-Err-TooLong.field-0-is c.in-Err-TooLong.ensures.still ∙ kept.3,
    )
