use Rattle.std.proofs.Common.{sym}
use Rattle.jedec_reader.proofs.FieldLoop.{design_cut}
use Rattle.jedec_reader.proofs.field_list.behind_design.Goals as goal

pub returns : goal.returns
returns g c =
    let cut = design_cut g.D.Device.table c.args.at c.in-Some.length c.args.text.now c.in-Some.ensures.within c.in-Some.ensures.pieces in
    rw (cut, sym c.split_at.ensures.back) c.fields_from.ensures
