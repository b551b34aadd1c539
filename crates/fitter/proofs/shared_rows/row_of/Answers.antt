use Rattle.std.proofs.Common.{length, inl, arith}
use Rattle.fitter.proofs.Controls.{is_no_product}
use Rattle.fitter.proofs.shared_rows.row_of.Goals as goal

pub returns-in-Ok-2 : goal.returns-in-Ok-2
returns-in-Ok-2 g c =
    inl (
      c.no_product.ensures,
      is_no_product (length g.D.Device.table.pairs) c.args.fit.now.over.turned c.args.fit.now.over.net.now c.args.bit (omega (arith, g.D.Device.sound.sizes.columns_even, g.D.Device.sound.sizes.columns_high)) c.args.fit.now.over.fits
          c.in-Ok.rows.items c.in-Ok.ensures (omega (arith, c.len.ensures, c.if-len-le1.false)),
    )
