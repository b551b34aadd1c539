-- Five pieces were appended, one after the other.
use Rattle.std.proofs.Common.{◌++◌, refl, codes}
use Rattle.fuse_listing.proofs.Common.{on_ok_weaker, view_declared, chosen_text, kind_text, pin_text, polarity_text, use_text}
use Rattle.fuse_listing.proofs.Joined.{one_more}
use Rattle.fuse_listing.proofs.cells.put_head.Goals as goal

pub returns : goal.returns
returns g c =
    let t = g.D.Device.table in
    let fuses = c.args.of.now.fuses.now in
    let cell = c.args.cell in
    let declared = view_declared c.args.declared.now in
    let old = c.args.out.now.items in
    let pin = pin_text t cell declared.name in
    let kind = kind_text t fuses cell in
    let polarity = polarity_text t fuses cell in
    let used = use_text t fuses cell in
    let kinded = one_more old pin kind _ _ (rw c.bytes.ensures at c.in_ok-put_pin.ensures) c.in_ok-put_kind.ensures in
    let polarised = one_more old (pin ++ kind) polarity _ _ kinded c.in_ok-put_polarity.ensures in
    let all = one_more old (pin ++ kind ++ polarity) used _ _ polarised c.in_ok-put_use.ensures in
    on_ok_weaker c.put_chosen.result
    (λ ended.
    one_more old (pin ++ kind ++ polarity ++ used ++ chosen_text declared) (codes "\n") _ _
    (one_more old (pin ++ kind ++ polarity ++ used) (chosen_text declared) _ _ all refl) ended)
    c.put_chosen.ensures
