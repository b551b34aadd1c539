-- A device is counted, and its name entered.
use Rattle.std.proofs.Common.{subst, refl}
use Rattle.decls.proofs.Common.{ADeviceName, no_words, entered, device_counted, Shows}
use Rattle.decls.proofs.table.NameTable.declare_device.Goals as goal

pub returns : goal.returns
returns c = λ m s sh.
    subst (λ n. Shows m c.enter.new.self (entered n c.args.name.now.place ADeviceName no_words (device_counted c.args.name.now s))) c.bytes.ensures
    (c.in_ok-enter.ensures m _ ADeviceName refl (c.in_ok-count_device.ensures m s sh))
