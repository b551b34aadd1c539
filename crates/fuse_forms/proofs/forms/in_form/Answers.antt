-- These forms are those of a GAL22V10 and an ATF22V10C, whatever the device.
use Rattle.fuse_forms.proofs.forms.in_form.Goals as goal

pub returns-in-Jed5828 : goal.returns-in-Jed5828
returns-in-Jed5828 g c = rw c.in-Jed5828.is (c.short_file.ensures g.D.Device.table)

pub returns-in-Jed5893 : goal.returns-in-Jed5893
returns-in-Jed5893 g c = rw c.in-Jed5893.is (c.long_file.ensures g.D.Device.table)
