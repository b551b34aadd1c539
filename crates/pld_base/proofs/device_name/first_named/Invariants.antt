-- None of the devices before this one has the name.
use Rattle.std.proofs.Common.{◌≡◌, map, drop}
use Rattle.std.specs.Str.{str_to_ascii_lowercase}
use Rattle.pld_base.specs.DeviceNames.{device_in, lower_name}
use Rattle.pld_base.proofs.device_name.first_named.Given as goal

abbrev pub invariant-loop-device : goal.invariant-loop-device
invariant-loop-device l =
    device_in (map lower_name (drop l.device-index l.devices)) (str_to_ascii_lowercase l.name)
    ≡ device_in (map lower_name l.devices) (str_to_ascii_lowercase l.name)
