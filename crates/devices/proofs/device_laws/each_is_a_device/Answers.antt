use Rattle.devices.specs.DeviceLaws.{table_sound}
use Rattle.devices.specs.Models.{model_sound}
use Rattle.devices.proofs.device_laws.each_is_a_device.Goals as goal

pub returns-clause-name : goal.returns-clause-name
returns-clause-name c device = table_sound device

pub returns-clause-model : goal.returns-clause-model
returns-clause-model c model = model_sound model
