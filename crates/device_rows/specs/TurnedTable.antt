-- The small sample device, but its registers take the complement of their data (this project's example).
use Rattle.std.proofs.Common.{refl}
use Rattle.pld_device.specs.declared.flip.Flip.TheVariants.{BeforeRegister}
use Rattle.pld_device.specs.Table.{Table}
use Rattle.pld_device.specs.Laws.{IsDevice}
use Rattle.pld_device.specs.LawTests.{device_by_computation}
use Rattle.pld_device.specs.SampleTable.{sample}

-- the sample's table with its complement before the register
abbrev pub turned : Table
turned = record sample { flip = BeforeRegister }

-- its laws, by computation
pub turned_sound : IsDevice turned
turned_sound = device_by_computation turned refl
