-- The tables of the devices by their names, and by the mode of those that have modes (the devices' datasheets).
use Rattle.devices.specs.Prelude.{DeviceName, Table}
use Rattle.pld_base.specs.declared.device_name.DeviceName.TheVariants as device
use Rattle.devices.specs.Atf22V10CTable.{atf22v10c}
use Rattle.devices.specs.Gal16V8Tables.{gal16v8c, gal16v8r4, gal16v8r6, gal16v8r8}
use Rattle.devices.specs.Gal18V10Table.{gal18v10}
use Rattle.devices.specs.Gal22V10Table.{gal22v10}
use Rattle.devices.specs.Pal16L8Table.{pal16l8}
use Rattle.devices.specs.Pal16RTables.{pal16r4, pal16r6, pal16r8}
use Rattle.devices.specs.Pal20L10Table.{pal20l10}
use Rattle.devices.specs.Pal20Tables.{pal20l8, pal20r4, pal20r6, pal20r8}
use Rattle.devices.specs.PolarityTables.{pal16p8, pal18p8}
use Rattle.devices.specs.V8Tables.{Complex, Mode, v8_16, v8_20, v8_in}

-- the table of a device in a mode; a device without modes has one table
abbrev pub table_in : DeviceName → Mode → Table
table_in device.P16L8 mode = pal16l8
table_in device.P16R4 mode = pal16r4
table_in device.P16R6 mode = pal16r6
table_in device.P16R8 mode = pal16r8
table_in device.GAL22V10 mode = gal22v10
table_in device.GAL16V8C mode = gal16v8c
table_in device.GAL16V8R4 mode = gal16v8r4
table_in device.GAL16V8R6 mode = gal16v8r6
table_in device.GAL16V8R8 mode = gal16v8r8
table_in device.P20L8 mode = pal20l8
table_in device.P20R4 mode = pal20r4
table_in device.P20R6 mode = pal20r6
table_in device.P20R8 mode = pal20r8
table_in device.P20L10 mode = pal20l10
table_in device.P16P8 mode = pal16p8
table_in device.P18P8 mode = pal18p8
table_in device.GAL18V10 mode = gal18v10
table_in device.ATF22V10C mode = atf22v10c
table_in device.GAL16V8 mode = v8_in v8_16 mode
table_in device.GAL20V8 mode = v8_in v8_20 mode

-- the table of a device; of one with modes, that of complex mode
abbrev pub table_of : DeviceName → Table
table_of name = table_in name Complex
