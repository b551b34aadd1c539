use Rattle.pld_device.specs.LawTests.{device_from_tests}
use Rattle.pld_device.proofs.OwnPins.{own_pins, has_pairs, pairs_apart, none_carried_twice}
use Rattle.pld_device.proofs.RowsApart.{rows_apart}
use Rattle.pld_device.proofs.laws.tables.Goals as goal

pub returns-clause-tests : goal.returns-clause-tests
returns-clause-tests c t passes = device_from_tests t passes

pub returns-clause-rows : goal.returns-clause-rows
returns-clause-rows c t laws = rows_apart t laws

pub returns-clause-pins : goal.returns-clause-pins
returns-clause-pins c t laws = own_pins t laws

pub returns-clause-pairs : goal.returns-clause-pairs
returns-clause-pairs c t laws = pairs_apart t laws

pub returns-clause-columns : goal.returns-clause-columns
returns-clause-columns c t laws = has_pairs t laws

pub returns-clause-twice_refused : goal.returns-clause-twice_refused
returns-clause-twice_refused c laws = none_carried_twice laws
