-- The forms that an assigned cell may have in a device, and what its rows have in each (the devices' datasheets,
-- macrocell diagrams).
use Rattle.std.specs.Prelude.{Bool, true, false, not, ◌&&◌, ◌||◌, if◌then◌else◌, []}
use Rattle.fit_plans.specs.Prelude.{same_level, Flip, complement_if, data_complements, pin_complements, CellWanted}
use Rattle.pld_device.specs.declared.flip.Flip.TheVariants.{Always, AfterRegister, BeforeRegister}

-- the cell may be inverted, or direct: a device that always complements has the inverted form alone, one that complements
-- after the register gives a register the form in which its pin follows Q as is asked, a free one both, and else both are
-- free
abbrev pub may_be_inverted_as : Flip → CellWanted → (inverted : Bool) → Bool
may_be_inverted_as Always w inverted = inverted
may_be_inverted_as AfterRegister w inverted = not w.registered || (w.free || same_level inverted (not w.buffer))
may_be_inverted_as BeforeRegister w inverted = true

-- the OR of a cell's rows is the complement of its pin's level, or of a register's next Q
abbrev pub or_is_complement : Flip → (registered inverted : Bool) → Bool
or_is_complement flip registered inverted =
    if registered then data_complements flip inverted else pin_complements flip false inverted

-- the pin of a register follows Q in the form: that of a free one in the direct form alone
abbrev pub follows_as : CellWanted → (inverted : Bool) → Bool
follows_as w inverted = complement_if (w.free && inverted) w.buffer

-- the value of which the cell's function speaks if the OR of its rows is 0
abbrev pub names_or : Flip → CellWanted → (inverted : Bool) → Bool
names_or flip w inverted =
    if w.raw
    then or_is_complement flip w.registered inverted
    else complement_if w.negated (complement_if (w.registered && not (follows_as w inverted)) (or_is_complement flip w.registered inverted))

-- the rows have what `one` of the function has; else they have the complement
abbrev pub rows_are_positive : Flip → CellWanted → (inverted : Bool) → Bool
rows_are_positive flip w inverted = not (complement_if w.function.complement (names_or flip w inverted))
