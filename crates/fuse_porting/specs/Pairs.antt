-- Which devices have the same array, by their names (the datasheets of the PAL16 and PAL20 devices, of the GAL16V8 and of the
-- GAL20V8: the modes that emulate a PAL).
use Rattle.std.specs.Prelude.{◌≡◌, ◌⊎◌, Bool, true, false, List, [], ◌∷◌, replicate, Option, Some, None}
use Rattle.fuse_porting.specs.Prelude.{Table}
use Rattle.jedec_file.specs.ControlLines.{lines_end}
use Rattle.pld_base.specs.Models.{plain_model, registered_model}
use Rattle.pld_base.specs.declared.device_name.DeviceName.{DeviceName}
use Rattle.pld_base.specs.declared.device_name.DeviceName.TheVariants as name
use Rattle.pld_base.specs.declared.model.Model.{Model}
use Rattle.pld_device.specs.declared.flip.Flip.TheVariants.{Always}
use Rattle.fuse_porting.specs.SameArray.{HasSameArray}
use Rattle.fuse_porting.specs.declared.pairs.Pair.{Pair}

-- the device without modes that has the array of this one
abbrev pub counterpart_of : DeviceName → Option DeviceName
counterpart_of name.P16L8 = Some name.GAL16V8C
counterpart_of name.P16R4 = Some name.GAL16V8R4
counterpart_of name.P16R6 = Some name.GAL16V8R6
counterpart_of name.P16R8 = Some name.GAL16V8R8
counterpart_of name.GAL16V8C = Some name.P16L8
counterpart_of name.GAL16V8R4 = Some name.P16R4
counterpart_of name.GAL16V8R6 = Some name.P16R6
counterpart_of name.GAL16V8R8 = Some name.P16R8
counterpart_of other = None

-- by cell, from the top pin on, the registers of a PAL16R4 and a PAL20R4; of a PAL16R6 and a PAL20R6; of a PAL16R8 and a PAL20R8
abbrev pub four : List Bool
four = false ∷ false ∷ true ∷ true ∷ true ∷ true ∷ false ∷ false ∷ []

abbrev pub six : List Bool
six = false ∷ true ∷ true ∷ true ∷ true ∷ true ∷ true ∷ false ∷ []

abbrev pub eight : List Bool
eight = replicate 8 true

-- the chip with modes that replaces a PAL, in the mode in which it has its array
abbrev pub replacing : (pal : DeviceName) → Option Model
replacing name.P16L8 = Some (plain_model name.GAL16V8)
replacing name.P16R4 = Some (registered_model name.GAL16V8 four)
replacing name.P16R6 = Some (registered_model name.GAL16V8 six)
replacing name.P16R8 = Some (registered_model name.GAL16V8 eight)
replacing name.P20L8 = Some (plain_model name.GAL20V8)
replacing name.P20R4 = Some (registered_model name.GAL20V8 four)
replacing name.P20R6 = Some (registered_model name.GAL20V8 six)
replacing name.P20R8 = Some (registered_model name.GAL20V8 eight)
replacing other = None

-- two devices of these names, in modes in which they have the same array
pub data ArePair (from to : DeviceName) (pair : Pair) : Type 0 where
  -- neither has modes
  Counterparts : counterpart_of from ≡ Some to → pair.from ≡ plain_model from → pair.to ≡ plain_model to → ArePair from to pair
  -- the second is the chip that replaces the first
  Replaced : replacing from ≡ Some pair.to → pair.to.name ≡ to → pair.from ≡ plain_model from → ArePair from to pair
  -- the first is the chip that replaces the second
  Replacing : replacing to ≡ Some pair.from → pair.from.name ≡ from → pair.to ≡ plain_model to → ArePair from to pair

-- there are no such modes
abbrev pub HasNoPair : (from to : DeviceName) → Type 0
HasNoPair from to = (pair : Pair) → ArePair from to pair → ⊥

-- the second device has the array of the first, one of them always complements, and a fuse file names every fuse of the second
pub record IsPair (f t : Table) : Type 0 where
  pub array : HasSameArray f t
  pub always : (f.flip ≡ Always) ⊎ (t.flip ≡ Always)
  pub named : lines_end t ≡ t.fuses
