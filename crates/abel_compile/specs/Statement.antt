-- The main theorem's statement: what a fuse file is to the text of its source, a field a sentence (this project's rule, over
-- JESD3-C and the devices' datasheets).
use Rattle.std.specs.Prelude.{◌≡◌, ℕ, ◌≤◌, Bool, false, List, length, Some, Ok}
use Rattle.abel_compile.specs.Prelude.{Model, device_logic, is_inverted, Table, canonical_file, FuseFile, file_of, ModuleTree, source_logic_under, source_values_under, source_vectors}
use Rattle.pld_machine.specs.Comparison.{DoesTheSame}
use Rattle.pld_machine.specs.Steps.{RestsOnce}
use Rattle.pld_device.specs.FixedFuses.{HasFixedLevels}
use Rattle.jedec_reader.specs.DeviceFiles.{limit}
use Rattle.abel_meaning.specs.Models.{model_named}
use Rattle.placer.specs.Placements.{IsPinned}

-- what a file of these fuses and vectors says: it lists all fuses, and its default level is 0
abbrev pub fuses_and_vectors : Table → List Bool → List (List ℕ) → FuseFile
fuses_and_vectors t fuses vectors =
    record { fuses = fuses; listed = t.fuses; vectors = vectors; default_level = false }

-- The text is read as one module and no other; it names the device and asks for this mode. Its signals without pins are given
-- some: the placed module is the module if all have theirs. The file's fuses are as many as the device has, and each that it
-- fixes has its level, so that the chip is in that mode. With them it settles in exactly one way from every state; and it
-- drives, releases and stores, from power-up and for every list of outside levels, what a run of the placed module does under
-- the choice of its free registers that the file's fuses show, and that alone if the module has no don't-care. The file is the
-- canonical one of the module's name, these fuses and the placed module's test vectors; it is within the limit of a reader,
-- and reads back as just these. `spells` says which texts spell which modules, `table` which table a device has.
pub record IsRightFile (spells : List ℕ → ModuleTree → Type 0) (table : Model → Table) (text : List ℕ) (device : Model) (file : List ℕ)
    : Type 0 where
  pub source : ModuleTree
  pub read : spells text source
  pub only : (other : ModuleTree) → spells text other → other ≡ source
  pub named : model_named source ≡ Some device
  pub placed : ModuleTree
  pub is_placed : IsPinned (table device) source placed
  pub fuses : List Bool
  pub size : length fuses ≡ (table device).fuses
  pub mode : HasFixedLevels (table device) fuses
  pub one_rest : RestsOnce (device_logic (table device) fuses)
  pub does : DoesTheSame (device_logic (table device) fuses)
      (source_logic_under (table device) placed (is_inverted (table device) fuses))
      (source_values_under (table device) placed (is_inverted (table device) fuses))
  pub canonical : file ≡ canonical_file (table device) source.name.text fuses (source_vectors (table device) placed)
  pub within : length file ≤ limit
  pub reads_back : file_of (table device) file ≡ Ok (fuses_and_vectors (table device) fuses (source_vectors (table device) placed))
