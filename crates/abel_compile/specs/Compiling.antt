-- Private: what compiling a module answers, and the law of its fuses (this project's rule).
use Rattle.std.specs.Prelude.{◌≡◌, ◌≤◌, Bool, List, length, Ok}
use Rattle.abel_compile.specs.Prelude.{Model, IsDevice, Table, canonical_file, file_of, Entry, ModuleTree, design_of, names_of, source_vectors, listing_text, design_cells, summary_of, IsFitOf, IsTakeable, IsNetlistFor, IsAcceptedFor}
use Rattle.abel_lexer.specs.Kinds.{longest_name}
use Rattle.bit_expr.specs.declared.netlist.Netlist.{Netlist}
use Rattle.jedec_reader.specs.DeviceFiles.{limit}
use Rattle.netlist_laws.specs.FittedCorrect.{DoesWhatItSays}
use Rattle.fitter.specs.declared.answer.Fitted.{Fitted}
use Rattle.abel_compile.specs.declared.compiled.Compiled.{Compiled}
use Rattle.abel_compile.specs.Fuses.{AreFusesOf}
use Rattle.abel_compile.specs.Statement.{fuses_and_vectors}

-- the fuses of a module that a device can take: as many as it has, with which it does what the module says, and the rest
pub record AreRightFuses (t : Table) (m : ModuleTree) (fuses : List Bool) : Type 0 where
  pub takeable : IsTakeable (design_of t m)
  pub size : length fuses ≡ t.fuses
  pub does : DoesWhatItSays t m fuses
  pub so : AreFusesOf t m fuses

-- what is answered of these fuses: the canonical file of the module's name and test vectors, which reads back as just these,
-- and within a reader's limit if the name is no longer than it may be; the listing, with the names as they are declared; and
-- the summary
pub record IsToldOf (t : Table) (declared : List Entry) (m : ModuleTree) (fuses : List Bool) (c : Compiled) : Type 0 where
  pub canonical : c.file.items ≡ canonical_file t m.name.text fuses (source_vectors t m)
  pub within : length m.name.text ≤ longest_name → length c.file.items ≤ limit
  pub reads_back : file_of t c.file.items ≡ Ok (fuses_and_vectors t fuses (source_vectors t m))
  pub listing : c.listing.items ≡ listing_text t fuses declared (names_of t m)
  pub summary : c.summary.items ≡ summary_of t (design_cells (design_of t m).context) fuses

-- the placed module is compiled, whose names are so declared
pub record IsCompiledFor (t : Table) (declared : List Entry) (m : ModuleTree) (c : Compiled) : Type 0 where
  pub accepted : IsAcceptedFor t m
  pub fuses : List Bool
  pub right : AreRightFuses t m fuses
  pub told : IsToldOf t declared m fuses c

-- and for this device in its mode
pub record IsCompiledOn (t : Table) (declared : List Entry) (device : Model) (m : ModuleTree) (c : Compiled) : Type 0 where
  pub device_is : c.device ≡ device
  pub compiled : IsCompiledFor t declared m c

-- if the device can take a module, the fuses of its netlist are those of the module
abbrev pub FitsAreRight : Type 0
FitsAreRight =
    (t : Table) (m : ModuleTree) (net : Netlist) (fitted : Fitted) → IsDevice t → IsTakeable (design_of t m) → IsNetlistFor t m net
    → IsFitOf t net fitted → AreRightFuses t m fitted.fuses
