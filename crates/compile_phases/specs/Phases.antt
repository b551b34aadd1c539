-- What each phase of compiling answers, and the laws that join them (this project's rule).
use Rattle.std.specs.Prelude.{◌≡◌, ℕ, None, Some, List, [], Result, Ok, Err}
use Rattle.compile_phases.specs.Prelude.{Table, Netlist, Entry, entries_of, ModuleTree, design_of, device_named, model_of, names_of, plain_netlist, NameFault, device_place, name_refusals, SectionFault, sections_refused, DesignFault, design_text, fit_text, IsFirstWide, FitFault, FitAnswers, IsFitOf, PlaceFault, SpellsModule, IsRead, IsUnread}
use Rattle.std.specs.Global.{Vec}
use Rattle.pld_base.specs.declared.out_of_memory.OutOfMemory.{OutOfMemory as NoMemory}
use Rattle.pld_base.specs.declared.device_name.DeviceName.{DeviceName}
use Rattle.pld_device.specs.Laws.{IsDevice}
use Rattle.jedec_file.specs.CanonicalFile.{IsPlainName}
use Rattle.jedec_file.specs.ControlLines.{IsIntactPastLines}
use Rattle.abel_tree.specs.declared.names.Names.{Names}
use Rattle.abel_tree.specs.SoundNames.{SoundNames}
use Rattle.decls.specs.declared.fault.NameFault.TheVariants as naming
use Rattle.declared_names.specs.AcceptedNames.{PinsAreApart, BuffersAreAllowed}
use Rattle.design.specs.Accepted.{IsAccepted}
use Rattle.netlist_laws.specs.FittedCorrect.{MeansTheSame}
use Rattle.fitter.specs.declared.answer.Fitted.{Fitted}
use Rattle.fitter.specs.declared.fault.FitFault.TheVariants as fit
use Rattle.module_reader.specs.declared.fault.ReadFault.TheVariants as reading
use Rattle.reports.specs.Summary.{assigned_cells, design_cells}
use Rattle.devices.specs.Models.{table_at}
use Rattle.compile_phases.specs.declared.modelling.Modelled.{Modelled}
use Rattle.compile_phases.specs.declared.fault.CompileFault.{CompileFault}
use Rattle.compile_phases.specs.declared.fault.CompileFault.TheVariants.{Source, Place, Fit, OutOfMemory}
use Rattle.compile_phases.specs.declared.fault.SourceFault.{SourceFault}
use Rattle.compile_phases.specs.declared.fault.SourceFault.TheVariants.{Expand, Scan, Parse, Names as NamesRefused, Sections, Design, Width}
use Rattle.compile_phases.specs.Fits.{IsOfFit, IsUnfitFor}
use Rattle.compile_phases.specs.Lines.{read_text, name_text, section_text}
use Rattle.compile_phases.specs.Placings.{IsPlacedFor, IsUnplacedFor}
use Rattle.compile_phases.specs.SourceRefusals.{HasDesign, IsNetlistOf, IsRefusedSo}

-- ---- refusals

-- the source is refused so that this holds with its line, or memory is out
abbrev pub IsOfSource : (SourceFault → (line : List ℕ) → Type 0) → CompileFault → Type 0
IsOfSource P (Source f line) = P f line.items
IsOfSource P (Place f line) = ⊥
IsOfSource P (Fit f line) = ⊥
IsOfSource P OutOfMemory = Unit {0}

-- it can't be placed so that this holds with its line, or memory is out
abbrev pub IsOfPlacing : (PlaceFault → (line : List ℕ) → Type 0) → CompileFault → Type 0
IsOfPlacing P (Source f line) = ⊥
IsOfPlacing P (Place f line) = P f line.items
IsOfPlacing P (Fit f line) = ⊥
IsOfPlacing P OutOfMemory = Unit {0}

-- there was memory for the line
abbrev pub IsMade : Result (Vec ℕ) NoMemory → List ℕ → Type 0
IsMade (Ok line) text = line.items ≡ text
IsMade (Err memory) text = ⊥

-- that a function is too wide is reported of the source, another fault of the fit
abbrev pub IsTold : FitFault → Vec ℕ → CompileFault → Type 0
IsTold (fit.TooWide c) line e = e ≡ Source (Width (fit.TooWide c)) line
IsTold f line e = e ≡ Fit f line

-- the text is no module
abbrev pub IsTextFault : List ℕ → SourceFault → (line : List ℕ) → Type 0
IsTextFault text (Expand f) line = IsUnread text (reading.Expand f) × (read_text (reading.Expand f) ≡ Some line)
IsTextFault text (Scan f) line = IsUnread text (reading.Scan f) × (read_text (reading.Scan f) ≡ Some line)
IsTextFault text (Parse f) line = IsUnread text (reading.Parse f) × (read_text (reading.Parse f) ≡ Some line)
IsTextFault text _ line = ⊥

-- a name is refused so that this holds
abbrev pub IsNameFault : (NameFault → Type 0) → SourceFault → (line : List ℕ) → Type 0
IsNameFault P (NamesRefused f) line = P f × (name_text f ≡ Some line)
IsNameFault P _ line = ⊥

-- the module names no device
abbrev pub IsUnnamed : ModuleTree → NameFault → Type 0
IsUnnamed m f = (device_named m ≡ None) × (f ≡ naming.UnknownDevice (device_place m))

-- a section or a constant is refused so that this holds
abbrev pub IsSectionFault : List Entry → (SectionFault → Type 0) → SourceFault → (line : List ℕ) → Type 0
IsSectionFault es P (Sections f) line = P f × (section_text es f ≡ Some line)
IsSectionFault es P _ line = ⊥

-- the design is refused so that this holds
abbrev pub IsDesignFault : List Entry → (DesignFault → Type 0) → SourceFault → (line : List ℕ) → Type 0
IsDesignFault es P (Design f) line = P f × (design_text es f ≡ Some line)
IsDesignFault es P _ line = ⊥

-- the netlist is too wide
abbrev pub IsWidthFault : Table → List Entry → Netlist → SourceFault → (line : List ℕ) → Type 0
IsWidthFault t es net (Width (fit.TooWide c)) line = IsFirstWide t net c × (fit_text t es net (fit.TooWide c) ≡ Some line)
IsWidthFault t es net _ line = ⊥

-- a refusal of the fit, with its line: of the width before that of the rest
abbrev pub IsFitRefused : Table → List Entry → Netlist → CompileFault → Type 0
IsFitRefused t es net (Source f line) = IsWidthFault t es net f line.items
IsFitRefused t es net (Place f line) = ⊥
IsFitRefused t es net (Fit f line) = IsOfFit f × FitAnswers t net (Err f) × (fit_text t es net f ≡ Some line.items)
IsFitRefused t es net OutOfMemory = Unit {0}

-- ---- answers

-- the text spells the module and no other
pub record IsReadAlone (text : List ℕ) (m : ModuleTree) : Type 0 where
  pub read : IsRead text m
  pub only : (other : ModuleTree) → SpellsModule text other → other ≡ m

-- the names that the module declares, of which nothing is refused
pub record AreDeclaredBy (t : Table) (m : ModuleTree) (n : Names) : Type 0 where
  pub entries : entries_of n ≡ names_of t m
  pub accepted : name_refusals t m ≡ []

-- these are for the device in the mode that the module asks for, which is told with them
pub record IsModelled (name : DeviceName) (m : ModuleTree) (f : Modelled) : Type 0 where
  pub model : f.model ≡ model_of m name
  pub names : AreDeclaredBy (table_at f.model) m f.names

-- and each pin has a number
pub record AreNamesFor (t : Table) (m : ModuleTree) (n : Names) : Type 0 where
  pub entries : entries_of n ≡ names_of t m
  pub accepted : name_refusals t m ≡ []
  pub sound : SoundNames t.name t.pins n
  pub apart : PinsAreApart (entries_of n)
  pub buffers : BuffersAreAllowed t (entries_of n)

-- the netlist of the module, of which nothing is refused
pub record IsNetlistFor (t : Table) (m : ModuleTree) (net : Netlist) : Type 0 where
  pub design : HasDesign t m
  pub netlist : IsNetlistOf t m net
  pub same : MeansTheSame t m (plain_netlist net)

-- it is refused
abbrev pub IsRefusedFor : Table → ModuleTree → CompileFault → Type 0
IsRefusedFor t m (Source f line) = IsRefusedSo f line.items t m
IsRefusedFor t m (Place f line) = ⊥
IsRefusedFor t m (Fit f line) = IsOfFit f × IsUnfitFor f line.items t m
IsRefusedFor t m OutOfMemory = Unit {0}

-- it is refused by its names, or can't be placed, or the placed one is refused
abbrev pub IsRefusedBy : Table → ModuleTree → CompileFault → Type 0
IsRefusedBy t m (Source (NamesRefused f) line) = IsRefusedSo (NamesRefused f) line.items t m
IsRefusedBy t m (Source f line) = IsPlacedFor (IsRefusedSo f line.items) t m
IsRefusedBy t m (Place f line) = IsUnplacedFor f line.items t m
IsRefusedBy t m (Fit f line) = IsOfFit f × IsPlacedFor (IsUnfitFor f line.items) t m
IsRefusedBy t m OutOfMemory = Unit {0}

-- ---- laws

-- a module whose names and sections are accepted has an accepted design
abbrev pub SectionsAreAccepted : Type 0
SectionsAreAccepted =
    (t : Table) (m : ModuleTree) (n : Names) → IsDevice t → AreNamesFor t m n
    → sections_refused (design_of t m) ≡ [] → IsAccepted (design_of t m)

-- a fuse file can say the fuses of a module's netlist, and the netlist has as many cells as the design
pub record CanBeTold (t : Table) (m : ModuleTree) (net : Netlist) (fitted : Fitted) : Type 0 where
  pub intact : IsIntactPastLines t fitted.fuses
  pub cells : assigned_cells t (plain_netlist net) ≡ design_cells (design_of t m).context

-- so it is of each fit of a module's netlist
abbrev pub FitsCanBeTold : Type 0
FitsCanBeTold =
    (t : Table) (m : ModuleTree) (net : Netlist) (fitted : Fitted) → IsDevice t → IsNetlistFor t m net → IsFitOf t net fitted
    → CanBeTold t m net fitted

-- the name of a module that is read can be in a fuse file
abbrev pub ReadNamesArePlain : Type 0
ReadNamesArePlain = (text : List ℕ) (m : ModuleTree) → IsRead text m → IsPlainName m.name.text
