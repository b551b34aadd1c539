-- When a source is refused, for what, and with which line of the report, phase by phase; each kind is answered only if
-- none before it does (this project's rule).
use Rattle.std.specs.Prelude.{◌≡◌, ◌⊎◌, ℕ, None, Some, List, [], All}
use Rattle.compile_phases.specs.Prelude.{Table, Netlist, first_refusal, ModuleTree, design_of, model_named, names_of, plain_netlist, IsSoundNetlist, NameFault, device_place, name_refusals, first_name_refusal, section_order, IsRead, IsUnread, DesignFault, design_text, fit_text, AreContributed, all_sections_refused, IsFirstWide, NoneWide}
use Rattle.pld_base.specs.declared.model.Model.{Model}
use Rattle.bit_expr.specs.Arena.{arena}
use Rattle.decls.specs.declared.fault.NameFault.TheVariants as naming
use Rattle.set_expr.specs.declared.contributions.Contributions.{Contributions}
use Rattle.module_reader.specs.declared.fault.ReadFault.TheVariants as reading
use Rattle.netlist_laws.specs.Gathered.{netlist_of}
use Rattle.gathering.specs.Placed.{IsPlaced}
use Rattle.design.specs.Answers.{HasNoRefusal, IsDesignRefused}
use Rattle.fitter.specs.declared.fault.FitFault.TheVariants as fit
use Rattle.compile_phases.specs.declared.fault.SourceFault.{SourceFault}
use Rattle.compile_phases.specs.declared.fault.SourceFault.TheVariants.{Expand, Scan, Parse, Names, Sections, Design, Width}
use Rattle.devices.specs.Models.{table_at}
use Rattle.compile_phases.specs.Lines.{read_text, name_text, section_text}
use Rattle.compile_phases.specs.Placings.{IsPlacedFor}

-- ---- a module for a device, phase by phase

-- nothing is refused of the names, the constants, the sections and the vectors
pub record HasSections (t : Table) (m : ModuleTree) : Type 0 where
  pub names : name_refusals t m ≡ []
  pub sections : all_sections_refused (design_of t m) ≡ []

-- the design is refused so, by what its sections contribute
pub record IsDesignRefusedFor (t : Table) (m : ModuleTree) (f : DesignFault) : Type 0 where
  pub found : Contributions
  pub contributed : AreContributed (design_of t m) found
  pub refused : IsDesignRefused (design_of t m) (arena found.exprs) found.list f

-- nothing is refused of it
pub record HasDesign (t : Table) (m : ModuleTree) : Type 0 where
  pub before : HasSections t m
  pub found : Contributions
  pub contributed : AreContributed (design_of t m) found
  pub unrefused : HasNoRefusal (design_of t m) (arena found.exprs) found.list

-- the netlist of the module, over an arena; its cells and controls are at the first targets in the source
pub record IsNetlistOf (t : Table) (m : ModuleTree) (net : Netlist) : Type 0 where
  pub plain : plain_netlist net ≡ netlist_of t m
  pub sound : IsSoundNetlist t net
  pub found : Contributions
  pub contributed : AreContributed (design_of t m) found
  pub places : All (IsPlaced found.list) net.cells

-- nothing at all is refused of the module for this device
pub record IsAcceptedFor (t : Table) (m : ModuleTree) : Type 0 where
  pub before : HasDesign t m
  pub net : Netlist
  pub netlist : IsNetlistOf t m net
  pub width : NoneWide t net

-- ---- refusals of a module for a device, with their lines

-- the cell is too wide in its netlist
pub record IsWideFor (cell : ℕ) (line : List ℕ) (t : Table) (m : ModuleTree) : Type 0 where
  pub before : HasDesign t m
  pub net : Netlist
  pub netlist : IsNetlistOf t m net
  pub first : IsFirstWide t net cell
  pub told : fit_text t (names_of t m) net (fit.TooWide cell) ≡ Some line

-- it is refused so
abbrev pub IsRefusedSo : SourceFault → (line : List ℕ) → Table → ModuleTree → Type 0
IsRefusedSo (Names f) line t m = (first_name_refusal t m ≡ Some f) × (name_text f ≡ Some line)
IsRefusedSo (Sections f) line t m =
    (name_refusals t m ≡ []) × (first_refusal section_order (all_sections_refused (design_of t m)) ≡ Some f) × (section_text (names_of t m) f ≡ Some line)
IsRefusedSo (Design f) line t m = HasSections t m × IsDesignRefusedFor t m f × (design_text (names_of t m) f ≡ Some line)
IsRefusedSo (Width (fit.TooWide c)) line t m = IsWideFor c line t m
IsRefusedSo _ line t m = ⊥

-- ---- texts

-- the text spells a module that names a device, and this holds of the module and the model that it asks for
pub record IsReadFor (text : List ℕ) (holds : Table → ModuleTree → Type 0) : Type 0 where
  pub source : ModuleTree
  pub read : IsRead text source
  pub device : Model
  pub named : model_named source ≡ Some device
  pub so : holds (table_at device) source

-- it spells one that names none, and this is the refusal
pub record HasNoDevice (text : List ℕ) (f : NameFault) : Type 0 where
  pub source : ModuleTree
  pub read : IsRead text source
  pub unnamed : model_named source ≡ None
  pub fault : f ≡ naming.UnknownDevice (device_place source)

-- the source is refused so: the text spells no module, or one that names no device, or one that is refused for its device
abbrev pub IsSourceRefused : List ℕ → SourceFault → (line : List ℕ) → Type 0
IsSourceRefused text (Expand f) line = IsUnread text (reading.Expand f) × (read_text (reading.Expand f) ≡ Some line)
IsSourceRefused text (Scan f) line = IsUnread text (reading.Scan f) × (read_text (reading.Scan f) ≡ Some line)
IsSourceRefused text (Parse f) line = IsUnread text (reading.Parse f) × (read_text (reading.Parse f) ≡ Some line)
IsSourceRefused text (Names f) line = (HasNoDevice text f × (name_text f ≡ Some line)) ⊎ IsReadFor text (IsRefusedSo (Names f) line)
IsSourceRefused text f line = IsReadFor text (IsPlacedFor (IsRefusedSo f line))
