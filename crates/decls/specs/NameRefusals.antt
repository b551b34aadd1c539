-- All that is refused of the names of a module, and the first of it (this project's rule).
use Rattle.std.specs.Prelude.{ℕ, Bool, true, false, not, ◌&&◌, ◌||◌, ◌==◌, Option, None, Some, List, [], ◌∷◌, ◌++◌, if◌then◌else◌, filter, slice_get}
use Rattle.decls.specs.Prelude.{Table, Entry, find, is_signal, names_any, first_refusal, Declaration, SomePins, SomeNodes, SomeAttributes, SectionTree, Declarations, ModuleTree, section_uses, GivenName, given_names, all_said}
use Rattle.pld_base.specs.Models.{has_modes}
use Rattle.pld_device.specs.Macrocells.{pin_complements}
use Rattle.abel_tree.specs.Assigned.{Assigned, named_of, sections_assign, is_clocked_target}
use Rattle.abel_meaning.specs.Kinds.{is_registered}
use Rattle.decls.specs.declared.fault.NameFault.{NameFault}
use Rattle.decls.specs.declared.fault.NameFault.TheVariants as fault
use Rattle.decls.specs.AllDeclarations.{all_declarations}
use Rattle.decls.specs.FaultOrder.{name_order}
use Rattle.decls.specs.NamesBefore.{names_behind, first_entries}
use Rattle.decls.specs.Refused.{uses_refused, declarations_refused}

-- ---- sections

-- sections one after the other, after these declarations
abbrev pub sections_refused : Table → List Declaration → List SectionTree → List NameFault
sections_refused t before [] = []
sections_refused t before (Declarations ds ∷ xs) =
    declarations_refused t before ds ++ sections_refused t (before ++ ds) xs
sections_refused t before (x ∷ xs) =
    uses_refused (names_behind before) (section_uses x) ++ sections_refused t before xs

-- ---- registers that the device can't buffer

-- the device has registers, in this mode or in another one
abbrev pub has_registers : Table → Bool
has_registers t = has_modes t.name || not (t.clock == 0)

-- each register's pin is the complement of Q: the device has registers, and complements at their pins with no fuse that
-- says so
abbrev pub always_inverts : Table → Bool
always_inverts t = has_registers t && pin_complements t.flip true false

-- the names of a declaration whose strings say `buffer`, of those that follow these names
abbrev pub buffered : List Entry → Declaration → List GivenName
buffered es (SomePins names numbers attributes) = if (all_said attributes).buffer then given_names names else []
buffered es (SomeNodes names numbers attributes) = if (all_said attributes).buffer then given_names names else []
buffered es (SomeAttributes names attributes) =
    if (all_said attributes).buffer
    then filter (λ (x : GivenName). names_any is_signal es x.name) (given_names names) else []
buffered es _ = []

abbrev pub all_buffered : List Declaration → List Declaration → List GivenName
all_buffered before [] = []
all_buffered before (d ∷ ds) = buffered (names_behind before) d ++ all_buffered (before ++ d ∷ []) ds

-- the signal of this number is a register
abbrev pub is_register_at : List Assigned → List Entry → Option ℕ → Bool
is_register_at found es None = false
is_register_at found es (Some s) = at_entry (slice_get es s)
  where
    at_entry : Option Entry → Bool
    at_entry None = false
    at_entry (Some e) = is_signal e.kind && is_registered e.words (is_clocked_target found s)

abbrev pub buffers_refused : List Assigned → List Entry → List GivenName → List NameFault
buffers_refused found es [] = []
buffers_refused found es (x ∷ xs) =
    (if is_register_at found es (find es x.name) then fault.BadAttribute x.place ∷ [] else [])
    ++ buffers_refused found es xs

-- ---- the whole module

-- the names of a module, each as it is declared first
abbrev pub names_once : ModuleTree → List Entry
names_once m = first_entries (names_behind (all_declarations m))

-- registers that are declared `buffer` if the device always inverts
abbrev pub module_buffers_refused : Table → ModuleTree → List NameFault
module_buffers_refused t m =
    if always_inverts t
    then buffers_refused (sections_assign (named_of (names_once m)) m.sections) (names_once m) (all_buffered [] (all_declarations m))
    else []

-- what is refused if it is read
abbrev pub read_refusals : Table → ModuleTree → List NameFault
read_refusals t m = declarations_refused t [] m.decls ++ sections_refused t m.decls m.sections

-- all that is refused
abbrev pub name_refusals : Table → ModuleTree → List NameFault
name_refusals t m = read_refusals t m ++ module_buffers_refused t m

-- the first of it
abbrev pub first_name_refusal : Table → ModuleTree → Option NameFault
first_name_refusal t m = first_refusal name_order (name_refusals t m)
