-- The device that a module names (ABEL-HDL Reference Manual, DEVICE), and the model of it that the module asks for: of a chip with
-- modes also its mode, and which of its cells drive or are registers (this project's rule; that registers come first, then enables and
-- reads of the pins in the middle, is as the usual tools have it).
use Rattle.std.specs.Prelude.{ℕ, ◌-◌, Bool, false, not, ◌&&◌, ◌||◌, Option, None, Some, List, [], ◌∷◌, ◌++◌, if◌then◌else◌, drop, filter, get_or, length, map, position, take}
use Rattle.abel_meaning.specs.Prelude.{list_any, option_map, range_with_len, BeforeRegister, Declaration, ADevice, Entry, is_stored, SectionTree, ModuleTree}
use Rattle.pld_base.specs.DeviceNames.{named_device}
use Rattle.pld_base.specs.Models.{top_cell, cell_pins, middle_pins, end_pins, plain_model, registered_model, simple_model}
use Rattle.pld_base.specs.declared.device_name.DeviceName.{DeviceName}
use Rattle.pld_base.specs.declared.model.Model.{Model}
use Rattle.pld_order.specs.Members.{has}
use Rattle.abel_meaning.specs.Controls.{is_on_pin}
use Rattle.abel_meaning.specs.Declarations.{declared_names, is_unnumbered, section_declarations}
use Rattle.abel_meaning.specs.Designs.{no_name}
use Rattle.abel_meaning.specs.Kinds.{with_assigned}
use Rattle.abel_meaning.specs.Reads.{has_enables, is_read}
use Rattle.abel_meaning.specs.SignalPins.{is_taken}

-- the bytes between the quotes of a string
abbrev pub unquoted : List ℕ → List ℕ
unquoted text = drop 1 (take (length text - 1) text)

-- the device that the first DEVICE declaration names, if it is one of the project's
abbrev pub first_device : List Declaration → Option DeviceName
first_device [] = None
first_device (ADevice name text ∷ ds) = named_device (unquoted text.text)
first_device (_ ∷ ds) = first_device ds

-- the device of a module
abbrev pub device_named : ModuleTree → Option DeviceName
device_named m = first_device (m.decls ++ section_declarations m.sections)

-- a signal that may be there is read
abbrev pub is_read_at : List Entry → List SectionTree → Option ℕ → Bool
is_read_at es sections None = false
is_read_at es sections (Some s) = is_read es sections s

-- the signal on one of these pins is read
abbrev pub reads_pins : List Entry → List SectionTree → (pins : List ℕ) → Bool
reads_pins es sections pins =
    list_any (λ pin. is_read_at es sections (position (λ (x : Entry). is_on_pin pin x.kind) es)) pins

-- simple mode has no enables, and no column carries its pins in the middle
abbrev pub is_simple : (top : ℕ) → List Entry → List SectionTree → Bool
is_simple top es sections = not (has_enables sections) && not (reads_pins es sections (middle_pins top))

-- by cell, whether the pin is that of such a signal, or one of those that are chosen
abbrev pub set_of : (top : ℕ) → (wanted : Entry → Bool) → List Entry → (chosen : List ℕ) → List Bool
set_of top wanted es chosen =
    map (λ pin. list_any (λ (x : Entry). wanted x && is_on_pin pin x.kind) es || has chosen pin) (cell_pins top)

-- the pins of cells that no number names, in the middle or not
abbrev pub free_cells : (top : ℕ) → List Entry → List ℕ
free_cells top es = filter (λ pin. not (is_taken es pin)) (cell_pins top)

abbrev pub free_middle : (top : ℕ) → List Entry → List ℕ
free_middle top es = filter (has (middle_pins top)) (free_cells top es)

abbrev pub free_others : (top : ℕ) → List Entry → List ℕ
free_others top es = filter (λ pin. not (has (middle_pins top) pin)) (free_cells top es)

-- registers without numbers have the first free cells
abbrev pub registers : List Entry → List Entry
registers es = filter (λ (x : Entry). is_stored x && is_unnumbered x.kind) es

abbrev pub registered_cells : (top : ℕ) → List Entry → List Bool
registered_cells top es = set_of top is_stored es (take (length (registers es)) (free_cells top es))

-- the first eight signals that are assigned and have no numbers: a ninth would find no cell
abbrev pub outputs : List Entry → List ℕ
outputs es =
    take 8 (filter (λ s. (get_or es s no_name).assigned && is_unnumbered (get_or es s no_name).kind) (range_with_len 0 (length es)))

-- so many of them have free cells in the middle, the rest has others
abbrev pub chosen_cells : (middle others : List ℕ) → (count : ℕ) → List ℕ
chosen_cells middle others count = middle ++ take (count - length middle) others

-- those that nothing reads have the free cells in the middle first
abbrev pub driven_cells : (top : ℕ) → List Entry → List SectionTree → List Bool
driven_cells top es sections =
    set_of top (λ (x : Entry). x.assigned) es
    (chosen_cells (take (length (filter (λ s. not (is_read es sections s)) (outputs es))) (free_middle top es)) (free_others top es) (length (outputs es)))

-- a chip with modes: registered mode if there is a register; else simple mode if that serves; else complex mode, or registered mode
-- without a register where a pin at an end is read; its plain model is that of complex mode
abbrev pub chip_model : DeviceName → (top : ℕ) → List Entry → List SectionTree → Model
chip_model name top es sections =
    if list_any is_stored es then registered_model name (registered_cells top es)
    else if is_simple top es sections then simple_model name (driven_cells top es sections)
    else if reads_pins es sections (end_pins top) then registered_model name (registered_cells top es)
    else plain_model name

-- a device, by the pin of its first cell if it has modes
abbrev pub model_at : DeviceName → Option ℕ → List Entry → List SectionTree → Model
model_at name None es sections = plain_model name
model_at name (Some top) es sections = chip_model name top es sections

abbrev pub model_for : DeviceName → List Entry → List SectionTree → Model
model_for name es sections = model_at name (top_cell name) es sections

-- the names of a module for a chip with modes, which complements before its registers
abbrev pub chip_names : ModuleTree → List Entry
chip_names m = with_assigned BeforeRegister m.sections (declared_names m)

-- of a device, the model that the module asks for; and that of the device that it names
abbrev pub model_of : ModuleTree → DeviceName → Model
model_of m name = model_for name (chip_names m) m.sections

abbrev pub model_named : ModuleTree → Option Model
model_named m = option_map (model_of m) (device_named m)
