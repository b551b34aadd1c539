-- All modes of a chip take names alike, and a module has the same names in each.
use Rattle.std.proofs.Common.{◌≡◌, ℕ, Bool, true, false, ◌==◌, if◌then◌else◌, Option, Some, None, List, refl, sym, ap, ◌∙◌, eqb-true, subst, is_some}
use Rattle.std.proofs.lemmas.Bool.{true≢false}
use Rattle.std.specs.List.{list_any}
use Rattle.pld_base.proofs.EachDevice.{each_device}
use Rattle.pld_base.specs.Bits.{same_level}
use Rattle.pld_base.specs.Models.{end_pins, has_modes, plain_model, registered_model, simple_model, top_cell}
use Rattle.pld_base.specs.declared.device_name.DeviceName.{DeviceName}
use Rattle.pld_base.specs.declared.model.Model.{Model}
use Rattle.pld_device.specs.declared.flip.Flip.{Flip}
use Rattle.pld_device.specs.declared.flip.Flip.TheVariants.{AfterRegister, Always, BeforeRegister}
use Rattle.abel_meaning.specs.Declarations.{declared_names}
use Rattle.abel_meaning.specs.Kinds.{with_assigned}
use Rattle.abel_meaning.specs.Models.{chip_model, chip_names, driven_cells, is_simple, model_at, model_for, model_of, reads_pins, registered_cells}
use Rattle.decls.specs.Alike.{TakeNamesAlike}
use Rattle.decls.specs.NameRefusals.{always_inverts}
use Rattle.devices.specs.Devices.{table_in, table_of}
use Rattle.devices.specs.Models.{mode_by, table_at}
use Rattle.devices.specs.V8Tables.{Complex, Mode}
use Rattle.compile_phases.proofs.Common.{Entry, ModuleTree, SectionTree, is_stored, names_of}

-- ---- by a test of each device

abbrev same_flip : Flip → Flip → Bool
same_flip Always Always = true
same_flip AfterRegister AfterRegister = true
same_flip BeforeRegister BeforeRegister = true
same_flip _ _ = false

flip_is : (a b : Flip) → same_flip a b ≡ true → a ≡ b
flip_is Always Always is = refl
flip_is Always AfterRegister is = absurd (true≢false (sym is))
flip_is Always BeforeRegister is = absurd (true≢false (sym is))
flip_is AfterRegister Always is = absurd (true≢false (sym is))
flip_is AfterRegister AfterRegister is = refl
flip_is AfterRegister BeforeRegister is = absurd (true≢false (sym is))
flip_is BeforeRegister Always is = absurd (true≢false (sym is))
flip_is BeforeRegister AfterRegister is = absurd (true≢false (sym is))
flip_is BeforeRegister BeforeRegister is = refl

level_is : (a b : Bool) → same_level a b ≡ true → a ≡ b
level_is true b is = sym is
level_is false true is = is
level_is false false is = refl

module _ (name : DeviceName) (a b : Mode) where
  pins : (table_in name a).pins ≡ (table_in name b).pins
  pins = eqb-true _ _ (each_device (λ other. (table_in other a).pins == (table_in other b).pins) refl name)

  ground : (table_in name a).ground_pin ≡ (table_in name b).ground_pin
  ground = eqb-true _ _ (each_device (λ other. (table_in other a).ground_pin == (table_in other b).ground_pin) refl name)

  inverts : always_inverts (table_in name a) ≡ always_inverts (table_in name b)
  inverts = level_is _ _ (each_device (λ other. same_level (always_inverts (table_in other a)) (always_inverts (table_in other b))) refl name)

  pub alike : TakeNamesAlike (table_in name a) (table_in name b)
  alike = record { pins = pins; ground = ground; inverts = inverts }

  flips : (table_in name a).flip ≡ (table_in name b).flip
  flips = flip_is _ _ (each_device (λ other. same_flip (table_in other a).flip (table_in other b).flip) refl name)

  pub names_alike : (m : ModuleTree) → names_of (table_in name a) m ≡ names_of (table_in name b) m
  names_alike m = ap (λ flip. with_assigned flip m.sections (declared_names m)) flips

-- a chip with modes complements before its registers
chip_flip : (name : DeviceName) → (if has_modes name then same_flip (table_of name).flip BeforeRegister else true) ≡ true
chip_flip name = each_device (λ other. if has_modes other then same_flip (table_of other).flip BeforeRegister else true) refl name

-- ---- the model

name_if : (b : Bool) (x y : Model) (name : DeviceName) → x.name ≡ name → y.name ≡ name → (if b then x else y).name ≡ name
name_if true x y name one other = one
name_if false x y name one other = other

chip_name : (name : DeviceName) (top : ℕ) (es : List Entry) (sections : List SectionTree) → (chip_model name top es sections).name ≡ name
chip_name name top es sections =
    let registered = registered_model name (registered_cells top es) in
    let complex = if reads_pins es sections (end_pins top) then registered else plain_model name in
    let simple = simple_model name (driven_cells top es sections) in
    name_if (list_any is_stored es) registered (if is_simple top es sections then simple else complex) name refl
    (name_if (is_simple top es sections) simple complex name refl (name_if (reads_pins es sections (end_pins top)) registered (plain_model name) name refl refl))

at_name : (name : DeviceName) (top : Option ℕ) (es : List Entry) (sections : List SectionTree) → (model_at name top es sections).name ≡ name
at_name name None es sections = refl
at_name name (Some top) es sections = chip_name name top es sections

-- the table of the model that a module asks for is one of the device that it names
abbrev mode_of : ModuleTree → DeviceName → Mode
mode_of m name = mode_by (model_of m name).syn (model_of m name).ac0 (model_of m name).set

table_is : (m : ModuleTree) (name : DeviceName) → table_in name (mode_of m name) ≡ table_at (model_of m name)
table_is m name = ap (λ other. table_in other (mode_of m name)) (sym (at_name name (top_cell name) (chip_names m) m.sections))

pub asked_alike : (m : ModuleTree) (name : DeviceName) → TakeNamesAlike (table_of name) (table_at (model_of m name))
asked_alike m name = subst (TakeNamesAlike (table_of name)) (table_is m name) (alike name Complex (mode_of m name))

pub asked_names : (m : ModuleTree) (name : DeviceName) → names_of (table_of name) m ≡ names_of (table_at (model_of m name)) m
asked_names m name = names_alike name Complex (mode_of m name) m ∙ ap (λ t. names_of t m) (table_is m name)

-- what the names for any mode ask for is what the module asks for
pub model_is : (m : ModuleTree) (name : DeviceName) (es : List Entry) → es ≡ names_of (table_of name) m → model_for name es m.sections ≡ model_of m name
model_is m name es names = by (top_cell name) refl
  where
    by : (top : Option ℕ) → top_cell name ≡ top → model_for name es m.sections ≡ model_of m name
    by None is = ap (λ top. model_at name top es m.sections) is ∙ sym (ap (λ top. model_at name top (chip_names m) m.sections) is)
    by (Some top) is =
        ap (λ xs. model_for name xs m.sections)
        (names ∙ ap (λ flip. with_assigned flip m.sections (declared_names m)) (flip_is (table_of name).flip BeforeRegister (modes is)))
      where
        modes : top_cell name ≡ Some top → same_flip (table_of name).flip BeforeRegister ≡ true
        modes is = ap (λ (o : Option ℕ). if is_some o then same_flip (table_of name).flip BeforeRegister else true) (sym is) ∙ chip_flip name
