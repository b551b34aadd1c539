-- What is known of the names of a source (this project's rule).
use Rattle.std.specs.Prelude.{◌≡◌, ℕ, Option, None, Some, List, [], ◌∷◌, map, if◌then◌else◌, bytes_eq}
use Rattle.set_expr.specs.Prelude.{Entry, find, first_refusal, Value}
use Rattle.std.specs.Global.{Vec}
use Rattle.set_expr.specs.declared.checked.Checked.{Checked}
use Rattle.set_expr.specs.declared.fault.SectionFault.{SectionFault}
use Rattle.set_expr.specs.declared.known_name.KnownName.{KnownName}
use Rattle.set_expr.specs.declared.shaped.Shape.{Shape}
use Rattle.set_expr.specs.Shapes.{HasShape}
use Rattle.set_expr.specs.FoundNames.{NameFound, named, names_found, constants_refused}
use Rattle.set_expr.specs.Refusals.{Found}
use Rattle.set_expr.specs.SectionOrder.{section_order}

-- ---- sums

-- a shape that may be there is that of a value that may be there
abbrev pub HasShapeIf : Option Shape → Option Value → Type 0
HasShapeIf None None = Unit {0}
HasShapeIf (Some s) (Some v) = HasShape s v
HasShapeIf _ _ = ⊥

-- a check sums up what is found; what isn't refused has a value
pub record SumsUp (c : Checked) (f : Found) : Type 0 where
  pub valued : f.refusals ≡ [] → f.value ≡ None → ⊥
  pub shape : HasShapeIf c.shape f.value
  pub special : c.special ≡ first_refusal section_order f.specials
  pub fault : c.fault ≡ first_refusal section_order f.refusals

-- ---- tables

-- names with what is known of each, and the first refusal of all
pub record Table : Type 0 where
  pub names : List (List ℕ × KnownName)
  pub fault : Option SectionFault

-- entries by the bytes of their names
abbrev pub by_bytes : List (Vec ℕ × KnownName) → List (List ℕ × KnownName)
by_bytes es = map (λ e. (e.0.items, e.1)) es

-- what is known of a name
abbrev pub under : List (List ℕ × KnownName) → List ℕ → Option KnownName
under [] name = None
under (e ∷ es) name = if bytes_eq name e.0 then Some e.1 else under es name

-- what is known of a name is what is found of it
pub record IsKnownName (k : KnownName) (n : NameFound) : Type 0 where
  pub checked : SumsUp k.checked n.found
  pub pulse : k.pulse ≡ n.is_pulse

abbrev pub IsKnownIf : Option KnownName → Option NameFound → Type 0
IsKnownIf None None = Unit {0}
IsKnownIf (Some k) (Some n) = IsKnownName k n
IsKnownIf _ _ = ⊥

-- the place of a name in the list, if it is known
abbrev pub IsPlaced : Option KnownName → Option ℕ → Type 0
IsPlaced None place = place ≡ None
IsPlaced (Some k) place = place ≡ Some k.number

-- a table knows all declared names
pub record IsKnown (es : List Entry) (t : Table) : Type 0 where
  pub names : (name : List ℕ) → IsKnownIf (under t.names name) (named (names_found es) name)
  pub places : (name : List ℕ) → IsPlaced (under t.names name) (find es name)
  pub fault : t.fault ≡ first_refusal section_order (constants_refused es)
