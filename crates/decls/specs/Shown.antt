-- What the table of the code shows of the declarations so far.
use Rattle.std.specs.Prelude.{◌≡◌, ℕ, Bool, true, false, Option, None, Some, List, [], ◌∷◌, if◌then◌else◌, bytes_eq, map, nat_lt, min}
use Rattle.decls.specs.Prelude.{Place, Table, Kind, APin, ANode, Words, Entry, view_meaning, is_signal, is_value, Item, first_refusal, GivenName, entry}
use Rattle.std.specs.Global.{Vec}
use Rattle.decls.specs.declared.items.Given.{Given}
use Rattle.decls.specs.declared.said.Said.{Said}
use Rattle.decls.specs.declared.table.Known.{Known}
use Rattle.decls.specs.declared.table.NameTable.{NameTable}
use Rattle.decls.specs.FaultOrder.{name_order}
use Rattle.abel_meaning.specs.SignalPins.{is_signal_pin}
use Rattle.decls.specs.Steps.{Progress}

-- a signal is wanted, or else a signal or constant
abbrev pub wanted : Bool → Kind → Bool
wanted true k = is_signal k
wanted false k = is_value k

abbrev pub view_said : Said → Words
view_said w =
    record { combinational = w.combinational; registered = w.registered; buffer = w.buffer; invert = w.invert; dc = w.dc }

abbrev pub kept_node : ℕ → ℕ
kept_node n = if nat_lt n 128 then n else 0

-- a name of a declaration
abbrev pub given : List ℕ → Place → Bool → GivenName
given name place negated = record { name = name; place = place; negated = negated }

-- the table keeps no number of a pin or node that is refused
abbrev pub kept_kind : Table → Kind → Kind
kept_kind t (APin n negated) = APin (if is_signal_pin t n then n else 0) negated
kept_kind t (ANode n) = ANode (kept_node n)
kept_kind t k = k

abbrev pub kept : Table → Entry → Entry
kept t e = record e { kind = kept_kind t e.kind }

-- an entry of the table
abbrev pub view_known : Vec ℕ × Known → Entry
view_known x = entry x.0.items x.1.place (view_meaning x.1.meaning) (view_said x.1.said)

-- a name of a declaration, as the code has it
abbrev pub view_given : Given → GivenName
view_given g = given g.name.items g.place g.negated

-- a name of an item
abbrev pub given_by : Item → List ℕ → GivenName
given_by i name = given name i.first.place i.negated

-- what was said of a name, as it is declared first
abbrev pub said_before : List Entry → List ℕ → Option Words
said_before [] name = None
said_before (e ∷ es) name = if bytes_eq name e.name then Some e.words else said_before es name

pub record Shows (t : Table) (d : NameTable) (s : Progress) : Type 0 where
  pub pins : d.pins ≡ t.pins
  pub ground : d.ground ≡ t.ground_pin
  pub rows : map view_known d.names.entries ≡ map (kept t) s.entries
  pub device : d.has_device ≡ s.device
  pub nodes : d.nodes ≡ min s.nodes 128
  pub taken : d.taken.items ≡ s.taken
  pub waiting : map view_given d.waiting.items ≡ s.waiting
  pub first : d.fault ≡ first_refusal name_order s.faults
