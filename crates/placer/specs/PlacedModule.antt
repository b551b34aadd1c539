-- A module with pins for its pins without numbers and its buried registers (this project's rule).
use Rattle.std.specs.Prelude.{ℕ, Bool, true, false, not, Option, None, Some, is_some, List, [], ◌∷◌, ◌++◌, map, filter, codes, unwrap_or}
use Rattle.placer.specs.Prelude.{flat_map, Item, ANumber, AName, Declaration, SomePins, SomeNodes, SomeAttributes, Statement, AnAssign, SectionTree, Declarations, Equations, ModuleTree, GivenName, given_names}
use Rattle.pld_base.specs.declared.place.Place.{Place}
use Rattle.abel_tree.specs.declared.words.Extension.TheVariants as extension
use Rattle.abel_tree.specs.declared.words.Sign.TheVariants as sign
use Rattle.abel_tree.specs.declared.words.Span.{Span}
use Rattle.abel_tree.specs.declared.words.Word.{Word}

-- ---- declarations

-- the pin of a name, if it is given one
abbrev pub Pinned : Type 0
Pinned = List ℕ → Option ℕ

-- the attributes of a node that becomes a pin: its pin is Q, and its `dc` stays
abbrev pub register_string : (dc : Bool) → List ℕ
register_string true = codes "'reg,buffer,dc'"
register_string false = codes "'reg,buffer'"

-- a number, and a name alone, at a place
abbrev pub span_at : Place → ℕ → Span
span_at p n = record { first = record { value = n; place = p }; last = None }

abbrev pub item_at : Place → List ℕ → (negated : Bool) → Item
item_at p name negated = record { negated = negated; first = record { text = name; place = p }; last = None }

-- the numbers of a declaration's names
abbrev pub spans_for : Pinned → List GivenName → List Span
spans_for pin [] = []
spans_for pin (x ∷ xs) = span_at x.place (unwrap_or (pin x.name) 0) ∷ spans_for pin xs

-- a declaration of one node that stays one, and of a pin that a node becomes
abbrev pub node_alone : (attributes : List Word) → GivenName → Declaration
node_alone attributes x = SomeNodes (item_at x.place x.name x.negated ∷ []) [] attributes

abbrev pub node_pinned : (dc : Bool) → GivenName → (pin : ℕ) → Declaration
node_pinned dc x n =
    SomePins (item_at x.place x.name false ∷ []) (span_at x.place n ∷ []) (record { text = register_string dc; place = x.place } ∷ [])

abbrev pub node_declaration : Pinned → (dc : List ℕ → Bool) → (attributes : List Word) → GivenName → Declaration
node_declaration pin dc attributes x = by (pin x.name)
  where
    by : Option ℕ → Declaration
    by None = node_alone attributes x
    by (Some n) = node_pinned (dc x.name) x n

-- the names that are given none, one by one
abbrev pub unpinned : Pinned → List Item → List GivenName
unpinned pin names = filter (λ (x : GivenName). not (is_some (pin x.name))) (given_names names)

abbrev pub unpinned_items : Pinned → List Item → List Item
unpinned_items pin names = map (λ (x : GivenName). item_at x.place x.name x.negated) (unpinned pin names)

-- the numbers that are there, or else those of the names' pins
abbrev pub numbers_for : Pinned → List Item → List Span → List Span
numbers_for pin names [] = spans_for pin (given_names names)
numbers_for pin names (n ∷ ns) = n ∷ ns

-- pins get their numbers; nodes are one by one, and those that become pins have no other attributes than their own
abbrev pub placed_declaration : (pins nodes : Pinned) → (dc : List ℕ → Bool) → Declaration → List Declaration
placed_declaration pins nodes dc (SomePins names numbers attributes) = SomePins names (numbers_for pins names numbers) attributes ∷ []
placed_declaration pins nodes dc (SomeNodes names numbers attributes) = map (node_declaration nodes dc attributes) (given_names names)
placed_declaration pins nodes dc (SomeAttributes names attributes) = SomeAttributes (unpinned_items nodes names) attributes ∷ []
placed_declaration pins nodes dc d = d ∷ []

abbrev pub placed_declarations : (pins nodes : Pinned) → (dc : List ℕ → Bool) → List Declaration → List Declaration
placed_declarations pins nodes dc ds = flat_map (placed_declaration pins nodes dc) ds

-- ---- sections

abbrev pub placed_section : (pins nodes : Pinned) → (dc : List ℕ → Bool) → SectionTree → SectionTree
placed_section pins nodes dc (Declarations ds) = Declarations (placed_declarations pins nodes dc ds)
placed_section pins nodes dc x = x

-- `name.OE = 0`
abbrev pub released : Place → List ℕ → Statement
released p name =
    AnAssign p false (AName (record { text = name; place = p }) (Some extension.Oe)) sign.Equal p (ANumber (record { value = 0; place = p }))

-- one more section, if there is something in it
abbrev pub with_equations : List Statement → List SectionTree
with_equations [] = []
with_equations (s ∷ ss) = Equations (s ∷ ss) ∷ []

-- a module with its pins, its nodes that become pins, and the equations that release these
abbrev pub placed_module : (pins nodes : Pinned) → (dc : List ℕ → Bool) → (released : List Statement) → ModuleTree → ModuleTree
placed_module pins nodes dc added m =
    record m {
      decls = placed_declarations pins nodes dc m.decls;
      sections = map (placed_section pins nodes dc) m.sections ++ with_equations added;
    }
