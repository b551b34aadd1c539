-- The tables as the code keeps them: lists of names with what they represent.
use Rattle.std.specs.Prelude.{◌≡◌, ℕ, List, [], ◌∷◌, Option, None, Some, map, if◌then◌else◌}
use Rattle.abel_macros.specs.Prelude.{bytes_eq, Vec}
use Rattle.abel_macros.specs.Forms.{replaced, standing_for}
use Rattle.abel_macros.specs.Rules.{Macro, Tables}

-- names with what they represent, and the radix in force
pub record Kept : Type 0 where
  pub macros : List (List ℕ × Macro)
  pub values : List (List ℕ × ℕ)
  pub radix : ℕ

-- what a name represents: the entry of that name
abbrev pub under : {X : Type 0} → List (List ℕ × X) → List ℕ → Option X
under [] w = None
under (e ∷ es) w = if bytes_eq w e.0 then Some e.1 else under es w

-- entries by the bytes of their names
abbrev pub by_bytes : {X : Type 0} → List (Vec ℕ × X) → List (List ℕ × X)
by_bytes es = map (λ e. (e.0.items, e.1)) es

-- the tables that are kept so
abbrev pub tables_of : Kept → Tables
tables_of k = record { macros = under k.macros; values = under k.values; radix = k.radix }

-- a call of the macro of this name with these arguments has this result
pub record IsResult (macros : List ℕ → Option Macro) (name : List ℕ) (found : List (List ℕ)) (result : List ℕ) : Type 0 where
  pub replaces : (m : Macro) → (ps : List (List ℕ)) → macros name ≡ Some m → m.parameters ≡ Some ps → result ≡ replaced (standing_for ps found) 0 m.block
