-- What holds of uses (this project's rule).
use Rattle.std.specs.Prelude.{◌≡◌, true, false, map}
use Rattle.design_checks.specs.Prelude.{Leaf, Tree, Context, term_of, term_uses, use_reads}
use Rattle.netlist_laws.specs.Takeable.{PinsApart, HasColumns}
use Rattle.design_checks.specs.Example.{example_design, example_missing, example_unread}
use Rattle.design_checks.specs.LocatedUses.{PlacedUse, located}
use Rattle.design_checks.specs.RefusedUses.{is_missing, is_unread, missing_uses, unread_uses}

-- the uses of an expression are what its term reads
abbrev pub UsesAreRead : Type 0
UsesAreRead = (d : Context) (t : Tree) → map (λ (u : PlacedUse). u.read) (located d.known t) ≡ term_uses (term_of d.known t)

-- a use that isn't refused reads a leaf for which the device has columns, if no two names are one pin
abbrev pub UsesHaveColumns : Type 0
UsesHaveColumns =
    (d : Context) (u : PlacedUse) (l : Leaf) → PinsApart d → is_missing d u ≡ false → is_unread d u ≡ false
    → use_reads d l u.read ≡ true → HasColumns d l

-- those of the example that are refused
abbrev pub ExampleIsRefused : Type 0
ExampleIsRefused = (missing_uses example_design ≡ example_missing) × (unread_uses example_design ≡ example_unread)
