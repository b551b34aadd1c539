-- The words of the crates below that the clauses of this crate are said in, passed on from one place. Declares nothing.
unfoldable pub use Rattle.std.specs.Fmt.{digits}
pub use Rattle.std.specs.List.{list_any, range_with_len}
pub use Prim.Native.String.{String}
pub use Rattle.abel_meaning.specs.AtPoints.{given_at, truth_at}
pub use Rattle.abel_meaning.specs.CountedBlocks.{units_of}
pub use Rattle.abel_meaning.specs.Designs.{Context, Design, design_of, name_at}
pub use Rattle.abel_meaning.specs.Functions.{Function, allows, function_of, value_with_any_0}
pub use Rattle.abel_meaning.specs.SourceLogic.{design_logic, next_allows, node_allows, node_signal, pin_allows, source_logic}
pub use Rattle.abel_meaning.specs.Vectors.{design_vectors}
pub use Rattle.abel_tree.specs.Entries.{AConstant, ADeviceName, ANode, APin, Entry, Kind, find, follows_q}
pub use Rattle.abel_tree.specs.Tree.{ABinary, ABranch, ACase, ADevice, ADiagram, ADontCare, AGoal, AGroup, AName, ANumber, AParen, ASet, ASpecial, ATable}
pub use Rattle.abel_tree.specs.Tree.{AUnary, AWhen, AnAssign, AnElse, AnIf, Branch, Declaration, Declarations, DontCareFor, DontCareSection, Equations}
pub use Rattle.abel_tree.specs.Tree.{ModuleTree, NoBranch, NoElse, OneMember, RowTree, SectionTree, SetMember, SomeAttributes, SomeConstants, SomeNodes}
pub use Rattle.abel_tree.specs.Tree.{SomeOptions, SomePins, SomeVectors, SpanMember, StateTree, Statement, Tree, choices_of, members_of, statements_of}
pub use Rattle.abel_tree.specs.declared.words.Word.{Word}
unfoldable pub use Rattle.bit_expr.specs.Folding.{make_and, make_not, make_or, make_xor}
pub use Rattle.devices.specs.Gal22V10Table.{gal22v10}
pub use Rattle.devices.specs.Pal16L8Table.{pal16l8}
pub use Rattle.devices.specs.Pal16RTables.{pal16r4, pal16r6, pal16r8}
pub use Rattle.pld_base.specs.Points.{Levels}
pub use Rattle.pld_base.specs.declared.place.Place.{Place}
