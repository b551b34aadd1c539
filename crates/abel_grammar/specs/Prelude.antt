-- The words of the crates below that the clauses of this crate are said in, passed on from one place. Declares nothing.
pub use Rattle.std.specs.List.{All, flat_map, list_any}
pub use Rattle.std.specs.Str.{bytes_eq, str_eq_ignore_ascii_case}
pub use Rattle.abel_lexer.specs.declared.token.Token.{Token}
pub use Rattle.abel_tree.specs.Tree.{ABinary, ABranch, ACase, ADevice, ADiagram, ADontCare, AGoal, AGroup, AName, ANumber, AParen, ASet, ASpecial, ATable}
pub use Rattle.abel_tree.specs.Tree.{AUnary, AWhen, AnAssign, AnElse, AnIf, Branch, Choices, Declaration, Declarations, DontCareFor, DontCareSection, Equations}
pub use Rattle.abel_tree.specs.Tree.{Members, ModuleTree, MoreChoices, MoreMembers, MoreStatements, NoBranch, NoChoice, NoElse, NoMember, NoStatement}
pub use Rattle.abel_tree.specs.Tree.{OneMember, OtherBranch, Otherwise, RowTree, SectionTree, SetMember, SomeAttributes, SomeConstants, SomeNodes, SomeOptions}
pub use Rattle.abel_tree.specs.Tree.{SomePins, SomeVectors, SpanMember, StateTree, Statement, Statements, Tree, choices_of, members_of, other_of, otherwise_of}
pub use Rattle.abel_tree.specs.Tree.{statements_of}
pub use Rattle.abel_tree.specs.declared.words.DontCare.{DontCare}
pub use Rattle.abel_tree.specs.declared.words.Item.{Item}
pub use Rattle.abel_tree.specs.declared.words.Number.{Number}
pub use Rattle.abel_tree.specs.declared.words.Span.{Span}
pub use Rattle.abel_tree.specs.declared.words.Word.{Word}
pub use Rattle.pld_base.specs.declared.place.Place.{Place}
