-- The words of the crates below that the clauses of this crate are said in, passed on from one place. Declares nothing.
pub use Rattle.std.specs.List.{flat_map, list_all, list_any}
pub use Rattle.abel_meaning.specs.Controls.{must_register}
pub use Rattle.abel_meaning.specs.Designs.{Context, Design, context_of, name_at, no_name}
pub use Rattle.abel_meaning.specs.Targets.{all_targets, some_signals, targets_of}
pub use Rattle.abel_meaning.specs.Terms.{Before, BinaryOf, Known, NoTerm, Number, Pulse, Release, Set, Term, Terms, UnaryOf, X, extended_if, known_of}
pub use Rattle.abel_meaning.specs.Terms.{member_before, term_meant, term_named, term_of}
pub use Rattle.abel_tree.specs.Assigned.{target_extension}
pub use Rattle.abel_tree.specs.Entries.{AConstant, ANode, APin, Entry, Kind, entries_of, is_stored, view_declared, view_meaning}
pub use Rattle.abel_tree.specs.Extensions.{innermost, is_data}
pub use Rattle.abel_tree.specs.FirstRefusal.{Ranks, first_refusal}
pub use Rattle.abel_tree.specs.Tree.{ABinary, ADiagram, ADontCare, AGroup, AName, ASet, ATable, AUnary, AWhen, AnAssign, AnElse, Declarations, DontCareSection}
pub use Rattle.abel_tree.specs.Tree.{Equations, MoreMembers, MoreStatements, NoElse, NoMember, NoStatement, OneMember, Otherwise, SectionTree, SomeVectors}
pub use Rattle.abel_tree.specs.Tree.{Statement, Statements, Tree, statements_of}
pub use Rattle.abel_tree.specs.View.{view, view_member, view_section, view_stmt}
pub use Rattle.abel_tree.specs.declared.names.Names.{Names}
pub use Rattle.abel_tree.specs.declared.words.Extension.{Extension}
pub use Rattle.bit_expr.specs.Arena.{formula_at}
unfoldable pub use Rattle.bit_expr.specs.Arena.{arena}
pub use Rattle.bit_expr.specs.Formulas.{And, Const, Formula, Not, Or, Read, Xor}
pub use Rattle.bit_expr.specs.declared.node.Leaf.{Leaf}
pub use Rattle.name_uses.specs.Viewed.{view_part, view_role, view_use}
pub use Rattle.netlist_laws.specs.Gathered.{cell_of}
pub use Rattle.netlist_laws.specs.SignalUses.{SignalUse, term_uses, use_reads}
pub use Rattle.pld_base.specs.declared.place.Place.{Place}
pub use Rattle.pld_device.specs.Table.{Table, cell_at}
pub use Rattle.pld_device.specs.declared.cell.Cell.{Cell}
pub use Rattle.pld_device.specs.declared.enable.Enable.{Enable}
pub use Rattle.pld_device.specs.declared.enable.Enable.TheVariants.{PinLow, Driven, Released, Row}
pub use Rattle.set_expr.specs.Answer.{IsContextOf}
pub use Rattle.set_expr.specs.Contexts.{context_for}
pub use Rattle.set_expr.specs.declared.contributions.Contribution.{Contribution}
