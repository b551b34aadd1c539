-- The words of the crates below that the clauses of this crate are said in, passed on from one place. Declares nothing.
pub use Rattle.std.specs.Global.{Vec}
pub use Rattle.std.specs.List.{AllZip, filter_map, flat_map, list_all, list_any, sum_by, zip}
pub use Rattle.std.specs.Option.{is_some, option_map}
pub use Rattle.abel_meaning.specs.CountedBlocks.{make_literal, row_literals, row_nodes, rows_units, table_units}
pub use Rattle.abel_meaning.specs.CountedNodes.{term_nodes}
pub use Rattle.abel_meaning.specs.Designs.{Context}
pub use Rattle.abel_meaning.specs.FormulaBits.{bits_of, formulas}
pub use Rattle.abel_meaning.specs.Numbers.{digits_low_first, width_of}
pub use Rattle.abel_meaning.specs.Rows.{entry_levels, level_of_mark, marks_of, part_marks, part_width}
pub use Rattle.abel_meaning.specs.Tables.{no_matches, outputs_given, row_matches, rows_give, table_gives}
pub use Rattle.abel_meaning.specs.Targets.{targets_of}
pub use Rattle.abel_meaning.specs.Terms.{Known, NoTerm, Term, Terms, extended_if, known_of, member_before, special_term, term_meant, term_named, term_of}
pub use Rattle.abel_meaning.specs.Terms.{terms_of}
pub use Rattle.abel_meaning.specs.Values.{constant_of}
pub use Rattle.abel_tree.specs.Entries.{AConstant, ADeviceName, ANode, APin, Entry, Kind, entries_of, find, view_meaning}
pub use Rattle.abel_tree.specs.FirstRefusal.{first_refusal}
pub use Rattle.abel_tree.specs.Ranges.{range_names}
pub use Rattle.abel_tree.specs.Tree.{ABinary, AName, ANumber, AParen, ASet, ASpecial, AUnary, Members, MoreMembers, NoMember, OneMember, RowTree, SetMember}
pub use Rattle.abel_tree.specs.Tree.{SpanMember, Tree, members_of}
pub use Rattle.abel_tree.specs.View.{view, view_member, view_row}
pub use Rattle.abel_tree.specs.declared.names.Names.{Names}
pub use Rattle.abel_tree.specs.declared.tables.Table.{Table}
pub use Rattle.bit_expr.specs.Arena.{formula_at}
unfoldable pub use Rattle.bit_expr.specs.Arena.{arena}
pub use Rattle.bit_expr.specs.Formulas.{Const, Formula, differ}
pub use Rattle.bit_expr.specs.declared.node.ExprId.{ExprId}
pub use Rattle.bit_expr.specs.declared.node.Node.{Node}
pub use Rattle.pld_base.specs.declared.place.Place.{Place}
pub use Rattle.section_targets.specs.Building.{Builds, BuildsNodes, IsBit, IsBuilt}
pub use Rattle.section_targets.specs.Given.{AreNamed}
pub use Rattle.section_targets.specs.Manners.{AreFirsts, aims_refused, manner_of}
pub use Rattle.section_targets.specs.Units.{CountedUnit, part}
pub use Rattle.section_targets.specs.Walking.{StillStands, Walks}
pub use Rattle.section_targets.specs.declared.aim.Aim.{Aim}
pub use Rattle.section_targets.specs.declared.manner.Manner.{Manner}
pub use Rattle.section_targets.specs.declared.walked.Walked.{Walked}
pub use Rattle.set_expr.specs.Answer.{AreIn, IsContextOf, IsShaped, Keeps, bits_at, first_place, refusal_of, unknown_at}
pub use Rattle.set_expr.specs.Contexts.{context_for}
pub use Rattle.set_expr.specs.FoundNames.{NameFound, expression_found, found_of, found_use, name_found, names_found}
pub use Rattle.set_expr.specs.Given.{view_gives, view_guard}
pub use Rattle.set_expr.specs.SectionOrder.{section_order}
pub use Rattle.set_expr.specs.declared.contributions.Contribution.{Contribution}
pub use Rattle.set_expr.specs.declared.contributions.Guard.{Guard}
pub use Rattle.set_expr.specs.declared.fault.SectionFault.{SectionFault}
pub use Rattle.set_expr.specs.declared.fault.SectionFault.TheVariants.{BadRow, MisplacedSpecial, NotAnOutput}
