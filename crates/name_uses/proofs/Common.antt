-- The words that the proofs of this crate are said in, passed on from one place. Declares nothing.
pub use Rattle.std.proofs.lemmas.List.{append-nil, length-append, length-map, map-append, map_push, reverse-append, reverse-reverse, take-append-drop, take_all}
pub use Rattle.std.proofs.lemmas.List.{take_more, take_rest}
pub use Rattle.std.proofs.lemmas.List.Concat.{flat_map-append}
pub use Rattle.std.proofs.lemmas.List.FromFn.{length-range_with_len, map-range_with_len_more}
pub use Rattle.std.specs.Fmt.{decimal}
pub use Rattle.std.specs.List.{flat_map, prefix_len, range_with_len, take_while}
pub use Rattle.std.specs.Str.{bytes_eq}
pub use Rattle.abel_tree.specs.Assigned.{Assigned, Named, assigned_by, assigned_each, branch_assigns, branches_assign, choices_assign, else_assigns, is_clocked}
pub use Rattle.abel_tree.specs.Assigned.{list_assigns, other_assigns, section_assigns, sections_assign, signals_of, signals_of_member, signals_of_members}
pub use Rattle.abel_tree.specs.Assigned.{signals_of_name, signals_of_names, statement_assigns, statements_assign, states_assign, target_extension, with_assigns}
pub use Rattle.abel_tree.specs.Assigned.{without_extension}
pub use Rattle.abel_tree.specs.Ranges.{ends_agree, is_digit, is_run, last_digits, names_between, number_of, numbers_between, range_names, stem}
pub use Rattle.abel_tree.specs.Tree.{ABinary, ABranch, ACase, ADiagram, ADontCare, AGoal, AGroup, AName, ANumber, AParen, ASet, ASpecial, ATable, AUnary, AWhen}
pub use Rattle.abel_tree.specs.Tree.{AnAssign, AnElse, AnIf, Branch, Choices, Declarations, DontCareSection, Equations, Members, MoreChoices, MoreMembers}
pub use Rattle.abel_tree.specs.Tree.{MoreStatements, NoBranch, NoChoice, NoElse, NoMember, NoStatement, OneMember, OtherBranch, Otherwise, RowTree, SectionTree}
pub use Rattle.abel_tree.specs.Tree.{SetMember, SomeVectors, SpanMember, StateTree, Statement, Statements, Tree, choices_of, members_of, statements_of}
pub use Rattle.abel_tree.specs.View.{expr_layer, member_layer, view, view_arm, view_choice, view_member, view_row, view_section, view_state, view_stmt}
pub use Rattle.abel_tree.specs.View.{view_vector_row}
pub use Rattle.abel_tree.specs.declared.expressions.Expr.{Expr, the_lemmas as expr_lemmas, size-Expr, the_lemmas}
pub use Rattle.abel_tree.specs.declared.expressions.Member.{Member, size-Member}
pub use Rattle.abel_tree.specs.declared.words.Extension.{Extension}
pub use Rattle.abel_tree.specs.declared.words.Sign.{Sign}
pub use Rattle.pld_base.specs.declared.place.Place.{Place}
pub use Rattle.name_uses.specs.NamesUsed.{UsedName, member_used, members_used, names_used}
pub use Rattle.name_uses.specs.Parts.{Entry, Outputs, PartTree, Read, Registers, Target, Value, part, parts_in_branch, parts_in_choice, parts_in_choices}
pub use Rattle.name_uses.specs.Parts.{parts_in_else, parts_in_other, parts_in_row, parts_in_section, parts_in_state, parts_in_statement, parts_in_statements}
pub use Rattle.name_uses.specs.Parts.{parts_in_with}
pub use Rattle.name_uses.specs.RangeParts.{end_number, name_items, names_if_agree, number_at}
pub use Rattle.name_uses.specs.Targets.{targets_in, targets_in_member, targets_in_members}
pub use Rattle.name_uses.specs.Viewed.{PartedSection, view_part, view_section_parts, view_use, with_parts}
