-- The words that the proofs of this crate are said in, passed on from one place. Declares nothing.
pub use Rattle.std.proofs.Math.Bool.{and-false, and-true}
pub use Rattle.std.proofs.lemmas.Bool.{and_from, and_parts, cases_Bool, cases_lt, eq-eqb, eqb-true, false_from_ne_true, ne_eqb, not-true, or_cases, or_left}
pub use Rattle.std.proofs.lemmas.Bool.{or_parts, or_right, true_from_ne_false, true≢false}
pub use Rattle.std.proofs.lemmas.List.{get_or-map, get_or_past, length-map, map-append, take_all, take_more}
pub use Rattle.std.proofs.lemmas.List.Elements.{All-cons, All-get_or, All-map, All-nil, All-push, All-weaker, Contains-append_left, Contains-push}
pub use Rattle.std.proofs.lemmas.List.Folds.{Any-from_list_any, list_any-append, list_any_at}
pub use Rattle.std.proofs.lemmas.List.Quantifiers.{position-Some}
pub use Rattle.std.proofs.lemmas.Option.{get_or_from_slice_get, same_Some, slice_get-get_or, slice_get_past}
pub use Rattle.std.specs.List.{AllByRecursion, IsDistinct, flat_map, list_all, list_any}
pub use Rattle.std.specs.Option.{option_map}
pub use Rattle.abel_meaning.specs.Contributions.{Contribution, Evaluator, Gives, Guard, condition, guarded}
pub use Rattle.abel_meaning.specs.Controls.{control_by, control_if_stored, control_of, is_control, is_on_pin, is_the_control}
pub use Rattle.abel_meaning.specs.Declarations.{declared_names}
pub use Rattle.abel_meaning.specs.Designs.{Context, Design, design_of, name_at, no_name}
pub use Rattle.abel_meaning.specs.Diagrams.{branch_gives, branches_give, choices_give, first_of_each, goal_gives, in_state, is_other, is_state, once}
pub use Rattle.abel_meaning.specs.Diagrams.{other_gives, other_matches, registers_equal, state_matches, states_give, with_statements}
pub use Rattle.abel_meaning.specs.FormulaBits.{formulas}
pub use Rattle.abel_meaning.specs.Functions.{is_data_to, is_raw_signal}
pub use Rattle.abel_meaning.specs.Held.{ATarget, AValue, Held, Holds, Part, branch_parts, branches_parts, choices_parts, else_parts, held_after, held_by}
pub use Rattle.abel_meaning.specs.Held.{held_meant, held_of, holds_of, is_held, is_shared, list_parts, other_parts, part_reads, part_shares, parts_read}
pub use Rattle.abel_meaning.specs.Held.{read_in, read_in_member, read_in_members, read_names, section_parts, sections_parts, statement_parts, statements_parts}
pub use Rattle.abel_meaning.specs.Held.{states_parts, with_parts}
pub use Rattle.abel_meaning.specs.Kinds.{is_buffer, is_buffer_by_default, is_open, is_registered, names_of, stays_free, with_kind, with_kinds}
pub use Rattle.abel_meaning.specs.Netlists.{PlainNetlist, Wanted, plain_control, plain_netlist, plain_wanted}
pub use Rattle.abel_meaning.specs.SignalReads.{HasNoSignalLoop, HasNoSignalPath, IsSignalLoop, given_formulas, is_one_of, leaf_by, leaf_of, names_if_any}
pub use Rattle.abel_meaning.specs.SignalReads.{settles}
pub use Rattle.abel_meaning.specs.Soundness.{IsSound, MayRegister}
pub use Rattle.abel_meaning.specs.Statements.{else_gives, given_each, sign_gives, statement_gives, statements_give}
pub use Rattle.abel_meaning.specs.Tables.{agrees, literal, match_of, no_matches, outputs_given, row_matches, rows_give}
pub use Rattle.abel_meaning.specs.Targets.{all_targets, some_signals, targets_of}
pub use Rattle.abel_meaning.specs.Terms.{Before, Known, NoTerm, Pulse, Read, Release, Set, Term, Terms, X, extended, extended_each, extended_if, known_after}
pub use Rattle.abel_meaning.specs.Terms.{known_of, member_before, named_before, special_term, term_meant, term_named, term_of, terms_of}
pub use Rattle.abel_tree.specs.Assigned.{Assigned, Named, assigned_by, assigned_each, branch_assigns, branches_assign, choices_assign, else_assigns}
pub use Rattle.abel_tree.specs.Assigned.{is_assigned, is_clocked, is_clocked_target, list_assigns, meant, named_after, named_of, other_assigns, section_assigns}
pub use Rattle.abel_tree.specs.Assigned.{sections_assign, signals_of, signals_of_member, signals_of_members, signals_of_name, signals_of_names}
pub use Rattle.abel_tree.specs.Assigned.{statement_assigns, statements_assign, states_assign, target_extension, with_assigns, without_extension}
pub use Rattle.abel_tree.specs.Entries.{AConstant, ADeviceName, ANode, APin, Entry, Kind, entries_of, find, is_signal, is_stored, view_declared}
pub use Rattle.abel_tree.specs.Extensions.{is_data, is_raw}
pub use Rattle.abel_tree.specs.Ranges.{range_names}
pub use Rattle.abel_tree.specs.Tree.{ABranch, ACase, ADiagram, ADontCare, AGoal, AGroup, AName, AParen, ASet, ASpecial, ATable, AWhen, AnAssign, AnElse, AnIf}
pub use Rattle.abel_tree.specs.Tree.{Branch, Choices, Declarations, DontCareSection, Equations, Members, ModuleTree, MoreChoices, MoreMembers, MoreStatements}
pub use Rattle.abel_tree.specs.Tree.{NoBranch, NoChoice, NoElse, NoMember, NoStatement, OneMember, OtherBranch, Otherwise, RowTree, SectionTree, SetMember}
pub use Rattle.abel_tree.specs.Tree.{SomeVectors, SpanMember, StateTree, Statement, Statements, Tree, statements_of}
pub use Rattle.abel_tree.specs.View.{view_module}
pub use Rattle.abel_tree.specs.declared.words.Extension.{Extension}
pub use Rattle.bit_expr.specs.Arena.{IsLeaf}
unfoldable pub use Rattle.bit_expr.specs.Arena.{arena}
pub use Rattle.bit_expr.specs.Formulas.{Const, Formula}
pub use Rattle.bit_expr.specs.declared.node.Leaf.{Leaf}
pub use Rattle.declared_names.proofs.AmongNumbers.{among}
pub use Rattle.design_checks.specs.LocatedUses.{PlacedUse, located}
pub use Rattle.design_checks.specs.Refused.{is_lacking, is_wrong_target, lacking_controls, other_levels, target_controls, targets_refused, wrong_kinds}
pub use Rattle.design_checks.specs.RefusedUses.{is_missing, is_unread, missing_uses, unread_uses}
pub use Rattle.design_checks.specs.SectionUses.{design_uses, is_by_pin, is_cell_by_pin, is_compared, is_compared_by, is_enabled_by_pin, part_uses}
pub use Rattle.design_checks.specs.SignalsRefused.{AreToNames}
pub use Rattle.abel_meaning.specs.SignalPins.{has_wrong_kind, has_wrong_kind_by, has_wrong_kind_on, is_registered_by, is_registered_node, is_wrong_cell, is_wrong_kind}
pub use Rattle.design_checks.specs.SignalsRefused.{lacks_by, lacks_control, node_refused, pin_lacks, registered_nodes}
pub use Rattle.design_checks.specs.Verdict.{HasSoundSignals, IsDesignFor, IsSignalRefused}
pub use Rattle.equations.specs.StatementUnits.{assign_refused, assigned_aims, statement_manners, statements_manners, taken_refused, units_of_else}
pub use Rattle.equations.specs.StatementUnits.{units_of_statement, units_of_statements, unless_any}
pub use Rattle.gathering.specs.Linked.{AreLinks, IsLinkOf, is_linked, is_node_kind}
pub use Rattle.gathering.specs.Placed.{AreIdsIn, IsPlaced}
pub use Rattle.gathering.specs.Resets.{AssignedHaveCells, reset_names}
pub use Rattle.gathering.specs.declared.link.Link.{Link}
pub use Rattle.name_uses.specs.Parts.{Outputs, PartTree, Value, part, parts_in_branch, parts_in_choices, parts_in_else, parts_in_other, parts_in_row}
pub use Rattle.name_uses.specs.Parts.{parts_in_section, parts_in_state, parts_in_statement, parts_in_statements, parts_in_with}
pub use Rattle.netlist_laws.proofs.SoundLeaves.{inside, some_place}
pub use Rattle.netlist_laws.specs.Gathered.{and_cell, cell_by, cell_of, cells_from, gathered_from, netlist_of, wanted_for}
pub use Rattle.netlist_laws.specs.SignalUses.{SignalUse, all_term_uses, given_uses, reads_of_terms, term_uses, use_reads, uses_read}
pub use Rattle.netlist_laws.specs.Takeable.{ControlIsThere, HasColumns, HasNoEquation, IsAllowedOn, IsTakeable, NodesAreFew, PinsApart, is_enabled_by_row}
pub use Rattle.netlist_laws.specs.Takeable.{is_kept, is_row}
pub use Rattle.pld_base.specs.declared.place.Place.{Place}
pub use Rattle.pld_device.specs.Laws.{IsCell, IsDevice}
pub use Rattle.pld_device.specs.Pins.{cell_on}
pub use Rattle.pld_device.specs.Table.{Table, cell_at, no_cell}
pub use Rattle.pld_device.specs.declared.cell.Cell.{Cell}
pub use Rattle.pld_device.specs.declared.flip.Flip.{Flip}
pub use Rattle.pld_order.proofs.Lists.{eqb_same, few, place_of}
pub use Rattle.pld_order.specs.Graphs.{has}
pub use Rattle.section_targets.proofs.Built.{left_empty, refused_append, right_empty}
pub use Rattle.section_targets.proofs.KnownTargets.{EachTarget, IsSignalOf, signal_targets}
pub use Rattle.section_targets.proofs.SideTerms.{positions_of, side_positions}
pub use Rattle.section_targets.proofs.SignalLists.{extended_targets, some_append}
pub use Rattle.section_targets.specs.Manners.{aims_refused, is_cell_pin, is_output, is_output_kind, manner_of, may_be_assigned, mixed, no_output}
pub use Rattle.section_targets.specs.TargetSignals.{TargetFound, all_name_signals, left_side, names_signals, no_signals, start_of, target_member}
pub use Rattle.section_targets.specs.TargetSignals.{target_members, target_name, target_range}
pub use Rattle.section_targets.specs.Units.{CountedUnit, all_refused, limit_refused, units_refused}
pub use Rattle.section_targets.specs.declared.manner.Manner.{Manner}
pub use Rattle.set_expr.specs.FoundNames.{constants_refused, expression_found, found_use, name_found, names_found}
pub use Rattle.set_expr.specs.Given.{given, view_contribution}
pub use Rattle.set_expr.specs.Refusals.{Found, too_wide}
pub use Rattle.set_expr.specs.declared.fault.SectionFault.TheVariants.{NotAnOutput}
pub use Rattle.source_sections.specs.SectionUnits.{section_manners, units_of_section, units_of_sections}
pub use Rattle.state_diagrams.specs.DiagramUnits.{branch_manners, register_manners, registers_refused, state_guard, state_manners, units_behind}
pub use Rattle.state_diagrams.specs.DiagramUnits.{units_of_branch, units_of_branches, units_of_choices, units_of_diagram, units_of_other, units_of_states}
pub use Rattle.state_diagrams.specs.StateValues.{listed_after}
pub use Rattle.truth_tables.specs.TableUnits.{if_none}
pub use Rattle.design.specs.{AllLeadNowhere, AnyPlace, AreSignals, AssignedAreOnCells, AssignedHaveData, FreeMayChoose, HasBareHeader, HasNoRefusal}
pub use Rattle.design.specs.{HasSoundDeclarations, HasSoundSections, HaveBareHeaders, IsAccepted, IsChainTold, IsDesignRefused, IsFirstFound, IsFirstOf}
pub use Rattle.design.specs.{IsFirstPath, IsFoundOf, IsGathered, IsLinkedDesign, IsPathOf, IsResetAt, IsResetOf, IsUnrefused, LeadsNowhereAt, NamesAreAccepted}
pub use Rattle.design.specs.{UnrefusedIsTakeable, all_bare_signals, bare_signals, is_sooner, path_order}
