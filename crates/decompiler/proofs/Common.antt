-- The words that the proofs of this crate are said in, passed on from one place. Declares nothing.
pub use Rattle.std.proofs.lemmas.Bool.{and_from, and_parts, and_right, cases_Bool, cases_lt, eqb-false, le-ltb, lt-ltb, ltb-false, ne_eqb, not-true, or_cases}
pub use Rattle.std.proofs.lemmas.Bool.{or_from, or_left, or_right, true≢false}
pub use Rattle.std.proofs.lemmas.Grind.{flat_map-append}
pub use Rattle.std.proofs.lemmas.List.{get_or_past, length-map, map-append}
pub use Rattle.std.proofs.lemmas.List.FromFn.{get_or-map-range_with_len, length-range_with_len, map-range_with_len_more}
pub use Rattle.std.proofs.lemmas.Option.{same_Some, slice_get-get_or}
pub use Rattle.std.proofs.lemmas.Slice.Eq.{bytes_eq-Decides}
pub use Rattle.std.specs.List.{All, AllByRecursion, find, flat_map, list_any, position_from, range_with_len}
unfoldable pub use Rattle.std.specs.List.{IsDistinct}
pub use Rattle.std.specs.Option.{option_map}
pub use Rattle.abel_meaning.specs.BitWords.{Word, each_not, word_by_position}
pub use Rattle.abel_meaning.specs.Controls.{control_by, control_if_stored, control_of, is_control, is_on_pin, is_the_control, must_register, signal_on}
pub use Rattle.abel_meaning.specs.CountedNodes.{guard_nodes, value_nodes}
pub use Rattle.abel_meaning.specs.Declarations.{GivenName, all_said, declared, entry, is_unnumbered, no_words}
pub use Rattle.abel_meaning.specs.Designs.{Context, Design, design_of, name_at, no_name}
pub use Rattle.abel_meaning.specs.Models.{device_named, unquoted}
pub use Rattle.abel_meaning.specs.FormulaBits.{bits_of, formulas, make_held, make_source, met_by, met_word, operator_word}
pub use Rattle.abel_meaning.specs.Functions.{Function, function_of}
pub use Rattle.abel_meaning.specs.Kinds.{is_buffer_by_default, names_of, with_kind, with_kinds}
pub use Rattle.abel_meaning.specs.Netlists.{PlainNetlist, Wanted, first_with, own_of, own_or_shared, plain_control, plain_function, plain_netlist, plain_wanted}
pub use Rattle.abel_meaning.specs.Netlists.{shared_function, wanted_at}
pub use Rattle.abel_meaning.specs.Numbers.{Number, Set, Shape, Single, Value, meeting, width_of}
pub use Rattle.abel_meaning.specs.SignalReads.{HasNoSignalLoop, HasNoSignalPath, function_names, given_formulas, is_one_of, is_stored_signal, leaf_by}
pub use Rattle.abel_meaning.specs.SignalReads.{leaf_of as leaf_of_signal, names_if_any, reset_equation_reads, settles, settles_by, signal_names, signal_reads}
pub use Rattle.abel_meaning.specs.SoundIds.{IsCellIn, IsControlIn, IsFunctionIn, IsIn, IsSoundNetlist, no_pair, pair_of_cell, pair_of_pin}
pub use Rattle.abel_meaning.specs.Sources.{LeafRead, Source, Zero}
pub use Rattle.abel_meaning.specs.Targets.{targets_of}
pub use Rattle.abel_meaning.specs.Terms.{BinaryOf, Known, Read as ReadTerm, Term, UnaryOf, extended_if, known_after, term_meant, term_named, term_of}
pub use Rattle.abel_meaning.specs.Values.{binary_value, constant_of, plain_value, unary_value}
pub use Rattle.abel_tree.specs.Assigned.{Assigned, named_of, sections_assign, target_extension}
pub use Rattle.abel_tree.specs.Entries.{AConstant, ADeviceName, ANode, APin, Entry, Kind, Words, follows_q, is_stored, is_value, kind_of, names_any}
pub use Rattle.abel_tree.specs.Extensions.{is_data, is_raw}
pub use Rattle.abel_tree.specs.Tree.{ABinary, ADevice, AName, ANumber, AUnary, AnAssign, Declaration, Equations, ModuleTree, SectionTree, SomePins, Statement}
pub use Rattle.abel_tree.specs.Tree.{Tree, statements_of}
pub use Rattle.abel_tree.specs.Uses.{Use, list_uses, statement_uses, uses}
pub use Rattle.abel_tree.specs.declared.words.Extension.{Extension}
pub use Rattle.bit_expr.specs.Arena.{MOST, constants, formula_at, formula_of, formulas_from}
unfoldable pub use Rattle.bit_expr.specs.Arena.{arena}
pub use Rattle.bit_expr.specs.Folding.{Made, constant_level, free, fresh}
unfoldable pub use Rattle.bit_expr.specs.Folding.{make_and, make_not, make_or}
pub use Rattle.bit_expr.specs.Formulas.{And, Const, Formula, Not, Or, Read, Xor, differ, formula_value, names, same_leaf}
pub use Rattle.bit_expr.specs.declared.netlist.CellWanted.{CellWanted}
pub use Rattle.bit_expr.specs.declared.netlist.Control.{Control}
pub use Rattle.bit_expr.specs.declared.netlist.Netlist.{Netlist}
pub use Rattle.bit_expr.specs.declared.node.ExprId.{ExprId}
pub use Rattle.bit_expr.specs.declared.node.Leaf.{Leaf}
pub use Rattle.compile_phases.specs.SourceRefusals.{HasDesign, IsNetlistOf}
pub use Rattle.covers.specs.declared.cube.Cube.{Cube}
pub use Rattle.decls.specs.NameRefusals.{all_buffered, always_inverts, buffered, buffers_refused, has_registers, module_buffers_refused, name_refusals, names_once}
pub use Rattle.decls.specs.NameRefusals.{read_refusals, sections_refused}
pub use Rattle.decls.specs.NamesBefore.{added, names_behind}
pub use Rattle.abel_meaning.specs.SignalPins.{is_taken, is_signal_pin, has_wrong_kind, has_wrong_kind_by, has_wrong_kind_on, is_registered_node, is_wrong_cell, is_wrong_kind, carries_level, carries_q, has_read_path, reads_by}
pub use Rattle.decls.specs.Refused.{declaration_refused, declarations_refused, given_count, name_refused, names_refused, parts_refused}
pub use Rattle.decls.specs.Refused.{use_refused, uses_refused}
pub use Rattle.decls.specs.declared.fault.NameFault.{NameFault}
pub use Rattle.decompiled.proofs.Each.{each_always, each_append, each_at, each_filter, each_flat_map, each_in_range, each_map, each_member, each_weaker}
pub use Rattle.decompiled.proofs.FusesNetlists.{is_of_fuses, netlists_of_fuses}
pub use Rattle.decompiled.proofs.PinPlaces.{IsTaken, same_some, taken_once, was_taken}
pub use Rattle.decompiled.proofs.PinWords.{HasNoCell, cell_name, found_passes, free_plain, free_unassigned_name, kind_is, name, none_passes, on_cell}
pub use Rattle.decompiled.proofs.SaidRuns.{say_what_they_do}
pub use Rattle.decompiled.proofs.SourceLines.{IsCellLine, IsPairLiteral, lines_on}
pub use Rattle.decompiled.proofs.SourceNames.{IsNameAt, found, held, known_is, names_at}
pub use Rattle.decompiled.proofs.SourcePins.{IsDeclared, IsDeclaredLine, IsDeclaredLiteral, cell_pin, declared_at, declared_there, is_named, line_there}
pub use Rattle.decompiled.proofs.SourcePins.{lines_declared, own_signal, pins_apart, pins_low}
pub use Rattle.decompiled.proofs.SourceReads.{cell_here, given_is, literals_read, reads_pairs}
pub use Rattle.decompiled.specs.Alike.{IsCellAsked, IsFusesNetlist, enable_formula, shared_formula}
pub use Rattle.decompiled.specs.LineGives.{is_control_line, line_gives}
pub use Rattle.decompiled.specs.PinNames.{ArePinEntries, ArePinsApart, IsPinEntry, said}
pub use Rattle.decompiled.specs.Reading.{HasLowPins, IsLow, IsLowLine, IsLowProduct}
pub use Rattle.decompiled.specs.RowLiterals.{ColumnLiteral, if_intact, literal, literals_of, row_literals, some_read}
pub use Rattle.decompiled.specs.RowSums.{HasRowSizes, pair_leaf}
pub use Rattle.decompiled.specs.Signals.{leaf_of, place_of, signal_of}
pub use Rattle.decompiled.specs.SourceText.{attributes_text, extension_text, head_text, line_text, literal_text, name_text, pin_text, product_text, q_if}
pub use Rattle.decompiled.specs.SourceText.{sign_text, source_text, sum_text, target_text}
pub use Rattle.decompiled.specs.SourceTrees.{AreLines, ArePins, IsJoined, IsLine, IsLiteral, IsNamed, IsNumber, IsPinLine, IsProduct, IsSigned, IsSourceTree}
pub use Rattle.decompiled.specs.SourceTrees.{IsSum, attributes_in, word}
pub use Rattle.decompiled.specs.Sources.{cell_lines, control_line, control_products, data_line, decompiled_text, enable_lines, first_register, follows_by}
pub use Rattle.decompiled.specs.Sources.{has_lines, is_register_on, lines_of, live_rows, named, named_by, names_pin, pin_line, pins_of, product_names}
pub use Rattle.decompiled.specs.Sources.{SparesPowerDown, product_of, register_on, shared_lines, source_of}
pub use Rattle.decompiled.specs.SumFormulas.{literal_formula, product_formula, sum_formula}
pub use Rattle.decompiled.specs.declared.literal.PinLiteral.{PinLiteral}
pub use Rattle.decompiled.specs.declared.pin_line.PinLine.{PinLine}
pub use Rattle.decompiled.specs.declared.sum_line.SumLine.{SumLine}
pub use Rattle.design_checks.specs.Compared.{cell_enables_so, enables_so, is_compared_of, says_always, says_so}
pub use Rattle.design_checks.specs.Refused.{no_controls, other_levels, refuses, targets_refused}
pub use Rattle.design_checks.specs.RefusedUses.{has_by, has_extension, is_missing, is_unread, missing_uses}
pub use Rattle.design_checks.specs.RefusedUses.{unread_uses}
pub use Rattle.design_checks.specs.SectionUses.{design_uses, is_by_pin, is_cell_by_pin, is_compared, part_uses}
pub use Rattle.design_checks.specs.SignalsRefused.{is_any}
pub use Rattle.design_checks.specs.SignalsRefused.{lacks_by, lacks_control, node_refused, pin_lacks, registered_nodes}
pub use Rattle.design_checks.specs.UsesRefused.{told, told_if}
pub use Rattle.design_checks.specs.Written.{Written, aims_refused, is_written_at, narrow, statement_refused, statements_refused, unwritten, written_if}
pub use Rattle.design_checks.specs.declared.refused.RefusedUse.{RefusedUse}
pub use Rattle.design_checks.specs.declared.rules.Rule.{Rule}
pub use Rattle.device_logic.proofs.Ranges.{preset_if_any, reset_if_any, reset_in}
pub use Rattle.device_logic.specs.CellReads.{cell_reads, data_reads, enable_reads, pairs_read, rest_reads, row_reads_cell}
pub use Rattle.device_logic.specs.ResetPaths.{HasNoResetPath, plain_reads, reset_reads, row_reads_if_any}
pub use Rattle.devices.specs.Models.{model_sound, table_at}
pub use Rattle.equations.specs.StatementUnits.{assign_refused, assigned_aims, assigned_manners, statement_manners, statement_places, statements_places}
pub use Rattle.equations.specs.StatementUnits.{units_of_statement, units_of_statements}
pub use Rattle.fit_plans.specs.Forms.{may_be_inverted_as, names_or, or_is_complement, rows_are_positive}
pub use Rattle.fitter.proofs.WantedIds.{enable_is, found_id, sound_id_at, wanted_is, zero_is, zero_sound}
pub use Rattle.fitter.specs.Plans.{cell_wanted, enable_bit}
pub use Rattle.fitter.specs.Products.{IsSharedProduct}
pub use Rattle.fitter.specs.Width.{IsControlTooWide, IsFunctionTooWide, NoneWide}
pub use Rattle.fitter.specs.declared.shared.SharedControl.TheVariants.{Preset, Reset}
pub use Rattle.gathering.specs.Amounts.{first_data, first_target, target_place}
pub use Rattle.gathering.specs.Placed.{IsControlPlaced, IsPlaced}
pub use Rattle.module_reader.specs.Texts.{IsRead, SpellsModule}
pub use Rattle.netlist_laws.specs.Gathered.{and_cell, by_row, cell_by, cell_of, cells_from, netlist_of, wanted_for}
pub use Rattle.netlist_laws.specs.Takeable.{IsTakeable, NodesAreFew, PinsApart}
pub use Rattle.pld_base.specs.Bits.{is_on, same_level}
pub use Rattle.pld_base.specs.DeviceNames.{device_text, named_device}
pub use Rattle.pld_base.specs.Logic.{Logic}
pub use Rattle.pld_base.specs.Points.{Levels}
pub use Rattle.pld_base.specs.declared.device_name.DeviceName.{DeviceName}
pub use Rattle.pld_base.specs.declared.model.Model.{Model}
pub use Rattle.pld_base.specs.declared.place.Place.{Place}
pub use Rattle.pld_device.proofs.OwnPins.{own_pins}
pub use Rattle.pld_device.specs.Laws.{IsDevice, IsPair, IsSignalPin}
pub use Rattle.pld_device.specs.Macrocells.{complement_if, data_rows, device_logic, pin_complements}
pub use Rattle.pld_device.specs.Pins.{carries_cell, cell_on, is_read_pin, pair_pins, pin_carried}
pub use Rattle.pld_device.specs.Reads.{is_never_true, row_reads}
pub use Rattle.pld_device.specs.Registers.{is_inverted, says, stores, stores_by}
pub use Rattle.pld_device.specs.Rows.{row_fuses}
pub use Rattle.pld_device.specs.Table.{Table, cell_at, no_cell, registered_at}
pub use Rattle.pld_device.specs.declared.carry.Carry.{Carry}
pub use Rattle.pld_device.specs.declared.cell.Cell.{Cell}
pub use Rattle.pld_device.specs.declared.enable.Enable.{Enable}
pub use Rattle.pld_device.specs.declared.enable.Enable.TheVariants.{PinLow, Driven, Released, Row}
pub use Rattle.pld_device.specs.declared.flip.Flip.{Flip}
pub use Rattle.pld_device.specs.declared.flip.Flip.TheVariants.{AfterRegister, Always, BeforeRegister}
pub use Rattle.pld_device.specs.declared.kinds.Kinds.{Kinds}
pub use Rattle.pld_device.specs.declared.kinds.Kinds.TheVariants.{Combinational, Either, Registered}
pub use Rattle.pld_machine.specs.Comparison.{DoesTheSame, HasNoDontCare, IsShownAs, NodeValues}
pub use Rattle.pld_machine.specs.Refines.{HasNoNodes}
pub use Rattle.pld_order.specs.Graphs.{HasNoLoop, HasNoPath, IsChain, has}
pub use Rattle.section_targets.specs.Manners.{differs_from, first_manner, is_against_kind, is_cell_pin, is_output, is_output_kind, is_same_part}
pub use Rattle.section_targets.specs.Manners.{may_be_assigned, mixed, no_output, part_of}
pub use Rattle.section_targets.specs.TargetSignals.{TargetFound, left_side, start_of, target_use}
pub use Rattle.section_targets.specs.Units.{CountedUnit, all_refused, is_past, limit_at, limit_refused, units_nodes, units_refused}
pub use Rattle.section_targets.specs.declared.manner.Manner.{Manner}
pub use Rattle.set_expr.specs.FoundNames.{NameFound, at_name, constants_refused, expression_found, found_after, found_entry, found_kind, found_of}
pub use Rattle.set_expr.specs.FoundNames.{found_refusals, found_use, found_value, is_pulse_kind, name_found, names_found, nothing_found, one_position}
pub use Rattle.set_expr.specs.FoundNames.{refused_there}
pub use Rattle.set_expr.specs.Given.{given, view_contribution, view_gives}
pub use Rattle.set_expr.specs.Refusals.{Found, found_both, found_under, operands_refused, specials_refused, unequal, unless_refused, value_of_both}
pub use Rattle.set_expr.specs.Refusals.{value_or_none}
pub use Rattle.set_expr.specs.declared.contributions.Contribution.{Contribution}
pub use Rattle.set_expr.specs.declared.contributions.Contributions.{Contributions}
pub use Rattle.set_expr.specs.declared.fault.SectionFault.{SectionFault}
pub use Rattle.set_expr.specs.declared.fault.SectionFault.TheVariants.{MisplacedSpecial, MixedAssignment}
pub use Rattle.sop_lowering.specs.Products.{Products, adds_nothing, appended, insert_all, insert_one, insert_products, insert_unions, others, sum_of}
pub use Rattle.sop_lowering.specs.Through.{EachLeaf}
pub use Rattle.sop_lowering.specs.Written.{bit_list, constant_list, leaf_list, list_of, node_list, pair_of, written}
pub use Rattle.source_sections.specs.SectionAnswers.{AreContributed, source_units}
pub use Rattle.source_sections.specs.SectionUnits.{sections_places, units_of_sections}
pub use Rattle.decompiler.specs.Bounds.{IsNoNode, IsShort, StaysBelow, WrittenListsAreShort, bound}
pub use Rattle.decompiler.specs.Compiling.{AreLoadable, AsksForItself, DecompiledTextsAreAccepted, DecompiledTextsAreShort, DecompiledTextsCompile, IsAnswered}
pub use Rattle.decompiler.specs.Designs.{DesignsAreTakeable, DesignsAreUnrefused}
pub use Rattle.decompiler.specs.Held.{ArenasAreThere, IsHeld, all_nodes_of, nodes_of}
pub use Rattle.decompiler.specs.Reading.{IsDecompiled, IsReadAsSource}
pub use Rattle.decompiler.specs.Right.{SourcesAreRight}
pub use Rattle.decompiler.specs.ShortSums.{ReadNoNode, SumsAreShort}
pub use Rattle.decompiler.specs.Steps.{literals_at, pin_if_named}
