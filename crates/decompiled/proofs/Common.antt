-- The words that the proofs of this crate are said in, passed on from one place. Declares nothing.
pub use Rattle.std.proofs.lemmas.Bool.{and_parts, cases_Bool, cases_lt, eq-eqb, eqb-true, not-true, or_cases, or_right, true≢false}
pub use Rattle.std.proofs.lemmas.List.{drop_at, get_or_past, length-take, length-take-le, take_at}
pub use Rattle.std.proofs.lemmas.List.Folds.{list_any-append}
pub use Rattle.std.proofs.lemmas.Option.{get_or_from_slice_get, slice_get-get_or, slice_get-map, slice_get_within}
pub use Rattle.std.specs.Char.{is_ascii_alphanumeric, is_ascii_digit}
pub use Rattle.std.specs.Fmt.{decimal}
unfoldable pub use Rattle.std.specs.Fmt.{digits}
pub use Rattle.std.specs.List.{AllByRecursion, find, list_all, list_any, prefix_len, range_with_len}
pub use Rattle.std.specs.Option.{option_map}
pub use Rattle.std.specs.Str.{str_eq_ignore_ascii_case}
pub use Rattle.abel_expand.specs.Runs.{IsExpanded, after, turned}
pub use Rattle.abel_grammar.specs.Form.{Form, SpellsList, grouped, token, ◌then◌}
pub use Rattle.abel_grammar.specs.Terminals.{among}
unfoldable pub use Rattle.abel_grammar.specs.Terminals.{terminal_of}
pub use Rattle.abel_grammar.specs.Words.{extension_of, numeral_of}
unfoldable pub use Rattle.abel_grammar.specs.Words.{number as a_number, name, text}
pub use Rattle.abel_lexer.proofs.FirstBytes.{begins_dark, in_range}
pub use Rattle.abel_lexer.proofs.Munches.{Munches, shape_ends, shaped_munches}
pub use Rattle.abel_lexer.specs.Bytes.{is_blank, is_name_first, is_name_later, note_mark, quote, slash, starts}
unfoldable pub use Rattle.abel_lexer.specs.Keywords.{is_keyword, is_left_out}
pub use Rattle.abel_lexer.specs.Kinds.{IsToken, IsWord, word_head}
pub use Rattle.abel_lexer.specs.Lengths.{larger, longer, quoted_len, shaped_len, word_kind}
unfoldable pub use Rattle.abel_lexer.specs.Lengths.{longest_at, longest_word}
pub use Rattle.abel_lexer.specs.Numbers.{is_good_number, number_value}
pub use Rattle.abel_lexer.specs.Scans.{IsLongest, IsTokensOf, Leads, Remainder, Shown, first_place, place_past, tokens_among}
pub use Rattle.abel_lexer.specs.declared.token.Token.{Token}
pub use Rattle.abel_lexer.specs.declared.token.TokenKind.{TokenKind}
pub use Rattle.abel_macros.specs.Gaps.{before, behind_some, comment, gap, given, starts_byte, string_len}
pub use Rattle.abel_macros.specs.Rules.{Cause, Done, Move, behind_directive, directed, directive_of, macro_word, move, token_len}
pub use Rattle.abel_macros.specs.Turns.{Config, moved, nothing_defined, turn}
pub use Rattle.abel_meaning.specs.Choices.{inverting, is_free, is_free_signal}
pub use Rattle.abel_meaning.specs.Contributions.{Any, Contribution, Guard, One}
pub use Rattle.abel_meaning.specs.Controls.{control_by, control_if_stored, control_of, is_control, is_on_pin, is_the_control, shared_from, signal_on}
pub use Rattle.abel_meaning.specs.Declarations.{all_said, declared, declared_names, entry, no_words}
pub use Rattle.abel_meaning.specs.Designs.{Context, Design, design_of, name_at, no_name}
pub use Rattle.abel_meaning.specs.FormulaBits.{bits_of, formulas, make_source, met_by, met_word, operator_word}
pub use Rattle.abel_meaning.specs.Functions.{Function, allows, any_of, both_function, function_of, gives_some, is_both, is_complement, is_data_in, is_data_to}
pub use Rattle.abel_meaning.specs.Functions.{is_free_elsewhere, is_raw_signal, same_gives, single_function, some_holds}
pub use Rattle.abel_meaning.specs.Held.{Holds, holds_of}
pub use Rattle.abel_meaning.specs.Kinds.{names_of, with_kind, with_kinds}
pub use Rattle.abel_meaning.specs.NetlistLogic.{drives, may_drive, may_store, netlist_logic, netlist_stores, netlist_values, registers_as}
pub use Rattle.abel_meaning.specs.Netlists.{PlainNetlist, Wanted, as_named, function_at, node_at, own_of, own_or_shared, shared_function, wanted_at}
pub use Rattle.abel_meaning.specs.Sections.{section_gives, sections_give, unguarded}
pub use Rattle.abel_meaning.specs.SignalReads.{given_formulas}
pub use Rattle.abel_meaning.specs.SourceLogic.{is_negated, is_node_number, node_signal, source_logic, source_values}
pub use Rattle.abel_meaning.specs.Sources.{LeafRead, Source, on_pin, source_of as read_of, register_source, source_by}
pub use Rattle.abel_meaning.specs.Terms.{BinaryOf, Known, Read, Read as ReadTerm, Term, UnaryOf, extended_if, known_after, known_of, term_meant, term_named}
pub use Rattle.abel_meaning.specs.Terms.{term_of}
pub use Rattle.abel_tree.specs.Assigned.{Assigned, Named, assigned_by, is_assigned, is_clocked_target, list_assigns, named_of, sections_assign, signals_of_name}
pub use Rattle.abel_tree.specs.Assigned.{statement_assigns}
pub use Rattle.abel_tree.specs.Entries.{ADeviceName, APin, Entry, Kind, Words, follows_q, is_stored}
pub use Rattle.abel_tree.specs.Extensions.{is_data, is_raw}
pub use Rattle.abel_tree.specs.Tree.{ABinary, ADevice, AName, ANumber, AUnary, AnAssign, Declaration, Equations, ModuleTree, SectionTree, SomePins, Statement}
pub use Rattle.abel_tree.specs.Tree.{Tree, statements_of}
pub use Rattle.abel_tree.specs.declared.words.Extension.{Extension}
pub use Rattle.abel_tree.specs.declared.words.Number.{Number}
unfoldable pub use Rattle.bit_expr.specs.Folding.{make_and, make_not, make_or}
pub use Rattle.bit_expr.specs.Formulas.{Const, Formula, Not, formula_value, leaf_value}
pub use Rattle.bit_expr.specs.declared.node.Leaf.{Leaf}
pub use Rattle.netlist_laws.proofs.CellsFound.{is_cell, is_cell_on, wanted_found}
pub use Rattle.netlist_laws.specs.Gathered.{by_row, cell_by, cell_of, netlist_of, wanted_for}
pub use Rattle.pld_base.specs.Bits.{is_on, same_level}
unfoldable pub use Rattle.pld_base.specs.Bits.{bits}
pub use Rattle.pld_base.specs.DeviceNames.{device_text}
pub use Rattle.pld_base.specs.Logic.{Logic}
pub use Rattle.pld_base.specs.Points.{Levels}
pub use Rattle.pld_base.specs.declared.place.Place.{Place}
pub use Rattle.pld_device.proofs.OwnPins.{own_pins}
pub use Rattle.pld_device.specs.Laws.{IsDevice, IsPair, IsSignalPin}
pub use Rattle.pld_device.specs.Macrocells.{complement_if, data_complements, data_rows, device_logic, enabled_by, is_enabled, next_q, or_value, pin_complements}
pub use Rattle.pld_device.specs.Macrocells.{pin_level, row_if_any}
pub use Rattle.pld_device.specs.Pins.{cell_on}
pub use Rattle.pld_device.specs.Reads.{connected_pairs, has_whole_pair, is_never_true, row_reads}
pub use Rattle.pld_device.specs.Registers.{is_inverted, says, stores, stores_by}
pub use Rattle.pld_device.specs.Rows.{carried, columns_of, is_switched_on, pair_values, row_fuses, row_is_true, row_value}
pub use Rattle.pld_device.specs.Table.{Table, cell_at, no_cell, registered_at}
pub use Rattle.pld_device.specs.declared.carry.Carry.{Carry}
pub use Rattle.pld_device.specs.declared.cell.Cell.{Cell}
pub use Rattle.pld_device.specs.declared.enable.Enable.{Enable}
pub use Rattle.pld_device.specs.declared.enable.Enable.TheVariants.{PinLow, Driven, Released, Row}
pub use Rattle.pld_device.specs.declared.flip.Flip.{Flip}
pub use Rattle.pld_machine.specs.Comparison.{AllowsOne, DoesTheSame, HasNoDontCare, IsValuedOf, NodeValues, ValuesOnce}
pub use Rattle.pld_machine.specs.Refines.{RefinesValued, SameValues, Refines}
pub use Rattle.pld_machine.specs.Steps.{IsDetermined}
pub use Rattle.decompiled.specs.Alike.{AreAlike, IsCellAsked, IsFusesNetlist, LogicsAreAlike, enable_formula, shared_formula}
pub use Rattle.decompiled.specs.LineGives.{IsKnownLine, LinesGive, OneLineIsAFunction, is_control_line, is_data_line, line_gives}
pub use Rattle.decompiled.specs.OwnLines.{CellsHaveTheirLines, HasOwnLines, IsOwnSignal}
pub use Rattle.decompiled.specs.Pieces.{Piece, place_behind, place_in, text_of, token_at, tokens_from}
pub use Rattle.decompiled.specs.PinNames.{ArePinEntries, ArePinsApart, PinsAreDeclared, PinsAreKnown, said}
pub use Rattle.decompiled.specs.Plain.{ArePlain, IsApart, IsPlainPiece, PlainTextsExpandToThemselves, PlainTextsHaveTheirTokens, is_marked, is_text_kind}
pub use Rattle.decompiled.specs.Plain.{is_word_kind}
pub use Rattle.decompiled.specs.RowLiterals.{ColumnLiteral, RowsAreProducts, RowsReadLiterals, if_intact, literal, literal_value, literals_of, row_literals}
pub use Rattle.decompiled.specs.RowLiterals.{some_read}
pub use Rattle.decompiled.specs.RowSums.{HasRowSizes, ReadsPairs, SumsHaveRows, pair_leaf}
pub use Rattle.decompiled.specs.Signals.{leaf_of, place_of, signal_of}
pub use Rattle.decompiled.specs.SourcePieces.{attribute_pieces, extension, extension as extension_piece, extension_pieces, feed, further, identifier, keyword}
pub use Rattle.decompiled.specs.SourcePieces.{line_pieces, lines_pieces, literal_pieces, name_pieces, none, number, number as number_piece, pin_pieces}
pub use Rattle.decompiled.specs.SourcePieces.{pins_pieces, product_pieces, sign, source_pieces, space, string, sum_pieces}
pub use Rattle.decompiled.specs.SourceText.{attributes_text, extension_text, line_text, literal_text, name_text, pin_text, product_text, q_if, sign_text}
pub use Rattle.decompiled.specs.SourceText.{source_text, sum_text}
pub use Rattle.decompiled.specs.SourceTrees.{AreLines, ArePins, IsJoined, IsLine, IsLiteral, IsNamed, IsNumber, IsPinLine, IsProduct, IsSigned, IsSourceTree}
pub use Rattle.decompiled.specs.SourceTrees.{IsSum, attributes_in, word}
pub use Rattle.decompiled.specs.Sources.{cell_lines, control_line, control_products, data_line, enable_lines, first_register, follows_by, has_lines}
pub use Rattle.decompiled.specs.Sources.{is_register_on, lines_of, live_rows, named, named_by, names_pin, pin_line, pins_of, product_names, product_of}
pub use Rattle.decompiled.specs.Sources.{register_on, shared_lines, source_of}
pub use Rattle.decompiled.specs.SumFormulas.{ReadsLeaf, SumsHaveFormulas, literal_formula, product_formula, sum_formula}
pub use Rattle.decompiled.specs.declared.literal.PinLiteral.{PinLiteral}
pub use Rattle.decompiled.specs.declared.pin_line.PinLine.{PinLine}
pub use Rattle.decompiled.specs.declared.source.PinSource.{PinSource}
pub use Rattle.decompiled.specs.declared.sum_line.SumLine.{SumLine}
