-- The words that the proofs of this crate are said in, passed on from one place. Declares nothing.
pub use Rattle.std.proofs.lemmas.List.{append-nil, append_assoc, take_at}
pub use Rattle.std.proofs.lemmas.List.Elements.{All-append, All-cons, All-head, All-nil, All-tail, All-weaker}
pub use Rattle.std.specs.List.{All, flat_map}
pub use Rattle.abel_lexer.specs.declared.token.Token.{Token}
pub use Rattle.abel_tree.specs.Tree.{ABinary, ABranch, ADontCare, AGoal, AName, ANumber, AnAssign, AnIf, Branch, Declaration, DontCareFor, DontCareSection}
pub use Rattle.abel_tree.specs.Tree.{ModuleTree, OneMember, RowTree, SectionTree, SetMember, SomeOptions, SomeVectors, StateTree, Statement, Tree, choices_of}
pub use Rattle.abel_tree.specs.Tree.{members_of, other_of, otherwise_of, statements_of}
pub use Rattle.abel_tree.specs.declared.words.Item.{Item}
pub use Rattle.abel_tree.specs.declared.words.Span.{Span}
pub use Rattle.abel_tree.specs.declared.words.Word.{Word}
pub use Rattle.pld_base.specs.declared.place.Place.{Place}
pub use Rattle.abel_grammar.specs.DeclarationReaders.{bare_item, bare_names, decl_starts, declared_in, naming_starts, only_name, other_starts, read_constants}
pub use Rattle.abel_grammar.specs.DeclarationReaders.{read_device, read_values_for}
unfoldable pub use Rattle.abel_grammar.specs.DeclarationReaders.{read_decl, read_declared, read_dont_care_decl, read_istype, read_item, read_kept, read_names}
unfoldable pub use Rattle.abel_grammar.specs.DeclarationReaders.{read_naming, read_num, read_nums, read_option, read_option_decl, read_other_decl, read_texts}
pub use Rattle.abel_grammar.specs.Declarations.{Kept, attributes_in, attributes_of, constants_of, device_of, item_of, kept, nodes_of, option_words, options_in}
pub use Rattle.abel_grammar.specs.Declarations.{pins_of, span_of, value_of, values_for}
unfoldable pub use Rattle.abel_grammar.specs.Declarations.{attributes, constants, decl, device, dont_care_decl, istype, item, names, naming, nodes, num, nums}
unfoldable pub use Rattle.abel_grammar.specs.Declarations.{option, option_decl, other_decl, pins, texts}
pub use Rattle.abel_grammar.specs.DiagramReaders.{Ended, branch_in, case_ended_of, choice_ended_of, goal_starts, if_ended_of, read_allowed, read_choices}
pub use Rattle.abel_grammar.specs.DiagramReaders.{trans_starts}
unfoldable pub use Rattle.abel_grammar.specs.DiagramReaders.{read_arm, read_braced, read_case, read_choice, read_diagram, read_goal, read_goal_arm, read_goto}
unfoldable pub use Rattle.abel_grammar.specs.DiagramReaders.{read_if, read_leading, read_listed, read_state, read_trans, read_with_part}
pub use Rattle.abel_grammar.specs.Diagrams.{behind_goto, behind_word, braced_of, case_of, diagram_of, else_in, ending, goal_of, if_of, is_closed, is_open_arm}
pub use Rattle.abel_grammar.specs.Diagrams.{listed_of, state_of, trans_of, with_of}
unfoldable pub use Rattle.abel_grammar.specs.Diagrams.{arm, braced, case_form, choice, diagram, goal, goal_arm, if_form, leading, listed, state, trans}
unfoldable pub use Rattle.abel_grammar.specs.Diagrams.{with_part}
pub use Rattle.abel_grammar.specs.ExpressionReaders.{read_expr, read_level, read_link}
unfoldable pub use Rattle.abel_grammar.specs.ExpressionReaders.{read_expr_over, read_member, read_name_tree, read_negated, read_number_tree, read_operand}
unfoldable pub use Rattle.abel_grammar.specs.ExpressionReaders.{read_paren, read_set, read_set_at, read_simple, read_span_member, read_special}
pub use Rattle.abel_grammar.specs.Expressions.{expr, joined, level, member, name_tree_of, negated_of, negations, paren_of, products, relations, set_of, simple}
pub use Rattle.abel_grammar.specs.Expressions.{span_member_of, special_of, sums}
unfoldable pub use Rattle.abel_grammar.specs.Expressions.{expr_over, name_tree, negated, number_tree, operand, paren, set, set_at, span_member, special}
pub use Rattle.abel_grammar.specs.Form.{BeginsToken, Form, SpellsList, SpellsOption, chain, either, entries_of, followed, given, grouped, made, nothing}
pub use Rattle.abel_grammar.specs.Form.{optional, repeated, separated, token, ◌then◌}
pub use Rattle.abel_grammar.specs.Further.{flatten, placed, read_nothing, read_picked, read_placed, read_times, read_unless, starts_two, times, unless}
pub use Rattle.abel_grammar.specs.ModuleReaders.{proper_starts, read_section_group}
unfoldable pub use Rattle.abel_grammar.specs.ModuleReaders.{read_declarations, read_dont_care_section, read_equations, read_first_decls, read_options}
unfoldable pub use Rattle.abel_grammar.specs.ModuleReaders.{read_proper, read_sections, read_source, read_title}
pub use Rattle.abel_grammar.specs.Modules.{declarations_of, decls_of, equations_of, is_empty, last_is_bare, module_of, section_group_of, takes_dont_care}
pub use Rattle.abel_grammar.specs.Modules.{title_of}
unfoldable pub use Rattle.abel_grammar.specs.Modules.{declarations, dont_care_section, equations, first_decls, options, proper, sections, source, title}
pub use Rattle.abel_grammar.specs.Order.{Along, IsBefore, SectionsRise, TokensRise}
pub use Rattle.abel_grammar.specs.Places.{places_of_branch, places_of_choices, places_of_decl, places_of_dont_care, places_of_else, places_of_expr}
pub use Rattle.abel_grammar.specs.Places.{places_of_item, places_of_member, places_of_members, places_of_module, places_of_number, places_of_other}
pub use Rattle.abel_grammar.specs.Places.{places_of_row, places_of_section, places_of_some, places_of_span, places_of_state, places_of_stmt, places_of_stmts}
pub use Rattle.abel_grammar.specs.Places.{places_of_word}
pub use Rattle.abel_grammar.specs.Reading.{Reader, Stop, Syntax, TooDeep, behind, left_of, read_chain, read_deep, read_either, read_followed, read_given}
pub use Rattle.abel_grammar.specs.Reading.{read_made, read_many, read_optional, read_repeated, read_separated, read_token, starts, ◌>>=◌, ◌then_read◌}
pub use Rattle.abel_grammar.specs.StatementReaders.{assign_starts, plain_starts, read_stmts, stmt_starts}
unfoldable pub use Rattle.abel_grammar.specs.StatementReaders.{read_assign, read_bare_target, read_complemented_at, read_dont_care_stmt, read_group}
unfoldable pub use Rattle.abel_grammar.specs.StatementReaders.{read_plain_stmt, read_stmt, read_target, read_when}
pub use Rattle.abel_grammar.specs.Statements.{assign_of, assigns, bare_target, complemented_of, group_of, is_open, plain_of, when_of}
unfoldable pub use Rattle.abel_grammar.specs.Statements.{assign, complemented_at, dont_care_stmt, group, plain_stmt, stmt, target, when}
pub use Rattle.abel_grammar.specs.TableReaders.{read_header, read_row, read_rows, read_vector_header, read_vector_row, read_vector_rows}
unfoldable pub use Rattle.abel_grammar.specs.TableReaders.{read_header_as, read_row_as, read_table, read_vectors}
pub use Rattle.abel_grammar.specs.Tables.{arrows, header, plain_arrow, row, row_of, table_of, vector_header, vector_row, vector_row_of, vectors_of}
unfoldable pub use Rattle.abel_grammar.specs.Tables.{header_as, row_as, table, vectors}
pub use Rattle.abel_grammar.specs.Terminals.{among, look_up, number_of}
unfoldable pub use Rattle.abel_grammar.specs.Terminals.{terminal_of}
pub use Rattle.abel_grammar.specs.Verdict.{Begins, Spells, SpellsWhole, SyntaxAt, TooDeepAt}
pub use Rattle.abel_grammar.specs.WordReaders.{read_apart_by, read_end, read_ext, read_one}
unfoldable pub use Rattle.abel_grammar.specs.WordReaders.{read_dont_care, read_name, read_number, read_text}
pub use Rattle.abel_grammar.specs.Words.{dont_care_of, each_apart_by, end, ext, numeral_of, one, word_of}
unfoldable pub use Rattle.abel_grammar.specs.Words.{dont_care, name, number, text}
pub use Rattle.abel_grammar.specs.declared.terminal.Terminal.{Terminal}
pub use Rattle.abel_grammar.specs.declared.terminal.Terminal.TheVariants.{BraceClose, BraceOpen, Case, Close, Colon, Comma, Declarations, Device, DontCare}
pub use Rattle.abel_grammar.specs.declared.terminal.Terminal.TheVariants.{Else, End, Endcase, Endwith, Equal, Equations, Extension, Flag, Goto, Identifier, If}
pub use Rattle.abel_grammar.specs.declared.terminal.Terminal.TheVariants.{Istype, Left, Minus, Module, Node, Not, Number, Open, Options, Pin, Range, Right}
pub use Rattle.abel_grammar.specs.declared.terminal.Terminal.TheVariants.{Semicolon, Special, State, StateDiagram, TestVectors, Text, Then, Title, TruthTable}
pub use Rattle.abel_grammar.specs.declared.terminal.Terminal.TheVariants.{When, With}
