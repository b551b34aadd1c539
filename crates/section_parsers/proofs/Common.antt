-- The words that the proofs of this crate are said in, passed on from one place. Declares nothing.
pub use Rattle.std.proofs.lemmas.Bool.Decides.{nat_tests}
pub use Rattle.std.proofs.lemmas.List.{map-append, map_push}
pub use Rattle.abel_grammar.proofs.JoinedTurns.{lists_turn, with_lists}
pub use Rattle.abel_grammar.proofs.ListTurns.{list_turn, with_front}
pub use Rattle.abel_grammar.proofs.SeparatedTurns.{separated_shorter, separated_turn}
pub use Rattle.abel_grammar.proofs.Shorter.{choice_shorter, decl_shorter, dont_care_section_shorter, item_shorter, num_shorter, option_shorter, row_shorter}
pub use Rattle.abel_grammar.proofs.Shorter.{section_group_shorter, state_shorter, stmt_shorter, text_shorter, trans_shorter, vector_row_shorter}
pub use Rattle.abel_grammar.specs.DeclarationReaders.{bare_names, decl_starts}
unfoldable pub use Rattle.abel_grammar.specs.DeclarationReaders.{read_decl, read_item, read_names, read_num, read_nums, read_option, read_texts}
pub use Rattle.abel_grammar.specs.Declarations.{option_words, value_of}
pub use Rattle.abel_grammar.specs.DiagramReaders.{read_choices, trans_starts}
unfoldable pub use Rattle.abel_grammar.specs.DiagramReaders.{read_arm, read_choice, read_state, read_trans}
pub use Rattle.abel_grammar.specs.ExpressionReaders.{read_expr}
pub use Rattle.abel_grammar.specs.Further.{read_times}
pub use Rattle.abel_grammar.specs.ModuleReaders.{proper_starts, read_section_group}
unfoldable pub use Rattle.abel_grammar.specs.ModuleReaders.{read_dont_care_section, read_options, read_sections}
pub use Rattle.abel_grammar.specs.Reading.{Stop, Syntax, TooDeep, read_made, read_repeated, ◌then_read◌}
pub use Rattle.abel_grammar.specs.StatementReaders.{read_stmts, stmt_starts}
unfoldable pub use Rattle.abel_grammar.specs.StatementReaders.{read_stmt}
pub use Rattle.abel_grammar.specs.TableReaders.{expr_starts, read_row, read_rows, read_vector_row, read_vector_rows}
pub use Rattle.abel_grammar.specs.Terminals.{among}
pub use Rattle.abel_grammar.specs.WordReaders.{read_one}
unfoldable pub use Rattle.abel_grammar.specs.WordReaders.{read_text}
pub use Rattle.abel_tree.specs.Tree.{AWhen, AnIf, other_of, otherwise_of}
pub use Rattle.abel_tree.specs.View.{view, view_arm, view_choice, view_decl, view_row, view_section, view_state, view_stmt, view_vector_row}
pub use Rattle.abel_tree.specs.declared.diagrams.Arm.{Arm, the_lemmas}
pub use Rattle.abel_tree.specs.declared.expressions.Expr.{Expr}
pub use Rattle.pld_base.specs.declared.place.Place.{Place}
