-- The words of the crates below that the clauses of this crate are said in, passed on from one place. Declares nothing.
pub use Rattle.abel_grammar.specs.DeclarationReaders.{bare_item, bare_names, decl_starts, only_name, read_constants, read_device, read_values_for}
unfoldable pub use Rattle.abel_grammar.specs.DeclarationReaders.{read_decl, read_declared, read_dont_care_decl, read_istype, read_item, read_kept, read_names}
unfoldable pub use Rattle.abel_grammar.specs.DeclarationReaders.{read_naming, read_num, read_nums, read_option, read_option_decl, read_other_decl, read_texts}
pub use Rattle.abel_grammar.specs.DiagramReaders.{read_choices, trans_starts}
unfoldable pub use Rattle.abel_grammar.specs.DiagramReaders.{read_arm, read_braced, read_case, read_choice, read_diagram, read_goal, read_goal_arm, read_goto}
unfoldable pub use Rattle.abel_grammar.specs.DiagramReaders.{read_if, read_leading, read_listed, read_state, read_trans, read_with_part}
pub use Rattle.abel_grammar.specs.ExpressionReaders.{read_expr}
pub use Rattle.abel_grammar.specs.Further.{read_times, read_unless}
pub use Rattle.abel_grammar.specs.Gives.{Gives}
pub use Rattle.abel_grammar.specs.ModuleReaders.{read_body, read_ending}
unfoldable pub use Rattle.abel_grammar.specs.ModuleReaders.{read_declarations, read_dont_care_section, read_equations, read_first_decls, read_options}
unfoldable pub use Rattle.abel_grammar.specs.ModuleReaders.{read_proper, read_sections, read_source, read_title}
pub use Rattle.abel_grammar.specs.Reading.{read_followed, read_made, read_optional, read_repeated, read_token, ◌then_read◌}
pub use Rattle.abel_grammar.specs.StatementReaders.{read_stmts}
unfoldable pub use Rattle.abel_grammar.specs.StatementReaders.{read_assign, read_bare_target, read_complemented_at, read_dont_care_stmt, read_group}
unfoldable pub use Rattle.abel_grammar.specs.StatementReaders.{read_plain_stmt, read_stmt, read_target, read_when}
pub use Rattle.abel_grammar.specs.Statements.{is_open, sign_of_terminal}
pub use Rattle.abel_grammar.specs.TableReaders.{read_header, read_row, read_rows, read_vector_header, read_vector_row, read_vector_rows}
unfoldable pub use Rattle.abel_grammar.specs.TableReaders.{read_table, read_vectors}
pub use Rattle.abel_grammar.specs.Terminals.{among}
pub use Rattle.abel_grammar.specs.WordReaders.{read_one}
unfoldable pub use Rattle.abel_grammar.specs.WordReaders.{read_text}
pub use Rattle.abel_tree.specs.Tree.{ACase, AWhen, AnIf, choices_of, other_of, otherwise_of}
pub use Rattle.abel_tree.specs.View.{view, view_arm, view_choice, view_decl, view_module, view_row, view_section, view_state, view_stmt, view_vector_row}
