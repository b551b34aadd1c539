-- The words that the proofs of this crate are said in, passed on from one place. Declares nothing.
pub use Rattle.std.proofs.lemmas.Bool.{and_from, and_parts, cases_Bool, cases_lt, eqb-true, not-true, or_cases, true≢false}
pub use Rattle.std.proofs.lemmas.List.{append_assoc, take-append-drop, take-take}
pub use Rattle.abel_expand.specs.Runs.{IsExpanded, IsRefusal, after, turned}
pub use Rattle.abel_grammar.proofs.Forms.{Lies, Takes, takes_before, takes_behind, takes_token}
pub use Rattle.abel_grammar.specs.Form.{BeginsToken, Form, SpellsList, SpellsOption, chain, either, followed, given, made, nothing, optional, repeated}
pub use Rattle.abel_grammar.specs.Form.{separated, token, ◌then◌}
pub use Rattle.abel_grammar.specs.Modules.{takes_dont_care}
unfoldable pub use Rattle.abel_grammar.specs.Modules.{declarations, dont_care_section, equations, first_decls, options, proper, sections, source, title}
pub use Rattle.abel_grammar.specs.Verdict.{Spells, SpellsWhole, SyntaxAt, TooDeepAt}
pub use Rattle.abel_grammar.specs.Words.{end, ext, one}
unfoldable pub use Rattle.abel_grammar.specs.Words.{dont_care, name, number, text}
pub use Rattle.abel_grammar.specs.declared.terminal.Terminal.{Terminal}
pub use Rattle.abel_grammar.specs.declared.terminal.Terminal.TheVariants.{BraceClose, BraceOpen, Case, Close, Colon, Comma, Declarations, Device, DontCare}
pub use Rattle.abel_grammar.specs.declared.terminal.Terminal.TheVariants.{Else, End, Endcase, Endwith, Equal, Equations, Extension, Goto, Identifier, If}
pub use Rattle.abel_grammar.specs.declared.terminal.Terminal.TheVariants.{Istype, Left, Module, Node, Not, Number, Open, Pin, Range, Right, Semicolon, Special}
pub use Rattle.abel_grammar.specs.declared.terminal.Terminal.TheVariants.{State, StateDiagram, TestVectors, Text, Then, Title, TruthTable, When, With}
pub use Rattle.abel_lexer.specs.Scans.{AreOnlyTokens, IsFirstFault, IsTokensOf, Leads, Lexeme, Radix, Remainder, Shown, first_place, place_past, tokens_among}
pub use Rattle.abel_lexer.specs.Scans.{whole}
pub use Rattle.abel_lexer.specs.declared.fault.ScanFault.{ScanFault}
pub use Rattle.abel_lexer.specs.declared.token.Token.{Token}
pub use Rattle.abel_macros.specs.Rules.{BadDirective, Cause, Done, ExpansionLimit, Move, Tables, TooLong, Unsupported, move}
pub use Rattle.abel_macros.specs.Turns.{Config, moved, turn}
pub use Rattle.abel_parser.specs.Refusals.{IsParsed, IsRefused, place_at}
pub use Rattle.abel_parser.specs.declared.fault.ParseFault.{ParseFault}
pub use Rattle.abel_tree.specs.Tree.{Branch, ModuleTree, RowTree, Statement, Tree}
pub use Rattle.abel_tree.specs.declared.words.Word.{Word}
pub use Rattle.pld_base.specs.declared.place.Place.{Place}
pub use Rattle.module_reader.specs.Texts.{HasTokens, IsNotParsed, IsNotScanned, SpellsModule}
