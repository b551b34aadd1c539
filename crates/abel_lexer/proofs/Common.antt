-- The words that the proofs of this crate are said in, passed on from one place. Declares nothing.
pub use Rattle.std.proofs.lemmas.Bool.{eqb-true, leb-true, ltb-false, ltb-true}
pub use Rattle.std.proofs.lemmas.List.{drop_at, length-take, take-append-drop, take_all, take_at}
pub use Rattle.std.specs.Char.{digit_value, is_ascii_alphabetic, is_ascii_alphanumeric, is_ascii_digit, is_digit, to_ascii_lowercase}
pub use Rattle.std.specs.Int.{is_in_range}
pub use Rattle.std.specs.List.{AllByRecursion, concat, list_all, list_any, prefix_len, starts_with}
pub use Rattle.std.specs.Str.{bytes_eq, str_eq_ignore_ascii_case, str_to_ascii_lowercase}
pub use Rattle.std.specs.Str.Parse.{digits_value, digits_value_after}
pub use Rattle.pld_base.specs.declared.place.Place.{Place}
pub use Rattle.abel_lexer.specs.Bytes.{backslash, caret, dot, is_blank, is_letter, is_name_first, is_name_later, is_radix_letter, quote, starts}
pub use Rattle.abel_lexer.specs.Keywords.{is_listed}
unfoldable pub use Rattle.abel_lexer.specs.Keywords.{is_keyword}
pub use Rattle.abel_lexer.specs.Kinds.{IsPiece, IsQuoted, IsShaped, IsToken, IsWord, directives, extension_head, fault_of, letter_special, marked_head, no_byte}
pub use Rattle.abel_lexer.specs.Kinds.{number_head, value_of, voltage_special}
pub use Rattle.abel_lexer.specs.Lengths.{behind_blanks, behind_semicolon, directive_len, larger, listed_len, longer, number_len, quote_end, quoted_len}
pub use Rattle.abel_lexer.specs.Lengths.{shaped_end, shaped_len, special_len, word_at, word_kind}
unfoldable pub use Rattle.abel_lexer.specs.Lengths.{behind_radix_word, known_radix, longest_at, longest_word, radix_at, radix_set}
pub use Rattle.abel_lexer.specs.Numbers.{are_good_digits, is_good_number, is_radix, number_value}
pub use Rattle.abel_lexer.specs.Remainders.{IsFaultAt, IsTokenAt, remainder}
pub use Rattle.abel_lexer.specs.Scans.{AreOnlyTokens, Faults, IsFirstFault, IsFront, IsLongest, IsOnlyFault, IsRadixForm, IsTokensOf, Leads, Lexeme, Passes}
pub use Rattle.abel_lexer.specs.Scans.{Radix, Remainder, Shown, place_past, tokens_among, whole}
pub use Rattle.abel_lexer.specs.Signs.{is_sign, signs}
pub use Rattle.abel_lexer.specs.declared.fault.ScanFault.{ScanFault}
pub use Rattle.abel_lexer.specs.declared.fault.ScanFault.TheVariants.{OutOfMemory}
pub use Rattle.abel_lexer.specs.declared.token.Token.{Token}
pub use Rattle.abel_lexer.specs.declared.token.TokenKind.{TokenKind}
