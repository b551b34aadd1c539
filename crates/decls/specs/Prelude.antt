-- The words of the crates below that the clauses of this crate are said in, passed on from one place. Declares nothing.
pub use Rattle.std.specs.List.{list_all, list_any, range_with_len}
pub use Rattle.std.specs.Str.{str_to_ascii_lowercase}
pub use Rattle.abel_meaning.specs.Declarations.{GivenName, all_said, declared, entry, given_names, has_word, no_words, parts_words, said_by_either, said_words}
pub use Rattle.abel_meaning.specs.Declarations.{section_declarations, words_of}
pub use Rattle.abel_tree.specs.Entries.{AConstant, ADeviceName, ANode, APin, Entry, Kind, Words, find, is_signal, is_value, kind_of, names_any, view_attributes}
pub use Rattle.abel_tree.specs.Entries.{view_declared, view_meaning}
pub use Rattle.abel_tree.specs.FirstRefusal.{Ranks, first_refusal, sooner}
pub use Rattle.abel_tree.specs.Ranges.{count_numbers, ends_agree, is_bad, item_names, names_between, numbers_of, span_count, span_numbers}
pub use Rattle.abel_tree.specs.Tree.{ADevice, Declaration, Declarations, DontCareFor, ModuleTree, SectionTree, SomeAttributes, SomeConstants, SomeNodes}
pub use Rattle.abel_tree.specs.Tree.{SomeOptions, SomePins, Tree}
pub use Rattle.abel_tree.specs.Uses.{OneName, Range, Use, all_uses, section_uses}
pub use Rattle.abel_tree.specs.View.{view, view_decl, view_module, view_section}
pub use Rattle.abel_tree.specs.declared.words.Item.{Item}
pub use Rattle.abel_tree.specs.declared.words.Word.{Word}
pub use Rattle.name_uses.specs.RangeParts.{name_items, number_at}
pub use Rattle.name_uses.specs.Viewed.{PartedSection, view_part, view_section_parts, view_use}
pub use Rattle.pld_base.specs.declared.place.Place.{Place}
pub use Rattle.pld_device.specs.Table.{Table}
