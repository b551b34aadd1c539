-- The words of the crates below that the clauses of this crate are said in, passed on from one place. Declares nothing.
pub use Rattle.std.specs.List.{enumerate_from, flat_map, list_any}
pub use Rattle.abel_meaning.specs.Declarations.{are_numbered, is_unnumbered}
pub use Rattle.abel_meaning.specs.Held.{asks_q, is_shared, part_shares, read_names, sections_parts}
pub use Rattle.abel_meaning.specs.Kinds.{is_buffer, is_open, is_registered, names_of, settled_words, with_assigned}
pub use Rattle.abel_tree.specs.Assigned.{Assigned, is_clocked, target_extension, without_extension}
pub use Rattle.abel_tree.specs.Entries.{AConstant, ADeviceName, ANode, APin, Entry, Kind, Words, entries_of, find, follows_q, is_signal, is_stored}
pub use Rattle.abel_tree.specs.Entries.{view_attributes, view_declared, view_meaning}
pub use Rattle.abel_tree.specs.SoundNames.{IsNamed, IsSoundKind, SoundNames}
pub use Rattle.abel_tree.specs.Tree.{SectionTree, Tree}
pub use Rattle.abel_tree.specs.View.{view, view_module}
pub use Rattle.decls.specs.NameRefusals.{always_inverts, first_name_refusal, name_refusals}
pub use Rattle.decls.specs.declared.fault.NameFault.{NameFault}
pub use Rattle.name_uses.specs.Viewed.{PartedSection, view_part, view_use, with_parts}
pub use Rattle.pld_device.specs.Table.{Table}
