-- The words that the proofs of this crate are said in, passed on from one place. Declares nothing.
pub use Rattle.std.proofs.Math.Seq.{drop-append_seam, drop-cons}
pub use Rattle.std.proofs.lemmas.Bool.{and_parts, cases_Bool, cases_eq, cases_lt, or_cases, or_left, or_right, true≢false}
pub use Rattle.std.proofs.lemmas.Bool.Decides.{nat_tests}
pub use Rattle.std.proofs.lemmas.Grind.{flat_map-append}
pub use Rattle.std.proofs.lemmas.Iterator.Adapters.{YieldsList-from_vec, position_from-zero}
pub use Rattle.std.proofs.lemmas.Iterator.Consumers.{YieldsList-end}
pub use Rattle.std.proofs.lemmas.List.{append-nil, drop_all, get_or-map, get_or-take, get_or_past, get_or_read, length-append, length-map, length-take}
pub use Rattle.std.proofs.lemmas.List.{map-append, map-id, take-append-le, take-map, take_all, take_more}
pub use Rattle.std.proofs.lemmas.List.Elements.{All-from_get_or, All-get_or, All-take, filter-append}
pub use Rattle.std.proofs.lemmas.List.Folds.{flat_map-map, list_any-append}
pub use Rattle.std.proofs.lemmas.List.Sums.{fold-append}
pub use Rattle.std.proofs.lemmas.Option.{get_or_from_slice_get, slice_get-get_or}
pub use Rattle.std.proofs.lemmas.Result.{IfOk-weaker}
pub use Rattle.std.specs.Int.Bits.{bit_or}
pub use Rattle.std.specs.List.{filter, flat_map, list_all, list_any, position_from, range_with_len}
unfoldable pub use Rattle.std.specs.List.{IsDistinct}
pub use Rattle.abel_meaning.specs.Declarations.{GivenName, all_said, are_numbered, constant_entries, declared, declared_names, entry, given_names}
pub use Rattle.abel_meaning.specs.Declarations.{is_unnumbered, no_words, node_count, node_entries, pin_entries, said_by_either, said_words}
pub use Rattle.abel_meaning.specs.Declarations.{section_declarations, with_words, words_of}
pub use Rattle.abel_meaning.specs.Designs.{Context, no_name}
pub use Rattle.abel_meaning.specs.Held.{ATarget, AValue, Holds, Part, holds_of}
pub use Rattle.abel_meaning.specs.Kinds.{is_buffer_by_default, is_registered, names_of, with_kind, with_kinds, words_with_kind}
pub use Rattle.abel_tree.specs.Assigned.{Assigned, Named, is_assigned, is_clocked_target, list_assigns, meant, named_after, named_of, section_assigns}
pub use Rattle.abel_tree.specs.Assigned.{sections_assign, signals_of, signals_of_name, signals_of_names, target_extension, without_extension}
pub use Rattle.abel_tree.specs.Entries.{AConstant, ADeviceName, ANode, APin, Entry, Kind, Words, find, is_signal, is_stored, is_value, kind_of, names_any}
pub use Rattle.abel_tree.specs.Entries.{passes, view_declared, view_meaning}
pub use Rattle.abel_tree.specs.Extensions.{innermost}
pub use Rattle.abel_tree.specs.Ranges.{count_numbers, ends_agree, is_bad, names_between, numbers_of, range_names, span_count, span_numbers}
pub use Rattle.abel_tree.specs.Tree.{ABinary, ADevice, ADiagram, AName, ANumber, AParen, ASet, ASpecial, ATable, AUnary, Declaration, Declarations, DontCareFor}
pub use Rattle.abel_tree.specs.Tree.{DontCareSection, Equations, Members, ModuleTree, MoreMembers, NoMember, OneMember, SectionTree, SetMember, SomeAttributes}
pub use Rattle.abel_tree.specs.Tree.{SomeConstants, SomeNodes, SomeOptions, SomePins, SomeVectors, SpanMember, Statement, Tree}
pub use Rattle.abel_tree.specs.Uses.{OneName, Range, Use, all_uses, list_uses, member_uses, one_member_uses, section_uses, uses}
pub use Rattle.abel_tree.specs.View.{view, view_decl, view_module, view_section, view_stmt}
pub use Rattle.abel_tree.specs.declared.declarations.Decl.{Decl}
pub use Rattle.abel_tree.specs.declared.names.Declared.{Declared}
pub use Rattle.abel_tree.specs.declared.sections.Section.{Section}
pub use Rattle.abel_tree.specs.declared.statements.Stmt.{Stmt}
pub use Rattle.abel_tree.specs.declared.words.Extension.{Extension}
pub use Rattle.abel_tree.specs.declared.words.Item.{Item}
pub use Rattle.abel_tree.specs.declared.words.Span.{Span}
pub use Rattle.abel_tree.specs.declared.words.Word.{Word}
pub use Rattle.declared_names.proofs.Exact.{entries_sound}
pub use Rattle.declared_names.proofs.Numbering.{none_found, number_behind}
pub use Rattle.declared_names.specs.Numbered.{earlier_number, number_in, number_of_name}
pub use Rattle.decls.proofs.Accepted.{extends_behind, module_accepted, refused_append}
pub use Rattle.decls.proofs.FirstNames.{kind_append, or_else, same_bytes}
pub use Rattle.decls.proofs.Folded.{any_append}
pub use Rattle.decls.proofs.Goes.{count_append}
pub use Rattle.decls.proofs.NamesAlike.{Alike, Extends, alike_kinds, alike_settled}
pub use Rattle.decls.proofs.NoRefusals.{none_left, none_right, not_refused}
pub use Rattle.decls.proofs.Placed.{found_at, kind_at, same_name}
pub use Rattle.decls.proofs.Rows.{mapped_more}
pub use Rattle.decls.proofs.SaidBuffers.{items_signals}
pub use Rattle.decls.specs.Attributes.{brings_clash, has_unknown, is_refused_string, strings_refused}
pub use Rattle.decls.specs.NameRefusals.{all_buffered, always_inverts, buffered, buffers_refused, has_registers, is_register_at, module_buffers_refused, name_refusals}
pub use Rattle.decls.specs.NameRefusals.{names_once, read_refusals, sections_refused}
pub use Rattle.decls.specs.NamesBefore.{added, names_behind, words_named, words_of_names}
pub use Rattle.abel_meaning.specs.SignalPins.{is_taken, is_signal_pin, has_wrong_kind, has_wrong_kind_by, has_wrong_kind_on, is_registered_by, is_registered_node, has_read_path, has_read_path_on, reads_by}
pub use Rattle.abel_meaning.specs.Controls.{is_on_pin}
pub use Rattle.decls.specs.Refused.{counts_differ, counts_refused, declaration_refused, declarations_refused, first_undeclared, given_count, has_numbers}
pub use Rattle.decls.specs.Refused.{is_device, items_refused, name_refused, names_refused, node_limit, number_refused, parts_refused}
pub use Rattle.decls.specs.Refused.{ranges_refused, refused_if, use_refused, uses_refused}
pub use Rattle.decls.specs.Shown.{view_given}
pub use Rattle.name_uses.specs.NamesUsed.{UsedName, member_used, members_used, names_used}
pub use Rattle.name_uses.specs.Parts.{PartRole, PartTree, Read, Registers, Value, part, parts_in_section}
pub use Rattle.name_uses.specs.RangeParts.{name_items}
pub use Rattle.name_uses.specs.Viewed.{view_part, view_section_parts, view_use, with_parts}
pub use Rattle.pin_matching.specs.Assignments.{CanPlace, CannotPlace, IsAssignment, IsCrowded, IsKept, IsLeastCrowded, IsTaken, wish_of}
pub use Rattle.pin_matching.specs.Refusals.{IsRefusal}
pub use Rattle.pld_base.proofs.BitLemmas.{is_on-bits, is_on-zero, length-bits}
pub use Rattle.pld_base.specs.Bits.{is_on}
unfoldable pub use Rattle.pld_base.specs.Bits.{bits}
pub use Rattle.pld_base.specs.declared.place.Place.{Place}
pub use Rattle.pld_device.proofs.FirstPlaces.{any_here, any_none, place_first, place_here, place_later, place_none}
pub use Rattle.pld_device.specs.Pins.{cell_on, is_read_pin}
pub use Rattle.pld_device.specs.Table.{Table, no_cell}
pub use Rattle.pld_device.specs.declared.cell.Cell.{Cell}
pub use Rattle.pld_device.specs.declared.flip.Flip.{Flip}
pub use Rattle.pld_order.proofs.Lists.{eqb_same, few, place_of}
pub use Rattle.pld_order.specs.Graphs.{has}
pub use Rattle.placer.specs.Faults.{TellsKeptSet, IsUnplaced}
pub use Rattle.placer.specs.Following.{HasFittingPin, HasNumberedNames, IsFollowed}
pub use Rattle.placer.specs.Given.{AreKnown, declaration_given, declarations_given, items_left, module_given, node_given, pin_given, pins_given, released_if}
pub use Rattle.placer.specs.Given.{section_given}
pub use Rattle.placer.specs.Marks.{AreMarks, AreSeen, HasMark, HasMarks, HasSameMark, IsMarkOf, IsUnion, numbers_named}
pub use Rattle.abel_meaning.specs.Reads.{read_after, read_names_of, signals_in, signals_used, stands_for}
pub use Rattle.placer.specs.PartReads.{enabled_in, parts_of, read_in, reads_as, signals_at}
pub use Rattle.placer.specs.PlacedModule.{Pinned, item_at, node_alone, node_declaration, node_pinned, numbers_for, placed_declaration, placed_declarations}
pub use Rattle.placer.specs.PlacedModule.{placed_module, placed_section, register_string, released, span_at, spans_for, unpinned, unpinned_items}
pub use Rattle.placer.specs.PlacedModule.{with_equations}
pub use Rattle.placer.specs.Placements.{HasNoPlacement, IsPlacedModule, Pins, all_released, dc_of, is_node, module_wishes, node_pin_of, pin_of, placed_with}
pub use Rattle.placer.specs.Placements.{with_pins}
pub use Rattle.abel_meaning.specs.Reads.{enables, has_enable, is_enable, is_read, read_parts, reads}
pub use Rattle.placer.specs.Signals.{cells_of_room, has_cell_for, has_unsuited_on, is_buried_register, is_enabled_by, is_pin_free, large_cells, large_to, needs_pin, pin_fits}
pub use Rattle.placer.specs.Signals.{preferred, small_to, to_place, to_place_from, wish, wishes}
pub use Rattle.placer.specs.Wanted.{AreFree, wanted_of, with_signal}
pub use Rattle.placer.specs.declared.seen.Seen.{Seen}
