-- The words that the proofs of this crate are said in, passed on from one place. Declares nothing.
pub use Rattle.std.proofs.Math.Bool.{and-false, and-true, or-false, or-true, or_assoc, or_self}
pub use Rattle.std.proofs.lemmas.Bool.{and_parts, cases_Bool, cases_lt, eq-eqb, eqb-true, le-ltb, lt-ltb, or_parts, true≢false}
pub use Rattle.std.proofs.lemmas.Bool.Decides.{nat_tests}
pub use Rattle.std.proofs.lemmas.List.{append-nil, get_or-replicate, get_or-set_other, get_or-take, get_or_default, get_or_past, length-map, length-replicate}
pub use Rattle.std.proofs.lemmas.List.{length-set, length-take, map-append, map-id, take_all, take_more}
pub use Rattle.std.proofs.lemmas.List.Concat.{flat_map-append}
pub use Rattle.std.proofs.lemmas.List.Folds.{find-append, list_any-append, list_any_at}
pub use Rattle.std.proofs.lemmas.List.Sums.{fails_before_first, fold-append, passes_at_first}
pub use Rattle.std.proofs.lemmas.Option.{get_or_from_slice_get, slice_get-get_or, slice_get-map, slice_get_read, slice_get_within, unwrap_or-slice_get}
pub use Rattle.std.proofs.lemmas.Result.{IfOk-weaker, on_ok_weaker}
pub use Rattle.std.specs.List.{All, enumerate_from, find as first_that, flat_map, list_all, list_any, position_or_len}
pub use Rattle.std.specs.Str.{bytes_eq}
pub use Rattle.abel_meaning.specs.Declarations.{GivenName, all_said, are_numbered, declared_names, is_unnumbered}
pub use Rattle.abel_meaning.specs.Designs.{no_name}
pub use Rattle.abel_meaning.specs.Held.{Holds, Part, asks_q, held_after, held_by, held_meant, held_of, holds_of, is_held, part_reads, part_shares, parts_read}
pub use Rattle.abel_meaning.specs.Held.{read_in, read_in_member, read_in_members, read_names, sections_parts}
pub use Rattle.abel_meaning.specs.Kinds.{is_buffer, is_buffer_by_default, is_registered, names_of, settled_words, stays_free, with_assigned, with_kind}
pub use Rattle.abel_meaning.specs.Kinds.{with_kinds, words_with_kind}
pub use Rattle.abel_tree.proofs.FirstRefusals.{first_push, none_refused}
pub use Rattle.abel_tree.specs.Assigned.{Assigned, Named, assigned_by, assigned_each, is_assigned, is_clocked as is_clocked_sign, is_clocked_target, meant}
pub use Rattle.abel_tree.specs.Assigned.{named_after, named_of, sections_assign, signals_of, signals_of_name, signals_of_names, target_extension}
pub use Rattle.abel_tree.specs.Assigned.{without_extension}
pub use Rattle.abel_tree.specs.Entries.{AConstant, ADeviceName, APin, Entry, Kind, Words, entries_of, find, follows_q, is_signal, is_stored, view_declared}
pub use Rattle.abel_tree.specs.Extensions.{innermost, is_data, is_raw}
pub use Rattle.abel_tree.specs.FirstRefusal.{earlier, first_refusal}
pub use Rattle.abel_tree.specs.Ranges.{range_names}
pub use Rattle.abel_tree.specs.SoundNames.{IsNamed, SoundNames, are_named, module_uses}
pub use Rattle.abel_tree.specs.Tree.{ABinary, AName, AParen, ASet, AUnary, Declaration, Members, ModuleTree, MoreMembers, NoMember, OneMember, SectionTree}
pub use Rattle.abel_tree.specs.Tree.{SetMember, SomeAttributes, SomeNodes, SomePins, SpanMember, Tree}
pub use Rattle.abel_tree.specs.View.{view_module}
pub use Rattle.abel_tree.specs.declared.names.Declared.{Declared}
pub use Rattle.abel_tree.specs.declared.names.Names.{Names}
pub use Rattle.abel_tree.specs.declared.words.Extension.{Extension}
pub use Rattle.decls.proofs.Accepted.{Accepted, module_accepted}
pub use Rattle.decls.proofs.NoRefusals.{none_left, none_right}
pub use Rattle.decls.proofs.SoundEntries.{AreSound, IsNewPin, sound_alike, sound_at}
pub use Rattle.decls.specs.AllDeclarations.{all_declarations}
pub use Rattle.decls.specs.Buffers.{registers_wait, says_buffer}
pub use Rattle.decls.specs.FaultOrder.{name_order}
pub use Rattle.decls.specs.NameRefusals.{all_buffered, always_inverts, buffered, buffers_refused, first_name_refusal, is_register_at, module_buffers_refused}
pub use Rattle.decls.specs.NameRefusals.{name_refusals, names_once, read_refusals}
pub use Rattle.decls.specs.NamesBefore.{names_behind}
pub use Rattle.abel_meaning.specs.SignalPins.{is_taken}
pub use Rattle.abel_meaning.specs.Controls.{is_on_pin}
pub use Rattle.decls.specs.Numbers.{buffered_names, number_if, numbered}
pub use Rattle.decls.specs.Shown.{kept, kept_kind}
pub use Rattle.decls.specs.declared.fault.NameFault.{NameFault}
pub use Rattle.decls.specs.declared.reading.Buffered.{Buffered}
pub use Rattle.name_uses.specs.NamesUsed.{UsedName, member_used, members_used, names_used}
pub use Rattle.name_uses.specs.Parts.{PartTree, parts_in_section}
pub use Rattle.name_uses.specs.RangeParts.{name_items}
pub use Rattle.name_uses.specs.Viewed.{PartedSection, view_part, view_section_parts, view_use, with_parts, word_at}
pub use Rattle.pld_device.specs.Table.{Table}
pub use Rattle.pld_device.specs.declared.flip.Flip.{Flip}
pub use Rattle.declared_names.specs.{AreDeclaredFor, AreMarked, BuffersAreAllowed, NumbersAreApart, PinsAreApart, all_marked, all_marks, below, by_mark, clear}
pub use Rattle.declared_names.specs.{earlier_number, given_by, hit, is_held_at, is_marked, is_register, kind_by, kinds_by, marked, number_given, number_in}
pub use Rattle.declared_names.specs.{number_of_name, numbers_read, part_gives, part_names, passed, raised, reads_to, refused_for, register_refused}
pub use Rattle.declared_names.specs.{registers_refused, section_gives, section_shares, sections_give, shares_all, use_reads, uses_read, value_at, value_of}
pub use Rattle.declared_names.specs.{value_uses, words_by}
pub use Rattle.declared_names.specs.declared.following.Follow.{Follow}
pub use Rattle.declared_names.specs.declared.following.Follow.TheVariants.{Reads, Targets}
pub use Rattle.declared_names.specs.declared.held.Held.{Held}
pub use Rattle.declared_names.specs.declared.marks.Mark.{Mark}
