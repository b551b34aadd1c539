-- The words that the proofs of this crate are said in, passed on from one place. Declares nothing.
pub use Rattle.std.proofs.Math.Seq.{drop-append_seam, take-append-add}
pub use Rattle.std.proofs.lemmas.Bool.{and_parts, or_left, or_right, true≢false}
pub use Rattle.std.proofs.lemmas.Bool.Decides.{leb_tells, nat_tests}
pub use Rattle.std.proofs.lemmas.Iterator.Adapters.{YieldsList-from_vec, position_from-zero}
pub use Rattle.std.proofs.lemmas.Iterator.Consumers.{YieldsList-end}
pub use Rattle.std.proofs.lemmas.List.{append-nil, at_drop_more, drop-take, get_or_default, length-append, length-map, length-take-le, map-append, map-id}
pub use Rattle.std.proofs.lemmas.List.{take-append-drop, take-append-le, take_all, take_more, take_rest}
pub use Rattle.std.proofs.lemmas.List.Elements.{All-append, All-cons, All-from_get_or, All-get_or, All-map, All-nil, All-weaker, filter-append}
pub use Rattle.std.proofs.lemmas.List.Folds.{list_all-append, list_all-map, list_any-append}
pub use Rattle.std.proofs.lemmas.List.FromFn.{length-range_with_len, map-range_with_len_more, take-map-range_with_len}
pub use Rattle.std.proofs.lemmas.List.Sums.{fold-append}
pub use Rattle.std.proofs.lemmas.Result.{on_ok_weaker}
pub use Rattle.std.proofs.lemmas.Slice.Eq.{bytes_eq-Decides}
unfoldable pub use Rattle.std.specs.Fmt.{digits}
pub use Rattle.std.specs.Global.{Vec}
pub use Rattle.std.specs.Int.RustNames.{bit_and, bit_or}
pub use Rattle.std.specs.List.{All, flat_map, list_all, list_any, onto_first, position, position_from, range_with_len, slice_split}
pub use Rattle.std.specs.Map.{keys_of, lookup, values_of}
pub use Rattle.std.specs.Str.{bytes_eq, str_to_ascii_lowercase}
pub use Rattle.abel_meaning.specs.Declarations.{GivenName, all_said, constant_entries, declared, entry, given_names, has_word, is_unnumbered, no_words}
pub use Rattle.abel_meaning.specs.Declarations.{node_count, node_entries, parts_words, pin_entries, said_by_either, said_words, section_declarations}
pub use Rattle.abel_meaning.specs.Declarations.{with_words, words_of}
pub use Rattle.abel_meaning.specs.Models.{first_device, unquoted}
pub use Rattle.abel_meaning.specs.Kinds.{names_of, with_kinds}
pub use Rattle.abel_tree.proofs.FirstRefusals.{first_push}
pub use Rattle.abel_tree.specs.Entries.{AConstant, ADeviceName, ANode, APin, Entry, Kind, Words, find, is_signal, is_value, kind_of, names_any, passes}
pub use Rattle.abel_tree.specs.Entries.{view_declared, view_meaning}
pub use Rattle.abel_tree.specs.FirstRefusal.{earlier, first_refusal, sooner}
unfoldable pub use Rattle.abel_tree.specs.FirstRefusal.{is_before}
pub use Rattle.abel_tree.specs.Ranges.{count_numbers, ends_agree, is_bad, item_names, names_between, numbers_of, span_count, span_numbers}
pub use Rattle.abel_tree.specs.SoundNames.{IsSoundKind, are_named, declaration_uses, declarations_uses, is_named, module_uses, sections_uses, used_names}
pub use Rattle.abel_tree.specs.Tree.{ABinary, ABranch, ACase, ADevice, ADiagram, ADontCare, AGoal, AGroup, AName, ANumber, AParen, ASet, ASpecial, ATable}
pub use Rattle.abel_tree.specs.Tree.{AUnary, AWhen, AnAssign, AnElse, AnIf, Branch, Choices, Declaration, Declarations, DontCareFor, DontCareSection, Equations}
pub use Rattle.abel_tree.specs.Tree.{Members, ModuleTree, MoreChoices, MoreMembers, MoreStatements, NoBranch, NoChoice, NoElse, NoMember, NoStatement}
pub use Rattle.abel_tree.specs.Tree.{OneMember, OtherBranch, Otherwise, RowTree, SectionTree, SetMember, SomeAttributes, SomeConstants, SomeNodes, SomeOptions}
pub use Rattle.abel_tree.specs.Tree.{SomePins, SomeVectors, SpanMember, StateTree, Statement, Statements, Tree, choices_of, members_of, statements_of}
pub use Rattle.abel_tree.specs.Uses.{OneName, Range, Use, all_uses, branch_uses, branches_uses, choices_uses, else_uses, list_uses, member_uses}
pub use Rattle.abel_tree.specs.Uses.{one_member_uses, other_uses, rows_uses, section_uses, statement_uses, statements_uses, states_uses, uses, with_uses}
pub use Rattle.abel_tree.specs.View.{view, view_decl, view_module, view_section}
pub use Rattle.abel_tree.specs.declared.declarations.Decl.{Decl}
pub use Rattle.abel_tree.specs.declared.sections.Section.{Section}
pub use Rattle.abel_tree.specs.declared.words.Extension.{Extension}
pub use Rattle.abel_tree.specs.declared.words.Item.{Item}
pub use Rattle.abel_tree.specs.declared.words.Number.{Number}
pub use Rattle.abel_tree.specs.declared.words.Span.{Span}
pub use Rattle.abel_tree.specs.declared.words.Word.{Word}
pub use Rattle.name_uses.specs.RangeParts.{name_items, names_if_agree, number_at}
pub use Rattle.name_uses.specs.Viewed.{view_part, view_section_parts, view_use, with_parts}
pub use Rattle.pld_base.specs.DeviceNames.{named_device}
pub use Rattle.pld_base.specs.declared.device_name.DeviceName.{DeviceName}
pub use Rattle.pld_base.specs.declared.place.Place.{Place}
pub use Rattle.pld_device.specs.Table.{Table}
pub use Rattle.pld_device.specs.declared.flip.Flip.{Flip}
pub use Rattle.decls.specs.AllDeclarations.{all_declarations}
pub use Rattle.decls.specs.Attributes.{brings_clash, has_unknown, is_refused_string, known_words, string_refused, strings_refused}
pub use Rattle.decls.specs.Buffers.{registers_wait, says_buffer}
pub use Rattle.decls.specs.Devices.{first_string}
pub use Rattle.decls.specs.FaultOrder.{name_order, place_of, rank_of}
pub use Rattle.decls.specs.NameRefusals.{all_buffered, buffered, first_name_refusal, read_refusals, sections_refused}
pub use Rattle.decls.specs.NamesBefore.{added, enter, first_entries, names_behind, words_named, words_of_names}
pub use Rattle.abel_meaning.specs.SignalPins.{is_taken, is_signal_pin}
pub use Rattle.abel_meaning.specs.Controls.{is_on_pin}
pub use Rattle.decls.specs.Numbers.{number_if, numbered}
pub use Rattle.decls.specs.PartUses.{name_step, part_step, parted_step, use_of, value_step}
pub use Rattle.decls.specs.Passed.{Adds, AreAt, AreBehind, Follows, HasNumbers, MayLeave, Way, is_behind, items_behind, items_told, stands_before, wants_names}
pub use Rattle.decls.specs.Passed.{way, words_behind}
pub use Rattle.decls.specs.Pieces.{Tells, lower_words}
pub use Rattle.decls.specs.Refused.{counts_differ, counts_refused, declaration_refused, declarations_refused, first_name, first_undeclared, given_count}
pub use Rattle.decls.specs.Refused.{has_numbers, is_device, item_refused, items_refused, name_refused, names_refused, number_refused}
pub use Rattle.decls.specs.Refused.{parts_refused, ranges_refused, refused_if, use_refused, uses_refused}
pub use Rattle.decls.specs.Shown.{Shows, given_by, kept, kept_kind, said_before, view_given, view_known, view_said, wanted}
pub use Rattle.decls.specs.Steps.{Progress, all_known, constant_entered, device_counted, device_entered, entered, entered_if, node_counted, node_entered}
pub use Rattle.decls.specs.Steps.{nothing, on_pin, pin_entered, pin_taken, range_used, refuse, refuse_all, refuse_if, undeclared, used}
pub use Rattle.decls.specs.Walked.{all_told, constant_at, constant_step, declaration_step, items_checked, module_steps, new_checked, node_step, pin_numbered}
pub use Rattle.decls.specs.Walked.{pin_step, said_of, say_step, section_step, signals_among, signals_wait, waits_if, with_numbers}
pub use Rattle.decls.specs.declared.fault.NameFault.{NameFault}
pub use Rattle.decls.specs.declared.pass.Pass.{Pass}
pub use Rattle.decls.specs.declared.said.Said.{Said}
pub use Rattle.decls.specs.declared.strings.StringWords.{StringWords}
pub use Rattle.decls.specs.declared.table.Known.{Known}
pub use Rattle.decls.specs.declared.table.NameTable.{NameTable}
