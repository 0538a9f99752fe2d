-- What several files of the proofs import.
pub use Rattle.apex_types.specs.Line.{space}
pub use Rattle.apex_types.specs.NameText.{is_name}
pub use Rattle.apex_types.specs.ServiceShape.{answer_words, arguments_of}
pub use Rattle.apex_types.specs.declared.cost.Costs.{Costs}
pub use Rattle.apex_types.specs.declared.denotation.Denotation.{Denotation}
pub use Rattle.apex_types.specs.declared.device.DeviceFault.{DeviceFault}
pub use Rattle.apex_types.specs.declared.limits.TheConstants.{GREATEST_PRIORITY, LEAST_STACK_WORDS, MOST_CHANNELS, MOST_DATA_WORDS, MOST_DEPTH, MOST_DESTINATIONS, MOST_FRAME_TICKS, MOST_INSTRUCTIONS, MOST_LOCALS, MOST_OBJECTS, MOST_PARAMETERS, MOST_PORTS, MOST_PROCEDURES, MOST_PROCESSES, MOST_SEMAPHORE_VALUE, MOST_SOURCE_BYTES, MOST_STACK_WORDS, MOST_TICKS, MOST_WINDOWS, MOST_WORDS, MOST_WORK_TICKS}
pub use Rattle.apex_types.specs.declared.place.Place.TheVariants.{Slot}
pub use Rattle.apex_types.specs.declared.row.ChannelEnd.{ChannelEnd}
pub use Rattle.apex_types.specs.declared.row.PortRow.{PortRow}
pub use Rattle.apex_types.specs.declared.row.WindowRow.{WindowRow}
pub use Rattle.apex_types.specs.declared.service.Service.{Service}
pub use Rattle.apex_types.specs.declared.shape.ArgumentKind.{ArgumentKind}
pub use Rattle.finding_laws.specs.Any.{AreFew}
pub use Rattle.finding_laws.specs.Found.{has_none}
pub use Rattle.finding_laws.specs.Rules.{rule_in, rule_of}
pub use Rattle.image_findings.specs.Form.{form_wrong, or_else}
pub use Rattle.image_findings.specs.Names.{Names, Receiver, mark_of}
pub use Rattle.image_findings.specs.Parts.{Part, parts, total}
pub use Rattle.machine_meaning.specs.ImageReading.{Foreign, Limit, Order, Read, Trailing, Truncated, number_at}
pub use Rattle.module_base.specs.TextLines.{line_by, written_by}
pub use Rattle.module_meaning.specs.DeviceText.{Message, ModuleFault, PartitionFault, Written, WrittenLine, fault_of, is_room, line_with, message_of, message_with, piece, pieces, pieces_behind_marks, plain_number, put_word, word}
pub use Rattle.module_meaning.specs.Table.{has_odd_period, has_short_period, lacks_release, ◌>>=◌}
pub use Rattle.module_meaning.specs.TableRules.{ChannelText, KindText, PartitionText, PortText, Queuing, Sampling, TableText, WindowText, array_at, cost_keys, exceeds_limits, exceeds_times, has_costs_outside, has_many_ports, has_unknown_action, has_unknown_end, integer_at, is_cost_key, is_one_of, is_outside, is_partition_key, is_table_key, optional_array_at, optional_costs, optional_table_at, partition_number, partition_row, port_number, table_at, text_at, window_row}
pub use Rattle.pal.specs.Costs.{cost_of_body, cost_of_procedure, cost_of_process}
pub use Rattle.pal.specs.declared.report.BodyName.{BodyName}
pub use Rattle.pal_base.specs.ProgramView.{body_of, process_of, program_of}
pub use Rattle.pal_base.specs.declared.fault.Refusal.{Refusal}
pub use Rattle.pal_base.specs.declared.program.Body.{Body}
pub use Rattle.pal_base.specs.declared.program.Procedure.{Procedure}
pub use Rattle.pal_base.specs.declared.program.Process.{Process}
pub use Rattle.pal_base.specs.declared.program.Program.{Program}
pub use Rattle.pal_laws.proofs.WordsOf.{words_from_more}
pub use Rattle.pal_meaning.specs.Grammar.{IsText, Number, ServiceWord, all_words, arguments_words, block_words, body_words, declaration_words, expr_words, first_words, integer_words, kind_words, links_words, local_words, names_words, next_name, process_words, stack_body_words, stmt_words, targets_words, values_words, words_of}
pub use Rattle.pal_meaning.specs.Resolve.{Counts, Scope, after, declaration_entries, declared_meaning, find, no_counts, own_entries, process_entries, scope_of}
pub use Rattle.pal_meaning.specs.WellFormed.{expr_count, holds_of_handler, holds_of_procedure, kinds_hold, limits_hold, names_hold, periods_hold}
pub use Rattle.source_findings.specs.Frames.{body_frame, held, procedure_frame}
pub use Rattle.source_findings.specs.Judged.{Judge, arguments_wrong, by_limit, capacity_wrong, frame_wrong, many_wrong, meant as found_role, name_wrong, new_wrong, no_name_wrong, no_time, number_wrong, odd, outside_wrong, period_wrong, return_wrong, targets_wrong}
pub use Rattle.source_findings.specs.Lengths.{length_wrongs, passing, wrongs_at}
pub use Rattle.source_findings.specs.Roles.{Entry, declaration_entry, is_nothing, own_entry, process_entry, role_of}
pub use Rattle.source_findings.specs.Tally.{Tally, counted, counted as tallied, no_tally, tally_wrong}
pub use Rattle.source_findings.specs.Texts.{is_above, or_too_long, strays, text_wrongs}
pub use Rattle.source_findings.specs.Walk.{all_given, block, comma, expr, exprs, given, links, service_call, stmt, targets, used}
pub use Rattle.source_findings.specs.What.{NoAscii, State, What, Wrong, noted, pushed, step}
pub use Rattle.source_places.specs.Words.{first_word, next_word}
pub use Rattle.source_findings.specs.declared.finding.Many.{Many}
pub use Rattle.source_findings.specs.declared.finding.Thing.{Thing}
pub use Rattle.source_findings.specs.declared.roles.Role.{Role}
pub use Rattle.std.proofs.Common.{Bool, Equal, Err, Greater, Less, Ok, Option, Ordering, Result, Some, append-nil, append_assoc, codes, cond, drop, eqb, inr, is_some, max, option_map, pos, subst, suc, take, ℕ, ℤ, ◌&&◌, ◌++◌, ◌+◌, ◌-◌, ◌<◌, ◌||◌, ◌∙◌, ◌∷◌, ◌≡◌, ◌≤◌}
pub use Rattle.std.proofs.lemmas.Bool.{and_left, and_parts, and_right, cases_Bool, eq-eqb, eqb-true, false≢true, le-leb, le-ltb, lt-leb, lt-ltb, ltb-false, ltb-true, or_left, or_parts, or_right, true≢false}
pub use Rattle.std.proofs.lemmas.Bool.Decides.{leb_tells}
pub use Rattle.std.proofs.lemmas.Cmp.{nat_list_cmp_total, nat_list_eq_equiv}
pub use Rattle.std.proofs.lemmas.List.{length-append, map-append}
pub use Rattle.std.proofs.lemmas.List.Elements.{Contains-append_left, Contains-append_right, Contains-push}
pub use Rattle.std.proofs.lemmas.List.Folds.{list_any-append}
pub use Rattle.std.proofs.lemmas.List.Sums.{sum_by-cons}
pub use Rattle.std.proofs.lemmas.Option.{none-some, same_Some}
pub use Rattle.std.proofs.lemmas.Slice.Eq.{bytes_eq-Decides}
pub use Rattle.std.specs.Cmp.Lexicographic.{slice_cmp}
pub use Rattle.std.specs.Int.{w32}
pub use Rattle.std.specs.List.{Contains, list_all, sum_by}
pub use Rattle.std.specs.Ordering.{is_lt, match_ordering, nat_cmp}
pub use Rattle.std.specs.Prelude.{if◌then◌else◌, int_lt, is_none, nat_abs, nat_eq, nat_le, nat_lt, slice_get, unwrap_or, ◌%◌, ◌==◌}
pub use Rattle.std.specs.Str.{IsAscii, bytes_eq}
pub use Rattle.table_findings.specs.Ends.{is_device}
pub use Rattle.table_findings.specs.Fields.{keys, needed}
pub use Rattle.table_findings.specs.Findings.{Finding, NoWord}
pub use Rattle.table_findings.specs.Names.{is_among}
pub use Rattle.table_findings.specs.Shape.{each, of_part, of_type, one, row_at}
pub use Rattle.table_findings.specs.Subjects.{Health, Module, Row, Subject}
pub use Rattle.table_findings.specs.declared.words.Words.{Words}
pub use Rattle.toml.specs.Data.{Data, Items, Members, array, as_array, as_bool, as_integer, as_str, as_table, boolean, datetime, float, get_member, integer, is_before, is_sorted, items_are_sorted, member, members_are_sorted, string, table}
pub use Rattle.window_table.proofs.Rules.{periods_there}
