-- The names that a proof unfolds where it computes a definition on literals.
use Rattle.std.specs.Prelude.{⊤}
use Rattle.std.specs.Fmt.{digits}
use Rattle.toml.proofs.OnLiterals.{toml_on_literals}
use Rattle.pal_meaning.specs.Grammar.{behind_blanks, lower_word, upper_word, sign_word, word_at, words_within, words_from}
use Rattle.engine_meaning.specs.Digits.{decimal_value}
use Rattle.pal_laws.specs.GrammarReading.{expect, name_at, number_at, service_at, integer_at, discipline_at, repeat_within, repeat, one_of, link_at, links_at, chain_with, products_with, sums_with, comparisons_with, conjunctions_with, operand_with, ranked, arguments_with, named_with, unary_with, unary_at, expr_at, deeper_at, nested_at, arguments_at, operated_at, unary_read, names_at, targets_at, service_call_at, assignment_at, work_at, return_at, branch_with, while_with, stmt_with, statements_with, block_at, stmt_at, statements_at, block_read, local_at, locals_at, body_at, first_value_at, variable_at, integers_at, first_values_at, array_at, semaphore_at, event_at, buffer_at, blackboard_at, port_at, parameters_at, procedure_at, declaration_at, declarations_at, stack_body_at, handler_at, process_at, processes_at, program_at}
use Rattle.apex_types.specs.Costs as costs
use Rattle.machine_meaning.specs.ImageSpelling as spelling
use Rattle.machine_meaning.specs.ImageReading as reading
use Rattle.module_meaning.specs.TableRules as rules
use Rattle.module_meaning.specs.Table as rows

-- the tree of a source, and the text of a trace
unfoldable pub reading_texts : ⊤
unfolding digits behind_blanks decimal_value lower_word upper_word sign_word word_at words_within words_from expect name_at number_at service_at integer_at discipline_at repeat_within repeat one_of link_at links_at chain_with products_with sums_with comparisons_with conjunctions_with operand_with ranked arguments_with named_with unary_with unary_at expr_at deeper_at nested_at arguments_at operated_at unary_read names_at targets_at service_call_at assignment_at work_at return_at branch_with while_with stmt_with statements_with block_at stmt_at statements_at block_read local_at locals_at body_at first_value_at variable_at integers_at first_values_at array_at semaphore_at event_at buffer_at blackboard_at port_at parameters_at procedure_at declaration_at declarations_at stack_body_at handler_at process_at processes_at program_at
reading_texts = tt

-- the bytes of an image, and what they are read as
unfoldable pub image_bytes : ⊤
unfolding spelling.name spelling.list spelling.health spelling.port_fields spelling.port spelling.partition spelling.semaphore spelling.buffer spelling.blackboard spelling.routine spelling.body spelling.duration spelling.process spelling.handler spelling.instruction spelling.objects spelling.bodies spelling.section spelling.window spelling.channel_end spelling.channel spelling.item spelling.costs spelling.own_fields spelling.front spelling.head spelling.spelling reading.word_at reading.limited_at reading.small_at reading.bytes_at reading.name_at reading.fresh_name_at reading.choice_at reading.items_at reading.list_at reading.health_at reading.sampling_at reading.queuing_at reading.kind_at reading.port_at reading.partition_at reading.semaphore_at reading.buffer_at reading.blackboard_at reading.routine_at reading.body_at reading.duration_at reading.period_at reading.process_at reading.handler_at reading.objects_at reading.bodies_at reading.code_at reading.section_at reading.item_at reading.offset_at reading.window_at reading.channel_end_at reading.channel_at reading.magic_at reading.version_at reading.cost_at reading.costs_at reading.own_fields_at costs.cost_of_ticks reading.fields_at reading.image_at rows.has_twice rules.overlaps_after rows.offered rows.falls_short rows.falls_short_from rows.lacks_release_from rows.has_two_devices rows.is_wrong
image_bytes = tt

-- the verdict on the text of a module table
unfoldable pub table_texts : ⊤
unfolding toml_on_literals rules.direction_of rules.discipline_of rules.module_action_of rules.partition_action_of rules.has_only rules.tables_of rules.texts_of rules.sampling_of rules.queuing_of rules.kind_of rules.port_of rules.has_texts_only rules.health_of rules.partition_of rules.window_of rules.channel_of rules.integers_at rules.costs_of rules.is_outside_cost rules.cost_row costs.cost_of_ticks rules.table_text_of rules.exceeds_kind rules.exceeds_port rules.exceeds_partition rules.exceeds_window rules.exceeds_channel rules.exceeds_counts rules.exceeds_rows rows.has_twice rules.has_same_names rules.number_from rules.port_from rules.end_of rules.has_unknown_name rules.numbered rules.overlaps_after rows.offered rows.falls_short rows.falls_short_from rows.lacks_release_from rows.has_two_devices rows.is_wrong rules.judge_table rules.judge_text rules.verdict
table_texts = tt
