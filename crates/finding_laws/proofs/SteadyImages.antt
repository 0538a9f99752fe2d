-- Each part of an image is read the same with any bytes after it.
use Rattle.finding_laws.proofs.Prelude.{ℕ, ◌+◌, ◌-◌, Bool, max, nat_lt, w32, bytes_eq, is_name, GREATEST_PRIORITY, LEAST_STACK_WORDS, MOST_CHANNELS, MOST_DATA_WORDS, MOST_DEPTH, MOST_DESTINATIONS, MOST_FRAME_TICKS, MOST_INSTRUCTIONS, MOST_OBJECTS, MOST_PORTS, MOST_PROCEDURES, MOST_SEMAPHORE_VALUE, MOST_STACK_WORDS, MOST_TICKS, MOST_WINDOWS, PortRow, WindowRow, number_at}
use Rattle.std.proofs.Common.{◌^◌, List, [], None, nat_eq}
use Rattle.std.specs.Prelude.{◌||◌}
use Rattle.std.specs.Int.{w16, w64}
use Rattle.apex_types.specs.Costs.{cost_of_ticks, from_order}
use Rattle.apex_types.specs.Versions.{limits_of}
use Rattle.apex_types.specs.declared.cost.TheConstants.{COST_KEYS}
use Rattle.apex_types.specs.declared.version.Limits.{Limits}
use Rattle.apex_types.specs.declared.limits.TheConstants.{INSTRUCTION_BYTES, MOST_NAME_BYTES, MOST_SLOTS}
use Rattle.apex_types.specs.declared.row.ProcessRow.{ProcessRow}
use Rattle.apex_types.specs.declared.version.TheConstants.{FIRST_VERSION, SECOND_VERSION, THIRD_VERSION}
use Rattle.machine_meaning.specs.Image.{Bodies, Item, magic}
use Rattle.machine_meaning.specs.ImageReading.{blackboard_at, bodies_at, body_at, buffer_at, byte_at, bytes_at, channel_at, channel_end_at, choice_at, code_at, cost_at, costs_at, direction_of, discipline_of, duration_at, duration_of, enter_within, fields_at, fresh_name_at, handler_at, health_at, is_channel, is_infinite_or_multiple, is_partition, is_port, is_process, item_at, items_at, kind_at, last_end, limited_at, list_at, magic_at, module_action_of, name_at, objects_at, offset_at, own_fields_at, partition_action_of, partition_at, period_at, port_at, process_at, queuing_at, routine_at, sampling_at, section_at, semaphore_at, small_at, truth_of, version_at, window_at, word_at}
use Rattle.module_meaning.specs.Table.{Channel}
use Rattle.finding_laws.proofs.Steady.{Steady, byte_steady, bytes_steady, choice_steady, chosen_steady, either_steady, foreign_steady, items_steady, limit_steady, limited_steady, list_steady, number_steady, ok_steady, order_steady, small_steady, then_steady}

word_steady : Steady word_at
unfolding word_at
word_steady = then_steady (number_at w64) _ (number_steady w64) (λ n. ok_steady _)

name_steady : Steady name_at
unfolding name_at
name_steady = then_steady (small_at 1 MOST_NAME_BYTES) _ (small_steady 1 MOST_NAME_BYTES) (λ size. then_steady (bytes_at size) _ (bytes_steady size) (λ text. either_steady (is_name text) _ _ (ok_steady text) (limit_steady _)))

fresh_name_steady : (is_used : List ℕ → Bool) → Steady (fresh_name_at is_used)
unfolding fresh_name_at
fresh_name_steady is_used = then_steady name_at _ name_steady (λ text. either_steady (is_used text) _ _ (order_steady _) (ok_steady text))

-- ---- a partition's row

action_steady : Steady (choice_at partition_action_of)
action_steady = choice_steady partition_action_of

health_steady : Steady health_at
unfolding health_at
health_steady =
    then_steady (choice_at partition_action_of) _ action_steady (λ a. then_steady (choice_at partition_action_of) _ action_steady (λ b. then_steady (choice_at partition_action_of) _ action_steady (λ c.
    then_steady (choice_at partition_action_of) _ action_steady (λ d. then_steady (choice_at partition_action_of) _ action_steady (λ e. then_steady (choice_at partition_action_of) _ action_steady (λ f.
    then_steady (choice_at partition_action_of) _ action_steady (λ g. ok_steady _)))))))

sampling_steady : Steady sampling_at
unfolding sampling_at
sampling_steady =
    then_steady (limited_at w64 0 MOST_TICKS) _ (limited_steady w64 0 MOST_TICKS) (λ refresh. then_steady (small_at 0 0) _ (small_steady 0 0) (λ depth. then_steady (small_at 0 0) _ (small_steady 0 0) (λ order. ok_steady _)))

queuing_steady : Steady queuing_at
unfolding queuing_at
queuing_steady =
    then_steady (limited_at w64 0 0) _ (limited_steady w64 0 0) (λ refresh. then_steady (small_at 1 MOST_DEPTH) _ (small_steady 1 MOST_DEPTH) (λ depth. then_steady (choice_at discipline_of) _ (choice_steady discipline_of) (λ order. ok_steady _)))

kind_steady : (number : ℕ) → Steady (kind_at number)
unfolding kind_at
kind_steady number = either_steady (nat_eq number 0) sampling_at queuing_at sampling_steady queuing_steady

port_steady : (limits : Limits) (before : List PortRow) → Steady (port_at limits before)
unfolding port_at
port_steady limits before =
    then_steady (fresh_name_at (is_port before)) _ (fresh_name_steady (is_port before)) (λ name. then_steady (small_at 0 1) _ (small_steady 0 1) (λ kind. then_steady (choice_at direction_of) _ (choice_steady direction_of) (λ direction.
    then_steady (small_at 1 limits.words) _ (small_steady 1 limits.words) (λ words. then_steady (kind_at kind) _ (kind_steady kind) (λ fields. ok_steady _)))))

partition_steady : (limits : Limits) (frame : ℕ) (before : List Item) → Steady (partition_at limits frame before)
unfolding partition_at
partition_steady limits frame before =
    then_steady (fresh_name_at (is_partition before)) _ (fresh_name_steady (is_partition before)) (λ name. then_steady (limited_at w32 1 frame) _ (limited_steady w32 1 frame) (λ period.
    then_steady (limited_at w32 0 period) _ (limited_steady w32 0 period) (λ duration. then_steady health_at _ health_steady (λ health.
    then_steady (list_at 0 MOST_PORTS (port_at limits)) _ (list_steady 0 MOST_PORTS (port_at limits) (port_steady limits)) (λ ports. ok_steady _)))))

-- ---- the section of a partition

semaphore_steady : Steady semaphore_at
unfolding semaphore_at
semaphore_steady =
    then_steady (limited_at w32 0 MOST_SEMAPHORE_VALUE) _ (limited_steady w32 0 MOST_SEMAPHORE_VALUE) (λ value. then_steady (limited_at w32 (max 1 value) MOST_SEMAPHORE_VALUE) _ (limited_steady w32 (max 1 value) MOST_SEMAPHORE_VALUE) (λ maximum.
    then_steady (choice_at discipline_of) _ (choice_steady discipline_of) (λ order. ok_steady _)))

buffer_steady : (limits : Limits) → Steady (buffer_at limits)
unfolding buffer_at
buffer_steady limits =
    then_steady (small_at 1 limits.words) _ (small_steady 1 limits.words) (λ words. then_steady (small_at 1 MOST_DEPTH) _ (small_steady 1 MOST_DEPTH) (λ depth. then_steady (choice_at discipline_of) _ (choice_steady discipline_of) (λ order. ok_steady _)))

blackboard_steady : (limits : Limits) → Steady (blackboard_at limits)
unfolding blackboard_at
blackboard_steady limits = then_steady (small_at 1 limits.words) _ (small_steady 1 limits.words) (λ words. ok_steady _)

routine_steady : Steady routine_at
unfolding routine_at
routine_steady =
    then_steady (number_at w32) _ (number_steady w32) (λ entry. then_steady (small_at 0 8) _ (small_steady 0 8) (λ parameters. then_steady (limited_at w16 parameters MOST_SLOTS) _ (limited_steady w16 parameters MOST_SLOTS) (λ slots.
    then_steady (limited_at w32 (slots + 2) MOST_STACK_WORDS) _ (limited_steady w32 (slots + 2) MOST_STACK_WORDS) (λ frame. ok_steady _))))

body_steady : Steady body_at
unfolding body_at
body_steady =
    then_steady (limited_at w16 LEAST_STACK_WORDS MOST_STACK_WORDS) _ (limited_steady w16 LEAST_STACK_WORDS MOST_STACK_WORDS) (λ stack. then_steady (number_at w32) _ (number_steady w32) (λ entry.
    then_steady (limited_at w16 0 MOST_SLOTS) _ (limited_steady w16 0 MOST_SLOTS) (λ slots. then_steady (limited_at w32 (slots + 2) stack) _ (limited_steady w32 (slots + 2) stack) (λ frame. ok_steady _))))

duration_steady : Steady duration_at
unfolding duration_at
duration_steady = then_steady word_at _ word_steady (λ word. chosen_steady (duration_of word))

period_steady : (unit : ℕ) → Steady (period_at unit)
unfolding period_at
period_steady unit = then_steady duration_at _ duration_steady (λ period. either_steady (is_infinite_or_multiple unit period) _ _ (ok_steady period) (limit_steady _))

process_steady : (unit : ℕ) (before : List ProcessRow) → Steady (process_at unit before)
unfolding process_at
process_steady unit before =
    then_steady (fresh_name_at (is_process before)) _ (fresh_name_steady (is_process before)) (λ name. then_steady (small_at 1 GREATEST_PRIORITY) _ (small_steady 1 GREATEST_PRIORITY) (λ priority.
    then_steady (period_at unit) _ (period_steady unit) (λ period. then_steady duration_at _ duration_steady (λ capacity. then_steady body_at _ body_steady (λ body. ok_steady _)))))

handler_steady : Steady handler_at
unfolding handler_at
handler_steady = then_steady (choice_at truth_of) _ (choice_steady truth_of) (λ there. either_steady there _ _ (then_steady body_at _ body_steady (λ body. ok_steady _)) (ok_steady None))

objects_steady : (limits : Limits) → Steady (objects_at limits)
unfolding objects_at
objects_steady limits =
    then_steady (list_at 0 MOST_DATA_WORDS (λ _. word_at)) _ (list_steady 0 MOST_DATA_WORDS (λ _. word_at) (λ before. word_steady)) (λ initial.
    then_steady (list_at 0 MOST_OBJECTS (λ _. semaphore_at)) _ (list_steady 0 MOST_OBJECTS (λ _. semaphore_at) (λ before. semaphore_steady)) (λ semaphores. then_steady (small_at 0 MOST_OBJECTS) _ (small_steady 0 MOST_OBJECTS) (λ events.
    then_steady (list_at 0 MOST_OBJECTS (λ _. buffer_at limits)) _ (list_steady 0 MOST_OBJECTS (λ _. buffer_at limits) (λ before. buffer_steady limits)) (λ buffers.
    then_steady (list_at 0 MOST_OBJECTS (λ _. blackboard_at limits)) _ (list_steady 0 MOST_OBJECTS (λ _. blackboard_at limits) (λ before. blackboard_steady limits)) (λ blackboards. ok_steady _)))))

bodies_steady : (limits : Limits) (unit : ℕ) → Steady (bodies_at limits unit)
unfolding bodies_at
bodies_steady limits unit =
    then_steady (list_at 0 MOST_PROCEDURES (λ _. routine_at)) _ (list_steady 0 MOST_PROCEDURES (λ _. routine_at) (λ before. routine_steady)) (λ routines.
    then_steady (list_at 0 limits.processes (process_at unit)) _ (list_steady 0 limits.processes (process_at unit) (process_steady unit)) (λ processes.
    then_steady body_at _ body_steady (λ init. then_steady handler_at _ handler_steady (λ handler. ok_steady _))))

code_steady : (bodies : Bodies) → Steady (code_at bodies)
unfolding code_at
code_steady bodies =
    then_steady (limited_at w32 1 MOST_INSTRUCTIONS) _ (limited_steady w32 1 MOST_INSTRUCTIONS) (λ count.
    either_steady (enter_within count bodies) _ _ (items_steady (λ _. bytes_at INSTRUCTION_BYTES) (λ before. bytes_steady INSTRUCTION_BYTES) count []) (limit_steady _))

section_steady : (limits : Limits) (unit : ℕ) → Steady (section_at limits unit)
unfolding section_at
section_steady limits unit = then_steady (objects_at limits) _ (objects_steady limits) (λ o. then_steady (bodies_at limits unit) _ (bodies_steady limits unit) (λ b. then_steady (code_at b) _ (code_steady b) (λ code. ok_steady _)))

item_steady : (limits : Limits) (frame : ℕ) (before : List Item) → Steady (item_at limits frame before)
unfolding item_at
item_steady limits frame before = then_steady (partition_at limits frame before) _ (partition_steady limits frame before) (λ row. then_steady (section_at limits row.period) _ (section_steady limits row.period) (λ section. ok_steady _))

-- ---- windows and channels

offset_steady : (end : ℕ) → Steady (offset_at end)
unfolding offset_at
offset_steady end = then_steady (number_at w32) _ (number_steady w32) (λ offset. either_steady (nat_lt offset end) _ _ (order_steady _) (ok_steady offset))

window_steady : (before : List WindowRow) → Steady (window_at before)
unfolding window_at
window_steady before =
    then_steady byte_at _ byte_steady (λ partition. then_steady (offset_at (last_end before)) _ (offset_steady (last_end before)) (λ offset.
    then_steady (limited_at w32 1 (2 ^ 32 - 1)) _ (limited_steady w32 1 (2 ^ 32 - 1)) (λ span. then_steady (choice_at truth_of) _ (choice_steady truth_of) (λ release. ok_steady _))))

end_steady : Steady channel_end_at
unfolding channel_end_at
end_steady = then_steady byte_at _ byte_steady (λ partition. then_steady byte_at _ byte_steady (λ port. ok_steady _))

channel_steady : (before : List Channel) → Steady (channel_at before)
unfolding channel_at
channel_steady before =
    then_steady (fresh_name_at (is_channel before)) _ (fresh_name_steady (is_channel before)) (λ name. then_steady channel_end_at _ end_steady (λ source.
    then_steady (list_at 1 MOST_DESTINATIONS (λ _. channel_end_at)) _ (list_steady 1 MOST_DESTINATIONS (λ _. channel_end_at) (λ before. end_steady)) (λ destinations. ok_steady _)))

-- ---- the image

magic_steady : Steady magic_at
unfolding magic_at
magic_steady = then_steady (bytes_at 8) _ (bytes_steady 8) (λ text. either_steady (bytes_eq text magic) _ _ (ok_steady text) (foreign_steady _))

version_steady : Steady version_at
unfolding version_at
version_steady =
    then_steady magic_at _ magic_steady (λ text. then_steady (number_at w16) _ (number_steady w16) (λ number.
    either_steady (nat_eq number FIRST_VERSION || nat_eq number SECOND_VERSION || nat_eq number THIRD_VERSION) _ _ (ok_steady number) (foreign_steady _)))

cost_steady : Steady cost_at
unfolding cost_at
cost_steady = then_steady (number_at w16) _ (number_steady w16) (λ n. chosen_steady (cost_of_ticks n))

costs_steady : Steady costs_at
unfolding costs_at
costs_steady = then_steady (items_at (λ _. cost_at) COST_KEYS []) _ (items_steady (λ _. cost_at) (λ before. cost_steady) COST_KEYS []) (λ costs. chosen_steady (from_order costs))

own_fields_steady : (number : ℕ) → Steady (own_fields_at number)
unfolding own_fields_at
own_fields_steady number = either_steady (nat_eq number FIRST_VERSION) _ _ (ok_steady _) (then_steady costs_at _ costs_steady (λ costs. ok_steady _))

pub fields_steady : Steady fields_at
unfolding fields_at
fields_steady =
    then_steady version_at _ version_steady (λ number. then_steady (limited_at w32 1 MOST_FRAME_TICKS) _ (limited_steady w32 1 MOST_FRAME_TICKS) (λ frame.
    then_steady (choice_at module_action_of) _ (choice_steady module_action_of) (λ fault. then_steady (own_fields_at number) _ (own_fields_steady number) (λ version.
    then_steady (list_at 1 (limits_of version).partitions (item_at (limits_of version) frame)) _ (list_steady 1 (limits_of version).partitions (item_at (limits_of version) frame) (item_steady (limits_of version) frame)) (λ items.
    then_steady (list_at 1 MOST_WINDOWS window_at) _ (list_steady 1 MOST_WINDOWS window_at window_steady) (λ windows.
    then_steady (list_at 0 MOST_CHANNELS channel_at) _ (list_steady 0 MOST_CHANNELS channel_at channel_steady) (λ channels. ok_steady _)))))))
