-- What several files of the proofs import.
pub use Rattle.apex_types.specs.Line.{space}
pub use Rattle.apex_types.specs.NameText.{is_name}
pub use Rattle.apex_types.specs.Runners.{Action, place_of}
pub use Rattle.apex_types.specs.Versions.{costs_of, third_limits}
pub use Rattle.apex_types.specs.declared.codes.ErrorKind.{ErrorKind}
pub use Rattle.apex_types.specs.declared.codes.Mode.{Mode}
pub use Rattle.apex_types.specs.declared.codes.ModuleAction.{ModuleAction}
pub use Rattle.apex_types.specs.declared.codes.PartitionAction.{PartitionAction}
pub use Rattle.apex_types.specs.declared.codes.ProcessState.TheVariants.{Ready}
pub use Rattle.apex_types.specs.declared.codes.ReturnCode.{ReturnCode}
pub use Rattle.apex_types.specs.declared.codes.StartCondition.{StartCondition}
pub use Rattle.apex_types.specs.declared.cost.Costs.{Costs}
pub use Rattle.apex_types.specs.declared.device.DeviceFault.{DeviceFault}
pub use Rattle.apex_types.specs.declared.device.DeviceInput.{DeviceInput}
pub use Rattle.apex_types.specs.declared.device.DeviceLine.{DeviceLine}
pub use Rattle.apex_types.specs.declared.event.Event.{Event}
pub use Rattle.apex_types.specs.declared.identity.At.{At}
pub use Rattle.apex_types.specs.declared.identity.PartitionId.{PartitionId}
pub use Rattle.apex_types.specs.declared.identity.PortId.{PortId}
pub use Rattle.apex_types.specs.declared.identity.ProcessIndex.{ProcessIndex}
pub use Rattle.apex_types.specs.declared.identity.Runner.{Runner}
pub use Rattle.apex_types.specs.declared.limits.TheConstants.{MOST_DEVICE_LINES, MOST_TICKS, MOST_WORDS}
pub use Rattle.apex_types.specs.declared.process.Due.{Due}
pub use Rattle.apex_types.specs.declared.process.Entry.{Entry}
pub use Rattle.apex_types.specs.declared.process.ProcessStatus.{ProcessStatus}
pub use Rattle.apex_types.specs.declared.process.Wait.{Wait}
pub use Rattle.apex_types.specs.declared.process.Waiting.{Waiting}
pub use Rattle.apex_types.specs.declared.row.ChannelEnd.{ChannelEnd}
pub use Rattle.apex_types.specs.declared.row.PortDirection.{PortDirection}
pub use Rattle.apex_types.specs.declared.row.PortRow.{PortRow}
pub use Rattle.apex_types.specs.declared.row.WindowRow.{WindowRow}
pub use Rattle.apex_types.specs.declared.service.ArrayPlace.{ArrayPlace}
pub use Rattle.apex_types.specs.declared.service.Call.{Call}
pub use Rattle.apex_types.specs.declared.service.Service.{Service}
pub use Rattle.arrayvec.specs.ArrayVec.{ArrayVec}
pub use Rattle.engine_meaning.specs.Digits.{same}
pub use Rattle.engine_meaning.specs.Engine.{Asks, Calls, Ends, Engine, Faults, Nothing}
pub use Rattle.engine_meaning.specs.Operators.{is_zero}
pub use Rattle.isolation.specs.Alone.{Arrive, Input, InputLine, ModuleFault, PartitionFault, Surroundings, goes, goes_by_way, meets_fault, sends_and_ticks, sends_ended, sends_found, sends_message, sends_messages, sends_port, sends_ports, sends_so_many, takes, takes_all, tick_alone, ticks_own, way_out}
pub use Rattle.isolation.specs.Brought.{brought_by, brought_in, brought_in_all, brought_moved, brought_tick, brought_to, held_ended, held_port, held_ports, inputs_from, inputs_of, line_in, part, shuts_down}
pub use Rattle.isolation.specs.InputText.{AreInputs, AreWritable, HasNames, IsInput, replay_text}
pub use Rattle.isolation.specs.Slices.{Slice, machine_inputs, slice}
pub use Rattle.isolation.specs.Surrounded.{name_to_device, surroundings_of}
pub use Rattle.kernel_meaning.specs.HealthServices.{acts_on_error, breaks, enters_mode as enters_mode_of_action, faults, ignores, is_fault, raise_application_error, raises, raises_application_error, then_clears}
pub use Rattle.kernel_meaning.specs.Kernel.{Errors, Fixed, Kernel, of_ports, of_ports_alone, of_processes, with_errors, with_ports}
pub use Rattle.kernel_meaning.specs.Objects.{Objects, Port, Ports, is_full, is_sampling, is_source, is_source_direction, port_at, with_message, with_sample}
pub use Rattle.kernel_meaning.specs.Partition.{Member, Moved, World, act, act_all, admits, advances, arrives, breaks_down, choice_phase, chooses_with_handler, clearing_phase, cold_start, control_at, due_phase, given, goes_out, leaves, leaving, messages_to_move, moved, place_of_port, prepares, serves, spends, spends_chosen, tick, ticked, treating_phase, treats_asked}
pub use Rattle.kernel_meaning.specs.PartitionServices.{clears, ends_body, enters_mode, is_cold, is_warm, mode_of, next_release_of, set_partition_mode, wants}
pub use Rattle.kernel_meaning.specs.PortServices.{becomes_port, list}
pub use Rattle.kernel_meaning.specs.Processes.{Processes, index, is_busy, is_normal, no_longer_waits, numbered, rests_found, row_of, wakes}
pub use Rattle.kernel_meaning.specs.Sharing.{Sharing, blocks, first_waiting, is_length, on, waiting}
pub use Rattle.kernel_meaning.specs.Step.{Step, after, first_words, message}
pub use Rattle.kernel_meaning.specs.Times.{is_duration, mode_of_action}
pub use Rattle.kernel_meaning.specs.WindowFacts.{HasOneEnd, HasOneOwner}
pub use Rattle.kernel_meaning.specs.Windows.{Schedule, ended, owner, schedule_of_partition}
pub use Rattle.machine_laws.proofs.Releases.{lawful_end, lawful_owner}
pub use Rattle.machine_laws.proofs.Widened.{items_widened}
pub use Rattle.machine_meaning.specs.Image.{Image, Item}
pub use Rattle.machine_meaning.specs.ImageLimits.{EachBeside, IsItem, IsLawful, IsPort}
pub use Rattle.machine_meaning.specs.ImageReading.{partitions_in}
pub use Rattle.machine_meaning.specs.MachineControl.{MachineControl}
pub use Rattle.machine_meaning.specs.MachineMeaning.{machine_members, verdict_for}
pub use Rattle.module_meaning.specs.DeviceText.{Message, Written, is_room, line_with, message_of, message_with, pieces, words_of_ends}
pub use Rattle.module_meaning.specs.ImageRules.{has_unknown_port, is_unknown_port}
pub use Rattle.module_meaning.specs.Module.{Course, Plan, Stepped, as_origin, breaks_module, channel_from, delivers, delivers_all, first_tick, goes_by, goes_on, inputs, inputs_all, is_of_tick, is_port, module_tick, moves_and_ticks, moves_found, moves_message, moves_messages, moves_port, moves_ports, moves_so_many, next_tick, of_member, of_tick, ports_from, ports_of, started_member, starts, starts_all, steps, still, then_goes, then_runs, unless_down}
pub use Rattle.module_meaning.specs.Table.{Channel, Partition, at_number, differ, ends_of, fixed_of, has_mixed_ports, has_twice, has_wrong_direction, has_wrong_ends, is_same_port, is_source_port, is_split_queue, sends_to_itself, ◌>>=◌}
pub use Rattle.std.proofs.Common.{Bool, Err, List, None, Ok, Option, Result, Some, append-nil, append_assoc, arith, cond, false, inl, inr, le_refl, length, map, suc, sym, true, zero, ℕ, ℤ, ◌++◌, ◌+◌, ◌-◌, ◌<◌, ◌∙◌, ◌∷◌, ◌≡◌, ◌≢◌, ◌≤◌}
pub use Rattle.std.proofs.lemmas.Bool.{and_parts, cases_lt, eq-eqb, eqb-false, eqb-true, leb-true, ne_eqb, not-false, or_from}
pub use Rattle.std.proofs.lemmas.List.{length-set}
pub use Rattle.std.proofs.lemmas.Option.{slice_get-map}
pub use Rattle.std.specs.List.{AllByRecursion, list_any}
pub use Rattle.std.specs.Prelude.{filter, find, flat_map, if◌then◌else◌, is_none, is_some, nat_eq, nat_le, nat_lt, negsuc, not, option_map, pos, replicate, slice_get, slice_set, ◌&&◌, ◌==◌, ◌||◌}
