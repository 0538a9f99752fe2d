-- What several files of the proofs import.
pub use Rattle.apex_types.specs.Runners.{Action, place_of}
pub use Rattle.apex_types.specs.declared.codes.Discipline.{Discipline}
pub use Rattle.apex_types.specs.declared.codes.ErrorKind.{ErrorKind}
pub use Rattle.apex_types.specs.declared.codes.Mode.{Mode}
pub use Rattle.apex_types.specs.declared.codes.PartitionAction.{PartitionAction}
pub use Rattle.apex_types.specs.declared.codes.ProcessState.{ProcessState}
pub use Rattle.apex_types.specs.declared.codes.ProcessState.TheVariants.{Dormant, Ready, Running, Waiting}
pub use Rattle.apex_types.specs.declared.codes.ReturnCode.{ReturnCode}
pub use Rattle.apex_types.specs.declared.codes.StartCondition.{StartCondition}
pub use Rattle.apex_types.specs.declared.device.DeviceLine.{DeviceLine}
pub use Rattle.apex_types.specs.declared.event.Event.{Event}
pub use Rattle.apex_types.specs.declared.event.EventKind.{EventKind}
pub use Rattle.apex_types.specs.declared.event.Subject.{Subject}
pub use Rattle.apex_types.specs.declared.identity.At.{At}
pub use Rattle.apex_types.specs.declared.identity.ListKey.{ListKey}
pub use Rattle.apex_types.specs.declared.identity.PartitionId.{PartitionId}
pub use Rattle.apex_types.specs.declared.identity.PortId.{PortId}
pub use Rattle.apex_types.specs.declared.identity.Priority.{Priority}
pub use Rattle.apex_types.specs.declared.identity.ProcessIndex.{ProcessIndex}
pub use Rattle.apex_types.specs.declared.identity.Runner.{Runner}
pub use Rattle.apex_types.specs.declared.identity.Ticks.{Ticks}
pub use Rattle.apex_types.specs.declared.limits.TheConstants.{MOST_LOCK_LEVEL}
pub use Rattle.apex_types.specs.declared.process.Due.{Due}
pub use Rattle.apex_types.specs.declared.process.Entry.{Entry}
pub use Rattle.apex_types.specs.declared.process.Lock.{Lock}
pub use Rattle.apex_types.specs.declared.process.ProcessStatus.{ProcessStatus}
pub use Rattle.apex_types.specs.declared.process.Wait.{Wait}
pub use Rattle.apex_types.specs.declared.process.Waiting.{Waiting as Place}
pub use Rattle.apex_types.specs.declared.process.WaitingError.{WaitingError}
pub use Rattle.apex_types.specs.declared.row.WindowRow.{WindowRow}
pub use Rattle.apex_types.specs.declared.service.ArrayPlace.{ArrayPlace}
pub use Rattle.apex_types.specs.declared.service.Call.{Call}
pub use Rattle.apex_types.specs.declared.service.Service.{Service}
pub use Rattle.arrayvec.specs.ArrayVec.{ArrayVec}
pub use Rattle.engine_meaning.specs.Engine.{Asks, Calls, Ends, Engine, Faults, Nothing}
pub use Rattle.engine_meaning.specs.Operators.{is_zero}
pub use Rattle.kernel_laws.specs.Agreement.{IsPlain, IsReadyAt, RecordsAgree, record_at}
pub use Rattle.kernel_laws.specs.Bursts.{Burst, alone}
pub use Rattle.kernel_laws.specs.Choice.{AreNumbersBelow, IsAmong, IsBeforeEach, IsNumbered, Picks, takes}
pub use Rattle.kernel_laws.specs.History.{Admits, Advances, Arrives, BreaksDown, GoesOut, Happening, Leaves, Move, Moves, Starts, Tells, all_happen, happens, makes, members_after}
pub use Rattle.kernel_laws.proofs.Going.{AreAllowed, Follows, Goes, called, those_ready}
pub use Rattle.kernel_laws.specs.Numbers.{AreNamed, BeginsToWait, HaveDisciplines, IsInOrder, May, Numbers, PortsHaveDisciplines, first_numbers, itself, may_asked, may_by, nobody, only_last, process_of, ready_lines, take_all, take_one}
pub use Rattle.kernel_laws.specs.OrderLaw.{IsOrdered, chosen_among}
pub use Rattle.kernel_laws.specs.Quiet.{HasNothingDue}
pub use Rattle.kernel_laws.specs.RunLaw.{AreOrdered, disciplines_of, names_of}
pub use Rattle.kernel_laws.specs.WaitingOrder.{AreQueues, IsQueue, IsReleasedFirst}
pub use Rattle.kernel_meaning.specs.HealthServices.{action_of, acts_on_error, begins_if_dormant, breaks, create_error_handler, creates_found, faults, get_error_status, is_fault, is_message_length, is_waiting, raise_application_error, raises, raises_application_error, starts_handler, takes_error, then_clears}
pub use Rattle.kernel_meaning.specs.Kernel.{Errors, Kernel, of_objects, of_ports, of_processes, with_errors, with_objects, with_ports}
pub use Rattle.kernel_meaning.specs.ObjectServices.{serves_objects}
pub use Rattle.kernel_meaning.specs.Objects.{ApexEvent, Blackboard, Buffer, Objects, Port, Ports, Semaphore, discipline_of, is_full, is_sampling, numbered_in, port_at}
pub use Rattle.kernel_meaning.specs.Partition.{Member, Moved, World, act, act_all, admits, are_same, choice_phase, chooses, chooses_with_handler, clearing_phase, control_at, followed_by, given, is_ready, leaves_processor, messages_to_move, moved, pick, place_of_port, preempts, runs, serves, spends_chosen, takes_processor, tick, ticked, treats_asked, treats_due, unless_held, with_world}
pub use Rattle.kernel_meaning.specs.PartitionServices.{clears, ends_body, enters_mode, forgotten, is_cold, is_warm, mode_of, next_release_of, ready_init, set_partition_mode, started_rows, starts_normally, wants}
pub use Rattle.kernel_meaning.specs.ProcessServices.{create_process, creates, deadline_in, delayed_start, delays, get_my_id, get_process_id, get_process_status, has_no_deadline, is_beyond, is_holder, is_priority, is_ready_state, level_of, lock_preemption, locked_by, may_not_lock, number_of, of_row, periodic_wait, priority_of, reaches_past, replenish, replenishes, resume, resumes, resumes_from, set_priority, start, stop, suspend, suspend_self, suspends, suspends_self, takes_priority, tells_status, time_out, timed_wait, unlock_preemption, unlocked, waits_for_period, waits_periodically, waits_until, with_lock, yields}
pub use Rattle.kernel_meaning.specs.Processes.{Processes, answers, behind_equals, goes_last, index, is_busy, is_created, is_dormant, is_held, is_no_other, is_normal, is_periodic, is_same, is_suspended, is_unknown, leaves, no_longer_waits, numbered, on, process_at, put_ready, put_row, put_unready, released, rests, rests_found, row_of, waits, wakes, without, zeros_of_wait}
pub use Rattle.kernel_meaning.specs.Queues.{Queues, emptied, entry, joins, list_at, list_in}
pub use Rattle.kernel_meaning.specs.Sharing.{Sharing, becomes, blocks, enters, fills, first_waiting, found_first, gives, gives_all, gives_found, handed_by, has, is_large_enough, is_length, refuses, releases_all, releases_found, waiting, waits_at, writes}
pub use Rattle.kernel_meaning.specs.Step.{Step, after, first_words, lifted, message, nothing, row}
pub use Rattle.kernel_meaning.specs.Times.{Treated, amount, begins, due_from, ends_wait, is_delay, is_duration, is_past, misses, mode_of_action, released_at, start_from, starts, starts_if_waiting, starts_in_normal, starts_waiting, tick_of, ticks, timed_out, treated_after, treats, treats_deadline}
pub use Rattle.kernel_meaning.specs.WindowFacts.{BeginWithin, begins_late}
pub use Rattle.kernel_meaning.specs.Windows.{Schedule, ended, owner, phase, tick_from}
pub use Rattle.machine_meaning.specs.MachineMeaning.{machine_module}
pub use Rattle.module_meaning.specs.Module.{Course, Module, Plan, Stepped, inputs_all, module_tick, moves_and_ticks, moves_ended, moves_port, moves_ports, moves_so_many, next_tick, of_member, of_tick, ports_from, steps, steps_member, still, then_goes, then_runs, ticks_owner, trace_from}
pub use Rattle.module_meaning.specs.SourceMeaning.{source_module}
pub use Rattle.module_meaning.specs.Table.{Channel, at_number}
pub use Rattle.std.proofs.Common.{Bool, IsTrue, List, None, Option, Some, arith, cond, false, inl, inr, length, map, nat_abs, nat_eq, refl, subst, suc, sym, true, zero, ℕ, ℤ, ◌%◌, ◌++◌, ◌+◌, ◌-◌, ◌<◌, ◌↔◌, ◌∙◌, ◌∷◌, ◌≡◌, ◌≢◌, ◌≤◌, ◌⊎◌}
pub use Rattle.std.proofs.lemmas.Bool.{and_parts, cases_lt, eq-eqb, eqb-false, eqb-true, ltb-false, ltb-true, or_parts}
pub use Rattle.std.proofs.lemmas.List.{append_assoc}
pub use Rattle.std.proofs.lemmas.Option.{none-some, same_Some}
pub use Rattle.std.specs.List.{list_any}
pub use Rattle.std.specs.Prelude.{if◌then◌else◌, is_some, nat_le, nat_lt, negsuc, not, option_map, pos, slice_get, slice_set, ◌&&◌, ◌==◌, ◌||◌}
