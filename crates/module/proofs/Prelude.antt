-- What several files of the proofs import.
pub use Rattle.apex_types.proofs.Writing.{IsUnderWay, under_way_fails, under_way_more}
pub use Rattle.apex_types.specs.Line.{TakesBeginning, text_of}
pub use Rattle.apex_types.specs.Places.{place_of_number}
pub use Rattle.apex_types.specs.Versions.{third_limits}
pub use Rattle.apex_types.specs.declared.codes.ModuleAction.{ModuleAction}
pub use Rattle.apex_types.specs.declared.codes.StartCondition.{StartCondition}
pub use Rattle.apex_types.specs.declared.cost.Costs.{Costs}
pub use Rattle.apex_types.specs.declared.device.DeviceFault.{DeviceFault}
pub use Rattle.apex_types.specs.declared.device.DeviceInput.{DeviceInput}
pub use Rattle.apex_types.specs.declared.device.DeviceLine.{DeviceLine}
pub use Rattle.apex_types.specs.declared.event.Event.{Event}
pub use Rattle.apex_types.specs.declared.identity.At.{At}
pub use Rattle.apex_types.specs.declared.identity.PartitionId.{PartitionId}
pub use Rattle.apex_types.specs.declared.identity.PortId.{PortId}
pub use Rattle.apex_types.specs.declared.identity.Ticks.{Ticks}
pub use Rattle.apex_types.specs.declared.limits.TheConstants.{MOST_DEVICE_LINES, MOST_TICKS}
pub use Rattle.apex_types.specs.declared.row.ChannelEnd.{ChannelEnd}
pub use Rattle.apex_types.specs.declared.row.ChannelEnd.TheVariants.{Device}
pub use Rattle.apex_types.specs.declared.row.PortRow.{PortRow}
pub use Rattle.arrayvec.specs.ArrayVec.{ArrayVec}
pub use Rattle.compiling_laws.specs.CompiledCode.{section_of}
pub use Rattle.engine_meaning.specs.Digits.{same}
pub use Rattle.engine_meaning.specs.Engine.{Engine}
pub use Rattle.image.specs.Items.{channel_of, channels_of, item_of, items_of, partition_of}
pub use Rattle.image.specs.Views.{image_of}
pub use Rattle.image.specs.declared.item.PartitionItem.{PartitionItem}
pub use Rattle.isolation.proofs.Law.{part_of_slice}
pub use Rattle.isolation.specs.Brought.{brought_by, brought_in, brought_in_all, brought_moved, brought_tick, brought_to, held_port, held_ports, inputs_from, line_in}
pub use Rattle.isolation.specs.InputText.{AreInOrder, replay_text}
pub use Rattle.isolation.specs.ReplayText.{replay_verdict}
pub use Rattle.isolation.specs.Replays.{numbered}
pub use Rattle.isolation.specs.Slices.{Slice, machine_inputs, slice, slice_of}
pub use Rattle.isolation.specs.declared.input.Input.{Input}
pub use Rattle.isolation.specs.declared.input.InputLine.{InputLine}
pub use Rattle.kernel_laws.specs.Quiet.{AreStill, HaveNoLines, IsStill}
pub use Rattle.kernel_meaning.specs.Kernel.{Kernel}
pub use Rattle.kernel_meaning.specs.Objects.{Port, Ports, is_source}
pub use Rattle.kernel_meaning.specs.Partition.{Member, Moved, World, leaves, leaving, messages_to_move, moved, tick, with_world}
pub use Rattle.kernel_meaning.specs.Step.{Step}
pub use Rattle.kernel_meaning.specs.Windows.{Schedule, ended, owner, tick_from}
pub use Rattle.lone_partition.proofs.Outputs.{lines_sent, nothing_sent}
pub use Rattle.lone_partition.specs.Loading.{fresh_item}
pub use Rattle.lone_partition.specs.Outputs.{next_at, sent_of}
pub use Rattle.lone_partition.specs.Pieces.{ticks_by}
pub use Rattle.lone_partition.specs.Sent.{Sent}
pub use Rattle.lone_partition.specs.Written.{IsCourse, IsMade}
pub use Rattle.machine_laws.proofs.ImageLaws.{spelled_is_read}
pub use Rattle.machine_meaning.specs.Image.{Image, Item}
pub use Rattle.machine_meaning.specs.ImageLimits.{IsLawful}
pub use Rattle.machine_meaning.specs.ImageReading.{Fault, image_at}
pub use Rattle.machine_meaning.specs.ImageSpelling.{spelling}
pub use Rattle.machine_meaning.specs.Instructions.{reading}
pub use Rattle.machine_meaning.specs.MachineControl.{MachineControl}
pub use Rattle.machine_meaning.specs.MachineMeaning.{machine_member, machine_members, machine_module, machine_trace, verdict_for}
pub use Rattle.module.specs.Building.{AreSourceRefusals, IsImageOf, IsLengthRefusal, IsSourceRefusal, IsTableRefusal}
pub use Rattle.module.specs.Built.{AreCoded, AreCompiled, IsBuiltFrom, IsCoded, built_image, built_item, built_items}
pub use Rattle.module.specs.Collecting.{AreCollected, BringsNothing, HasNoRoom, IsMadeUnseen, brought_found, brought_next, brought_of, held_found}
pub use Rattle.module.specs.Costs.{AreCostsOf}
pub use Rattle.module.specs.Machines.{HaveTicked, Machine, fresh_machine, machine_of}
pub use Rattle.module.specs.Members.{AreFitting, members_of}
pub use Rattle.module.specs.Pieces.{EndsQuietly, HasNoSource, HasPassed, HasPassedSome, HasPassedSomeBehind, HasRun, HasSkippedSome, IsBrokenOff, LeadsTo}
pub use Rattle.module.specs.Promises.{Means}
pub use Rattle.module.specs.Refusals.{first_too_long, is_too_long}
pub use Rattle.module.specs.Replays.{Replays}
pub use Rattle.module.specs.Running.{AreRefused, ReplaysSlice, fault_of_text}
pub use Rattle.module.specs.Runs.{IsDeviceRefusal, IsRun, Runs}
pub use Rattle.module.specs.Sources.{AreSources, IsSource, programs_of}
pub use Rattle.module_meaning.specs.Standing.{Elapsed, IsNow, Standing, after, at_first, begins, elapse, lines_of, origin_of, preceded_by, ticks, ticks_from}
pub use Rattle.module.specs.Standing.{moment_of, ticks_in}
pub use Rattle.module.specs.Telling.{TellsSlice}
pub use Rattle.module.specs.Views.{members_in, plan_of, standing_of}
pub use Rattle.module.specs.Written.{AreFrom}
pub use Rattle.module.specs.declared.fault.BuildFault.{BuildFault}
pub use Rattle.module.specs.declared.fault.RunFault.{RunFault}
pub use Rattle.module.specs.declared.fault.RunFault.TheVariants.{Failed, Image as NoImage, Memory, Partition as NoPartition, Write}
pub use Rattle.module.specs.declared.inputs_fault.InputsFault.{InputsFault}
pub use Rattle.module_base.specs.Refusals.{IsRefusal}
pub use Rattle.module_base.specs.declared.fault.DeviceTextFault.{DeviceTextFault}
pub use Rattle.module_meaning.specs.Accepted.{AreAccepted, IsAccepted, IsTable}
pub use Rattle.module_meaning.specs.Module.{Course, Plan, Stepped, as_origin, breaks_module, channel_from, delivers_all, first_tick, inputs, inputs_all, module_tick, moves_and_ticks, moves_ended, moves_messages, moves_ports, moves_so_many, next_tick, of_member, of_tick, ports_from, ports_of, start_lines, starts, starts_all, steps, steps_member, still, then_goes, then_runs, ticks_owner, trace_from, unless_down}
pub use Rattle.module_meaning.specs.SourceMeaning.{source_trace}
pub use Rattle.module_meaning.specs.Table.{Channel, Partition, Table, at_number, fixed_of}
pub use Rattle.pal_base.specs.ProgramView.{program_of}
pub use Rattle.pal_base.specs.declared.checked.Checked.{Checked}
pub use Rattle.pal_meaning.specs.Program.{Program}
pub use Rattle.partition.specs.Members.{member_of}
pub use Rattle.partition_base.specs.contracts.machine.PartitionProcessorExecutor.TheImpl.{ghosts as machine}
pub use Rattle.partition_base.specs.declared.executor.Executor.{Ghosts}
pub use Rattle.ports.specs.Held.{message_behind}
pub use Rattle.std.proofs.Common.{All, Bool, Err, IfErr, IfOk, List, None, Ok, OnOk, Option, Result, Some, ap, append-nil, append_assoc, arith, cond, drop, false, get_or, if◌then◌else◌, inl, inr, length, length-append, map, refl, rules, suc, sym, take, true, zero, ℕ, ℤ, ◌++◌, ◌+◌, ◌-◌, ◌<◌, ◌==◌, ◌^◌, ◌∙◌, ◌∷◌, ◌≡◌, ◌≢◌, ◌≤◌, ◌⊎◌}
pub use Rattle.std.proofs.KnownBytes.{Appends-nil}
pub use Rattle.std.proofs.lemmas.Bool.{ltb-false}
pub use Rattle.std.proofs.lemmas.Bool.Decides.{Decides-eqb}
pub use Rattle.std.proofs.lemmas.List.{drop_all, drop_more, length-map, map-append, take_more}
pub use Rattle.std.proofs.lemmas.List.Elements.{All-cons, All-nil}
pub use Rattle.std.proofs.lemmas.Option.{none-some, same_Some, slice_get-get_or, slice_get-map}
pub use Rattle.std.specs.Io.KnownBytes.{Appends}
pub use Rattle.std.specs.List.{flat_map, list_any}
pub use Rattle.std.specs.Prelude.{is_none, is_some, nat_lt, option_map, slice_get, slice_set}
pub use Rattle.window_table.specs.Schedules.{schedule_of}
pub use Rattle.window_table.specs.Views.{partition_view, table_of}
pub use Rattle.window_table.specs.declared.table.PartitionRow.{PartitionRow}
