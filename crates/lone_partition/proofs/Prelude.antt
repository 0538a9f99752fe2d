-- What several files of the proofs import.
pub use Rattle.apex_types.specs.Line.{TakesBeginning, text_of}
pub use Rattle.apex_types.specs.declared.codes.ModuleAction.{ModuleAction}
pub use Rattle.apex_types.specs.declared.cost.Costs.{Costs}
pub use Rattle.apex_types.specs.declared.event.Event.{Event}
pub use Rattle.apex_types.specs.declared.identity.At.{At}
pub use Rattle.apex_types.specs.declared.identity.PartitionId.{PartitionId}
pub use Rattle.apex_types.specs.declared.identity.PortId.{PortId}
pub use Rattle.apex_types.specs.declared.row.PortRow.{PortRow}
pub use Rattle.image.specs.Items.{channels_of, item_of, items_of}
pub use Rattle.image.specs.Views.{image_of}
pub use Rattle.image.specs.declared.item.PartitionItem.{PartitionItem}
pub use Rattle.isolation.specs.Alone.{Alone, Surroundings, alone_from, goes, goes_by_way, inputs_in, sends_and_ticks, sends_ended, sends_messages, sends_ports, sends_so_many, takes, takes_all, tick_alone, ticks_own, trace_alone}
pub use Rattle.isolation.specs.Surrounded.{surroundings_of, ways_from}
pub use Rattle.isolation.specs.declared.input.Input.{Input}
pub use Rattle.isolation.specs.declared.input.InputLine.{InputLine}
pub use Rattle.kernel_laws.specs.Quiet.{IsStill}
pub use Rattle.kernel_meaning.specs.Kernel.{Fixed, Kernel}
pub use Rattle.kernel_meaning.specs.Partition.{Member, leaving, moved}
pub use Rattle.kernel_meaning.specs.Windows.{at_tick, ended, owner}
pub use Rattle.lone_partition.specs.Around.{around}
pub use Rattle.lone_partition.specs.Lines.{AreFrom, inputs_of, lines_in, tick_of_input}
pub use Rattle.lone_partition.specs.Only.{only_part}
pub use Rattle.lone_partition.specs.Outputs.{next_at, sent_of}
pub use Rattle.lone_partition.specs.Pieces.{HasRun, IsWithin, LeadsTo, ticks_by}
pub use Rattle.lone_partition.specs.Sent.{HasSent, Sent}
pub use Rattle.lone_partition.specs.Written.{IsCourse, IsMade}
pub use Rattle.machine_meaning.specs.Image.{Item}
pub use Rattle.machine_meaning.specs.MachineControl.{MachineControl}
pub use Rattle.machine_meaning.specs.MachineMeaning.{machine_member, machine_module}
pub use Rattle.module_meaning.specs.Module.{Course, Stepped, first_tick, goes_on, next_tick, ports_of, still, then_goes, unless_down}
pub use Rattle.module_meaning.specs.Standing.{IsNow}
pub use Rattle.module_meaning.specs.Table.{at_number}
pub use Rattle.partition.specs.Fresh.{idle_kernel}
pub use Rattle.partition.specs.Members.{member_of}
pub use Rattle.partition.specs.View.{fixed_of as view}
pub use Rattle.partition_base.specs.contracts.machine.PartitionProcessorExecutor.TheImpl.{ghosts as machine}
pub use Rattle.regions.specs.Space.{Space}
pub use Rattle.std.proofs.Common.{Bool, List, None, Option, Some, [], ap, append-nil, append_assoc, arith, drop, false, get_or, length, refl, rules, subst, suc, sym, take, true, zero, ℕ, ◌++◌, ◌+◌, ◌-◌, ◌<◌, ◌∙◌, ◌∷◌, ◌≡◌, ◌≢◌, ◌≤◌}
pub use Rattle.std.proofs.KnownBytes.{Appends-nil}
pub use Rattle.std.proofs.lemmas.List.{drop_all, drop_more}
pub use Rattle.std.proofs.lemmas.Option.{none-some, same_Some, slice_get-get_or}
pub use Rattle.std.specs.Io.KnownBytes.{Appends}
pub use Rattle.std.specs.Prelude.{is_some, option_map, slice_get}
