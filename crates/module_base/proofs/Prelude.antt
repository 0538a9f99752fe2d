-- What several files of the proofs import.
pub use Rattle.apex_types.specs.Line.{space, words_text}
pub use Rattle.apex_types.specs.Places.{place_of_number}
pub use Rattle.apex_types.specs.declared.device.DeviceFault.{DeviceFault}
pub use Rattle.apex_types.specs.declared.device.DeviceLine.{DeviceLine}
pub use Rattle.apex_types.specs.declared.limits.TheConstants.{MOST_TICKS, MOST_WORDS}
pub use Rattle.apex_types.specs.declared.row.PortRow.{PortRow}
pub use Rattle.arrayvec.specs.ArrayVec.{ArrayVec}
pub use Rattle.engine_meaning.specs.Digits.{same}
pub use Rattle.image.specs.Items.{channel_of, items_of, partition_of}
pub use Rattle.isolation.specs.InputText.{AreWritable, input_text, replay_text}
pub use Rattle.isolation.specs.declared.input.Input.{Input}
pub use Rattle.isolation.specs.declared.input.Input.TheVariants.{PartitionFault}
pub use Rattle.isolation.specs.declared.input.InputLine.{InputLine}
pub use Rattle.kernel_meaning.specs.Step.{message}
pub use Rattle.machine_meaning.specs.MachineMeaning.{row_of_item}
pub use Rattle.module_base.specs.Refusals.{IsRefusal}
pub use Rattle.module_base.specs.Seen.{fitting}
pub use Rattle.module_base.specs.TextLines.{Taking, and_then, ends_with, line_by, put_line, taken_by, written_by}
pub use Rattle.module_base.specs.Views.{channels_in, rows_in}
pub use Rattle.module_base.specs.declared.line.MessageWords.{MessageWords}
pub use Rattle.module_meaning.specs.DeviceText.{Written, WrittenLine, first_from, is_room, line_with, piece, pieces, plain_number, words_of_port}
pub use Rattle.module_meaning.specs.Table.{Channel, Partition, at_number}
pub use Rattle.std.proofs.Common.{Bool, Err, List, None, Ok, Option, Result, Some, append-nil, arith, codes, cond, drop, false, length, length-append, map, option_copied, rules, suc, take, true, ℕ, ℤ, ◌++◌, ◌+◌, ◌<◌, ◌∙◌, ◌∷◌, ◌≡◌, ◌≤◌}
pub use Rattle.std.proofs.lemmas.Bool.{lt-leb}
pub use Rattle.std.specs.Prelude.{IfErr, IfOk, if◌then◌else◌, nat_lt, option_map}
pub use Rattle.text_lines.specs.Pieces.{pieces_of}
