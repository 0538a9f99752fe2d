use Rattle.std.proofs.Common.{rules, Vec, Global, map}
use Rattle.window_table.specs.declared.written.WrittenPartition.{WrittenPartition}
use Rattle.module_meaning.specs.TableRules.{partition_of}
use Rattle.window_table.specs.Views.{partition_text}
use Rattle.window_table.proofs.Reading.{no-table, row-fault, one-row, no-rows-left, next-value, all-seen}
use Rattle.window_table.proofs.written.read_partitions.Goals as goal

pub returns-in_default : goal.returns-in_default
returns-in_default c = no-table partition_text partition_of _ _ _ _ _ c.loop-value.invariant (next-value c.args.values.now c.loop-value.value-index c.value-item.result c.value-item.is (search rules)) c.in_default.ensures

pub returns-in-Err : goal.returns-in-Err
returns-in-Err c = row-fault {S = Vec WrittenPartition Global} partition_text (λ v. map partition_text v.items) partition_of _ _ _ _ _ _ _ c.loop-value.invariant (next-value c.args.values.now c.loop-value.value-index c.value-item.result c.value-item.is (search rules)) c.in-Some.ensures c.in-Err.ensures

pub loop-value-preserved : goal.loop-value-preserved
loop-value-preserved c = one-row partition_text partition_of _ _ _ _ _ _ _ _ _ c.loop-value.invariant (next-value c.args.values.now c.loop-value.value-index c.value-item.result c.value-item.is (search rules)) c.in-Some.ensures c.in-Ok.ensures c.if-is_err.ensures.value c.push.ensures.items

pub returns : goal.returns
returns c = no-rows-left partition_text partition_of _ _ _ c.loop-value.invariant (all-seen c.args.values.now c.loop-value.value-index (search rules))
