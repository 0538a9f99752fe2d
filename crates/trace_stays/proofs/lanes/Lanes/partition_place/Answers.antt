use Rattle.std.proofs.Common.{refl}
use Rattle.std.proofs.lemmas.Result.{IfOk-weaker}
use Rattle.trace_stays.specs.Following.{HasPartition}
use Rattle.trace_stays.proofs.Followed.{partition_found, partition_in_place, partition_kept}
use Rattle.trace_stays.proofs.lanes.Lanes.partition_place.Goals as goal

pub returns-clause-place : goal.returns-clause-place
returns-clause-place c =
    let old = c.args.self.now.partitions.items in
    let new = c.place_of_partition.new.lanes.items in
    IfOk-weaker c.place_of_partition.result (HasPartition c.args.name.now old new) _ (λ place has. partition_found c.args.name.now old new place has) c.place_of_partition.ensures.found

pub returns-clause-kept : goal.returns-clause-kept
returns-clause-kept c =
    let old = c.args.self.now.partitions.items in
    let new = c.place_of_partition.new.lanes.items in
    IfOk-weaker c.place_of_partition.result (HasPartition c.args.name.now old new) _ (λ place has. partition_kept c.args.self.now _ c.args.name.now place has refl) c.place_of_partition.ensures.found

pub returns-clause-places : goal.returns-clause-places
returns-clause-places c =
    let old = c.args.self.now.partitions.items in
    let new = c.place_of_partition.new.lanes.items in
    IfOk-weaker c.place_of_partition.result (HasPartition c.args.name.now old new) _ (λ place has. partition_in_place c.args.self.now _ c.args.name.now place has refl) c.place_of_partition.ensures.found
