use Rattle.std.proofs.Common.{length, refl, ap, ◌∙◌}
use Rattle.std.proofs.lemmas.Result.{IfOk-weaker}
use Rattle.apex_types.specs.Line.{subject_text}
use Rattle.trace_stays.specs.Following.{HasProcess, process_in}
use Rattle.trace_stays.proofs.Followed.{both_in_place, both_kept, found_below, process_found, process_in_place, process_kept, within_found}
use Rattle.trace_stays.proofs.lanes.Lanes.process_place.Goals as goal

pub invariant_of-self : goal.invariant_of-self
invariant_of-self c =
    let mid = c.partition_place.new.self in
    let low = found_below c.args.partition.now mid.partitions.items c.in_ok-place.place c.in_ok-place.ensures.place in
    record {
      within = within_found (length mid.partitions.items) c.in_ok-place.place c.args.who.now mid.processes.items c.place_of_process.new.lanes.items c.place_of_process.result low
          c.place_of_process.ensures.found c.place_of_process.ensures.failed mid.within;
    }

pub returns-clause-place : goal.returns-clause-place
returns-clause-place c =
    let mid = c.partition_place.new.self in
    let new = c.place_of_process.new.lanes.items in
    IfOk-weaker c.place_of_process.result (HasProcess c.in_ok-place.place c.args.who.now mid.processes.items new) _
    (λ place has. ap (λ o. process_in o (subject_text c.args.who.now) new) c.in_ok-place.ensures.place ∙ process_found c.in_ok-place.place c.args.who.now mid.processes.items new place has) c.place_of_process.ensures.found

pub returns-clause-kept : goal.returns-clause-kept
returns-clause-kept c =
    let mid = c.partition_place.new.self in
    let new = c.place_of_process.new.lanes.items in
    IfOk-weaker c.place_of_process.result (HasProcess c.in_ok-place.place c.args.who.now mid.processes.items new) _
    (λ place has. both_kept c.args.self.now mid _ c.in_ok-place.ensures.kept (process_kept mid _ c.in_ok-place.place c.args.who.now place has refl)) c.place_of_process.ensures.found

pub returns-clause-places : goal.returns-clause-places
returns-clause-places c =
    let mid = c.partition_place.new.self in
    let new = c.place_of_process.new.lanes.items in
    IfOk-weaker c.place_of_process.result (HasProcess c.in_ok-place.place c.args.who.now mid.processes.items new) _
    (λ place has. both_in_place c.args.self.now mid _ c.in_ok-place.ensures.places (process_in_place mid _ c.in_ok-place.place c.args.who.now place has refl)) c.place_of_process.ensures.found
