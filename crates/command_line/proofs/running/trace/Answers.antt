use Rattle.std.proofs.Common.{rules, ◌≢◌, [], map, Err}
use Rattle.std.proofs.lemmas.List.{nil_from_length}
use Rattle.machine_meaning.specs.ImageReading.{image_at}
use Rattle.streams.specs.States.{seen}
use Rattle.command_line.specs.declared.outcome.Outcome.TheVariants.{Usual}
use Rattle.std.specs.Prelude.{Ok}
use Rattle.command_line.proofs.Ran.{failed_by, traced_whole, waited, waited_in_vain, words_some}
use Rattle.module.proofs.Watched.{all_followed}
use Rattle.command_line.proofs.running.trace.Goals as goal

pub returns-in-Ok-clause-trace : goal.returns-in-Ok-clause-trace
returns-in-Ok-clause-trace g c =
    traced_whole (image_at c.args.files.image.now) c.args.files.text.now c.args.until.now c.args.ticks _ _ (Ok Usual) (nil_from_length c.args.until.now (search rules)) c.in-Ok.ensures.trace

pub returns-in-Err-clause-trace : goal.returns-in-Err-clause-trace
returns-in-Err-clause-trace g c =
    traced_whole (image_at c.args.files.image.now) c.args.files.text.now c.args.until.now c.args.ticks _ _ (Err c.in-Err.fault) (nil_from_length c.args.until.now (search rules)) c.in-Err.ensures.trace

pub returns-in-Err-clause-failed : goal.returns-in-Err-clause-failed
returns-in-Err-clause-failed g c =
    let out = seen g.O.Sink.taken g.O.Sink.failures g.O.Stream.is_flushed in
    failed_by (out c.args.out.now) (out c.run_watched.new.sink) (Err c.in-Err.fault) c.in-Err.ensures.write c.in-Err.ensures.quiet

pub returns-in-Ok-run_until-clause-trace : goal.returns-in-Ok-run_until-clause-trace
returns-in-Ok-run_until-clause-trace g c =
    let some : c.args.until.now ≢ [] = search rules in
    waited (image_at c.args.files.image.now) c.args.files.text.now (map (λ w. w.now) c.args.until.now) c.args.ticks _ _ c.in-Ok-run_until.came c.of_wait.result (words_some c.args.until.now some) c.of_wait.ensures c.in-Ok-run_until.ensures.trace

pub returns-in-Err-run_until-clause-trace : goal.returns-in-Err-run_until-clause-trace
returns-in-Err-run_until-clause-trace g c =
    let some : c.args.until.now ≢ [] = search rules in
    waited_in_vain (image_at c.args.files.image.now) c.args.files.text.now (map (λ w. w.now) c.args.until.now) c.args.ticks _ _ c.in-Err-run_until.fault (words_some c.args.until.now some) c.in-Err-run_until.ensures.trace

pub returns-in-Err-run_until-clause-failed : goal.returns-in-Err-run_until-clause-failed
returns-in-Err-run_until-clause-failed g c =
    let out = seen g.O.Sink.taken g.O.Sink.failures g.O.Stream.is_flushed in
    failed_by (out c.args.out.now) (out c.run_until.new.sink) (Err c.in-Err-run_until.fault) c.in-Err-run_until.ensures.write c.in-Err-run_until.ensures.quiet

pub returns-in-Ok-clause-followed : goal.returns-in-Ok-clause-followed
returns-in-Ok-clause-followed g c = all_followed _ _ _ _ _ _ _ c.run_watched.ensures.followed

pub returns-in-Err-clause-followed : goal.returns-in-Err-clause-followed
returns-in-Err-clause-followed g c = all_followed _ _ _ _ _ _ _ c.run_watched.ensures.followed

pub returns-in-Ok-run_until-clause-followed : goal.returns-in-Ok-run_until-clause-followed
returns-in-Ok-run_until-clause-followed g c = all_followed _ _ _ _ _ _ _ c.run_until.ensures.followed

pub returns-in-Err-run_until-clause-followed : goal.returns-in-Err-run_until-clause-followed
returns-in-Err-run_until-clause-followed g c = all_followed _ _ _ _ _ _ _ c.run_until.ensures.followed
