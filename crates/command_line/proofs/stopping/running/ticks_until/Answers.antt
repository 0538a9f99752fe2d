use Rattle.std.proofs.Common.{rules, ◌≡◌, ◌≤◌, ◌+◌, ◌-◌, [], true, false, map, inl, inr, refl, subst, arith}
use Rattle.std.proofs.KnownBytes.{Appends-nil}
use Rattle.std.specs.Io.KnownBytes.{Appends}
use Rattle.apex_types.specs.Line.{TakesBeginning}
use Rattle.module.specs.Machines.{machine_of}
use Rattle.command_line.specs.Awaited.{has_line}
use Rattle.command_line.specs.StopSteps.{IsReported}
use Rattle.command_line.proofs.Ahead.{now_ticked}
use Rattle.command_line.proofs.Reached.{breaks_between, breaks_in_tick, ends_all, ends_broken, ends_down, ends_found, followed_beginning, followed_first, followed_further, followed_made, followed_told, reached_first, reached_kept, reached_skipped, reached_still, reached_ticked, skipped_before}
use Rattle.command_line.proofs.stopping.running.ticks_until.Goals as goal

pub loop-left-init : goal.loop-left-init
loop-left-init g c = record {
  reached = reached_first (map (λ a. a.now) c.args.wait.words.now) (machine_of c.args.machine.now).image c.args.devices.now c.args.wait.ticks (g.S.Sink.taken c.args.sink.now) (machine_of c.args.machine.now) c.requires.fresh c.requires.order;
  quiet = refl;
  followed = followed_first (machine_of c.args.machine.now).image c.args.devices.now c.args.wait.ticks (machine_of c.args.machine.now).standing.now (g.S.Sink.taken c.args.sink.now) (g.W.Watch.told c.args.watch.now);
  empty = search rules;
  fresh = search rules;
}

pub returns-in_err-told-clause-trace : goal.returns-in_err-told-clause-trace
returns-in_err-told-clause-trace g c =
    ends_broken _ _ _ _ _ _ c.in_err-told.field-0.0 _ (search rules) (inl c.in_err-told.ensures.write)
    (breaks_between (g.S.Sink.taken c.tell.new.sink) c.loop-left.invariant.reached c.in_err-told.ensures.kept)

pub loop-left-preserved-then-count-gt0 : goal.loop-left-preserved-then-count-gt0
loop-left-preserved-then-count-gt0 g c =
    let i = c.loop-left.invariant in
    let way = reached_kept (g.S.Sink.taken c.tell.new.sink) i.reached c.in_ok-told.ensures.kept in
    let rest = c.loop-left.left - c.from-left.result in
    let skipped = skipped_before _ (machine_of c.skip-count.new.self) c.until_line-quiet.result c.skip-count.result _ c.skip-count.ensures.skipped c.until_line-quiet.ensures.from in
    let few : c.skip-count.result ≤ c.until_line-quiet.result = skipped.1.2.0 in
    let count : c.loop-left.left ≡ c.skip-count.result + rest = omega (arith, few, c.until_line-quiet.ensures.within, c.at_once.ensures, c.from-left.ensures) in
    let told = subst (λ made. IsReported c.loop-left.told made c.args.wait.ticks c.in_ok-told.told (g.W.Watch.told c.loop-left.watch) (g.W.Watch.told c.tell.new.watch)) c.now.ensures c.in_ok-told.ensures.told in
    let followed = followed_told c.in_ok-told.told (g.S.Sink.taken c.tell.new.sink) (g.W.Watch.told c.tell.new.watch) c.requires.ticks c.in_ok-told.ensures.kept c.loop-left.invariant.reached.taken c.loop-left.invariant.followed told in
    let further : (machine_of c.loop-left.machine).standing.now ≤ (machine_of c.skip-count.new.self).standing.now = omega (arith, skipped.1.2.1) in
    record {
      reached = reached_skipped (machine_of c.skip-count.new.self) c.until_line-quiet.result c.skip-count.result rest way skipped.1 skipped.0 count;
      quiet = search rules;
      followed = followed_further (machine_of c.skip-count.new.self).standing.now (g.S.Sink.taken c.tell.new.sink) [] further (Appends-nil (g.S.Sink.taken c.tell.new.sink)) followed;
      empty = i.empty;
      fresh = i.fresh;
    }

pub returns-in_err-lines-clause-trace : goal.returns-in_err-lines-clause-trace
returns-in_err-lines-clause-trace g c =
    ends_broken _ _ _ _ _ _ c.in_err-lines.field-0.0 _ (search rules) (inr c.in_err-lines.ensures.memory)
    (breaks_between (g.S.Sink.taken c.tell.new.sink) c.loop-left.invariant.reached c.in_ok-told.ensures.kept)

pub overflow_sub-left : goal.overflow_sub-left
overflow_sub-left g c =
    let skipped = skipped_before _ (machine_of c.skip-count.new.self) c.until_line-quiet.result c.skip-count.result _ c.skip-count.ensures.skipped c.until_line-quiet.ensures.from in
    let few : c.skip-count.result ≤ c.until_line-quiet.result = skipped.1.2.0 in
    omega (arith, few, c.until_line-quiet.ensures.within, c.at_once.ensures, c.from-left.ensures)

pub tick_held-requires-clause-order : goal.tick_held-requires-clause-order
tick_held-requires-clause-order g c =
    let skipped = skipped_before _ (machine_of c.skip-count.new.self) c.until_line-quiet.result c.skip-count.result _ c.skip-count.ensures.skipped c.until_line-quiet.ensures.from in
    skipped.0

pub tick_held-requires-clause-sound : goal.tick_held-requires-clause-sound
tick_held-requires-clause-sound g c =
    let skipped = skipped_before _ (machine_of c.skip-count.new.self) c.until_line-quiet.result c.skip-count.result _ c.skip-count.ensures.skipped c.until_line-quiet.ensures.from in
    let way = reached_still (machine_of c.skip-count.new.self) c.until_line-quiet.result c.skip-count.result (reached_kept (g.S.Sink.taken c.tell.new.sink) c.loop-left.invariant.reached c.in_ok-told.ensures.kept) skipped.1 skipped.0 (omega (arith, c.if-count-gt0.false)) in
    way.sound

pub tick_held-requires-clause-few : goal.tick_held-requires-clause-few
tick_held-requires-clause-few g c =
    let skipped = skipped_before _ (machine_of c.skip-count.new.self) c.until_line-quiet.result c.skip-count.result _ c.skip-count.ensures.skipped c.until_line-quiet.ensures.from in
    let way = reached_still (machine_of c.skip-count.new.self) c.until_line-quiet.result c.skip-count.result (reached_kept (g.S.Sink.taken c.tell.new.sink) c.loop-left.invariant.reached c.in_ok-told.ensures.kept) skipped.1 skipped.0 (omega (arith, c.if-count-gt0.false)) in
    omega (arith, way.count, c.requires.ticks, c.loop-left-test.true)

pub returns-in_err-hand_on-clause-trace : goal.returns-in_err-hand_on-clause-trace
returns-in_err-hand_on-clause-trace g c =
    let mid = g.S.Sink.taken c.tell.new.sink in
    let new = g.S.Sink.taken c.hand_on.new.sink in
    let skipped = skipped_before _ (machine_of c.skip-count.new.self) c.until_line-quiet.result c.skip-count.result _ c.skip-count.ensures.skipped c.until_line-quiet.ensures.from in
    let way = reached_still (machine_of c.skip-count.new.self) c.until_line-quiet.result c.skip-count.result (reached_kept mid c.loop-left.invariant.reached c.in_ok-told.ensures.kept) skipped.1 skipped.0 (omega (arith, c.if-count-gt0.false)) in
    let part = subst (TakesBeginning mid new) c.as_slice.ensures.value c.in_err-hand_on.ensures.beginning in
    ends_broken _ _ _ _ _ _ c.in_err-hand_on.field-0.0 _ (search rules) (inl c.in_err-hand_on.ensures.write)
    (breaks_in_tick new (machine_of c.tick_held.new.machine) c.in_ok-lines.lines.now c.tick_held.new.held.writer.items way c.in_ok-lines.ensures.held (omega (arith, c.loop-left-test.true)) part)

pub returns-then-has_line-clause-trace : goal.returns-then-has_line-clause-trace
returns-then-has_line-clause-trace g c =
    let mid = g.S.Sink.taken c.tell.new.sink in
    let new = g.S.Sink.taken c.hand_on.new.sink in
    let bytes = c.tick_held.new.held.writer.items in
    let skipped = skipped_before _ (machine_of c.skip-count.new.self) c.until_line-quiet.result c.skip-count.result _ c.skip-count.ensures.skipped c.until_line-quiet.ensures.from in
    let way = reached_still (machine_of c.skip-count.new.self) c.until_line-quiet.result c.skip-count.result (reached_kept mid c.loop-left.invariant.reached c.in_ok-told.ensures.kept) skipped.1 skipped.0 (omega (arith, c.if-count-gt0.false)) in
    let more = subst (Appends mid new) c.as_slice.ensures.value c.in_ok-hand_on.ensures.taken in
    let found : has_line (map (λ a. a.now) c.args.wait.words.now) bytes ≡ true = subst (λ text. has_line (map (λ a. a.now) c.args.wait.words.now) text ≡ true) c.as_slice-in-loop-left.ensures.value (search rules) in
    ends_found new (machine_of c.tick_held.new.machine) c.in_ok-lines.lines.now bytes way c.in_ok-lines.ensures.held (omega (arith, c.loop-left-test.true)) more found

pub loop-left-preserved : goal.loop-left-preserved
loop-left-preserved g c =
    let mid = g.S.Sink.taken c.tell.new.sink in
    let new = g.S.Sink.taken c.hand_on.new.sink in
    let bytes = c.tick_held.new.held.writer.items in
    let left = c.loop-left.left in
    let skipped = skipped_before _ (machine_of c.skip-count.new.self) c.until_line-quiet.result c.skip-count.result _ c.skip-count.ensures.skipped c.until_line-quiet.ensures.from in
    let way = reached_still (machine_of c.skip-count.new.self) c.until_line-quiet.result c.skip-count.result (reached_kept mid c.loop-left.invariant.reached c.in_ok-told.ensures.kept) skipped.1 skipped.0 (omega (arith, c.if-count-gt0.false)) in
    let more = subst (Appends mid new) c.as_slice.ensures.value c.in_ok-hand_on.ensures.taken in
    let told = subst (λ made. IsReported c.loop-left.told made c.args.wait.ticks c.in_ok-told.told (g.W.Watch.told c.loop-left.watch) (g.W.Watch.told c.tell.new.watch)) c.now.ensures c.in_ok-told.ensures.told in
    let followed = followed_told c.in_ok-told.told (g.S.Sink.taken c.tell.new.sink) (g.W.Watch.told c.tell.new.watch) c.requires.ticks c.in_ok-told.ensures.kept c.loop-left.invariant.reached.taken c.loop-left.invariant.followed told in
    let further : (machine_of c.loop-left.machine).standing.now ≤ (machine_of c.tick_held.new.machine).standing.now = omega (arith, skipped.1.2.1, now_ticked c.in_ok-lines.ensures.held) in
    let without : has_line (map (λ a. a.now) c.args.wait.words.now) bytes ≡ false = subst (λ text. has_line (map (λ a. a.now) c.args.wait.words.now) text ≡ false) c.as_slice-in-loop-left.ensures.value (search rules) in
    record {
      reached = reached_ticked new (machine_of c.tick_held.new.machine) c.in_ok-lines.lines.now bytes (left - 1) way c.in_ok-lines.ensures.held (omega (arith, c.loop-left-test.true)) more without;
      quiet = search rules;
      followed = followed_further (machine_of c.tick_held.new.machine).standing.now new bytes further more followed;
      empty = search rules;
      fresh = c.in_ok-lines.ensures.fresh;
    }

pub returns-clause-trace : goal.returns-clause-trace
returns-clause-trace g c = elim c.loop-left-test.branch [
  | goal.then-loop-left-test+else-not-is_shut_down w ↦ ends_down c.loop-left.invariant.reached (search rules)
  | goal.else-loop-left-test w ↦ ends_all c.loop-left.invariant.reached (omega (arith, w.loop-left-test))
]

pub returns-in_err-told-clause-followed : goal.returns-in_err-told-clause-followed
returns-in_err-told-clause-followed g c =
    let i = c.loop-left.invariant in
    let new = g.S.Sink.taken c.tell.new.sink in
    let few : (machine_of c.loop-left.machine).standing.now ≤ c.args.wait.ticks = omega (arith, i.reached.count) in
    let quiet : IsReported c.loop-left.told (machine_of c.loop-left.machine).standing.now c.args.wait.ticks c.loop-left.told (g.W.Watch.told c.loop-left.watch) (g.W.Watch.told c.tell.new.watch) = inl (refl, c.in_err-told.ensures.untold) in
    followed_made few (followed_told c.loop-left.told new (g.W.Watch.told c.tell.new.watch) c.requires.ticks c.in_err-told.ensures.kept i.reached.taken i.followed quiet)

pub returns-in_err-lines-clause-followed : goal.returns-in_err-lines-clause-followed
returns-in_err-lines-clause-followed g c =
    let few : (machine_of c.loop-left.machine).standing.now ≤ c.args.wait.ticks = omega (arith, c.loop-left.invariant.reached.count) in
    let told = subst (λ made. IsReported c.loop-left.told made c.args.wait.ticks c.in_ok-told.told (g.W.Watch.told c.loop-left.watch) (g.W.Watch.told c.tell.new.watch)) c.now.ensures c.in_ok-told.ensures.told in
    let followed = followed_told c.in_ok-told.told (g.S.Sink.taken c.tell.new.sink) (g.W.Watch.told c.tell.new.watch) c.requires.ticks c.in_ok-told.ensures.kept c.loop-left.invariant.reached.taken c.loop-left.invariant.followed told in
    followed_made few followed

pub returns-in_err-hand_on-clause-followed : goal.returns-in_err-hand_on-clause-followed
returns-in_err-hand_on-clause-followed g c =
    let few : (machine_of c.loop-left.machine).standing.now ≤ c.args.wait.ticks = omega (arith, c.loop-left.invariant.reached.count) in
    let told = subst (λ made. IsReported c.loop-left.told made c.args.wait.ticks c.in_ok-told.told (g.W.Watch.told c.loop-left.watch) (g.W.Watch.told c.tell.new.watch)) c.now.ensures c.in_ok-told.ensures.told in
    let followed = followed_told c.in_ok-told.told (g.S.Sink.taken c.tell.new.sink) (g.W.Watch.told c.tell.new.watch) c.requires.ticks c.in_ok-told.ensures.kept c.loop-left.invariant.reached.taken c.loop-left.invariant.followed told in
    followed_made few (followed_beginning (g.S.Sink.taken c.hand_on.new.sink) _ c.in_err-hand_on.ensures.beginning followed)

pub returns-then-has_line-clause-followed : goal.returns-then-has_line-clause-followed
returns-then-has_line-clause-followed g c =
    let now = (machine_of c.loop-left.machine).standing.now in
    let few : now ≤ c.args.wait.ticks = omega (arith, c.loop-left.invariant.reached.count) in
    let same : now ≤ now = omega arith in
    let told = subst (λ made. IsReported c.loop-left.told made c.args.wait.ticks c.in_ok-told.told (g.W.Watch.told c.loop-left.watch) (g.W.Watch.told c.tell.new.watch)) c.now.ensures c.in_ok-told.ensures.told in
    let followed = followed_told c.in_ok-told.told (g.S.Sink.taken c.tell.new.sink) (g.W.Watch.told c.tell.new.watch) c.requires.ticks c.in_ok-told.ensures.kept c.loop-left.invariant.reached.taken c.loop-left.invariant.followed told in
    followed_made few (followed_further now (g.S.Sink.taken c.hand_on.new.sink) _ same c.in_ok-hand_on.ensures.taken followed)

pub returns-clause-followed : goal.returns-clause-followed
returns-clause-followed g c =
    let i = c.loop-left.invariant in
    let few : (machine_of c.loop-left.machine).standing.now ≤ c.args.wait.ticks = omega (arith, i.reached.count) in
    followed_made few i.followed
