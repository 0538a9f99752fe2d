use Rattle.module.proofs.Prelude.{rules, ◌≡◌, ◌≤◌, ◌<◌, ◌+◌, ◌-◌, ◌^◌, ◌∷◌, suc, refl, sym, ap, ◌∙◌, arith, of_tick, Machine, machine_of, AreFrom}
use Rattle.std.proofs.Common.{[], subst}
use Rattle.module.specs.Watched.{Hears}
use Rattle.module.proofs.Ahead.{all_taken, going_first, going_kept, going_on, going_ticked, taken_down, under_way}
use Rattle.module.proofs.Machines.{ends_early, only_write, run_fails, kept_fails}
use Rattle.module.proofs.Runs.{only_broken, breaks_by}
use Rattle.module.proofs.Watched.{heard_next, heard_nothing, takes_all, takes_beginning, takes_kept, takes_more, told_all, told_down, told_made}
use Rattle.module.proofs.running.run_ticks.Goals as goal

pub loop-left-init : goal.loop-left-init
loop-left-init g c =
    let m = machine_of c.args.machine.now in
    let first : m.standing.now ≡ 0 = ap (λ (x : Machine). x.standing.now) c.requires.fresh in
    record {
      image = refl;
      failed = ap (λ (x : Machine). x.failed) c.requires.fresh;
      order = subst (λ t. AreFrom t c.args.devices.now) (sym first) c.requires.order;
      count = omega (arith, first);
      going = going_first m.image m c.args.devices.now (g.S.Sink.taken c.args.sink.now) c.requires.fresh;
      quiet = refl;
      heard = heard_nothing c.args.ticks m.standing.now (g.W.Watch.told c.args.watch.now) first;
    }

pub loop-left-2-init : goal.loop-left-2-init
loop-left-2-init g c =
    let i = c.loop-left.invariant in
    let here : 0 ≤ c.loop-left.left = omega arith in
    record {
      image = i.image;
      failed = i.failed;
      order = i.order;
      count = i.count;
      going = i.going;
      quiet = i.quiet;
      fewer = omega arith;
      above = omega (arith, c.saturating_sub-stop.ensures);
      some = λ down. absurd (search rules);
      kept = takes_all i.going.taken;
    }

pub returns-in_err-count-clause-trace : goal.returns-in_err-count-clause-trace
returns-in_err-count-clause-trace g c =
    let i = c.loop-left-2.invariant in
    let failed = only_broken c.loop-left-2.lines.now c.at_once.result (machine_of c.loop-left-2.machine) (machine_of c.advance.new.self) _ _ _ _ c.in_err-count.field-0.0 c.in_err-count.ensures.run in
    let within : c.at_once.result ≤ c.loop-left-2.left = omega (arith, c.at_once.ensures) in
    run_fails _ _ _ c.in_err-count.field-0.0 _ (search rules) failed.0
    (breaks_by (machine_of c.args.machine.now).image (machine_of c.loop-left-2.machine) c.loop-left-2.lines.now c.loop-left-2.left c.at_once.result within i.image (under_way c.args.ticks c.loop-left-2.left i.count i.going) failed.1)

pub returns-in_err-count-clause-followed : goal.returns-in_err-count-clause-followed
returns-in_err-count-clause-followed g c =
    let i = c.loop-left-2.invariant in
    let failed = only_broken c.loop-left-2.lines.now c.at_once.result (machine_of c.loop-left-2.machine) (machine_of c.advance.new.self) _ _ _ _ c.in_err-count.field-0.0 c.in_err-count.ensures.run in
    let within : (machine_of c.loop-left.machine).standing.now ≤ c.args.ticks = omega (arith, c.loop-left.invariant.count) in
    told_made c.requires.ticks within (takes_beginning (g.S.Sink.taken c.advance.new.sink) _ i.kept failed.1.beginning) c.loop-left.invariant.heard

pub returns-in_err-tick-clause-trace : goal.returns-in_err-tick-clause-trace
returns-in_err-tick-clause-trace g c =
    let i = c.loop-left-2.invariant in
    let image = (machine_of c.args.machine.now).image in
    let n = c.in_ok-count.count in
    let h = c.in_ok-count.ensures.run in
    let m = machine_of c.advance.new.self in
    let lines = c.loop-left-2.lines.now in
    let left = c.loop-left-2.left in
    let none : n ≡ 0 = omega (arith, c.if-count-gt0.false) in
    let way = going_on (machine_of c.loop-left-2.machine) m n i.image h.3 i.going h.4 in
    let count : m.standing.now + left ≡ c.args.ticks = omega (arith, i.count, h.3, none) in
    let one : left ≡ suc (left - 1) = omega (arith, c.loop-left-2-test.true) in
    let now = c.now.ensures in
    let own = c.split_tick.ensures in
    let failed = only_write c.in_err-tick.field-0.0 h.1 (omega (arith, c.requires.ticks, count, c.loop-left-2-test.true)) c.in_err-tick.ensures in
    run_fails _ _ _ c.in_err-tick.field-0.0 _ (search rules) failed.0
    (ends_early image m (machine_of c.tick.new.self) lines c.split_tick.result.0.now c.split_tick.result.1.now left (left - 1) one (h.0 ∙ i.image)
    (subst (λ t. of_tick t c.split_tick.result.0.now ≡ of_tick t lines) now (own.of_tick ∙ own.own))
    (λ u k. own.rest u (omega (arith, k, now)))
    (under_way c.args.ticks left count way) failed.1)

pub returns-in_err-tick-clause-followed : goal.returns-in_err-tick-clause-followed
returns-in_err-tick-clause-followed g c =
    let i = c.loop-left-2.invariant in
    let h = c.in_ok-count.ensures.run in
    let none : c.in_ok-count.count ≡ 0 = omega (arith, c.if-count-gt0.false) in
    let failed = only_write c.in_err-tick.field-0.0 h.1 (omega (arith, c.requires.ticks, i.count, h.3, none, c.loop-left-2-test.true)) c.in_err-tick.ensures in
    let within : (machine_of c.loop-left.machine).standing.now ≤ c.args.ticks = omega (arith, c.loop-left.invariant.count) in
    told_made c.requires.ticks within (takes_beginning (g.S.Sink.taken c.tick.new.sink) _ (takes_more (g.S.Sink.taken c.advance.new.sink) _ i.kept h.4.written) failed.1.beginning) c.loop-left.invariant.heard

pub loop-left-2-preserved : goal.loop-left-2-preserved
loop-left-2-preserved g c =
    let i = c.loop-left-2.invariant in
    let n = c.in_ok-count.count in
    let h = c.in_ok-count.ensures.run in
    let m = machine_of c.advance.new.self in
    let next = machine_of c.tick.new.self in
    let lines = c.loop-left-2.lines.now in
    let later = c.split_tick.result.1.now in
    let none : n ≡ 0 = omega (arith, c.if-count-gt0.false) in
    let way = going_on (machine_of c.loop-left-2.machine) m n i.image h.3 i.going h.4 in
    let now = c.now.ensures in
    let own = c.split_tick.ensures in
    let gone = c.in_ok-tick.ensures.2 in
    let after : next.standing.now ≡ m.standing.now + 1 = ap (λ s. s.now) gone.standing in
    record {
      image = gone.image ∙ h.0 ∙ i.image;
      failed = gone.failed;
      order = subst (λ u. AreFrom u later) (ap (λ n. n + 1) now ∙ sym after) own.later;
      count = omega (arith, after, i.count, h.3, none, c.loop-left-2-test.true);
      going = going_ticked m next c.split_tick.result.0.now later (h.0 ∙ i.image)
          (subst (λ t. of_tick t c.split_tick.result.0.now ≡ of_tick t lines) now (own.of_tick ∙ own.own))
          (λ u k. own.rest u (omega (arith, k, now)))
          way gone;
      quiet = gone.quiet ∙ h.4.quiet ∙ i.quiet;
      fewer = omega (arith, i.fewer);
      above = omega (arith, c.loop-left-2-test.true);
      some = λ down. omega (arith, i.fewer, c.loop-left-2-test.true);
      kept = takes_more (g.S.Sink.taken c.tick.new.sink) _ (takes_more (g.S.Sink.taken c.advance.new.sink) _ i.kept h.4.written) gone.written;
    }

pub loop-left-2-preserved-then-count-gt0 : goal.loop-left-2-preserved-then-count-gt0
loop-left-2-preserved-then-count-gt0 g c =
    let i = c.loop-left-2.invariant in
    let n = c.in_ok-count.count in
    let h = c.in_ok-count.ensures.run in
    let next = machine_of c.advance.new.self in
    let left = c.loop-left-2.left in
    let rest = left - c.from-left.result in
    let same : left ≡ n + rest = omega (arith, h.2, c.at_once.ensures, c.from-left.ensures) in
    record {
      image = h.0 ∙ i.image;
      failed = h.1;
      order = c.in_ok-count.ensures.order;
      count = omega (arith, i.count, h.3, same);
      going = going_on (machine_of c.loop-left-2.machine) next n i.image h.3 i.going h.4;
      quiet = h.4.quiet ∙ i.quiet;
      fewer = omega (arith, i.fewer);
      above = omega (arith, h.2, c.at_once.ensures, c.from-left.ensures, i.above);
      some = λ down. omega (arith, i.fewer, same, c.if-count-gt0.true);
      kept = takes_more (g.S.Sink.taken c.advance.new.sink) _ i.kept h.4.written;
    }

pub returns-in_err-offer_nothing-clause-trace : goal.returns-in_err-offer_nothing-clause-trace
returns-in_err-offer_nothing-clause-trace g c =
    let i = c.loop-left-2.invariant in
    let failed = c.in_err-offer_nothing.ensures.write in
    run_fails _ _ _ c.in_err-offer_nothing.field-0.0 _ (search rules) failed.0
    (kept_fails _ (g.S.Sink.taken c.loop-left-2.sink) _ _ _ (under_way c.args.ticks c.loop-left-2.left i.count i.going) c.in_err-offer_nothing.ensures.kept)

pub returns-in_err-offer_nothing-clause-followed : goal.returns-in_err-offer_nothing-clause-followed
returns-in_err-offer_nothing-clause-followed g c =
    let within : (machine_of c.loop-left.machine).standing.now ≤ c.args.ticks = omega (arith, c.loop-left.invariant.count) in
    told_made c.requires.ticks within (takes_kept (g.S.Sink.taken c.offer_nothing.new.sink) c.loop-left-2.invariant.kept c.in_err-offer_nothing.ensures.kept) c.loop-left.invariant.heard

pub loop-left-preserved : goal.loop-left-preserved
loop-left-preserved g c =
    let i = c.loop-left-2.invariant in
    let last = (machine_of c.loop-left.machine).standing.now in
    let now = (machine_of c.loop-left-2.machine).standing.now in
    let above : last < now = elim c.loop-left-2-test.branch [
      | goal.then-loop-left-2-test+else-not-is_shut_down-2 w ↦ omega (arith, i.some (search rules), i.count, c.loop-left.invariant.count)
      | goal.else-loop-left-2-test w ↦ omega (arith, w.loop-left-2-test.false, c.loop-left-test.true, c.saturating_sub-stop.ensures, c.pause.ensures.some, i.count, c.loop-left.invariant.count)
    ] in
    let near : now ≤ last + 2 ^ 20 = omega (arith, i.above, c.saturating_sub-stop.ensures, c.pause.ensures.few, i.count, c.loop-left.invariant.count) in
    record {
      image = i.image;
      failed = i.failed;
      order = i.order;
      count = i.count;
      going = going_kept (g.S.Sink.taken c.offer_nothing.new.sink) i.going c.in_ok-offer_nothing.ensures.kept;
      quiet = search rules;
      heard = heard_next now (g.W.Watch.told c.reached.new.self) above near c.loop-left.invariant.heard
          (subst (λ t. Hears (g.W.Watch.told c.loop-left.watch) (g.W.Watch.told c.reached.new.self) ((t, c.args.ticks) ∷ [])) c.now-in-loop-left.ensures c.reached.ensures);
    }

pub returns-else-not-is_shut_down-clause-trace : goal.returns-else-not-is_shut_down-clause-trace
returns-else-not-is_shut_down-clause-trace g c = taken_down c.args.ticks c.loop-left.left c.loop-left.invariant.count (search rules) c.loop-left.invariant.going

pub returns-else-not-is_shut_down-clause-followed : goal.returns-else-not-is_shut_down-clause-followed
returns-else-not-is_shut_down-clause-followed g c =
    let i = c.loop-left.invariant in
    let within : (machine_of c.loop-left.machine).standing.now ≤ c.args.ticks = omega (arith, i.count) in
    told_made c.requires.ticks within (takes_all i.going.taken) i.heard

pub returns-else-not-is_shut_down-clause-whole : goal.returns-else-not-is_shut_down-clause-whole
returns-else-not-is_shut_down-clause-whole g c =
    let i = c.loop-left.invariant in
    told_down c.args.ticks c.loop-left.left i.count (search rules) i.going i.heard

pub returns-after-loop-left-clause-trace : goal.returns-after-loop-left-clause-trace
returns-after-loop-left-clause-trace g c =
    let i = c.loop-left.invariant in
    all_taken c.args.ticks c.loop-left.left i.count (omega (arith, c.loop-left-test.false)) i.going

pub returns-after-loop-left-clause-followed : goal.returns-after-loop-left-clause-followed
returns-after-loop-left-clause-followed g c =
    let i = c.loop-left.invariant in
    let within : (machine_of c.loop-left.machine).standing.now ≤ c.args.ticks = omega (arith, i.count) in
    told_made c.requires.ticks within (takes_all i.going.taken) i.heard

pub returns-after-loop-left-clause-whole : goal.returns-after-loop-left-clause-whole
returns-after-loop-left-clause-whole g c =
    let i = c.loop-left.invariant in
    told_all c.args.ticks c.loop-left.left i.count (omega (arith, c.loop-left-test.false)) i.going i.heard
