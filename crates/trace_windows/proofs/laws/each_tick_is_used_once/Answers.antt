use Rattle.std.proofs.Common.{◌≡◌, ◌+◌, ◌∷◌, ap, drop, sym, ◌∙◌, ◌-◌, subst}
use Rattle.std.proofs.lemmas.List.{drop_all, drop_more}
use Rattle.apex_types.specs.declared.event.Event.{Event}
use Rattle.apex_types.specs.declared.identity.Ticks.{Ticks}
use Rattle.trace_windows.specs.Counts.{HasTotal}
use Rattle.trace_windows.specs.Runs.{first as first_tick}
use Rattle.trace_windows.specs.Standings.{Standing, in_run, standing_of}
use Rattle.trace_windows.proofs.Reading.{all_read, begins, passed_as, step_read}
use Rattle.trace_windows.proofs.Totals.{total_all, total_first, total_line}
use Rattle.window_table.specs.Schedules.{schedule_of}
use Rattle.trace_windows.proofs.laws.each_tick_is_used_once.Goals as goal

pub loop-event-init : goal.loop-event-init
loop-event-init c =
    let shares = c.in_ok-shares.shares in
    record {
      schedule = c.in_ok-shares.ensures.schedule;
      from = c.in_ok-shares.ensures.from;
      counted = λ before. begins (schedule_of c.args.schedule) c.args.names.now c.args.from.0 (in_run c.args.until.0) c.args.events.now (standing_of shares) shares.counted.rows.items
          c.in_ok-shares.ensures.standing c.in_ok-shares.ensures.counted before;
      total = total_first c.args.from.0 (standing_of shares) shares.counted.rows.items (ap (λ (s : Standing). s.now) c.in_ok-shares.ensures.standing) c.in_ok-shares.ensures.counted;
    }

pub loop-event-preserved : goal.loop-event-preserved
loop-event-preserved c =
    let old = c.loop-event.shares in
    let new = c.follow.new.self in
    let events = c.args.events.now in
    let i = c.loop-event.event-index in
    let event = c.event-item.result in
    let first : drop i events ≡ event ∷ drop (i + 1) events = drop_more events i event c.loop-event-test.true ∙ ap (λ (e : Event). e ∷ drop (i + 1) events) (sym c.event-item.is) in
    record {
      schedule = c.in_ok-follow.ensures.kept ∙ c.loop-event.invariant.schedule;
      from = c.in_ok-follow.ensures.from ∙ c.loop-event.invariant.from;
      counted = λ before. step_read (schedule_of c.args.schedule) c.args.from.0 (in_run c.args.until.0) (standing_of old) (standing_of new) event (drop (i + 1) events) (drop i events)
          old.counted.rows.items new.counted.rows.items _ first c.in_ok-follow.ensures.standing
          (passed_as old.schedule c.args.schedule old.from c.args.from (standing_of old) (in_run event.tick.0) old.counted.rows.items new.counted.rows.items
          c.loop-event.invariant.schedule c.loop-event.invariant.from c.in_ok-follow.ensures.counted) (c.loop-event.invariant.counted before);
      total = total_line c.args.from.0 (standing_of old) (standing_of new) event old.counted.rows.items new.counted.rows.items c.in_ok-follow.ensures.standing
          (subst (λ (t : Ticks). HasTotal (in_run event.tick.0 - first_tick t.0 (standing_of old)) old.counted.rows.items new.counted.rows.items) c.loop-event.invariant.from c.in_ok-follow.ensures.total)
          c.loop-event.invariant.total;
    }

pub returns-clause-used : goal.returns-clause-used
returns-clause-used c = λ before.
    let old = c.loop-event.shares in
    let new = c.pass_to.new.self in
    let events = c.args.events.now in
    let i = c.loop-event.event-index in
    all_read (schedule_of c.args.schedule) c.args.from.0 (in_run c.args.until.0) (standing_of old) (drop i events) old.counted.rows.items new.counted.rows.items _
    (drop_all i events c.loop-event-test.false)
    (passed_as old.schedule c.args.schedule old.from c.args.from (standing_of old) (in_run c.args.until.0) old.counted.rows.items new.counted.rows.items
    c.loop-event.invariant.schedule c.loop-event.invariant.from c.in_ok-pass_to.ensures.counted) (c.loop-event.invariant.counted before)

pub returns-clause-all : goal.returns-clause-all
returns-clause-all c = λ before.
    let old = c.loop-event.shares in
    let new = c.pass_to.new.self in
    let i = c.loop-event.event-index in
    total_all c.args.from.0 c.args.until.0 (standing_of old) (drop i c.args.events.now) old.counted.rows.items new.counted.rows.items (drop_all i c.args.events.now c.loop-event-test.false)
    (c.loop-event.invariant.counted before).0
    (subst (λ (t : Ticks). HasTotal (in_run c.args.until.0 - first_tick t.0 (standing_of old)) old.counted.rows.items new.counted.rows.items) c.loop-event.invariant.from c.in_ok-pass_to.ensures.total)
    c.loop-event.invariant.total
