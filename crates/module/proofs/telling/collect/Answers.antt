use Rattle.module.proofs.Prelude.{rules, ◌≡◌, ◌≤◌, ◌<◌, ◌+◌, ◌-◌, ◌++◌, ℕ, suc, List, length, map, Result, Err, IfErr, refl, sym, ap, ◌∙◌, arith, Plan, machine_module, image_of, line_in, machine_inputs, InputLine, MachineControl, machine, BringsNothing, HasNoRoom, brought_next, brought_of, Standing, after, ticks, members_in, plan_of, standing_of, AreFrom, InputsFault}
use Rattle.std.proofs.Common.{[], subst}
use Rattle.image.specs.declared.value.Image as code
use Rattle.module.specs.declared.collected.Collected.{Collected}
use Rattle.module.proofs.Brought.{all_came, comes_further, is_brought, no_room_for_all, none_brought, tick_brings}
use Rattle.module.proofs.Unbrought.{brought_after, lines_ahead}
use Rattle.module.proofs.Watched.{counted_all, counted_first, counted_told}
use Rattle.module.proofs.telling.collect.Goals as goal
use Rattle.module.proofs.telling.collect.Goals.{then-loop-left-test+else-is_some, else-loop-left-test}

pub loop-left-init : goal.loop-left-init
loop-left-init g c =
    let m = c.args.running.now in
    let devices = c.args.devices.now in
    let watched = c.args.watched.0 in
    let meant = machine_module (image_of m.image) in
    let first : m.now.0 ≡ 0 = ap (λ (s : Standing MachineControl). s.now) c.requires.fresh in
    record {
      image = refl;
      order = subst (λ t. AreFrom t devices) (sym first) c.requires.order;
      count = omega (arith, first);
      heard = counted_first c.args.ticks m.now.0 (g.W.Watch.told c.args.watch.now);
      so_far = is_brought meant.plan watched devices c.args.ticks meant.members
          ∙ ap (brought_of meant.plan watched devices c.args.ticks) (sym c.requires.fresh)
          ∙ ap (λ (ls : List InputLine). ls ++ brought_of meant.plan watched devices c.args.ticks (standing_of machine m)) (sym c.new-inputs.ensures);
    }

pub loop-left-preserved : goal.loop-left-preserved
loop-left-preserved g c =
    let i = c.loop-left.invariant in
    let m0 = c.loop-left.running in
    let m = c.skip_still-count.new.self in
    let s = standing_of machine m in
    let next = c.tick_watched.new.self in
    let plan = plan_of c.args.running.now.image in
    let before : plan_of m0.image ≡ plan = ap (λ (image : code.Image). plan_of image) i.image in
    let same : plan_of m.image ≡ plan = ap (λ (image : code.Image). plan_of image) (c.skip_still-count.ensures.image ∙ i.image) in
    let watched = c.args.watched.0 in
    let lines = c.loop-left.lines.now in
    let now = c.split_tick.result.0.now in
    let later = c.split_tick.result.1.now in
    let left = c.loop-left.left in
    let so_far = c.loop-left.inputs.lines.items in
    let n = c.skip_still-count.result in
    let none : n ≡ 0 = omega (arith, c.if-count-gt0.false) in
    let skipped = c.skip_still-count.ensures.skipped in
    let here : m.now.0 ≡ m0.now.0 + n = skipped.1 in
    let order = lines_ahead (plan_of m0.image) lines c.until_line-quiet.result m0.now.0 n (standing_of machine m0) s refl c.until_line-quiet.ensures.from skipped in
    let quiet = subst (λ (p : Plan). BringsNothing p watched lines n (standing_of machine m0) s) before (c.skip_still-count.ensures.unbrought watched lines order) in
    let way = brought_after plan watched lines _ so_far left n left (standing_of machine m0) s (omega (arith, none)) i.so_far quiet in
    let one : left ≡ suc (left - 1) = omega (arith, c.loop-left-test.true) in
    let own = c.split_tick.ensures in
    let ticked = c.in_ok-tick_watched.ensures in
    let gone : standing_of machine next ≡ after s (ticks plan now s) = ticked.standing ∙ ap (λ (p : Plan). after s (ticks p now s)) same in
    let more = map (line_in m.now.0) (brought_next plan watched now s) in
    let came : c.tick_watched.new.inputs.lines.items ≡ so_far ++ more = ticked.inputs ∙ ap (λ (p : Plan). so_far ++ map (line_in m.now.0) (brought_next p watched now s)) same in
    let after_it : next.now.0 ≡ m.now.0 + 1 = ap (λ (x : Standing MachineControl). x.now) gone in
    let rest = brought_of plan watched later (left - 1) (standing_of machine next) in
    let split = tick_brings plan watched lines now later left (left - 1) s (standing_of machine next) one (own.of_tick ∙ own.own) own.rest gone in
    record {
      image = ticked.image ∙ c.skip_still-count.ensures.image ∙ i.image;
      order = subst (λ u. AreFrom u later) (sym after_it) own.later;
      count = omega (arith, after_it, here, none, i.count, c.loop-left-test.true);
      heard = counted_told next.now.0 c.one_more-steps.result (g.W.Watch.told c.one_more-steps.new.watch) c.requires.ticks (omega (arith, i.count, c.loop-left-test.true)) (omega (arith, after_it, here)) i.heard c.one_more-steps.ensures.quiet c.one_more-steps.ensures.told;
      so_far = comes_further _ so_far more _ rest way split ∙ ap (λ (ls : List InputLine). ls ++ rest) (sym came);
    }

pub loop-left-preserved-then-count-gt0 : goal.loop-left-preserved-then-count-gt0
loop-left-preserved-then-count-gt0 g c =
    let i = c.loop-left.invariant in
    let m0 = c.loop-left.running in
    let m = c.skip_still-count.new.self in
    let s = standing_of machine m in
    let plan = plan_of c.args.running.now.image in
    let before : plan_of m0.image ≡ plan = ap (λ (image : code.Image). plan_of image) i.image in
    let watched = c.args.watched.0 in
    let lines = c.loop-left.lines.now in
    let left = c.loop-left.left in
    let so_far = c.loop-left.inputs.lines.items in
    let n = c.skip_still-count.result in
    let skipped = c.skip_still-count.ensures.skipped in
    let within : n ≤ c.until_line-quiet.result = skipped.0 in
    let here : m.now.0 ≡ m0.now.0 + n = skipped.1 in
    let rest = left - c.from-left.result in
    let same : left ≡ n + rest = omega (arith, within, c.until_line-quiet.ensures.within, c.at_most.ensures.ticks, c.from-left.ensures) in
    let order = lines_ahead (plan_of m0.image) lines c.until_line-quiet.result m0.now.0 n (standing_of machine m0) s refl c.until_line-quiet.ensures.from skipped in
    let quiet = subst (λ (p : Plan). BringsNothing p watched lines n (standing_of machine m0) s) before (c.skip_still-count.ensures.unbrought watched lines order) in
    record {
      image = c.skip_still-count.ensures.image ∙ i.image;
      order = order;
      count = omega (arith, i.count, here, same);
      heard = counted_told m.now.0 c.one_more-steps.result (g.W.Watch.told c.one_more-steps.new.watch) c.requires.ticks (omega (arith, i.count, c.loop-left-test.true)) (omega (arith, here, c.if-count-gt0.true)) i.heard c.one_more-steps.ensures.quiet c.one_more-steps.ensures.told;
      so_far = brought_after plan watched lines _ so_far left n rest (standing_of machine m0) s same i.so_far quiet;
    }

pub returns-clause-inputs : goal.returns-clause-inputs
returns-clause-inputs g c =
    let m = c.loop-left.running in
    let plan = plan_of c.args.running.now.image in
    let lines = c.loop-left.lines.now in
    let s = standing_of machine m in
    let none : brought_of plan c.args.watched.0 lines c.loop-left.left s ≡ [] = elim c.loop-left-test.branch [
      | then-loop-left-test+else-is_some w ↦ none_brought plan c.args.watched.0 lines c.loop-left.left m.now.0 (members_in machine m.members) m.origin (sym w.is_some.ensures ∙ w.if-is_some.false)
      | else-loop-left-test w ↦ let over : c.loop-left.left ≡ 0 = omega (arith, w.loop-left-test.false) in ap (λ (k : ℕ). brought_of plan c.args.watched.0 lines k s) over
    ] in
    all_came _ _ _ c.loop-left.invariant.so_far none

pub returns-in_err-tick_watched-clause-refused : goal.returns-in_err-tick_watched-clause-refused
returns-in_err-tick_watched-clause-refused g c =
    let i = c.loop-left.invariant in
    let m0 = c.loop-left.running in
    let m = c.skip_still-count.new.self in
    let s = standing_of machine m in
    let plan = plan_of c.args.running.now.image in
    let before : plan_of m0.image ≡ plan = ap (λ (image : code.Image). plan_of image) i.image in
    let same : plan_of m.image ≡ plan = ap (λ (image : code.Image). plan_of image) (c.skip_still-count.ensures.image ∙ i.image) in
    let watched = c.args.watched.0 in
    let lines = c.loop-left.lines.now in
    let n = c.skip_still-count.result in
    let none : n ≡ 0 = omega (arith, c.if-count-gt0.false) in
    let skipped = c.skip_still-count.ensures.skipped in
    let order = lines_ahead (plan_of m0.image) lines c.until_line-quiet.result m0.now.0 n (standing_of machine m0) s refl c.until_line-quiet.ensures.from skipped in
    let quiet = subst (λ (p : Plan). BringsNothing p watched lines n (standing_of machine m0) s) before (c.skip_still-count.ensures.unbrought watched lines order) in
    let now = c.split_tick.result.0.now in
    let later = c.split_tick.result.1.now in
    let left = c.loop-left.left in
    let one : left ≡ suc (left - 1) = omega (arith, c.loop-left-test.true) in
    let own = c.split_tick.ensures in
    let fault = c.in_err-tick_watched.field-0.0 in
    let so_far = c.loop-left.inputs.lines.items in
    let way = brought_after plan watched lines _ so_far left n left (standing_of machine m0) s (omega (arith, none)) i.so_far quiet in
    let split = tick_brings plan watched lines now later left (left - 1) s (after s (ticks plan now s)) one (own.of_tick ∙ own.own) own.rest refl in
    let here = subst (λ (p : Plan). HasNoRoom (length so_far + length (brought_next p watched now s)) fault) same c.in_err-tick_watched.ensures.inputs in
    let all = no_room_for_all m.now.0 _ so_far _ _ (brought_next plan watched now s) fault way split here in
    let answer : c.from_residual-in_err-tick_watched.result ≡ Err fault = search rules in
    subst (λ (r : Result Collected InputsFault). IfErr r (HasNoRoom (length (machine_inputs (image_of c.args.running.now.image) watched c.args.devices.now c.args.ticks)))) (sym answer) all

pub returns-clause-followed : goal.returns-clause-followed
returns-clause-followed g c = counted_all c.loop-left.invariant.heard

pub returns-in_err-tick_watched-clause-followed : goal.returns-in_err-tick_watched-clause-followed
returns-in_err-tick_watched-clause-followed g c =
    let i = c.loop-left.invariant in
    let now = c.loop-left.running.now.0 in
    let next : now < now + 1 = omega arith in
    counted_all (counted_told (now + 1) c.one_more-steps.result (g.W.Watch.told c.one_more-steps.new.watch) c.requires.ticks (omega (arith, i.count, c.loop-left-test.true)) next i.heard c.one_more-steps.ensures.quiet c.one_more-steps.ensures.told)

pub overflow_sub-left : goal.overflow_sub-left
overflow_sub-left g c =
    let within : c.skip_still-count.result ≤ c.until_line-quiet.result = c.skip_still-count.ensures.skipped.0 in
    omega (arith, within, c.until_line-quiet.ensures.within, c.at_most.ensures.ticks, c.from-left.ensures)

pub split_tick-requires : goal.split_tick-requires
split_tick-requires g c =
    let m0 = c.loop-left.running in
    let skipped = c.skip_still-count.ensures.skipped in
    record {
      order = lines_ahead (plan_of m0.image) c.loop-left.lines.now c.until_line-quiet.result m0.now.0 c.skip_still-count.result (standing_of machine m0) (standing_of machine c.skip_still-count.new.self) refl c.until_line-quiet.ensures.from skipped;
    }

pub tick_watched-requires-clause-now : goal.tick_watched-requires-clause-now
tick_watched-requires-clause-now g c =
    let none : c.skip_still-count.result ≡ 0 = omega (arith, c.if-count-gt0.false) in
    let here : c.skip_still-count.new.self.now.0 ≡ c.loop-left.running.now.0 + c.skip_still-count.result = c.skip_still-count.ensures.skipped.1 in
    omega (arith, here, none, c.loop-left.invariant.count, c.requires.ticks, c.loop-left-test.true)
