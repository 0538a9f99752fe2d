use Rattle.module.proofs.Prelude.{rules, ◌≡◌, ◌≤◌, ◌+◌, ◌-◌, false, suc, Err, refl, sym, ap, ◌∙◌, arith, MOST_TICKS, Machine, machine_of, AreFrom}
use Rattle.std.proofs.Common.{◌*◌, subst}
use Rattle.apex_types.proofs.Writing.{under_way_start}
use Rattle.module.specs.States.{spaced}
use Rattle.module.specs.Stating.{number_in, text_before, texts_before}
use Rattle.module.proofs.Spaced.{alike_later, all_out, before_first, from_first, none_more, one_distance, one_more, passed_to, rows_now}
use Rattle.module.proofs.series.put_spaced.Goals as goal

pub loop-left-init : goal.loop-left-init
loop-left-init g c =
    let m = machine_of c.args.machine.now in
    let form = c.args.shown.form in
    let only = number_in c.args.shown.only in
    let k = c.args.spaced.every in
    let devices = c.args.devices.now in
    let old = g.S.Sink.taken c.args.sink.now in
    let first : m.standing.now ≡ 0 = ap (λ (x : Machine). x.standing.now) c.requires.fresh in
    let whole = texts_before form only m.image devices (spaced k 0 (suc c.args.spaced.more)) in
    let next : m.standing.now + k ≡ 0 + k = ap (λ t. t + k) first in
    let before = before_first m.image devices m c.requires.fresh in
    let own = rows_now form only m.image devices m refl before ∙ ap (text_before form only m.image devices) first in
    record {
      image = refl;
      failed = ap (λ (x : Machine). x.failed) c.requires.fresh;
      before = before;
      order = subst (λ t. AreFrom t devices) (sym first) c.requires.order;
      alike = λ u above. refl;
      few = omega (arith, first, c.requires.few);
      text = one_more form only m.image devices k 0 (m.standing.now + k) (suc c.args.spaced.more) c.args.spaced.more old old (g.S.Sink.taken c.put_state.new.sink) whole _ refl next (under_way_start old whole) own c.in_ok-put_state.ensures.text;
      quiet = c.in_ok-put_state.ensures.ok;
    }

pub returns-in_err-put_state-clause-text : goal.returns-in_err-put_state-clause-text
returns-in_err-put_state-clause-text g c =
    let m = machine_of c.args.machine.now in
    let form = c.args.shown.form in
    let only = number_in c.args.shown.only in
    let k = c.args.spaced.every in
    let devices = c.args.devices.now in
    let old = g.S.Sink.taken c.args.sink.now in
    let first : m.standing.now ≡ 0 = ap (λ (x : Machine). x.standing.now) c.requires.fresh in
    let whole = texts_before form only m.image devices (spaced k 0 (suc c.args.spaced.more)) in
    let own = rows_now form only m.image devices m refl (before_first m.image devices m c.requires.fresh) ∙ ap (text_before form only m.image devices) first in
    none_more form only m.image devices k 0 (suc c.args.spaced.more) c.args.spaced.more old old (g.S.Sink.taken c.put_state.new.sink) whole _ c.in_err-put_state.field-0.0 _ (search rules) refl (under_way_start old whole) own c.in_err-put_state.ensures.text

pub pass_over-requires-clause-ticks : goal.pass_over-requires-clause-ticks
pass_over-requires-clause-ticks g c =
    let i = c.loop-left.invariant in
    let left = c.loop-left.left in
    let k = c.args.spaced.every in
    let one : left ≡ suc (left - 1) = omega (arith, c.loop-left-test.true) in
    let split : left * k ≡ k + (left - 1) * k = one_distance left (left - 1) k one in
    omega (arith, i.few, split)

pub from_tick-lines-requires : goal.from_tick-lines-requires
from_tick-lines-requires g c = from_first _ c.loop-left.lines.now c.loop-left.invariant.order

pub returns-in_err-put_state-2-clause-text : goal.returns-in_err-put_state-2-clause-text
returns-in_err-put_state-2-clause-text g c =
    let i = c.loop-left.invariant in
    let image = (machine_of c.args.machine.now).image in
    let m = machine_of c.loop-left.machine in
    let next = machine_of c.pass_over.new.self in
    let form = c.args.shown.form in
    let only = number_in c.args.shown.only in
    let k = c.args.spaced.every in
    let devices = c.args.devices.now in
    let left = c.loop-left.left in
    let one : left ≡ suc (left - 1) = omega (arith, c.loop-left-test.true) in
    let passed = passed_to image m next c.loop-left.lines.now devices k i.image i.before i.alike c.in_ok-pass_over.ensures.state in
    let own = rows_now form only image devices next (c.in_ok-pass_over.ensures.image ∙ i.image) passed.1 ∙ ap (text_before form only image devices) passed.0 in
    none_more form only image devices k (m.standing.now + k) left (left - 1) (g.S.Sink.taken c.args.sink.now) (g.S.Sink.taken c.loop-left.sink) (g.S.Sink.taken c.put_state-in-loop-left.new.sink) _ _ c.in_err-put_state-2.field-0.0 _ (search rules) one i.text own c.in_err-put_state-2.ensures.text

pub loop-left-preserved : goal.loop-left-preserved
loop-left-preserved g c =
    let i = c.loop-left.invariant in
    let image = (machine_of c.args.machine.now).image in
    let m = machine_of c.loop-left.machine in
    let next = machine_of c.pass_over.new.self in
    let form = c.args.shown.form in
    let only = number_in c.args.shown.only in
    let k = c.args.spaced.every in
    let devices = c.args.devices.now in
    let left = c.loop-left.left in
    let one : left ≡ suc (left - 1) = omega (arith, c.loop-left-test.true) in
    let split : left * k ≡ k + (left - 1) * k = one_distance left (left - 1) k one in
    let passed = passed_to image m next c.loop-left.lines.now devices k i.image i.before i.alike c.in_ok-pass_over.ensures.state in
    let same = c.in_ok-pass_over.ensures.image ∙ i.image in
    let now = c.now.ensures in
    let later = c.from_tick-lines.result.now in
    let own = rows_now form only image devices next same passed.1 ∙ ap (text_before form only image devices) passed.0 in
    let further : next.standing.now + k ≡ (m.standing.now + k) + k = ap (λ t. t + k) passed.0 in
    record {
      image = same;
      failed = c.in_ok-pass_over.ensures.sound;
      before = passed.1;
      order = subst (λ t. AreFrom t later) now c.from_tick-lines.ensures.order;
      alike = alike_later m next c.loop-left.lines.now later devices k passed.0 i.alike (λ u above. c.from_tick-lines.ensures.kept u (subst (λ t. t ≤ u) (sym now) above));
      few = omega (arith, i.few, split, passed.0);
      text = one_more form only image devices k (m.standing.now + k) (next.standing.now + k) left (left - 1) (g.S.Sink.taken c.args.sink.now) (g.S.Sink.taken c.loop-left.sink) (g.S.Sink.taken c.put_state-in-loop-left.new.sink) _ _ one further i.text own c.in_ok-put_state-2.ensures.text;
      quiet = c.in_ok-put_state-2.ensures.ok ∙ i.quiet;
    }

pub returns-clause-text : goal.returns-clause-text
returns-clause-text g c =
    let none : c.loop-left.left ≡ 0 = omega (arith, c.loop-left-test.false) in
    (refl, all_out c.args.shown.form (number_in c.args.shown.only) (machine_of c.args.machine.now).image c.args.devices.now c.args.spaced.every _ c.loop-left.left _ _ _ none c.loop-left.invariant.text)
