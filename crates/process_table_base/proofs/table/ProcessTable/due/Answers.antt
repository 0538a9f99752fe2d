use Rattle.std.proofs.Common.{◌≡◌, ◌+◌, ◌-◌, ◌<◌, ◌++◌, ◌∙◌, sym, ap, subst, arith}
use Rattle.kernel_meaning.specs.Times.{Treated}
use Rattle.kernel_meaning.specs.Processes.{Processes}
use Rattle.kernel_laws.proofs.Steps.{goes_on, due_ends, due_rest}
use Rattle.process_table_base.specs.DueMask.{IsFirstOf}
use Rattle.process_table_base.proofs.Treating.{IsLeft, ended, first_is_left, first_left, next_left}
use Rattle.process_table_base.proofs.table.ProcessTable.due.Goals as goal

pub returns-then-is_some-clause-treated : goal.returns-then-is_some-clause-treated
returns-then-is_some-clause-treated c =
    let made = c.treat-treated.ensures.treated in
    let inv = c.loop-process.invariant in
    let p = c.in-Some.process.0 in
    let first : IsFirstOf c.loop-process.left p c.in-Some.rest = rw c.in-Some.is at c.split_first.ensures in
    let most = inv.is_left.within p first.set in
    let n = inv.place + inv.count - p in
    let there : 0 < n = omega (arith, most) in
    let skipped = first_left c.args.moment.at c.args.action c.loop-process.left inv.place inv.count c.loop-process.free p c.in-Some.rest c.loop-process.self inv.is_left first in
    let e = skipped ∙ due_ends c.args.moment.at c.args.action n p c.loop-process.free c.loop-process.self c.treat-treated.result.clears there made.2 (sym c.is_some.ensures ∙ c.if-is_some.true) in (
      (
        made.0.0 ∙ sym (ap (λ (t : Treated). t.step.part) e) ∙ inv.part,
        made.0.1 ∙ sym (ap (λ (t : Treated). c.loop-process.out.lines ++ t.step.lines) e) ∙ inv.lines,
        made.0.2 ∙ sym (ap (λ (t : Treated). c.loop-process.out.actions ++ t.step.actions) e) ∙ inv.actions,
      ),
      made.1 ∙ sym (ap (λ (t : Treated). t.free) e) ∙ inv.free_left,
      made.2 ∙ sym (ap (λ (t : Treated). t.clears) e) ∙ inv.clears,
    )

pub loop-process-preserved : goal.loop-process-preserved
loop-process-preserved c =
    let made = c.treat-treated.ensures.treated in
    let inv = c.loop-process.invariant in
    let p = c.in-Some.process.0 in
    let s = c.loop-process.self in
    let first : IsFirstOf c.loop-process.left p c.in-Some.rest = rw c.in-Some.is at c.split_first.ensures in
    let most = inv.is_left.within p first.set in
    let n = inv.place + inv.count - p in
    let there : 0 < n = omega (arith, most) in
    let from = first_is_left c.args.moment.at c.args.action c.loop-process.left inv.place inv.count c.loop-process.free p c.in-Some.rest s inv.is_left first in
    let skipped = first_left c.args.moment.at c.args.action c.loop-process.left inv.place inv.count c.loop-process.free p c.in-Some.rest s inv.is_left first in
    let e = skipped ∙ due_rest c.args.moment.at c.args.action n p c.loop-process.free s c.treat-treated.result.clears c.treat-treated.new.self c.treat-treated.result.free there made.2 (sym c.is_some.ensures ∙ c.if-is_some.false) made.0.0 made.1 in
    let left = next_left c.args.moment.at c.args.action c.loop-process.left inv.place inv.count c.loop-process.free p c.in-Some.rest s inv.is_left first in
    let grown = c.treat-treated.ensures.grows in
    record {
      place = p + 1;
      count = n - 1;
      is_left = subst (λ (t : Processes). IsLeft c.args.moment.at.now.0 c.in-Some.rest t.rows (p + 1) (n - 1)) (sym made.0.0) left;
      few = omega (arith, most, inv.few);
      part = sym (ap (λ (t : Treated). t.step.part) e) ∙ inv.part;
      lines = goes_on _ _ _ _ _ made.0.1 (sym (ap (λ (t : Treated). c.loop-process.out.lines ++ t.step.lines) e) ∙ inv.lines);
      actions = goes_on _ _ _ _ _ made.0.2 (sym (ap (λ (t : Treated). c.loop-process.out.actions ++ t.step.actions) e) ∙ inv.actions);
      free_left = sym (ap (λ (t : Treated). t.free) e) ∙ inv.free_left;
      clears = sym (ap (λ (t : Treated). t.clears) e) ∙ inv.clears;
      lines_room = omega (arith, from, grown.0, inv.lines_room);
      actions_room = omega (arith, from, grown.1, inv.actions_room);
    }

pub returns-clause-treated : goal.returns-clause-treated
returns-clause-treated c =
    let none : c.loop-process.left ≡ 0 = rw c.in_default.is at c.split_first.ensures in
    ended _ _ _ _ _ _ _ _ none c.loop-process.invariant
