use Rattle.std.proofs.Common.{refl}
use Rattle.pal_base.specs.View.{texts}
use Rattle.lint.specs.DeclarationsView.{declared_in}
use Rattle.lint.specs.Does.{found_at_call, found_at_calls}
use Rattle.lint.specs.Views.{call_of, calls_seen, found_all}
use Rattle.lint.proofs.Adding.{all_added, item_goes_on}
use Rattle.lint.proofs.does.add_at_calls.Goals as goal

pub loop-call-preserved : goal.loop-call-preserved
loop-call-preserved c =
    let names = texts c.args.names.now.keys in
    item_goes_on (λ xs. found_at_calls c.args.ports.now (declared_in c.args.declarations.now) (calls_seen names xs)) (λ x. found_at_call c.args.ports.now (declared_in c.args.declarations.now) (call_of names x)) c.args.calls.now c.loop-call.call-index c.call-item.result (found_all c.loop-call.findings.items)
    (found_all c.add_at_call.new.findings.items) _ (λ y ys. refl) c.loop-call-test.true c.call-item.is c.in_ok-add_at_call.ensures c.loop-call.invariant

pub returns : goal.returns
returns c =
    let names = texts c.args.names.now.keys in
    all_added (λ xs. found_at_calls c.args.ports.now (declared_in c.args.declarations.now) (calls_seen names xs)) c.args.calls.now c.loop-call.call-index (found_all c.loop-call.findings.items) _ refl c.loop-call-test.false c.loop-call.invariant
