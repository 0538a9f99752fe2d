use Rattle.std.proofs.Common.{◌≡◌, ◌<◌, length, arith, true, false, ap, sym, ◌∙◌}
use Rattle.trace_view.specs.Errors.{IsOf}
use Rattle.trace_view.proofs.Alike.{found_at, found_within, none_up_to}
use Rattle.trace_view.proofs.errors.Errors.place_of.Goals as goal

pub loop-place-preserved : goal.loop-place-preserved
loop-place-preserved c =
    none_up_to (IsOf c.args.partition.now c.args.error c.args.response) c.args.self.now.totals.items c.loop-place.place c.total-item.result
    (found_at c.args.self.now.totals.items c.deref-total-items.result.now c.loop-place.place c.total-item.result c.deref-total-items.ensures.value c.loop-place-test.true c.total-item.is)
    (λ is. let no : false ≡ true = sym c.if-is_of.false ∙ c.is_of.ensures.1 is in absurd cc)
    c.loop-place.invariant

pub returns : goal.returns
returns c = λ k one found is.
    let within : k < length c.args.self.now.totals.items = found_within c.args.self.now.totals.items k one found in
    let all : length c.deref-total-items.result.now ≡ length c.args.self.now.totals.items = ap length c.deref-total-items.ensures.value in
    c.loop-place.invariant k one (omega (arith, within, all, c.loop-place-test.false)) found is
