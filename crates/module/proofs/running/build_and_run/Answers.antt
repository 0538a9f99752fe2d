use Rattle.module.proofs.Prelude.{Ok, Err, List, ℕ, map, sym, IsImageOf, Means}
use Rattle.std.proofs.Common.{subst}
use Rattle.module.proofs.Headline.{run_means}
use Rattle.module.proofs.Isolated.{sources_isolated}
use Rattle.module.proofs.running.build_and_run.Goals as goal

pub returns-in-Ok-run-clause-isolated : goal.returns-in-Ok-run-clause-isolated
returns-in-Ok-run-clause-isolated g c =
    let sources = map (λ s. s.now) c.args.sources.now in
    let built : IsImageOf c.args.table.now sources c.as_slice.result.now = subst (IsImageOf c.args.table.now sources) (sym c.as_slice.ensures.value) c.in-Ok.ensures.image in
    let means : Means c.args.table.now sources c.args.devices.now c.args.ticks (g.S.Sink.taken c.args.sink.now) (g.S.Sink.taken c.run.new.sink) (Ok tt) =
    run_means c.args.table.now sources c.as_slice.result.now c.args.devices.now c.args.ticks _ _ (Ok tt) built c.in-Ok-run.ensures.trace in
    sources_isolated c.args.table.now sources c.args.devices.now c.args.ticks _ _ (Ok tt) means

pub returns-in-Ok-run-clause-trace : goal.returns-in-Ok-run-clause-trace
returns-in-Ok-run-clause-trace g c =
    let sources = map (λ s. s.now) c.args.sources.now in
    let built : IsImageOf c.args.table.now sources c.as_slice.result.now = subst (IsImageOf c.args.table.now sources) (sym c.as_slice.ensures.value) c.in-Ok.ensures.image in
    run_means c.args.table.now sources c.as_slice.result.now c.args.devices.now c.args.ticks _ _ (Ok tt) built c.in-Ok-run.ensures.trace

pub returns-clause-trace : goal.returns-clause-trace
returns-clause-trace g c =
    let sources = map (λ s. s.now) c.args.sources.now in
    let built : IsImageOf c.args.table.now sources c.as_slice.result.now = subst (IsImageOf c.args.table.now sources) (sym c.as_slice.ensures.value) c.in-Ok.ensures.image in
    run_means c.args.table.now sources c.as_slice.result.now c.args.devices.now c.args.ticks _ _ (Err c.in-Err-run.fault) built c.in-Err-run.ensures.trace
