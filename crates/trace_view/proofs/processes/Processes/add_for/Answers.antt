use Rattle.std.proofs.Common.{Option, sym, subst, ◌∙◌}
use Rattle.std.specs.Prelude.{List, ℕ}
use Rattle.std.proofs.lemmas.Result.{on_ok_weaker}
use Rattle.trace_view.specs.Processes.{HasMade}
use Rattle.trace_view.proofs.Known.{made_none, made_one}
use Rattle.trace_view.proofs.processes.Processes.add_for.Goals as goal

pub returns-in-Some-maker-clause-made : goal.returns-in-Some-maker-clause-made
returns-in-Some-maker-clause-made c =
    let kind = c.args.event.now.kind in
    let old = c.args.self.now.rows.items in
    let new = c.add.new.self.rows.items in
    on_ok_weaker c.add.result
    (λ added. subst (λ (o : Option (List ℕ)). HasMade c.args.counts o kind old new) (sym c.in-Some.is)
    (made_one c.args.counts c.in-Some.partition kind c.in-Some-maker.who old new (sym c.maker.ensures ∙ c.in-Some-maker.is) added)) c.add.ensures.made

pub returns-in-None-clause-made : goal.returns-in-None-clause-made
returns-in-None-clause-made c = made_none c.args.counts c.args.event.now.partition c.args.event.now.kind c.args.self.now.rows.items (sym c.maker.ensures ∙ c.in-None.is)
