use Rattle.window_table.proofs.Rules.{periods_there}
use Rattle.window_table.proofs.read.judge.Goals as goal

pub broken_rule-requires-clause-periods : goal.broken_rule-requires-clause-periods
broken_rule-requires-clause-periods c =
    rw (c.in_ok-table.ensures.kept.2, ← c.in_ok-costs.ensures.kept.5) (periods_there _ _ c.in_ok-costs.ensures.kept.3)
