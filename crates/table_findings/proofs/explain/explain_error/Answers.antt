use Rattle.std.proofs.Common.{arith, rules}
use Rattle.std.proofs.lemmas.Option.{IfSome_then}
use Rattle.table_findings.proofs.explain.explain_error.Goals as goal

pub returns-clause-ended : goal.returns-clause-ended
returns-clause-ended c =
    IfSome_then c.ok.result (search rules)
    (λ lines is. (c.in_ok-span.span.start, omega (arith, c.requires.0, c.requires.1, c.in_ok-span.ensures.range.0), is))
