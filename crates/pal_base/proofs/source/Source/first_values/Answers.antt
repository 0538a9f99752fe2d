use Rattle.std.proofs.Common.{map}
use Rattle.pal_laws.specs.GrammarReading as reading
use Rattle.pal_base.specs.Reads.{integers_read}
use Rattle.pal_base.specs.Seen.{seen}
use Rattle.pal_base.specs.View.{integer_of}
use Rattle.pal_base.proofs.Cuts.{first_values_are}
use Rattle.pal_base.proofs.Turns.{gives_same}
use Rattle.pal_base.proofs.source.Source.first_values.Goals as goal

pub returns-in-Some-clause-exact : goal.returns-in-Some-clause-exact
returns-in-Some-clause-exact c =
    let self = c.args.self.now in
    let ws = seen self c.args.tokens.now in
    let vs = seen self c.in-Some.rest.now in
    gives_same (λ x. (map integer_of x.0.items, seen self x.1.now)) c.integers.result (integers_read vs) (reading.first_values_at ws) (first_values_are ws vs c.in-Some.ensures.exact) c.integers.ensures.exact
