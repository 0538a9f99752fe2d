use Rattle.std.proofs.Common.{◌<◌, arith, length}
use Rattle.std.specs.Prelude.{codes}
use Rattle.pal_laws.specs.GrammarReading as reading
use Rattle.pal_base.specs.Reads.{and_more, listed}
use Rattle.pal_base.specs.Seen.{seen, names_of}
use Rattle.pal_base.specs.View.{name_of}
use Rattle.pal_base.specs.WordView.{token_of}
use Rattle.pal_base.proofs.Turns.{passed_refusal, listed_finds, listed_ends, listed_fails, fewer}
use Rattle.pal_base.proofs.source.Source.more_names.Goals as goal

pub loop-behind-preserved : goal.loop-behind-preserved
loop-behind-preserved c =
    let self = c.args.self.now in
    let shorter : length c.in_ok-name.after.now < length c.loop-behind.rest.now = omega (arith, c.in_ok-name.ensures.shorter, c.in-Some.ensures.shorter) in (
      omega arith,
      listed_finds (name_of (names_of self)) (codes ",") reading.name_at (and_more (name_of (names_of self) c.args.first) (listed (codes ",") reading.name_at (seen self c.args.tokens.now)))
          c.loop-behind.names.items c.push-in-Some.new.self.items c.in_ok-name.name (seen self c.loop-behind.rest.now) (seen self c.in-Some.behind.now) (seen self c.in_ok-name.after.now)
          c.loop-behind.invariant.1 c.in-Some.ensures.exact c.in_ok-name.ensures.exact (fewer (token_of (names_of self)) c.in_ok-name.after.now c.loop-behind.rest.now shorter) c.in_ok-push-2.ensures.items,
    )

pub returns-in_err-name-clause-exact : goal.returns-in_err-name-clause-exact
returns-in_err-name-clause-exact c =
    let self = c.args.self.now in
    passed_refusal _ c.in_err-name.field-0.0 c.from_residual-in_err-name.result _ c.from_residual-in_err-name.ensures (listed_fails (name_of (names_of self)) (codes ",") reading.name_at (and_more (name_of (names_of self) c.args.first) (listed (codes ",") reading.name_at (seen self c.args.tokens.now)))
    c.loop-behind.names.items (seen self c.loop-behind.rest.now) (seen self c.in-Some.behind.now) c.in_err-name.field-0.0
    c.loop-behind.invariant.1 c.in-Some.ensures.exact c.in_err-name.ensures.exact)

pub returns-clause-exact : goal.returns-clause-exact
returns-clause-exact c =
    let self = c.args.self.now in
    listed_ends (name_of (names_of self)) (codes ",") reading.name_at (and_more (name_of (names_of self) c.args.first) (listed (codes ",") reading.name_at (seen self c.args.tokens.now)))
    c.loop-behind.names.items (seen self c.loop-behind.rest.now) c.loop-behind.invariant.1 c.in_default.ensures.exact
