use Rattle.std.proofs.Common.{◌<◌, arith, length}
use Rattle.std.specs.Prelude.{codes}
use Rattle.pal_laws.specs.GrammarReading as reading
use Rattle.pal_base.specs.Reads.{and_more, up_to}
use Rattle.pal_base.specs.Seen.{seen, names_of}
use Rattle.pal_base.specs.View.{integer_of}
use Rattle.pal_base.specs.WordView.{token_of}
use Rattle.pal_base.proofs.Turns.{passed_refusal, up_to_finds, up_to_ends, up_to_fails, fewer}
use Rattle.pal_base.proofs.source.Source.more_integers.Goals as goal

pub loop-rest-preserved : goal.loop-rest-preserved
loop-rest-preserved c =
    let self = c.args.self.now in
    let shorter : length c.in_ok-value.after.now < length c.loop-rest.rest.now = omega (arith, c.in_ok-value.ensures.shorter) in (
      omega arith,
      up_to_finds integer_of (codes ";") reading.integer_at (and_more (integer_of c.args.first) (up_to (codes ";") reading.integer_at (seen self c.args.tokens.now)))
          c.loop-rest.values.items c.push-in-loop-rest.new.self.items c.in_ok-value.value (seen self c.loop-rest.rest.now) (seen self c.in_ok-value.after.now) c.stands.result
          c.loop-rest.invariant.1 c.stands.ensures c.loop-rest-test.true c.in_ok-value.ensures.exact (fewer (token_of (names_of self)) c.in_ok-value.after.now c.loop-rest.rest.now shorter) c.in_ok-push-2.ensures.items,
    )

pub returns-in_err-value-clause-exact : goal.returns-in_err-value-clause-exact
returns-in_err-value-clause-exact c =
    let self = c.args.self.now in
    passed_refusal _ c.in_err-value.field-0.0 c.from_residual-in_err-value.result _ c.from_residual-in_err-value.ensures (up_to_fails integer_of (codes ";") reading.integer_at (and_more (integer_of c.args.first) (up_to (codes ";") reading.integer_at (seen self c.args.tokens.now)))
    c.loop-rest.values.items (seen self c.loop-rest.rest.now) c.stands.result c.in_err-value.field-0.0
    c.loop-rest.invariant.1 c.stands.ensures c.loop-rest-test.true c.in_err-value.ensures.exact)

pub returns-clause-exact : goal.returns-clause-exact
returns-clause-exact c =
    let self = c.args.self.now in
    up_to_ends integer_of (codes ";") reading.integer_at (and_more (integer_of c.args.first) (up_to (codes ";") reading.integer_at (seen self c.args.tokens.now)))
    c.loop-rest.values.items (seen self c.loop-rest.rest.now) c.stands.result c.loop-rest.invariant.1 c.stands.ensures c.loop-rest-test.false
