use Rattle.std.proofs.Common.{◌<◌, arith, length}
use Rattle.std.specs.Prelude.{codes}
use Rattle.pal_laws.specs.GrammarReading as reading
use Rattle.pal_base.specs.Reads.{up_to}
use Rattle.pal_base.specs.Seen.{seen, names_of}
use Rattle.pal_base.specs.View.{declaration_of}
use Rattle.pal_base.specs.WordView.{token_of}
use Rattle.pal_base.proofs.Turns.{passed_refusal, up_to_finds, up_to_ends, up_to_fails, fewer}
use Rattle.pal_base.proofs.source.Source.declarations.Goals as goal

pub loop-alloc-preserved : goal.loop-alloc-preserved
loop-alloc-preserved c =
    let self = c.args.self.now in
    let shorter : length c.in_ok-declaration.after.now < length c.loop-alloc.rest.now = omega (arith, c.in_ok-declaration.ensures.shorter) in (
      omega arith,
      up_to_finds (declaration_of (names_of self)) (codes "init") reading.declaration_at (up_to (codes "init") reading.declaration_at (seen self c.args.tokens.now))
          c.loop-alloc.declarations.items c.push.new.self.items c.in_ok-declaration.declaration (seen self c.loop-alloc.rest.now) (seen self c.in_ok-declaration.after.now) c.stands.result
          c.loop-alloc.invariant.1 c.stands.ensures c.loop-alloc-test.true c.in_ok-declaration.ensures.exact (fewer (token_of (names_of self)) c.in_ok-declaration.after.now c.loop-alloc.rest.now shorter) c.in_ok-push.ensures.items,
    )

pub returns-in_err-declaration-clause-exact : goal.returns-in_err-declaration-clause-exact
unfolding reading.declarations_at
returns-in_err-declaration-clause-exact c =
    let self = c.args.self.now in
    passed_refusal _ c.in_err-declaration.field-0.0 c.from_residual.result _ c.from_residual.ensures (up_to_fails (declaration_of (names_of self)) (codes "init") reading.declaration_at (up_to (codes "init") reading.declaration_at (seen self c.args.tokens.now))
    c.loop-alloc.declarations.items (seen self c.loop-alloc.rest.now) c.stands.result c.in_err-declaration.field-0.0
    c.loop-alloc.invariant.1 c.stands.ensures c.loop-alloc-test.true c.in_err-declaration.ensures.exact)

pub returns-clause-exact : goal.returns-clause-exact
unfolding reading.declarations_at
returns-clause-exact c =
    let self = c.args.self.now in
    up_to_ends (declaration_of (names_of self)) (codes "init") reading.declaration_at (up_to (codes "init") reading.declaration_at (seen self c.args.tokens.now))
    c.loop-alloc.declarations.items (seen self c.loop-alloc.rest.now) c.stands.result c.loop-alloc.invariant.1 c.stands.ensures c.loop-alloc-test.false
