use Rattle.std.proofs.Common.{◌<◌, length, map, ap, sym, ◌∙◌, arith, Ok}
use Rattle.std.specs.Prelude.{codes}
use Rattle.pal_laws.specs.GrammarReading as reading
use Rattle.pal_base.specs.Reads.{up_to}
use Rattle.pal_base.specs.Seen.{seen, names_of}
use Rattle.pal_base.specs.View.{expr_of, stmt_of, block_of}
use Rattle.pal_base.specs.WordView.{token_of}
use Rattle.pal_base.proofs.Cuts.{stmt_is, if_reads, if_else_reads, while_reads, statements_read, no_statements}
use Rattle.pal_base.proofs.Turns.{passed_refusal, up_to_finds, up_to_ends, up_to_fails, fewer, refused_by}
use Rattle.pal_base.proofs.Views.{block_is_list, view_if, view_if_else, view_while}
use Rattle.pal_base.proofs.source.Source.+statement.Goals as goal

pub branch-returns-in_ok-other-in-Some-clause-exact : goal.branch-returns-in_ok-other-in-Some-clause-exact
branch-returns-in_ok-other-in-Some-clause-exact t c =
    let self = c.args.self.now in
    let names = names_of self in
    let ys = seen self c.in_ok-other-in-Some.rest.now in
    if_else_reads (reading.block_read c.args.levels) c.args.levels (seen self c.args.tokens.now) (seen self c.in_ok-test.rest.now) (seen self c.in_ok-then.rest.now) (seen self c.in-Some.behind.now) ys
    (expr_of names c.in_ok-test.test) (block_of names c.in_ok-then.then.items) (block_of names c.in_ok-other-in-Some.other.items)
    c.in_ok-test.ensures.exact c.in_ok-then.ensures.exact c.in-Some.ensures.exact c.in_ok-other-in-Some.ensures.exact
    ∙ ap (λ s. Ok (s, ys)) (sym (view_if_else names c.in_ok-test.test c.in_ok-then.then c.in_ok-other-in-Some.other))

pub branch-returns-in-None-clause-exact : goal.branch-returns-in-None-clause-exact
branch-returns-in-None-clause-exact t c =
    let self = c.args.self.now in
    let names = names_of self in
    let us = seen self c.in_ok-then.rest.now in
    if_reads (reading.block_read c.args.levels) c.args.levels (seen self c.args.tokens.now) (seen self c.in_ok-test.rest.now) us
    (expr_of names c.in_ok-test.test) (block_of names c.in_ok-then.then.items)
    c.in_ok-test.ensures.exact c.in_ok-then.ensures.exact c.in-None.ensures.exact
    ∙ ap (λ s. Ok (s, us)) (sym (view_if names c.in_ok-test.test c.in_ok-then.then))

pub repetition-returns-clause-exact : goal.repetition-returns-clause-exact
repetition-returns-clause-exact t c =
    let self = c.args.self.now in
    let names = names_of self in
    let us = seen self c.in_ok-block.rest.now in
    while_reads (reading.block_read c.args.levels) c.args.levels (seen self c.args.tokens.now) (seen self c.in_ok-test.rest.now) us
    (expr_of names c.in_ok-test.test) (block_of names c.in_ok-block.block.items)
    c.in_ok-test.ensures.exact c.in_ok-block.ensures.exact
    ∙ ap (λ s. Ok (s, us)) (sym (view_while names c.in_ok-test.test c.in_ok-block.block))

pub statements-loop-alloc-preserved : goal.statements-loop-alloc-preserved
statements-loop-alloc-preserved t c =
    let self = c.args.self.now in
    let k = c.args.levels in
    let ws = seen self c.loop-alloc.rest.now in
    let shorter : length c.in_ok-statement.after.now < length c.loop-alloc.rest.now = omega (arith, c.in_ok-statement.ensures.shorter) in (
      omega arith,
      up_to_finds (stmt_of (names_of self)) (codes "}") (reading.stmt_at k) (up_to (codes "}") (reading.stmt_at k) (seen self c.args.tokens.now))
          c.loop-alloc.statements.items c.push.new.self.items c.in_ok-statement.statement ws (seen self c.in_ok-statement.after.now) c.stands.result
          c.loop-alloc.invariant.1 c.stands.ensures c.loop-alloc-test.true (sym (stmt_is k ws) ∙ c.in_ok-statement.ensures.exact) (fewer (token_of (names_of self)) c.in_ok-statement.after.now c.loop-alloc.rest.now shorter) c.in_ok-push.ensures.items,
    )

pub statements-returns-in_err-statement-clause-exact : goal.statements-returns-in_err-statement-clause-exact
statements-returns-in_err-statement-clause-exact t c =
    let self = c.args.self.now in
    let k = c.args.levels in
    let ws = seen self c.loop-alloc.rest.now in
    let whole = up_to (codes "}") (reading.stmt_at k) (seen self c.args.tokens.now) in
    passed_refusal _ c.in_err-statement.field-0.0 c.from_residual.result _ c.from_residual.ensures (refused_by c.in_err-statement.field-0.0 whole (reading.statements_at k (seen self c.args.tokens.now)) (no_statements k (seen self c.args.tokens.now))
    (up_to_fails (stmt_of (names_of self)) (codes "}") (reading.stmt_at k) whole
    c.loop-alloc.statements.items ws c.stands.result c.in_err-statement.field-0.0 c.loop-alloc.invariant.1 c.stands.ensures c.loop-alloc-test.true
    (refused_by c.in_err-statement.field-0.0 _ _ (λ left failed. sym (stmt_is k ws) ∙ failed) c.in_err-statement.ensures.exact)))

pub statements-returns-clause-exact : goal.statements-returns-clause-exact
statements-returns-clause-exact t c =
    let self = c.args.self.now in
    let names = names_of self in
    let k = c.args.levels in
    let ws = seen self c.args.tokens.now in
    let inside = up_to_ends (stmt_of names) (codes "}") (reading.stmt_at k) (up_to (codes "}") (reading.stmt_at k) ws) c.loop-alloc.statements.items (seen self c.loop-alloc.rest.now) c.stands.result
    c.loop-alloc.invariant.1 c.stands.ensures c.loop-alloc-test.false in
    statements_read k ws (seen self c.loop-alloc.rest.now) (seen self c.in_ok-rest.rest.now) (map (stmt_of names) c.loop-alloc.statements.items) inside c.in_ok-rest.ensures.exact
    ∙ ap (λ b. Ok (b, seen self c.in_ok-rest.rest.now)) (block_is_list names c.loop-alloc.statements.items)
