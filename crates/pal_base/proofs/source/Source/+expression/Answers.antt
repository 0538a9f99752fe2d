use Rattle.std.proofs.Common.{◌≡◌, ◌<◌, ◌-◌, length, map, ap, sym, ◌∙◌, arith, rules, Ok}
use Rattle.std.specs.Prelude.{codes}
use Rattle.std.proofs.lemmas.Result.{err_from_is_err_and}
use Rattle.pal_laws.specs.GrammarReading as reading
use Rattle.pal_laws.specs.GrammarReading.{◌>>=◌}
use Rattle.pal_meaning.specs.Syntax as tree
use Rattle.pal_base.specs.declared.syntax.Link.{Link}
use Rattle.pal_base.specs.Reads.{and_more, listed, arguments_read, arguments_within}
use Rattle.pal_base.specs.Rows.{pair_of}
use Rattle.pal_base.specs.Seen.{seen, names_of, rank_of}
use Rattle.pal_base.specs.View.{name_of, expr_of, links_of}
use Rattle.pal_base.specs.WordView.{token_of}
use Rattle.pal_base.proofs.Cuts.{arguments_are, unary_is, all_links_are, link_finds, link_ends, link_fails, chain_reads, call_reads, operated_reads}
use Rattle.pal_base.proofs.Turns.{passed_refusal, turn_finds, turn_ends, turn_fails, listed_finds, listed_ends, listed_fails, fewer, refused_by, gives_same, gives_more}
use Rattle.pal_base.proofs.Views.{exprs_are, links_are, chain_made, view_apply}
use Rattle.pal_base.proofs.source.Source.+expression.Goals as goal

pub all_links-loop-operator-preserved : goal.all_links-loop-operator-preserved
all_links-loop-operator-preserved t c =
    let self = c.args.self.now in
    let rank = rank_of c.args.rank in
    let operand = reading.operand_with (reading.unary_at c.args.levels) rank in
    let link : Link = record { operator = c.in-Some.operator; operand = c.in_ok-operand.operand } in
    let shorter : length c.in_ok-operand.after.now < length c.loop-operator.rest.now = omega (arith, c.in_ok-operand.ensures.shorter, c.in-Some.ensures.shorter) in (
      omega arith,
      turn_finds (pair_of (names_of self)) (reading.link_at operand rank) (reading.repeat (reading.link_at operand rank) (seen self c.args.tokens.now))
          c.loop-operator.links.items c.push.new.self.items link (seen self c.loop-operator.rest.now) (seen self c.in_ok-operand.after.now)
          c.loop-operator.invariant.1 (link_finds operand rank _ (seen self c.in-Some.behind.now) _ c.in-Some.operator (expr_of (names_of self) c.in_ok-operand.operand) c.in-Some.ensures.exact c.in_ok-operand.ensures.exact)
          (fewer (token_of (names_of self)) c.in_ok-operand.after.now c.loop-operator.rest.now shorter) c.in_ok-push.ensures.items,
    )

pub all_links-returns-in_err-operand-clause-exact : goal.all_links-returns-in_err-operand-clause-exact
all_links-returns-in_err-operand-clause-exact t c =
    let self = c.args.self.now in
    let rank = rank_of c.args.rank in
    let operand = reading.operand_with (reading.unary_at c.args.levels) rank in
    let whole = reading.repeat (reading.link_at operand rank) (seen self c.args.tokens.now) in
    passed_refusal _ c.in_err-operand.field-0.0 c.from_residual.result _ c.from_residual.ensures (refused_by c.in_err-operand.field-0.0 (operand (seen self c.in-Some.behind.now)) whole
    (λ left failed. turn_fails (pair_of (names_of self)) (reading.link_at operand rank) whole c.loop-operator.links.items (seen self c.loop-operator.rest.now) left c.loop-operator.invariant.1
    (link_fails operand rank _ (seen self c.in-Some.behind.now) c.in-Some.operator left c.in-Some.ensures.exact failed))
    c.in_err-operand.ensures.exact)

pub all_links-returns-clause-exact : goal.all_links-returns-clause-exact
all_links-returns-clause-exact t c =
    let self = c.args.self.now in
    let rank = rank_of c.args.rank in
    let operand = reading.operand_with (reading.unary_at c.args.levels) rank in
    turn_ends (pair_of (names_of self)) (reading.link_at operand rank) (reading.repeat (reading.link_at operand rank) (seen self c.args.tokens.now))
    c.loop-operator.links.items (seen self c.loop-operator.rest.now) c.loop-operator.invariant.1 (link_ends operand rank _ c.in_default.ensures.exact)

pub arguments-returns-clause-exact : goal.arguments-returns-clause-exact
unfolding arguments_read arguments_within reading.expr_at
arguments-returns-clause-exact t c = rw (← (exprs_are (names_of c.args.self.now) c.in_ok-arguments.arguments.items)) (search rules)

pub chain-returns-clause-exact : goal.chain-returns-clause-exact
unfolding reading.ranked
chain-returns-clause-exact t c =
    let self = c.args.self.now in
    let names = names_of self in
    let rank = rank_of c.args.rank in
    let some : length c.in_ok-links.links.items ≡ 0 → ⊥ = λ z. grind arith in
    chain_reads (reading.operand_with (reading.unary_at c.args.levels) rank) rank _ (seen self c.in_ok-first.rest.now) (seen self c.in_ok-links.rest.now)
    (expr_of names c.in_ok-first.first) (links_of names c.in_ok-links.links.items) c.in_ok-first.ensures.exact c.in_ok-links.ensures.exact
    ∙ ap (λ e. Ok (reading.chain_of (expr_of names e) (links_of names c.in_ok-links.links.items), seen self c.in_ok-links.rest.now)) (sym c.in_ok-new.ensures.ok)
    ∙ ap (λ e. Ok (e, seen self c.in_ok-links.rest.now)) (sym (chain_made names c.in_ok-new.field-0 c.in_ok-links.links some))

pub links-returns-in_default : goal.links-returns-in_default
links-returns-in_default t c =
    let self = c.args.self.now in
    let names = names_of self in
    let rank = rank_of c.args.rank in
    let operand = reading.operand_with (reading.unary_at c.args.levels) rank in
    let ws = seen self c.args.tokens.now in
    record {
      shorter = c.all_links.ensures.shorter;
      exact = gives_same _ c.all_links.result _ _ (sym (all_links_are c.args.rank operand ws c.in_default.not-Comparison))
          (gives_more (λ x. (map (pair_of names) x.0.items, seen self x.1.now)) (λ ls. (reading.links_of ls.0, ls.1)) (λ x. (links_of names x.0.items, seen self x.1.now)) c.all_links.result
          (reading.repeat (reading.link_at operand rank) ws) (λ x. ap (λ ls. (ls, seen self x.1.now)) (links_are names x.0.items)) c.all_links.ensures.exact);
    }

pub more_arguments-loop-behind-preserved : goal.more_arguments-loop-behind-preserved
more_arguments-loop-behind-preserved t c =
    let self = c.args.self.now in
    let view = expr_of (names_of self) in
    let shorter : length c.in_ok-argument.after.now < length c.loop-behind.rest.now = omega (arith, c.in_ok-argument.ensures.shorter, c.in-Some.ensures.shorter) in (
      omega arith,
      listed_finds view (codes ",") (reading.expr_at c.args.levels) (and_more (view c.args.first) (listed (codes ",") (reading.expr_at c.args.levels) (seen self c.args.tokens.now)))
          c.loop-behind.arguments.items c.push-in-Some.new.self.items c.in_ok-argument.argument (seen self c.loop-behind.rest.now) (seen self c.in-Some.behind.now) (seen self c.in_ok-argument.after.now)
          c.loop-behind.invariant.1 c.in-Some.ensures.exact (unfold reading.expr_at in c.in_ok-argument.ensures.exact) (fewer (token_of (names_of self)) c.in_ok-argument.after.now c.loop-behind.rest.now shorter) c.in_ok-push-2.ensures.items,
    )

pub more_arguments-returns-in_err-argument-clause-exact : goal.more_arguments-returns-in_err-argument-clause-exact
unfolding reading.expr_at
more_arguments-returns-in_err-argument-clause-exact t c =
    let self = c.args.self.now in
    let view = expr_of (names_of self) in
    passed_refusal _ c.in_err-argument.field-0.0 c.from_residual-in_err-argument.result _ c.from_residual-in_err-argument.ensures (listed_fails view (codes ",") (reading.expr_at c.args.levels) (and_more (view c.args.first) (listed (codes ",") (reading.expr_at c.args.levels) (seen self c.args.tokens.now)))
    c.loop-behind.arguments.items (seen self c.loop-behind.rest.now) (seen self c.in-Some.behind.now) c.in_err-argument.field-0.0
    c.loop-behind.invariant.1 c.in-Some.ensures.exact c.in_err-argument.ensures.exact)

pub more_arguments-returns-clause-exact : goal.more_arguments-returns-clause-exact
more_arguments-returns-clause-exact t c =
    let self = c.args.self.now in
    let view = expr_of (names_of self) in
    listed_ends view (codes ",") (reading.expr_at c.args.levels) (and_more (view c.args.first) (listed (codes ",") (reading.expr_at c.args.levels) (seen self c.args.tokens.now)))
    c.loop-behind.arguments.items (seen self c.loop-behind.rest.now) c.loop-behind.invariant.1 c.in_default.ensures.exact

pub named-returns-in_err-arguments-clause-exact : goal.named-returns-in_err-arguments-clause-exact
named-returns-in_err-arguments-clause-exact t c =
    let self = c.args.self.now in
    let x = name_of (names_of self) c.args.name in
    let inside = reading.nested_at c.args.levels in
    let arguments = reading.arguments_at c.args.levels in
    let ws = seen self c.args.tokens.now in
    let vs = seen self c.in-Some-behind.rest.now in
    let reads = call_reads inside arguments x ws vs c.in_default.ensures.exact c.in-Some-behind.ensures.exact in
    let p = err_from_is_err_and c.from_residual-in_err-arguments.result c.from_residual-in_err-arguments.ensures.1 in
    rw (p.1, p.2) (refused_by c.in_err-arguments.field-0.0 (arguments_read c.args.levels vs) (reading.named_with inside arguments x ws)
    (λ left failed. reads ∙ ap (λ r. r >>= λ es. Ok (tree.Apply x es.0, es.1)) (sym (arguments_are c.args.levels vs) ∙ failed)) c.in_err-arguments.ensures.exact)

pub named-returns-in-Some-behind-clause-exact : goal.named-returns-in-Some-behind-clause-exact
named-returns-in-Some-behind-clause-exact t c =
    let self = c.args.self.now in
    let x = name_of (names_of self) c.args.name in
    let vs = seen self c.in-Some-behind.rest.now in
    call_reads (reading.nested_at c.args.levels) (reading.arguments_at c.args.levels) x (seen self c.args.tokens.now) vs c.in_default.ensures.exact c.in-Some-behind.ensures.exact
    ∙ ap (λ r. r >>= λ es. Ok (tree.Apply x es.0, es.1)) (sym (arguments_are c.args.levels vs) ∙ c.in_ok-arguments.ensures.exact)
    ∙ ap (λ e. Ok (e, seen self c.in_ok-arguments.rest.now)) (sym (view_apply (names_of self) c.args.name c.in_ok-arguments.arguments))

pub operand-returns-in-Product-clause-exact : goal.operand-returns-in-Product-clause-exact
unfolding reading.operand_with
operand-returns-in-Product-clause-exact t c =
    let self = c.args.self.now in
    let ws = seen self c.args.tokens.now in
    gives_same (λ x. (expr_of (names_of self) x.0, seen self x.1.now)) c.unary.result (reading.unary_read c.args.levels ws) (reading.operand_with (reading.unary_at c.args.levels) (rank_of c.args.rank) ws)
    (unary_is c.args.levels ws ∙ sym (ap (λ r. reading.operand_with (reading.unary_at c.args.levels) (rank_of r) ws) c.in-Product.is)) c.unary.ensures.exact

pub operated-returns-in_err-operand-clause-exact : goal.operated-returns-in_err-operand-clause-exact
operated-returns-in_err-operand-clause-exact t c =
    let self = c.args.self.now in
    let ws = seen self c.args.tokens.now in
    let p = err_from_is_err_and c.from_residual.result c.from_residual.ensures.1 in
    rw (p.1, p.2) (refused_by c.in_err-operand.field-0.0 (reading.unary_read (c.args.levels - 1) ws) (reading.operated_at c.args.operator c.args.levels ws)
    (λ left failed. operated_reads c.args.operator c.args.levels ws c.if-levels-eq0.false ∙ ap (λ r. r >>= λ e. Ok (tree.Unary c.args.operator e.0, e.1)) failed) c.in_err-operand.ensures.exact)

pub operated-returns-clause-exact : goal.operated-returns-clause-exact
operated-returns-clause-exact t c =
    let self = c.args.self.now in
    let us = seen self c.in_ok-operand.rest.now in
    operated_reads c.args.operator c.args.levels (seen self c.args.tokens.now) c.if-levels-eq0.false
    ∙ ap (λ r. r >>= λ e. Ok (tree.Unary c.args.operator e.0, e.1)) c.in_ok-operand.ensures.exact
    ∙ ap (λ e. Ok (tree.Unary c.args.operator (expr_of (names_of self) e), us)) (sym c.in_ok-new.ensures.ok)
