use Rattle.std.proofs.Common.{◌≡◌, [], inl, map, subst}
use Rattle.std.specs.Prelude.{IfOk}
use Rattle.clap.specs.Faults.{fault_of}
use Rattle.clap.specs.Kinds.{HasKind}
use Rattle.clap.specs.Simple.{subcommand_of, subcommand_rows_of}
use Rattle.command_words.proofs.Failed.{on_ok, untaken}
use Rattle.command_words.proofs.Found.{entered_is, of_kinds}
use Rattle.view_command.specs.Answers.{IsFailureOfWords}
use Rattle.view_command.specs.Orders.{IsRequest}
use Rattle.view_command.specs.Words.{view_app}
use Rattle.view_command.specs.declared.refusal.Refusal.TheVariants as refusal
use Rattle.view_command.proofs.Answered.{view_is_free}
use Rattle.view_command.proofs.Found.{nothing_asked, view_is_simple}
use Rattle.view_command.proofs.request.request_of.Goals as goal

pub returns-in_err-matches-clause-failed : goal.returns-in_err-matches-clause-failed
returns-in_err-matches-clause-failed g c =
    let words = map g.S.AsStr.text c.args.words.now in
    let error = c.in_err-matches.field-0.0 in
    let kinds = of_kinds view_app words c.in_ok-grammar.field-0 (λ k. HasKind k error) c.in_ok-grammar.ensures view_is_free c.in_err-matches.ensures.kinds in
    untaken refusal.Memory (fault_of view_app words) (IsFailureOfWords (fault_of view_app words) (subcommand_of view_app words)) error c.from_residual-in_err-matches.result
    kinds c.from_residual-in_err-matches.ensures tt (λ among. inl among)

pub returns-clause-command : goal.returns-clause-command
returns-clause-command g c =
    let words = map g.S.AsStr.text c.args.words.now in
    on_ok c.requested.result (of_kinds view_app words c.in_ok-grammar.field-0 (λ k. k ≡ []) c.in_ok-grammar.ensures view_is_free c.in_ok-matches.ensures.kinds)

pub returns-clause-failed : goal.returns-clause-failed
returns-clause-failed g c =
    let words = map g.S.AsStr.text c.args.words.now in
    nothing_asked (fault_of view_app words) (subcommand_rows_of c.in_ok-matches.matches) (subcommand_of view_app words) c.requested.result
    (of_kinds view_app words c.in_ok-grammar.field-0 (λ k. k ≡ []) c.in_ok-grammar.ensures view_is_free c.in_ok-matches.ensures.kinds)
    (entered_is view_app words c.in_ok-grammar.field-0 c.in_ok-matches.matches c.in_ok-grammar.ensures view_is_simple c.in_ok-matches.ensures.matches)
    c.requested.ensures.failed

pub returns-clause-request : goal.returns-clause-request
returns-clause-request g c =
    let words = map g.S.AsStr.text c.args.words.now in
    let entered = entered_is view_app words c.in_ok-grammar.field-0 c.in_ok-matches.matches c.in_ok-grammar.ensures view_is_simple c.in_ok-matches.ensures.matches in
    subst (λ e. IfOk c.requested.result (IsRequest e)) entered c.requested.ensures.request
