use Rattle.std.proofs.Common.{◌≡◌, [], map, ap, subst, ◌∙◌}
use Rattle.clap.specs.Faults.{fault_of}
use Rattle.clap.specs.Kinds.{HasKind}
use Rattle.clap.specs.Simple.{subcommand_of, subcommand_rows_of}
use Rattle.command_words.proofs.Found.{entered_is, of_kinds}
use Rattle.command_words.specs.declared.failure.Failure.TheVariants.{Refused}
use Rattle.command_line.specs.Ends.{AnswersWords, NotesAsked}
use Rattle.command_line.specs.Orders.{Order, asks, order_of}
use Rattle.command_line.specs.States.{state}
use Rattle.command_line.specs.Watched.{IsWatched}
use Rattle.command_line.specs.Words.{mb_app}
use Rattle.command_line.specs.declared.refusal.Refusal.TheVariants as refusal
use Rattle.command_line.proofs.Answered.{mb_is_free, memory_ended, noted_exactly, noted_untaken, refused_as, words_answer, words_untaken}
use Rattle.command_line.proofs.Found.{mb_is_simple}
use Rattle.command_line.proofs.commands.obey_words.Goals as goal

pub returns-in_err-grammar-clause-ended : goal.returns-in_err-grammar-clause-ended
returns-in_err-grammar-clause-ended g c =
    let words = map (λ s. s.now) c.args.words.now in
    let order = order_of (subcommand_of mb_app words) in
    let before = state g.F.Files.contents g.F.Files.failed g.F.Files.reads g.O.Sink.taken g.O.Sink.failures g.O.Stream.is_flushed c.args.files.now c.args.out.now in
    refused_as (AnswersWords (fault_of mb_app words) order before before) (Refused refusal.Memory) c.from_residual.result c.from_residual.ensures (memory_ended order before)

pub returns-in_err-matches-clause-ended : goal.returns-in_err-matches-clause-ended
returns-in_err-matches-clause-ended g c =
    let words = map (λ s. s.now) c.args.words.now in
    let error = c.in_err-matches.field-0.0 in
    words_untaken (fault_of mb_app words) (order_of (subcommand_of mb_app words)) (state g.F.Files.contents g.F.Files.failed g.F.Files.reads g.O.Sink.taken g.O.Sink.failures g.O.Stream.is_flushed c.args.files.now c.args.out.now) error c.from_residual-in_err-matches.result
    (of_kinds mb_app words c.in_ok-grammar.field-0 (λ k. HasKind k error) c.in_ok-grammar.ensures mb_is_free c.in_err-matches.ensures.kinds) c.from_residual-in_err-matches.ensures

pub returns-clause-ended : goal.returns-clause-ended
returns-clause-ended g c =
    let words = map (λ s. s.now) c.args.words.now in
    let at = state g.F.Files.contents g.F.Files.failed g.F.Files.reads g.O.Sink.taken g.O.Sink.failures g.O.Stream.is_flushed in
    let entered = entered_is mb_app words c.in_ok-grammar.field-0 c.in_ok-matches.matches c.in_ok-grammar.ensures mb_is_simple c.in_ok-matches.ensures.matches in
    words_answer (fault_of mb_app words) (order_of (subcommand_rows_of c.in_ok-matches.matches)) (order_of (subcommand_of mb_app words)) (at c.args.files.now c.args.out.now) (at c.obey.new.files c.obey.new.out) c.obey.result
    (of_kinds mb_app words c.in_ok-grammar.field-0 (λ k. k ≡ []) c.in_ok-grammar.ensures mb_is_free c.in_ok-matches.ensures.kinds) (ap order_of entered) c.obey.ensures.ended

pub returns-in_err-grammar-clause-asked : goal.returns-in_err-grammar-clause-asked
returns-in_err-grammar-clause-asked g c = λ before.
    let words = map (λ s. s.now) c.args.words.now in
    refused_as (λ answer. NotesAsked (fault_of mb_app words) (asks (subcommand_of mb_app words)) answer c.args.noted.now.asked) (Refused refusal.Memory) c.from_residual.result c.from_residual.ensures (λ none. before)

pub returns-in_err-matches-clause-asked : goal.returns-in_err-matches-clause-asked
returns-in_err-matches-clause-asked g c = λ before.
    let words = map (λ s. s.now) c.args.words.now in
    let error = c.in_err-matches.field-0.0 in
    noted_untaken (fault_of mb_app words) (asks (subcommand_of mb_app words)) c.args.noted.now.asked error c.from_residual-in_err-matches.result before
    (of_kinds mb_app words c.in_ok-grammar.field-0 (λ k. HasKind k error) c.in_ok-grammar.ensures mb_is_free c.in_err-matches.ensures.kinds) c.from_residual-in_err-matches.ensures

pub returns-clause-asked : goal.returns-clause-asked
returns-clause-asked g c = λ before.
    let words = map (λ s. s.now) c.args.words.now in
    let entered = entered_is mb_app words c.in_ok-grammar.field-0 c.in_ok-matches.matches c.in_ok-grammar.ensures mb_is_simple c.in_ok-matches.ensures.matches in
    noted_exactly (fault_of mb_app words) (asks (subcommand_of mb_app words)) c.asks-noted.result c.obey.result (c.asks-noted.ensures ∙ ap asks entered)

pub returns-clause-watched : goal.returns-clause-watched
returns-clause-watched g c =
    let words = map (λ s. s.now) c.args.words.now in
    let entered = entered_is mb_app words c.in_ok-grammar.field-0 c.in_ok-matches.matches c.in_ok-grammar.ensures mb_is_simple c.in_ok-matches.ensures.matches in
    subst (λ (order : Order). IsWatched order (g.W.Watch.told c.args.watch.now) (g.W.Watch.told c.obey.new.watch)) (ap order_of entered) c.obey.ensures.watched
