-- From the outcome of a command to its exit status.
use Rattle.std.proofs.Common.{◌≡◌, ◌⊎◌, inl, inr, ℕ, ◌+◌, ◌-◌, ◌^◌, ◌<◌, Bool, true, false, List, [], ◌∷◌, Option, Some, Result, Ok, Err, refl, sym, ap, subst, ◌∙◌, arith, true≢false}
use Rattle.std.specs.Prelude.{IfErr, IsErr, IsErrAnd, ◌≢◌}
use Rattle.clap.specs.Faults.{is_simple_and_free}
use Rattle.clap.specs.Kinds.{HasKind, Kinds, IsAmong}
use Rattle.clap.specs.Values.{kind_of}
use Rattle.clap.specs.declared.error.Error.{Error}
use Rattle.clap.specs.declared.error.kind.ErrorKind.{ErrorKind}
use Rattle.clap.specs.declared.error.kind.ErrorKind.TheVariants as kind
use Rattle.streams.specs.States.{HasFailed, IsFlushed, Seen, TakesLine}
use Rattle.command_words.specs.Kinds.{AskForHelp, IsHelp, IsMistake}
use Rattle.command_words.specs.Told.{CanTakeHelp, IsUsageTold}
use Rattle.command_words.proofs.ErrorKinds.{help_or}
use Rattle.command_words.proofs.Failed.{untaken}
use Rattle.command_line.specs.Answers.{AreNoCommand, IsAnswer, IsExplainedFor, IsTold}
use Rattle.command_line.specs.Ends.{Answers, AnswersWords, Ends, NotesAsked, as_answer}
use Rattle.command_line.specs.Lines.{line_of}
use Rattle.command_line.specs.declared.outcome.Outcome.{Outcome}
use Rattle.command_line.specs.declared.outcome.Outcome.TheVariants.{Usual, Remarkable}
use Rattle.command_line.specs.Orders.{Order, First, Check, Build, Run, Replay, Inputs, ShowState, ShowNames, Cost, Dis, Upgrade, Load, Lint, Dashed}
use Rattle.command_line.specs.Refusals.{IsRefused, HasWrongWord}
use Rattle.command_line.specs.States.{IsSilent, State, state_of}
use Rattle.command_line.specs.Words.{mb_app}
use Rattle.command_line.specs.declared.explaining.Note.{Note}
use Rattle.command_line.specs.declared.explaining.Note.TheVariants.{Unwanted}
use Rattle.command_words.specs.declared.failure.Failure.{Failure}
use Rattle.command_words.specs.declared.failure.Failure.TheVariants.{Refused, Usage}
use Rattle.command_line.specs.declared.refusal.Refusal.{Refusal}
use Rattle.command_line.specs.declared.refusal.Refusal.TheVariants as refusal

pub mb_is_free : is_simple_and_free mb_app ≡ true
mb_is_free = refl

-- ---- the words

-- memory may run out before anything is done
pub memory_refused : (order : Order) (s : State) → IsRefused order s s refusal.Memory
memory_refused First s = (refl, (refl, refl))
memory_refused (Check table sources) s = ((refl, (refl, refl)), tt)
memory_refused (Build table image sources) s = ((refl, refl), inl (refl, tt))
memory_refused (Run image devices ticks until) s = (inr refl, (refl, (refl, refl)))
memory_refused (Replay image partition text ticks) s = (inr refl, (refl, (refl, refl)))
memory_refused (Inputs image partition devices ticks) s = (inr refl, (refl, (refl, refl)))
memory_refused (ShowState image devices tick every wanted) s = (inr refl, (refl, (refl, refl)))
memory_refused (ShowNames table sources devices tick wanted) s = (inr refl, (refl, (refl, refl)))
memory_refused (Cost table sources) s = ((refl, (refl, refl)), tt)
memory_refused (Dis image) s = ((refl, (refl, refl)), tt)
memory_refused (Upgrade old new) s = ((refl, refl), inl (refl, tt))
memory_refused (Lint table sources) s = ((refl, (refl, refl)), tt)
memory_refused (Load form table []) s = ((refl, (refl, refl)), tt)
memory_refused (Load form table (source ∷ sources)) s = ((refl, (refl, refl)), tt)
memory_refused Dashed s = ((refl, (refl, refl)), refl)

pub memory_ended : (order : Order) (s : State) → Ends order s s (Err refusal.Memory)
memory_ended order s = (memory_refused order s, refl)

-- the answer of an order whose words are right
pub answer_of : (order given : Order) (before after : State) (ended : Result Outcome Refusal) (answer : Result Outcome (Failure Refusal))
    → answer ≡ as_answer ended → given ≡ order → Ends order before after ended → Answers given before after answer
answer_of order given before after ended answer is same h =
    subst (Answers given before after) (sym is) (subst (λ o. Answers o before after (as_answer ended)) (sym same) (go ended h))
  where
    go : (ended : Result Outcome Refusal) → Ends order before after ended → Answers order before after (as_answer ended)
    go (Ok outcome) h = h
    go (Err r) h = h

-- what is said of a refusal is said of an answer that is this refusal
pub refused_as : {A E : Type 0} (P : Result A E → Type 0) (f : E) (answer : Result A E) → IsErr answer × IsErrAnd answer (λ e. e ≡ f) → P (Err f) → P answer
refused_as P f (Ok x) h p = absurd (true≢false (sym h.0))
refused_as P f (Err e) h p = subst (λ e. P (Err e)) (sym h.1) p

-- words that the library takes
pub words_answer : (kinds : Kinds) (own order : Order) (before after : State) (answer : Result Outcome (Failure Refusal)) → kinds ≡ [] → own ≡ order
    → Answers own before after answer → AnswersWords kinds order before after answer
words_answer kinds own order before after answer none same h = go answer (subst (λ o. Answers o before after answer) same h)
  where
    go : (answer : Result Outcome (Failure Refusal)) → Answers order before after answer → AnswersWords kinds order before after answer
    go (Ok outcome) h = (none, h)
    go (Err (Refused (refusal.Build fault))) h = (none, h)
    go (Err (Refused (refusal.Run fault))) h = (none, h)
    go (Err (Refused (refusal.Replay fault))) h = (none, h)
    go (Err (Refused (refusal.Inputs fault))) h = (none, h)
    go (Err (Refused (refusal.File name reason))) h = (none, h)
    go (Err (Refused (refusal.LongTable name))) h = (none, h)
    go (Err (Refused refusal.Memory)) h = h
    go (Err (Refused refusal.Write)) h = (none, h)
    go (Err (Usage e)) (untouched, unfailed, wrong, is) = (untouched, unfailed, inr (none, wrong, is))

-- words that it does not take
pub words_untaken : (kinds : Kinds) (order : Order) (s : State) (e : Error) (answer : Result Outcome (Failure Refusal)) → HasKind kinds e
    → IsErr answer × IsErrAnd answer (λ f. (kind_of e ≡ kind.OutOfMemory → f ≡ Refused refusal.Memory) × (kind_of e ≢ kind.OutOfMemory → f ≡ Usage e))
    → AnswersWords kinds order s s answer
words_untaken kinds order s e answer has h =
    go answer h.0 (untaken refusal.Memory kinds (λ f. AnswersWords kinds order s s (Err f)) e answer has h (memory_ended order s) (λ among. ((refl, (refl, refl)), refl, inl among)))
  where
    go : (answer : Result Outcome (Failure Refusal)) → IsErr answer → IfErr answer (λ f. AnswersWords kinds order s s (Err f)) → AnswersWords kinds order s s answer
    go (Ok x) is_err told = absurd (true≢false (sym is_err))
    go (Err f) is_err told = told

-- what is told of an error is told of one of the same kind
pub told_alike : (e f : Error) (unwritten : Option (List ℕ)) (old_out new_out old_err new_err : Seen) (status : ℕ) → kind_of f ≡ kind_of e → IsUsageTold f unwritten old_out new_out old_err new_err status → IsUsageTold e unwritten old_out new_out old_err new_err status
told_alike e f unwritten old_out new_out old_err new_err status same h = record {
  mistake = λ m. h.mistake (subst IsMistake (sym same) m);
  help = λ k. h.help (subst IsHelp (sym same) k);
}

-- ---- whether an explanation is asked for

-- noted of words that are read as a command
pub noted_exactly : (kinds : Kinds) (asks noted : Bool) (answer : Result Outcome (Failure Refusal)) → noted ≡ asks → NotesAsked kinds asks answer noted
noted_exactly kinds asks noted (Ok outcome) same = same
noted_exactly kinds asks noted (Err (Refused (refusal.Build fault))) same = same
noted_exactly kinds asks noted (Err (Refused (refusal.Run fault))) same = same
noted_exactly kinds asks noted (Err (Refused (refusal.Replay fault))) same = same
noted_exactly kinds asks noted (Err (Refused (refusal.Inputs fault))) same = same
noted_exactly kinds asks noted (Err (Refused (refusal.File name reason))) same = same
noted_exactly kinds asks noted (Err (Refused (refusal.LongTable name))) same = same
noted_exactly kinds asks noted (Err (Refused refusal.Memory)) same = λ none. same ∙ none
noted_exactly kinds asks noted (Err (Refused refusal.Write)) same = same
noted_exactly kinds asks noted (Err (Usage e)) same = λ none. same

-- nothing is noted of words that the library does not take
pub noted_untaken : (kinds : Kinds) (asks noted : Bool) (e : Error) (answer : Result Outcome (Failure Refusal)) → noted ≡ false → HasKind kinds e
    → IsErr answer × IsErrAnd answer (λ f. (kind_of e ≡ kind.OutOfMemory → f ≡ Refused refusal.Memory) × (kind_of e ≢ kind.OutOfMemory → f ≡ Usage e))
    → NotesAsked kinds asks answer noted
noted_untaken kinds asks noted e answer unnoted has h =
    go answer h.0 (untaken refusal.Memory kinds (λ f. NotesAsked kinds asks (Err f) noted) e answer has h (λ none. unnoted) (λ among. λ none. absurd (subst (IsAmong (kind_of e)) none among)))
  where
    go : (answer : Result Outcome (Failure Refusal)) → IsErr answer → IfErr answer (λ f. NotesAsked kinds asks (Err f) noted) → NotesAsked kinds asks answer noted
    go (Ok x) is_err told = absurd (true≢false (sym is_err))
    go (Err f) is_err told = told

explained_for : (kinds : Kinds) (asked explained : Bool) (r : Refusal) → NotesAsked kinds asked (Err (Refused r)) explained → IsExplainedFor kinds asked r explained
explained_for kinds asked explained (refusal.Build fault) same = ((λ none. same ∙ none), (λ none. same))
explained_for kinds asked explained (refusal.Run fault) same = ((λ none. same ∙ none), (λ none. same))
explained_for kinds asked explained (refusal.Replay fault) same = ((λ none. same ∙ none), (λ none. same))
explained_for kinds asked explained (refusal.Inputs fault) same = ((λ none. same ∙ none), (λ none. same))
explained_for kinds asked explained (refusal.File name reason) same = ((λ none. same ∙ none), (λ none. same))
explained_for kinds asked explained (refusal.LongTable name) same = ((λ none. same ∙ none), (λ none. same))
explained_for kinds asked explained refusal.Memory h = h
explained_for kinds asked explained refusal.Write same = ((λ none. same ∙ none), (λ none. same))

-- no words that ask for help are a command
no_help_asked : (kinds : Kinds) → AskForHelp kinds → kinds ≡ [] → ⊥
no_help_asked kinds (k, among, help) none = subst (IsAmong k) none among

-- ---- the status

-- the state after a report, which may have written help
abbrev pub with_out : State → Seen → State
with_out s out = state_of s.files s.failed s.reads out

of_usage : (kinds : Kinds) (order : Order) (asked : Bool) (before mid : State) (new_out old_err new_err : Seen) (status : ℕ) (e : Error) → AnswersWords kinds order before mid (Err (Usage e)) → IsUsageTold e (Some (line_of refusal.Write)) mid.out new_out old_err new_err status
    → IsHelp (kind_of e) ⊎ IsMistake (kind_of e) → IsAnswer kinds order asked before (with_out mid new_out) old_err new_err status
of_usage kinds order asked before mid new_out old_err new_err status e (untouched, unfailed, why) told (inr mistake) =
    let it = told.mistake mistake in
    record {
      range = omega (arith, it.0);
      done = λ zero. absurd (omega (arith, it.0, zero));
      refused = λ one. absurd (omega (arith, it.0, one));
      remarkable = λ three. absurd (omega (arith, it.0, three));
      usage = λ two. ((untouched.0, subst (IsSilent before.out) (sym it.1) untouched.1), unfailed, no_command why, it.2);
    }
  where
    no_command : IsAmong (kind_of e) kinds ⊎ ((kinds ≡ []) × HasWrongWord order × (kind_of e ≡ kind.ValueValidation)) → AreNoCommand kinds order
    no_command (inl a) = inl (kind_of e, a, mistake)
    no_command (inr (none, wrong, is)) = inr (none, wrong)
of_usage kinds order asked before mid new_out old_err new_err status e (untouched, unfailed, why) told (inl help) = by (told.help help)
  where
    no_ticks : (k : ErrorKind) → k ≡ kind.ValueValidation → IsHelp k → ⊥
    no_ticks k is (inl h) = cc
    no_ticks k is (inr h) = cc

    wants : IsAmong (kind_of e) kinds ⊎ ((kinds ≡ []) × HasWrongWord order × (kind_of e ≡ kind.ValueValidation)) → AskForHelp kinds
    wants (inl a) = (kind_of e, a, help)
    wants (inr (none, wrong, is)) = absurd (no_ticks (kind_of e) is help)

    by : ((status ≡ 0) × IsFlushed mid.out new_out × (new_err ≡ old_err)) ⊎ ((status ≡ 1) × HasFailed mid.out new_out × TakesLine old_err new_err (line_of refusal.Write)) → IsAnswer kinds order asked before (with_out mid new_out) old_err new_err status
    by (inl (zero, flushed, quiet)) = record {
      range = omega (arith, zero);
      done = λ z. ((((flushed.0 ∙ untouched.1.1, flushed.1), unfailed), inr (wants why, untouched.0)), quiet);
      refused = λ one. absurd (omega (arith, zero, one));
      usage = λ two. absurd (omega (arith, zero, two));
      remarkable = λ three. absurd (omega (arith, zero, three));
    }
    by (inr (one, failed, line)) = record {
      range = omega (arith, one);
      done = λ zero. absurd (omega (arith, zero, one));
      refused = λ o. (refusal.Write, inr (refl, wants why, failed ∙ ap (λ (n : ℕ). n + 1) untouched.1.1, untouched.0, unfailed), (false, Unwanted, ((λ no. refl), (λ none. absurd (no_help_asked kinds (wants why) none))), line));
      usage = λ two. absurd (omega (arith, one, two));
      remarkable = λ three. absurd (omega (arith, one, three));
    }

pub answered : (kinds : Kinds) (order : Order) (asked explained : Bool) (note : Note) (before mid : State) (new_out old_err new_err : Seen) (status : ℕ) (outcome : Result Outcome (Failure Refusal))
    → NotesAsked kinds asked outcome explained → AnswersWords kinds order before mid outcome → IsTold outcome explained note mid.out new_out old_err new_err status → IsAnswer kinds order asked before (with_out mid new_out) old_err new_err status
answered kinds order asked explained note before mid new_out old_err new_err status (Ok Usual) noted (none, (done, well)) (zero, same, quiet) =
    subst (λ out. IsAnswer kinds order asked before (with_out mid out) old_err new_err status) (sym same) record {
      range = omega (arith, zero);
      done = λ z. ((well, inl (none, done)), quiet);
      refused = λ one. absurd (omega (arith, zero, one));
      usage = λ two. absurd (omega (arith, zero, two));
      remarkable = λ three. absurd (omega (arith, zero, three));
    }
answered kinds order asked explained note before mid new_out old_err new_err status (Ok Remarkable) noted (none, (done, well)) (three, same, quiet) =
    subst (λ out. IsAnswer kinds order asked before (with_out mid out) old_err new_err status) (sym same) record {
      range = omega (arith, three);
      done = λ zero. absurd (omega (arith, three, zero));
      refused = λ one. absurd (omega (arith, three, one));
      usage = λ two. absurd (omega (arith, three, two));
      remarkable = λ t. ((well, none, done), quiet);
    }
answered kinds order asked explained note before mid new_out old_err new_err status (Err (Refused r)) noted ended (one, same, line) =
    subst (λ out. IsAnswer kinds order asked before (with_out mid out) old_err new_err status) (sym same) record {
      range = omega (arith, one);
      done = λ zero. absurd (omega (arith, zero, one));
      refused = λ o. (r, inl ended, (explained, note, explained_for kinds asked explained r noted, line));
      usage = λ two. absurd (omega (arith, one, two));
      remarkable = λ three. absurd (omega (arith, one, three));
    }
answered kinds order asked explained note before mid new_out old_err new_err status (Err (Usage e)) noted ended told =
    of_usage kinds order asked before mid new_out old_err new_err status e ended told (help_or (kind_of e))

-- output can take the help: nothing was written to it before
pub can_take_help : (kinds : Kinds) (order : Order) (before mid : State) (outcome : Result Outcome (Failure Refusal)) → AnswersWords kinds order before mid outcome → before.out.failures < 2 ^ 64 - 1 → CanTakeHelp outcome mid.out.failures
can_take_help kinds order before mid (Ok x) ended low = tt
can_take_help kinds order before mid (Err (Refused r)) ended low = tt
can_take_help kinds order before mid (Err (Usage e)) ended low = subst (λ n. n < 2 ^ 64 - 1) (sym ended.0.1.1) low
