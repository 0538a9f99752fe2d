-- From the outcome of a command to its exit status.
use Rattle.std.proofs.Common.{◌≡◌, ◌⊎◌, inl, inr, ℕ, ◌<◌, ◌-◌, ◌^◌, true, [], Option, Some, Result, Ok, Err, refl, sym, ap, subst, ◌∙◌, arith}
use Rattle.std.specs.Prelude.{IfErr, OnOk}
use Rattle.clap.specs.Faults.{is_simple_and_free}
use Rattle.clap.specs.Kinds.{Kinds, IsAmong}
use Rattle.clap.specs.Values.{kind_of}
use Rattle.clap.specs.declared.error.Error.{Error}
use Rattle.command_words.specs.Found.{Entered}
use Rattle.command_words.specs.Kinds.{AskForHelp, IsHelp, IsMistake}
use Rattle.command_words.specs.Told.{CanTakeHelp, IsUsageTold}
use Rattle.command_words.proofs.ErrorKinds.{help_or, no_help}
use Rattle.view_command.specs.Answers.{AreNoCommand, AreTracesIn, IsAnswer, IsFailure, IsRefusedFor, IsRefusedOf, IsTold}
use Rattle.view_command.specs.Lines.{line_of}
use Rattle.view_command.specs.Orders.{AsksForNothing}
use Rattle.streams.specs.Contents.{Contents}
use Rattle.streams.specs.States.{HasFailed, IsFlushed, Seen, TakesLine}
use Rattle.view_command.specs.States.{IsUntouched, State, state}
use Rattle.view_command.specs.Words.{view_app}
use Rattle.command_words.specs.declared.failure.Failure.{Failure}
use Rattle.command_words.specs.declared.failure.Failure.TheVariants.{Refused, Usage}
use Rattle.view_command.specs.declared.views.Outcome.{Outcome}
use Rattle.view_command.specs.declared.views.Outcome.TheVariants.{Shown, Found}
use Rattle.view_command.specs.declared.refusal.Refusal.{Refusal}
use Rattle.view_command.specs.declared.refusal.Refusal.TheVariants as refusal

pub view_is_free : is_simple_and_free view_app ≡ true
view_is_free = refl

of_usage : (kinds : Kinds) (entered : Entered) (texts : Option Contents) (before mid : State) (new_out old_err new_err : Seen) (status : ℕ) (e : Error) → IsFailure kinds entered texts before mid (Usage e) → IsUsageTold e (Some (line_of refusal.Write)) mid.out new_out old_err new_err status
    → IsHelp (kind_of e) ⊎ IsMistake (kind_of e) → IsAnswer kinds entered texts before (state mid.unopened new_out) old_err new_err status
of_usage kinds entered texts before mid new_out old_err new_err status e (same, why) told (inr mistake) =
    let it = told.mistake mistake in
    record {
      range = omega (arith, it.0);
      done = λ zero. absurd (omega (arith, it.0, zero));
      refused = λ one. absurd (omega (arith, it.0, one));
      usage = λ two. ((same.0, it.1 ∙ same.1), no_command why, it.2);
      found = λ three. absurd (omega (arith, it.0, three));
    }
  where
    no_command : IsAmong (kind_of e) kinds ⊎ ((kinds ≡ []) × AsksForNothing entered × IsMistake (kind_of e)) → AreNoCommand kinds entered
    no_command (inl a) = inl (kind_of e, a, mistake)
    no_command (inr (none, nothing, is)) = inr (none, nothing)
of_usage kinds entered texts before mid new_out old_err new_err status e (same, why) told (inl help) = by (told.help help)
  where
    wants : IsAmong (kind_of e) kinds ⊎ ((kinds ≡ []) × AsksForNothing entered × IsMistake (kind_of e)) → AskForHelp kinds
    wants (inl a) = (kind_of e, a, help)
    wants (inr (none, nothing, mistake)) = absurd (no_help (kind_of e) mistake help)

    by : ((status ≡ 0) × IsFlushed mid.out new_out × (new_err ≡ old_err)) ⊎ ((status ≡ 1) × HasFailed mid.out new_out × TakesLine old_err new_err (line_of refusal.Write)) → IsAnswer kinds entered texts before (state mid.unopened new_out) old_err new_err status
    by (inl (zero, flushed, quiet)) = record {
      range = omega (arith, zero);
      done = λ z. ((same.0, subst (λ s. IsFlushed s new_out) same.1 flushed, inr (wants why)), quiet);
      refused = λ one. absurd (omega (arith, zero, one));
      usage = λ two. absurd (omega (arith, zero, two));
      found = λ three. absurd (omega (arith, zero, three));
    }
    by (inr (one, failed, line)) = record {
      range = omega (arith, one);
      done = λ zero. absurd (omega (arith, zero, one));
      refused = λ o. (refusal.Write, inr (inr (refl, wants why, subst (λ s. HasFailed s new_out) same.1 failed, same.0)), line);
      usage = λ two. absurd (omega (arith, one, two));
      found = λ three. absurd (omega (arith, one, three));
    }

pub answered : (kinds : Kinds) (entered : Entered) (texts : Option Contents) (before mid : State) (new_out old_err new_err : Seen) (status : ℕ) (outcome : Result Outcome (Failure Refusal))
    → OnOk outcome (kinds ≡ []) → OnOk outcome (AreTracesIn texts entered) → OnOk outcome (mid.unopened ≡ before.unopened) → OnOk outcome (IsFlushed before.out mid.out) → IfErr outcome (λ f. IsFailure kinds entered texts before mid f)
    → IsTold outcome mid.out new_out old_err new_err status → IsAnswer kinds entered texts before (state mid.unopened new_out) old_err new_err status
answered kinds entered texts before mid new_out old_err new_err status (Ok Shown) none trace opened flushed failed (zero, same, quiet) = record {
  range = omega (arith, zero);
  done = λ z. ((opened, subst (IsFlushed before.out) (sym same) flushed, inl (none, trace)), quiet);
  refused = λ one. absurd (omega (arith, zero, one));
  usage = λ two. absurd (omega (arith, zero, two));
  found = λ three. absurd (omega (arith, zero, three));
}
answered kinds entered texts before mid new_out old_err new_err status (Ok Found) none trace opened flushed failed (three, same, quiet) = record {
  range = omega (arith, three);
  done = λ zero. absurd (omega (arith, three, zero));
  refused = λ one. absurd (omega (arith, three, one));
  usage = λ two. absurd (omega (arith, three, two));
  found = λ t. ((opened, subst (IsFlushed before.out) (sym same) flushed, none, trace), quiet);
}
answered kinds entered texts before mid new_out old_err new_err status (Err (Refused r)) none trace opened flushed failed (one, same, line) = record {
  range = omega (arith, one);
  done = λ zero. absurd (omega (arith, zero, one));
  refused = λ o. (r, subst (λ s. IsRefusedFor kinds entered texts before s r) (ap (state mid.unopened) (sym same)) (why failed), line);
  usage = λ two. absurd (omega (arith, one, two));
  found = λ three. absurd (omega (arith, one, three));
}
  where
    why : ((kinds ≡ []) × IsRefusedOf texts entered before mid r) ⊎ ((r ≡ refusal.Memory) × IsUntouched before mid) → IsRefusedFor kinds entered texts before mid r
    why (inl refused) = inl refused
    why (inr memory) = inr (inl memory)
answered kinds entered texts before mid new_out old_err new_err status (Err (Usage e)) none trace opened flushed failed told =
    of_usage kinds entered texts before mid new_out old_err new_err status e failed told (help_or (kind_of e))

-- output can take the help: nothing was written to it before
pub can_take_help : (kinds : Kinds) (entered : Entered) (texts : Option Contents) (before mid : State) (outcome : Result Outcome (Failure Refusal))
    → IfErr outcome (λ f. IsFailure kinds entered texts before mid f) → before.out.failures < 2 ^ 64 - 1 → CanTakeHelp outcome mid.out.failures
can_take_help kinds entered texts before mid (Ok x) failed low = tt
can_take_help kinds entered texts before mid (Err (Refused r)) failed low = tt
can_take_help kinds entered texts before mid (Err (Usage e)) failed low = subst (λ (s : Seen). s.failures < 2 ^ 64 - 1) (sym failed.0.1) low
