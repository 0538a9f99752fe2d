-- The result of ticks if the sink has taken all of their lines, and if it has failed.
use Rattle.module.proofs.Prelude.{◌≡◌, ℕ, true, false, List, Option, ◌≤◌, sym, ◌∙◌, text_of, TakesBeginning, DeviceLine, Plan, Sent, HasPassed, HasPassedSome, HasRun, IsBrokenOff, Standing}
use Rattle.std.proofs.Common.{subst}
use Rattle.lone_partition.proofs.Outputs.{all_sent, some_sent}

-- all lines are taken
pub passed_all : {C : Type 0} (plan : Plan) (lines : List DeviceLine) (n : ℕ) (s next : Standing C) (old new : Sent) → old.failed ≡ false → new.failed ≡ false
    → HasPassed plan lines n s next old new → HasRun plan lines n s next old.taken new.taken old.failures new.failures
passed_all plan lines n s next old new sound all h =
    let sent = all_sent old new (text_of h.told) sound all h.sent in
    record { told = h.told; leads = h.leads; written = sent.0; quiet = sent.1 }

-- the sink has failed
pub passed_some : {C : Type 0} (plan : Plan) (lines : List DeviceLine) (k n : ℕ) (s next : Standing C) (old new : Sent) → old.failed ≡ false → new.failed ≡ true
    → HasPassedSome plan lines k s next old new n → IsBrokenOff plan lines k s old.taken new.taken old.failures new.failures
passed_some plan lines k n s next old new sound failed h =
    let sent = some_sent old new (text_of h.2.told) sound failed h.2.sent in
    record { ticks = n; told = h.2.told; next = next; within = h.0; leads = h.2.leads; beginning = sent.0; failed = sent.1 }

-- the bytes taken and the failures of the sink, by any name
pub broken_there : {C : Type 0} {plan : Plan} {lines : List DeviceLine} {k : ℕ} {s : Standing C} {old mid new : Option (List ℕ)} {before between after : ℕ} → mid ≡ new → between ≡ after
    → IsBrokenOff plan lines k s old mid before between → IsBrokenOff plan lines k s old new before after
broken_there {old = old} taken failures h = record {
  ticks = h.ticks;
  told = h.told;
  next = h.next;
  within = h.within;
  leads = h.leads;
  beginning = subst (λ (bytes : Option (List ℕ)). TakesBeginning old bytes (text_of h.told)) taken h.beginning;
  failed = sym failures ∙ h.failed;
}

pub ruleset passed = (all_sent, some_sent)
