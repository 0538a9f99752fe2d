-- The states that were written.
use Rattle.std.proofs.Common.{◌≡◌, ◌≤◌, ◌<◌, inl, inr, ℕ, ◌-◌, ◌^◌, Bool, true, false, not, List, [], ◌∷◌, Option, Some, None, Result, Ok, Err, refl, sym, ap, subst, ◌∙◌, min, map, arith}
use Rattle.std.specs.Io.KnownBytes.{Appends, Keeps}
use Rattle.std.proofs.KnownBytes.{Appends-kept}
use Rattle.std.specs.Str.Parse.{IsNumeral, digits_value}
use Rattle.apex_types.specs.Limits.{MOST_TICKS}
use Rattle.apex_types.specs.Line.{TakesBeginning}
use Rattle.machine_meaning.specs.ImageReading.{Fault, image_at}
use Rattle.machine_meaning.specs.Image.{Image}
use Rattle.module.specs.States.{Every, HasTaken, Moments, States, Wanted}
use Rattle.module.specs.declared.fault.RunFault.{RunFault}
use Rattle.module.specs.declared.fault.RunFault.TheVariants.{Ticks, Image as NoImage, Partition, Device, Memory, Write, Failed}
use Rattle.command_line.specs.Done.{AreStateNumbers, IsSpacing, IsStateDone}
use Rattle.command_line.specs.Ends.{Ends, EndsState}
use Rattle.command_line.specs.Orders.{ShowState, moments_of}
use Rattle.command_line.specs.Outcomes.{is_remarkable}
use Rattle.command_line.specs.declared.outcome.Outcome.{Outcome}
use Rattle.command_line.specs.declared.outcome.Outcome.TheVariants.{Usual, Remarkable}
use Rattle.command_line.specs.Refusals.{IsStateRefused}
use Rattle.command_line.specs.States.{State}
use Rattle.command_line.specs.declared.refusal.Refusal.{Refusal}
use Rattle.command_line.specs.declared.refusal.Refusal.TheVariants as refusal
use Rattle.command_line.proofs.Ran.{few_same, many_same}

-- ---- what is kept by a flush

pub kept_state : (read : Result Image Fault) (devices : List ℕ) (n : ℕ) (wanted : Wanted) (found : Bool) (outcome : Outcome) (old mid new : Option (List ℕ)) → is_remarkable outcome ≡ not found
    → States read devices n wanted old mid (Ok found) → Keeps mid new → States read devices n wanted old new (Ok (not (is_remarkable outcome)))
kept_state read devices n wanted true Usual old mid new same (image, lines, r, text, is, out) kept = (image, lines, r, text, is, Appends-kept old mid new text out kept)
kept_state read devices n wanted false Remarkable old mid new same (image, lines, r, text, is, out) kept = (image, lines, r, text, is, Appends-kept old mid new text out kept)
kept_state read devices n wanted true Remarkable old mid new same h kept = absurd cc
kept_state read devices n wanted false Usual old mid new same h kept = absurd cc

abbrev pub of_found : Bool → Outcome
of_found true = Usual
of_found false = Remarkable

pub is_of_found : (found : Bool) → is_remarkable (of_found found) ≡ not found
is_of_found true = refl
is_of_found false = refl

-- ---- the moments that were read

pub wanted_so : (read : Result Image Fault) (devices : List ℕ) (n : ℕ) (wanted : Wanted) (moments : Moments) (old new : Option (List ℕ)) (answer : Result Bool RunFault) → moments ≡ wanted.moments
    → States read devices n (record { form = wanted.form; partition = wanted.partition; moments = moments }) old new answer → States read devices n wanted old new answer
wanted_so read devices n wanted moments old new answer is h =
    subst (λ (m : Moments). States read devices n (record { form = wanted.form; partition = wanted.partition; moments = m }) old new answer) is h

-- ---- the number in a word, and its value in 64 bits

taken_by : (Takes : Option (List ℕ) → Option (List ℕ) → List ℕ → Type 0) (read : Result Image Fault) (devices : List ℕ) (n v : ℕ) (wanted : Wanted) (old new : Option (List ℕ)) (found : Bool) → n ≡ min v (2 ^ 64 - 1)
    → HasTaken Takes read devices n wanted old new found → HasTaken Takes read devices v wanted old new found
taken_by Takes read devices n v wanted old new found is h = subst (λ k. HasTaken Takes read devices k wanted old new found) (few_same n v is h.2.few) h

pub states_by : (read : Result Image Fault) (devices : List ℕ) (n v : ℕ) (wanted : Wanted) (old new : Option (List ℕ)) (answer : Result Bool RunFault) → n ≡ min v (2 ^ 64 - 1) → States read devices n wanted old new answer → States read devices v wanted old new answer
states_by read devices n v wanted old new (Ok found) is h = taken_by Appends read devices n v wanted old new found is h
states_by read devices n v wanted old new (Err Write) is h = taken_by TakesBeginning read devices n v wanted old new true is h
states_by read devices n v wanted old new (Err Ticks) is h = (many_same n v is h.0, h.1)
states_by read devices n v wanted old new (Err (NoImage f)) is h = subst (λ k. States read devices k wanted old new (Err (NoImage f))) (few_same n v is h.0) h
states_by read devices n v wanted old new (Err Partition) is h = subst (λ k. States read devices k wanted old new (Err Partition)) (few_same n v is h.0) h
states_by read devices n v wanted old new (Err (Device f)) is h = subst (λ k. States read devices k wanted old new (Err (Device f))) (few_same n v is h.0) h
states_by read devices n v wanted old new (Err Memory) is (inl kept) = inl kept
states_by read devices n v wanted old new (Err Memory) is (inr (several, h)) = inr (several, taken_by TakesBeginning read devices n v wanted old new true is h)
states_by read devices n v wanted old new (Err Failed) is h = absurd h

-- ---- the command

state_done_by : (image devices : List ℕ) (wanted : Wanted) (n v : ℕ) (outcome : Outcome) (before after : State) → n ≡ min v (2 ^ 64 - 1) → IsStateDone image devices wanted n outcome before after → IsStateDone image devices wanted v outcome before after
state_done_by image devices wanted n v outcome before after is (same, given, stated) =
    (same, given, states_by (image_at given.image_bytes) given.text_bytes n v wanted before.out.taken after.out.taken (Ok (not (is_remarkable outcome))) is stated)

pub state_refused_by : (image devices : List ℕ) (wanted : Wanted) (n v : ℕ) (before after : State) (r : Refusal) → n ≡ min v (2 ^ 64 - 1) → IsStateRefused image devices wanted n before after r → IsStateRefused image devices wanted v before after r
state_refused_by image devices wanted n v before after (refusal.File name reason) is h = h
state_refused_by image devices wanted n v before after (refusal.Run fault) is (failed, same, given, stated) =
    (failed, same, given, states_by (image_at given.image_bytes) given.text_bytes n v wanted before.out.taken after.out.taken (Err fault) is stated)
state_refused_by image devices wanted n v before after (refusal.LongTable name) is h = absurd h
state_refused_by image devices wanted n v before after refusal.Memory is h = h
state_refused_by image devices wanted n v before after refusal.Write is (failed, outcome, done) = (failed, outcome, state_done_by image devices wanted n v outcome before after is done)
state_refused_by image devices wanted n v before after (refusal.Build fault) is h = absurd h
state_refused_by image devices wanted n v before after (refusal.Replay fault) is h = absurd h
state_refused_by image devices wanted n v before after (refusal.Inputs fault) is h = absurd h

-- states that are shown are an order that is done
pub state_ends : (image devices tick : List ℕ) (every : Option (List ℕ)) (wanted : Wanted) (n : ℕ) (before after : State) (outcome : Outcome) → AreStateNumbers tick every wanted → n ≡ min (digits_value 10 tick) (2 ^ 64 - 1)
    → EndsState image devices wanted n before after (Ok outcome) → Ends (ShowState image devices tick every wanted) before after (Ok outcome)
state_ends image devices tick every wanted n before after Usual right is (done, well) = ((right, state_done_by image devices wanted n (digits_value 10 tick) Usual before after is done), well)
state_ends image devices tick every wanted n before after Remarkable right is (done, well) = ((right, state_done_by image devices wanted n (digits_value 10 tick) Remarkable before after is done), well)

-- ---- ticks between states

pub spacing_read : (word : List ℕ) (until : List (List ℕ)) (k : ℕ) → until ≡ [] → IsNumeral 10 word → k ≡ min (digits_value 10 word) (2 ^ 64 - 1) → 0 < k → k ≤ MOST_TICKS
    → IsSpacing (Some word) (moments_of (Some word) until) × (Every k ≡ moments_of (Some word) until)
spacing_read word [] k none digits is some few =
    let same : k ≡ digits_value 10 word = few_same k (digits_value 10 word) is few in
    ((digits, subst (λ (n : ℕ). 0 < n) same some, subst (λ (n : ℕ). n ≤ MOST_TICKS) same few), ap (λ (n : ℕ). Every n) same)
spacing_read word (w ∷ ws) k none digits is some few = absurd cc

-- no digits, words of a row next to it, or a number that is too small or too great
pub no_digits : (word : List ℕ) (until : List (List ℕ)) → (IsNumeral 10 word → ⊥) → IsSpacing (Some word) (moments_of (Some word) until) → ⊥
no_digits word [] none h = none h.0
no_digits word (w ∷ ws) none h = h

pub no_spacing : (word : List ℕ) (until : List (List ℕ)) (k : ℕ) → k ≡ min (digits_value 10 word) (2 ^ 64 - 1) → (until ≡ [] → 0 < k → k ≤ MOST_TICKS → ⊥) → IsSpacing (Some word) (moments_of (Some word) until) → ⊥
no_spacing word [] k is none h = none refl (omega (arith, is, h.1, h.2)) (omega (arith, is, h.1, h.2))
no_spacing word (w ∷ ws) k is none h = h
