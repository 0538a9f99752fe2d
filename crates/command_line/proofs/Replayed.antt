-- The texts that replays have written, and the inputs of a run that were written.
use Rattle.std.proofs.Common.{◌≡◌, ◌≢◌, ℕ, ◌+◌, ◌-◌, ◌^◌, List, Option, Result, Ok, Err, refl, subst, min}
use Rattle.std.specs.Prelude.{IsErrOf, IfErr}
use Rattle.std.specs.Io.KnownBytes.{Keeps}
use Rattle.std.proofs.KnownBytes.{Appends-kept}
use Rattle.machine_meaning.specs.Image.{Image}
use Rattle.machine_meaning.specs.ImageReading.{Fault, image_at}
use Rattle.module.specs.Replays.{Replays}
use Rattle.module.specs.Telling.{Tells}
use Rattle.module.specs.declared.inputs_fault.InputsFault.{InputsFault}
use Rattle.module.specs.declared.inputs_fault.InputsFault.TheVariants as inputs
use Rattle.module.specs.declared.fault.RunFault.{RunFault}
use Rattle.module.specs.declared.fault.RunFault.TheVariants.{Ticks, Image as NoImage, Partition, Device, Memory, Write, Failed}
use Rattle.streams.specs.States.{Seen}
use Rattle.command_line.specs.Done.{AreInputsDone, IsReplayDone, is_ok}
use Rattle.std.specs.Str.Parse.{IsNumeral, digits_value}
use Rattle.command_line.specs.Ends.{Ends, EndsInputs, EndsReplay}
use Rattle.command_line.specs.Orders.{Inputs, Replay}
use Rattle.command_line.specs.declared.outcome.Outcome.{Outcome}
use Rattle.command_line.specs.declared.outcome.Outcome.TheVariants.{Usual, Remarkable}
use Rattle.command_line.specs.Refusals.{AreInputsRefused, HasFailedByInputs, IsReplayRefused}
use Rattle.command_line.specs.States.{State}
use Rattle.command_line.specs.declared.refusal.Refusal.{Refusal}
use Rattle.command_line.specs.declared.refusal.Refusal.TheVariants as refusal
use Rattle.command_line.proofs.Ran.{few_same, many_same}

-- ---- what is kept by a flush

pub kept_replay : (read : Result Image Fault) (name text : List ℕ) (n : ℕ) (old mid new : Option (List ℕ)) → Replays read name text n old mid is_ok → Keeps mid new → Replays read name text n old new is_ok
kept_replay read name text n old mid new (slice, lines, r, out) kept = (slice, lines, r, Appends-kept old mid new _ out kept)

pub kept_inputs : (read : Result Image Fault) (name devices : List ℕ) (n : ℕ) (old mid new : Option (List ℕ)) → Tells read name devices n old mid is_ok → Keeps mid new → Tells read name devices n old new is_ok
kept_inputs read name devices n old mid new (row, inputs, r, (few, again, out)) kept = (row, inputs, r, (few, again, Appends-kept old mid new _ out kept))

-- ---- the number in a word, and its value in 64 bits

pub replays_by : (read : Result Image Fault) (name text : List ℕ) (n v : ℕ) (old new : Option (List ℕ)) (answer : Result (Unit {0}) RunFault) → n ≡ min v (2 ^ 64 - 1) → Replays read name text n old new answer → Replays read name text v old new answer
replays_by read name text n v old new (Ok x) is h = subst (λ k. Replays read name text k old new (Ok x)) (few_same n v is h.2.few) h
replays_by read name text n v old new (Err Write) is h = subst (λ k. Replays read name text k old new (Err Write)) (few_same n v is h.2.few) h
replays_by read name text n v old new (Err Ticks) is h = (many_same n v is h.0, h.1)
replays_by read name text n v old new (Err (NoImage f)) is h = subst (λ k. Replays read name text k old new (Err (NoImage f))) (few_same n v is h.0) h
replays_by read name text n v old new (Err Partition) is h = subst (λ k. Replays read name text k old new (Err Partition)) (few_same n v is h.0) h
replays_by read name text n v old new (Err (Device f)) is h = subst (λ k. Replays read name text k old new (Err (Device f))) (few_same n v is h.0) h
replays_by read name text n v old new (Err Memory) is h = h
replays_by read name text n v old new (Err Failed) is h = absurd h

pub tells_by : (read : Result Image Fault) (name devices : List ℕ) (n v : ℕ) (old new : Option (List ℕ)) (answer : Result (Unit {0}) InputsFault) → n ≡ min v (2 ^ 64 - 1) → Tells read name devices n old new answer → Tells read name devices v old new answer
tells_by read name devices n v old new (Ok x) is h = subst (λ k. Tells read name devices k old new (Ok x)) (few_same n v is h.2.run.few) h
tells_by read name devices n v old new (Err inputs.Write) is h = subst (λ k. Tells read name devices k old new (Err inputs.Write)) (few_same n v is h.2.run.few) h
tells_by read name devices n v old new (Err inputs.Ticks) is h = (many_same n v is h.0, h.1)
tells_by read name devices n v old new (Err (inputs.Image f)) is h = subst (λ k. Tells read name devices k old new (Err (inputs.Image f))) (few_same n v is h.0) h
tells_by read name devices n v old new (Err inputs.Partition) is h = subst (λ k. Tells read name devices k old new (Err inputs.Partition)) (few_same n v is h.0) h
tells_by read name devices n v old new (Err (inputs.Device f)) is h = subst (λ k. Tells read name devices k old new (Err (inputs.Device f))) (few_same n v is h.0) h
tells_by read name devices n v old new (Err inputs.TooMany) is h = subst (λ k. Tells read name devices k old new (Err inputs.TooMany)) (few_same n v is h.2.run.few) h
tells_by read name devices n v old new (Err inputs.Memory) is h = h

-- ---- how often the inputs of a run failed on their sink

pub failed_by_inputs : (old new : Seen) (answer : Result (Unit {0}) InputsFault) → (IsErrOf answer inputs.Write → new.failures ≡ old.failures + 1) → IfErr answer (λ f. f ≢ inputs.Write → new.failures ≡ old.failures) → IfErr answer (λ f. HasFailedByInputs f old new)
failed_by_inputs old new (Ok x) write quiet = tt
failed_by_inputs old new (Err inputs.Write) write quiet = write refl
failed_by_inputs old new (Err inputs.Ticks) write quiet = quiet (λ e. cc)
failed_by_inputs old new (Err (inputs.Image f)) write quiet = quiet (λ e. cc)
failed_by_inputs old new (Err inputs.Partition) write quiet = quiet (λ e. cc)
failed_by_inputs old new (Err (inputs.Device f)) write quiet = quiet (λ e. cc)
failed_by_inputs old new (Err inputs.Memory) write quiet = quiet (λ e. cc)
failed_by_inputs old new (Err inputs.TooMany) write quiet = quiet (λ e. cc)

-- ---- the commands

pub replay_done_by : (image partition text : List ℕ) (n v : ℕ) (before after : State) → n ≡ min v (2 ^ 64 - 1) → IsReplayDone image partition text n before after → IsReplayDone image partition text v before after
replay_done_by image partition text n v before after is (same, given, replay) =
    (same, given, replays_by (image_at given.image_bytes) partition given.text_bytes n v before.out.taken after.out.taken is_ok is replay)

pub replay_refused_by : (image partition text : List ℕ) (n v : ℕ) (before after : State) (r : Refusal) → n ≡ min v (2 ^ 64 - 1) → IsReplayRefused image partition text n before after r → IsReplayRefused image partition text v before after r
replay_refused_by image partition text n v before after (refusal.File name reason) is h = h
replay_refused_by image partition text n v before after (refusal.Replay fault) is (failed, same, given, replay) =
    (failed, same, given, replays_by (image_at given.image_bytes) partition given.text_bytes n v before.out.taken after.out.taken (Err fault) is replay)
replay_refused_by image partition text n v before after (refusal.LongTable name) is h = absurd h
replay_refused_by image partition text n v before after refusal.Memory is h = h
replay_refused_by image partition text n v before after refusal.Write is (failed, done) = (failed, replay_done_by image partition text n v before after is done)
replay_refused_by image partition text n v before after (refusal.Build fault) is h = absurd h
replay_refused_by image partition text n v before after (refusal.Run fault) is h = absurd h
replay_refused_by image partition text n v before after (refusal.Inputs fault) is h = absurd h

pub inputs_done_by : (image partition devices : List ℕ) (n v : ℕ) (before after : State) → n ≡ min v (2 ^ 64 - 1) → AreInputsDone image partition devices n before after → AreInputsDone image partition devices v before after
inputs_done_by image partition devices n v before after is (same, given, told) =
    (same, given, tells_by (image_at given.image_bytes) partition given.text_bytes n v before.out.taken after.out.taken is_ok is told)

pub inputs_refused_by : (image partition devices : List ℕ) (n v : ℕ) (before after : State) (r : Refusal) → n ≡ min v (2 ^ 64 - 1) → AreInputsRefused image partition devices n before after r → AreInputsRefused image partition devices v before after r
inputs_refused_by image partition devices n v before after (refusal.File name reason) is h = h
inputs_refused_by image partition devices n v before after (refusal.Inputs fault) is (failed, same, given, told) =
    (failed, same, given, tells_by (image_at given.image_bytes) partition given.text_bytes n v before.out.taken after.out.taken (Err fault) is told)
inputs_refused_by image partition devices n v before after (refusal.LongTable name) is h = absurd h
inputs_refused_by image partition devices n v before after refusal.Memory is h = h
inputs_refused_by image partition devices n v before after refusal.Write is (failed, done) = (failed, inputs_done_by image partition devices n v before after is done)
inputs_refused_by image partition devices n v before after (refusal.Build fault) is h = absurd h
inputs_refused_by image partition devices n v before after (refusal.Run fault) is h = absurd h
inputs_refused_by image partition devices n v before after (refusal.Replay fault) is h = absurd h

-- a replay that is done is an order that is done
pub replay_ends : (image partition text ticks : List ℕ) (n : ℕ) (before after : State) (outcome : Outcome) → IsNumeral 10 ticks → n ≡ min (digits_value 10 ticks) (2 ^ 64 - 1) → EndsReplay image partition text n before after (Ok outcome) → Ends (Replay image partition text ticks) before after (Ok outcome)
replay_ends image partition text ticks n before after Usual digits is (done, well) = ((digits, replay_done_by image partition text n (digits_value 10 ticks) before after is done), well)
replay_ends image partition text ticks n before after Remarkable digits is h = absurd h

pub inputs_end : (image partition devices ticks : List ℕ) (n : ℕ) (before after : State) (outcome : Outcome) → IsNumeral 10 ticks → n ≡ min (digits_value 10 ticks) (2 ^ 64 - 1) → EndsInputs image partition devices n before after (Ok outcome) → Ends (Inputs image partition devices ticks) before after (Ok outcome)
inputs_end image partition devices ticks n before after Usual digits is (done, well) = ((digits, inputs_done_by image partition devices n (digits_value 10 ticks) before after is done), well)
inputs_end image partition devices ticks n before after Remarkable digits is h = absurd h
