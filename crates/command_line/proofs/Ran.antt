-- The text that runs have written.
use Rattle.std.proofs.Common.{◌≡◌, ◌≢◌, inl, inr, ℕ, ◌≤◌, ◌<◌, ◌+◌, ◌-◌, ◌^◌, Bool, true, false, List, [], ◌∷◌, map, Bor, Option, Result, Ok, Err, refl, sym, subst, arith, min}
use Rattle.std.specs.Io.KnownBytes.{Keeps}
use Rattle.std.proofs.KnownBytes.{Appends-kept}
use Rattle.apex_types.specs.declared.limits.TheConstants.{MOST_TICKS}
use Rattle.apex_types.specs.Line.{text_of}
use Rattle.machine_meaning.specs.Image.{Image}
use Rattle.machine_meaning.specs.ImageReading.{Fault}
use Rattle.module_meaning.specs.SourceMeaning.{source_trace}
use Rattle.machine_meaning.specs.MachineMeaning.{machine_trace}
use Rattle.module.specs.Promises.{Means}
use Rattle.module.specs.Runs.{Runs}
use Rattle.module.specs.Watched.{text_to}
use Rattle.module.specs.declared.fault.RunFault.{RunFault}
use Rattle.module.specs.declared.fault.RunFault.TheVariants.{Ticks, Image as NoImage, Partition, Device, Memory, Write, Failed}
use Rattle.std.specs.Prelude.{IsErr, IsErrAnd, IsErrOf, IfErr, not}
use Rattle.std.specs.Str.Parse.{IsNumeral, digits_value}
use Rattle.command_line.specs.Stops.{IsBegun, RunsUntil}
use Rattle.machine_meaning.specs.ImageReading.{image_at}
use Rattle.command_line.specs.Done.{IsDoneWith, IsRunDone, IsFirstRun, IsTraced, is_ok}
use Rattle.command_line.specs.Ends.{Ends}
use Rattle.command_line.specs.Orders.{First, Run}
use Rattle.command_line.specs.Outcomes.{is_remarkable}
use Rattle.command_line.specs.declared.outcome.Outcome.{Outcome}
use Rattle.command_line.specs.declared.outcome.Outcome.TheVariants.{Usual, Remarkable}
use Rattle.streams.specs.Contents.{Contents}
use Rattle.streams.specs.Reads.{Reads}
use Rattle.streams.specs.States.{Seen}
use Rattle.module.specs.declared.fault.BuildAndRunFault.{BuildAndRunFault}
use Rattle.module.specs.declared.fault.BuildAndRunFault.TheVariants as both
use Rattle.command_line.specs.Refusals.{HasFailedBy, HasFailedByBoth, IsRunRefused, refusal_of_both}
use Rattle.command_line.specs.States.{State, state_of}
use Rattle.command_line.specs.declared.first_run.TheConstants.{SOURCE, TABLE, TICKS}
use Rattle.command_line.specs.declared.refusal.Refusal.{Refusal}
use Rattle.command_line.specs.declared.refusal.Refusal.TheVariants as refusal

-- ---- what is kept by a flush

kept_run : (read : Result Image Fault) (devices : List ℕ) (n : ℕ) (old mid new : Option (List ℕ)) → Runs read devices n old mid (Ok tt) → Keeps mid new → Runs read devices n old new (Ok tt)
kept_run read devices n old mid new (image, lines, r, out) kept = (image, lines, r, Appends-kept old mid new (text_of (machine_trace image lines n)) out kept)

kept_until : (read : Result Image Fault) (devices : List ℕ) (asked : List (List ℕ)) (n : ℕ) (found : Bool) (old mid new : Option (List ℕ)) → RunsUntil read devices asked n old mid (Ok found) → Keeps mid new → RunsUntil read devices asked n old new (Ok found)
kept_until read devices asked n found old mid new (image, lines, r, (m, end, out)) kept = (image, lines, r, (m, end, Appends-kept old mid new (text_to image lines m) out kept))

pub kept_traced : (read : Result Image Fault) (devices : List ℕ) (until : List (List ℕ)) (n : ℕ) (outcome : Outcome) (old mid new : Option (List ℕ)) → IsTraced read devices until n old mid (Ok outcome) → Keeps mid new → IsTraced read devices until n old new (Ok outcome)
kept_traced read devices [] n Usual old mid new h kept = kept_run read devices n old mid new h kept
kept_traced read devices [] n Remarkable old mid new h kept = absurd h
kept_traced read devices (word ∷ words) n Usual old mid new h kept = kept_until read devices (word ∷ words) n true old mid new h kept
kept_traced read devices (word ∷ words) n Remarkable old mid new h kept = kept_until read devices (word ∷ words) n false old mid new h kept

pub kept_first : (table : List ℕ) (sources : List (List ℕ)) (devices : List ℕ) (n : ℕ) (old mid new : Option (List ℕ)) → Means table sources devices n old mid (Ok tt) → Keeps mid new → Means table sources devices n old new (Ok tt)
kept_first table sources devices n old mid new (t, programs, lines, r, out) kept = (t, programs, lines, r, Appends-kept old mid new (text_of (source_trace t programs lines n)) out kept)

-- ---- the number in a word, and its value in 64 bits

pub few_same : (n v : ℕ) → n ≡ min v (2 ^ 64 - 1) → n ≤ MOST_TICKS → n ≡ v
few_same n v is few = omega (arith, is, few)

pub many_same : (n v : ℕ) → n ≡ min v (2 ^ 64 - 1) → MOST_TICKS < n → MOST_TICKS < v
many_same n v is many = omega (arith, is, many)

pub runs_by : (read : Result Image Fault) (devices : List ℕ) (n v : ℕ) (old new : Option (List ℕ)) (answer : Result (Unit {0}) RunFault) → n ≡ min v (2 ^ 64 - 1) → Runs read devices n old new answer → Runs read devices v old new answer
runs_by read devices n v old new (Ok x) is h = subst (λ k. Runs read devices k old new (Ok x)) (few_same n v is h.2.few) h
runs_by read devices n v old new (Err Write) is h = subst (λ k. Runs read devices k old new (Err Write)) (few_same n v is h.2.few) h
runs_by read devices n v old new (Err Ticks) is h = (many_same n v is h.0, h.1)
runs_by read devices n v old new (Err (Device f)) is h = (subst (λ k. k ≤ MOST_TICKS) (few_same n v is h.0) h.0, h.1, h.2)
runs_by read devices n v old new (Err (NoImage f)) is h = (subst (λ k. k ≤ MOST_TICKS) (few_same n v is h.0) h.0, h.1, h.2)
runs_by read devices n v old new (Err Partition) is h = absurd h
runs_by read devices n v old new (Err Memory) is h = h
runs_by read devices n v old new (Err Failed) is h = h

until_by : (read : Result Image Fault) (devices : List ℕ) (asked : List (List ℕ)) (n v : ℕ) (old new : Option (List ℕ)) (answer : Result Bool RunFault) → n ≡ min v (2 ^ 64 - 1) → RunsUntil read devices asked n old new answer → RunsUntil read devices asked v old new answer
until_by read devices asked n v old new (Ok found) is h = subst (λ k. RunsUntil read devices asked k old new (Ok found)) (few_same n v is h.2.few) h
until_by read devices asked n v old new (Err Memory) is (inl kept) = inl kept
until_by read devices asked n v old new (Err Memory) is (inr h) = inr (subst (λ k. IsBegun read devices asked k old new (Err Memory)) (few_same n v is h.2.few) h)
until_by read devices asked n v old new (Err Write) is h = subst (λ k. IsBegun read devices asked k old new (Err Write)) (few_same n v is h.2.few) h
until_by read devices asked n v old new (Err Ticks) is h = runs_by read devices n v old new (Err Ticks) is h
until_by read devices asked n v old new (Err (Device f)) is h = runs_by read devices n v old new (Err (Device f)) is h
until_by read devices asked n v old new (Err (NoImage f)) is h = runs_by read devices n v old new (Err (NoImage f)) is h
until_by read devices asked n v old new (Err Partition) is h = absurd h
until_by read devices asked n v old new (Err Failed) is h = absurd h

traced_by : (read : Result Image Fault) (devices : List ℕ) (until : List (List ℕ)) (n v : ℕ) (old new : Option (List ℕ)) (answer : Result Outcome RunFault) → n ≡ min v (2 ^ 64 - 1) → IsTraced read devices until n old new answer → IsTraced read devices until v old new answer
traced_by read devices [] n v old new (Ok Usual) is h = runs_by read devices n v old new (Ok tt) is h
traced_by read devices [] n v old new (Ok Remarkable) is h = absurd h
traced_by read devices [] n v old new (Err fault) is h = runs_by read devices n v old new (Err fault) is h
traced_by read devices (word ∷ words) n v old new (Ok Usual) is h = until_by read devices (word ∷ words) n v old new (Ok true) is h
traced_by read devices (word ∷ words) n v old new (Ok Remarkable) is h = until_by read devices (word ∷ words) n v old new (Ok false) is h
traced_by read devices (word ∷ words) n v old new (Err fault) is h = until_by read devices (word ∷ words) n v old new (Err fault) is h

-- ---- a run that waits for a line

pub waited : (read : Result Image Fault) (devices : List ℕ) (until : List (List ℕ)) (n : ℕ) (old new : Option (List ℕ)) (came : Bool) (outcome : Outcome) → until ≢ [] → is_remarkable outcome ≡ not came → RunsUntil read devices until n old new (Ok came) → IsTraced read devices until n old new (Ok outcome)
waited read devices [] n old new came outcome some is h = absurd (some refl)
waited read devices (word ∷ words) n old new true Usual some is h = h
waited read devices (word ∷ words) n old new true Remarkable some is h = absurd cc
waited read devices (word ∷ words) n old new false Usual some is h = absurd cc
waited read devices (word ∷ words) n old new false Remarkable some is h = h

pub waited_in_vain : (read : Result Image Fault) (devices : List ℕ) (until : List (List ℕ)) (n : ℕ) (old new : Option (List ℕ)) (fault : RunFault) → until ≢ [] → RunsUntil read devices until n old new (Err fault) → IsTraced read devices until n old new (Err fault)
waited_in_vain read devices [] n old new fault some h = absurd (some refl)
waited_in_vain read devices (word ∷ words) n old new fault some h = h

-- a run that waits for none
pub traced_whole : (read : Result Image Fault) (devices : List ℕ) (until : List (Bor (List ℕ))) (n : ℕ) (old new : Option (List ℕ)) (answer : Result Outcome RunFault) → until ≡ [] → IsTraced read devices [] n old new answer → IsTraced read devices (map (λ w. w.now) until) n old new answer
traced_whole read devices until n old new answer none h = subst (λ (ws : List (Bor (List ℕ))). IsTraced read devices (map (λ w. w.now) ws) n old new answer) (sym none) h

-- words that are asked for, as texts
pub words_some : (words : List (Bor (List ℕ))) → words ≢ [] → map (λ w. w.now) words ≢ []
words_some [] some is = some refl
words_some (w ∷ ws) some is = cc

-- ---- refusals that are passed on

pub told_as : {A E : Type 0} (P : E → Type 0) (f : E) (answer : Result A E) → IsErr answer × IsErrAnd answer (λ e. e ≡ f) → P f → IfErr answer P
told_as P f (Ok x) h p = tt
told_as P f (Err e) h p = subst P (sym h.1) p

-- the number of failures of a run on its sink
pub failed_by : {A : Type 0} (old new : Seen) (answer : Result A RunFault) → (IsErrOf answer Write → new.failures ≡ old.failures + 1) → IfErr answer (λ f. f ≢ Write → new.failures ≡ old.failures) → IfErr answer (λ f. HasFailedBy f old new)
failed_by old new (Ok x) write quiet = tt
failed_by old new (Err Write) write quiet = write refl
failed_by old new (Err Ticks) write quiet = quiet (λ e. cc)
failed_by old new (Err (NoImage f)) write quiet = quiet (λ e. cc)
failed_by old new (Err Partition) write quiet = quiet (λ e. cc)
failed_by old new (Err (Device f)) write quiet = quiet (λ e. cc)
failed_by old new (Err Memory) write quiet = quiet (λ e. cc)
failed_by old new (Err Failed) write quiet = quiet (λ e. cc)

pub failed_by_both : (old new : Seen) (answer : Result (Unit {0}) BuildAndRunFault) → (IsErrOf answer (both.Run Write) → new.failures ≡ old.failures + 1) → IfErr answer (λ f. f ≢ both.Run Write → new.failures ≡ old.failures) → IfErr answer (λ f. HasFailedByBoth f old new)
failed_by_both old new (Ok x) write quiet = tt
failed_by_both old new (Err (both.Build fault)) write quiet = quiet (λ e. cc)
failed_by_both old new (Err (both.Run Write)) write quiet = write refl
failed_by_both old new (Err (both.Run Ticks)) write quiet = quiet (λ e. cc)
failed_by_both old new (Err (both.Run (NoImage f))) write quiet = quiet (λ e. cc)
failed_by_both old new (Err (both.Run Partition)) write quiet = quiet (λ e. cc)
failed_by_both old new (Err (both.Run (Device f))) write quiet = quiet (λ e. cc)
failed_by_both old new (Err (both.Run Memory)) write quiet = quiet (λ e. cc)
failed_by_both old new (Err (both.Run Failed)) write quiet = quiet (λ e. cc)

-- ---- the runs of the commands

pub kept_stored : (old mid new : Option (List ℕ)) → IsFirstRun old mid is_ok → Keeps mid new → IsFirstRun old new is_ok
kept_stored old mid new h kept = kept_first TABLE.now (SOURCE.now ∷ []) [] TICKS old mid new h kept

pub run_done_by : (image devices : List ℕ) (until : List (List ℕ)) (n v : ℕ) (outcome : Outcome) (before after : State) → n ≡ min v (2 ^ 64 - 1) → IsRunDone image devices until n outcome before after → IsRunDone image devices until v outcome before after
run_done_by image devices until n v outcome before after is (same, given, run) =
    (same, given, traced_by (image_at given.image_bytes) given.text_bytes until n v before.out.taken after.out.taken (Ok outcome) is run)

-- a run that is done is an order that is done
pub run_done_with : (image devices ticks : List ℕ) (until : List (List ℕ)) (outcome : Outcome) (before after : State) → IsNumeral 10 ticks → IsRunDone image devices until (digits_value 10 ticks) outcome before after → IsDoneWith outcome (Run image devices ticks until) before after
run_done_with image devices ticks until Usual before after digits done = (digits, done)
run_done_with image devices ticks until Remarkable before after digits done = (digits, done)

pub run_refused_by : (image devices : List ℕ) (until : List (List ℕ)) (n v : ℕ) (before after : State) (r : Refusal) → n ≡ min v (2 ^ 64 - 1) → IsRunRefused image devices until n before after r → IsRunRefused image devices until v before after r
run_refused_by image devices until n v before after (refusal.File name reason) is h = h
run_refused_by image devices until n v before after (refusal.Run fault) is (failed, same, given, run) =
    (failed, same, given, traced_by (image_at given.image_bytes) given.text_bytes until n v before.out.taken after.out.taken (Err fault) is run)
run_refused_by image devices until n v before after (refusal.LongTable name) is h = absurd h
run_refused_by image devices until n v before after refusal.Memory is h = h
run_refused_by image devices until n v before after refusal.Write is (failed, outcome, done) = (failed, outcome, run_done_by image devices until n v outcome before after is done)
run_refused_by image devices until n v before after (refusal.Build fault) is h = absurd h
run_refused_by image devices until n v before after (refusal.Replay fault) is h = absurd h
run_refused_by image devices until n v before after (refusal.Inputs fault) is h = absurd h

-- the stored module is refused
pub first_refused : (files : Option Contents) (failed : List (List ℕ)) (reads : Reads) (old new : Seen) (f : BuildAndRunFault) → HasFailedByBoth f old new → IsFirstRun old.taken new.taken (Err f) → Ends First (state_of files failed reads old) (state_of files failed reads new) (Err (refusal_of_both f))
first_refused files failed reads old new (both.Build fault) quiet run = ((refl, (quiet, run)), refl)
first_refused files failed reads old new (both.Run fault) quiet run = ((refl, (quiet, run)), refl)
