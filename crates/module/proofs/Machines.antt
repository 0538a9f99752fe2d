-- A tick of a machine within a run.
use Rattle.module.proofs.Prelude.{still, ◌≡◌, ◌<◌, ◌≤◌, ◌+◌, ◌-◌, ℕ, zero, suc, true, false, List, Option, Result, Ok, Err, inl, inr, refl, sym, ap, ◌∙◌, append-nil, arith, Appends-nil, Appends, MOST_TICKS, text_of, TakesBeginning, DeviceLine, Event, IsUnderWay, under_way_more, under_way_fails, Image, of_tick, machine_module, machine_trace, Machine, HaveTicked, fresh_machine, Elapsed, after, elapse, lines_of, ticks, RunFault}
use Rattle.std.proofs.Common.{[], subst}
use Rattle.std.proofs.KnownBytes.{Appends-kept}
use Rattle.std.specs.Io.KnownBytes.{Keeps}
use Rattle.apex_types.proofs.Writing.{under_way_end, under_way_start}
use Rattle.module.specs.Machines.{HasGoneOn, HasFailed, HasTicked}
use Rattle.module.specs.Running.{RunsImage}
use Rattle.module.specs.declared.fault.RunFault.TheVariants as fault
use Rattle.module.proofs.DeviceLines.{of_tick_again}
use Rattle.module.specs.Pieces.{LeadsTo}
use Rattle.module.proofs.Standing.{tick_text, is_traced, skipped_leads}

-- ---- the result of a tick that may be made

-- it is made, or the sink fails
pub only_write : {lines : List DeviceLine} {m next : Machine} {old new : Option (List ℕ)} {before now : ℕ} (f : RunFault) → m.failed ≡ false → m.standing.now < MOST_TICKS → HasTicked lines m next old new before now (Err f) → (f ≡ fault.Write) × HasFailed lines m next old new before now
only_write fault.Write sound within h = (refl, h.2)
only_write fault.Failed sound within h = let both : false ≡ true = sym sound ∙ h.0 in absurd cc
only_write fault.Ticks sound within h = absurd (omega (arith, within, h.1))
only_write (fault.Image f) sound within h = absurd h
only_write fault.Partition sound within h = absurd h
only_write (fault.Device f) sound within h = absurd h
only_write fault.Memory sound within h = absurd h

-- ---- the text of a run

pub ticks_are_the_trace : (image : Image) (lines : List DeviceLine) (n : ℕ) → lines_of (machine_module image).plan lines n (fresh_machine image).standing ≡ machine_trace image lines n
ticks_are_the_trace image lines n = sym (is_traced (machine_module image).plan lines n (machine_module image).members)

-- one more tick
pub goes_on : {old mid new : Option (List ℕ)} {text : List ℕ} {before between : ℕ} (image : Image) (m next : Machine) (lines now later : List DeviceLine) (n k : ℕ) → n ≡ suc k → m.image ≡ image
    → of_tick m.standing.now now ≡ of_tick m.standing.now lines → ((t : ℕ) → m.standing.now < t → of_tick t later ≡ of_tick t lines)
    → IsUnderWay old mid text (text_of (lines_of (machine_module image).plan lines n m.standing)) → HasGoneOn now m next mid new before between
    → IsUnderWay old new text (text_of (lines_of (machine_module image).plan later k next.standing))
goes_on {old = old} {mid = mid} {new = new} {text = text} image m next lines now later n k count same of_now of_later way h =
    let plan = (machine_module image).plan in
    let course = ap (λ (i : Image). ticks (machine_module i).plan now m.standing) same in
    let split = tick_text plan lines now later n k m.standing next.standing count of_now of_later (h.standing ∙ ap (λ c. after m.standing c) course) in
    under_way_more old mid new text (text_of (ticks plan now m.standing).lines) _ (rw split at way) (rw (ap (λ c. text_of c.lines) course) at h.written)

-- the sink fails in the next tick
pub ends_early : {old mid new : Option (List ℕ)} {text : List ℕ} {before between : ℕ} (image : Image) (m next : Machine) (lines now later : List DeviceLine) (n k : ℕ) → n ≡ suc k → m.image ≡ image
    → of_tick m.standing.now now ≡ of_tick m.standing.now lines → ((t : ℕ) → m.standing.now < t → of_tick t later ≡ of_tick t lines)
    → IsUnderWay old mid text (text_of (lines_of (machine_module image).plan lines n m.standing)) → HasFailed now m next mid new before between
    → TakesBeginning old new text
ends_early {old = old} {mid = mid} {new = new} {text = text} image m next lines now later n k count same of_now of_later way h =
    let plan = (machine_module image).plan in
    let course = ap (λ (i : Image). ticks (machine_module i).plan now m.standing) same in
    let split = tick_text plan lines now later n k m.standing (after m.standing (ticks plan now m.standing)) count of_now of_later refl in
    under_way_fails old mid new text (text_of (ticks plan now m.standing).lines) _ (rw split at way) (rw (ap (λ c. text_of c.lines) course) at h.beginning)

-- the run fails with it
pub run_fails : (events : List Event) (old new : Option (List ℕ)) (f : RunFault) (r : Result (Unit {0}) RunFault) → r ≡ Err f → f ≡ fault.Write → TakesBeginning old new (text_of events) → RunsImage events old new r
run_fails events old new f r e is h = subst (RunsImage events old new) (sym (e ∙ ap (λ (x : RunFault). Err x) is)) h

-- ---- a sink that is offered nothing

pub kept_fails : (old mid new : Option (List ℕ)) (text rest : List ℕ) → IsUnderWay old mid text rest → Keeps mid new → TakesBeginning old new text
kept_fails old mid new text rest way kept =
    under_way_fails old mid new text [] rest way (0, omega arith, Appends-kept mid mid new [] (Appends-nil mid) kept)

-- ---- calls of a machine's tick

-- the rest of a run after a part of its text
run_on : (old mid new : Option (List ℕ)) (text : List ℕ) (events whole : List Event) (r : Result (Unit {0}) RunFault) → text ≡ text_of whole → IsUnderWay old mid text (text_of events) → RunsImage events mid new r → RunsImage whole old new r
run_on old mid new text events whole (Ok x) is way h =
    subst (Appends old new) is (under_way_end old new text (under_way_more old mid new text (text_of events) [] (rw (append-nil (text_of events)) way) h))
run_on old mid new text events whole (Err fault.Write) is way h =
    subst (TakesBeginning old new) is (under_way_fails old mid new text (text_of events) [] (rw (append-nil (text_of events)) way) h)
run_on old mid new text events whole (Err fault.Failed) is way h = h
run_on old mid new text events whole (Err fault.Ticks) is way h = h
run_on old mid new text events whole (Err (fault.Image f)) is way h = h
run_on old mid new text events whole (Err fault.Partition) is way h = h
run_on old mid new text events whole (Err (fault.Device f)) is way h = h
run_on old mid new text events whole (Err fault.Memory) is way h = h

-- calls that make n ticks write their lines
calls_run : (image : Image) (lines : List DeviceLine) (calls n : ℕ) (m last : Machine) (old new : Option (List ℕ)) (before now : ℕ) (answer : Result (Unit {0}) RunFault)
    → m.image ≡ image → m.failed ≡ false → m.standing.now + n ≤ MOST_TICKS → HaveTicked lines calls n m last old new before now answer → RunsImage (lines_of (machine_module image).plan lines n m.standing) old new answer
calls_run image lines zero n m last old new before now answer same sound few h =
    subst (λ k. RunsImage (lines_of (machine_module image).plan lines k m.standing) old new answer) (sym h.0)
    (subst (RunsImage [] old new) (sym h.1) (subst (λ (o : Option (List ℕ)). Appends old o []) (sym h.2.taken) (Appends-nil old)))
calls_run image lines (suc calls) n m last old new before now answer same sound few (inl (some, f, is, h)) =
    let plan = (machine_module image).plan in
    let whole = lines_of plan lines n m.standing in
    let count : n ≡ suc (n - 1) = omega (arith, some) in
    let failed = only_write f sound (omega (arith, few, some)) (subst (HasTicked (of_tick m.standing.now lines) m last old new before now) is h) in
    run_fails whole old new f answer is failed.0
    (ends_early image m last lines (of_tick m.standing.now lines) lines n (n - 1) count same (of_tick_again m.standing.now lines) (λ t k. refl) (under_way_start old (text_of whole)) failed.1)
calls_run image lines (suc calls) n m last old new before now answer same sound few (inr (inl (some, next, mid, between, h, rest))) =
    let plan = (machine_module image).plan in
    let whole = lines_of plan lines n m.standing in
    let count : n ≡ suc (n - 1) = omega (arith, some) in
    let gone = h.2 in
    let later : next.standing.now ≡ m.standing.now + 1 = ap (λ s. s.now) gone.standing in
    run_on old mid new (text_of whole) (lines_of plan lines (n - 1) next.standing) whole answer refl
    (goes_on image m next lines (of_tick m.standing.now lines) lines n (n - 1) count same (of_tick_again m.standing.now lines) (λ t k. refl) (under_way_start old (text_of whole)) gone)
    (calls_run image lines calls (n - 1) next last mid new between now answer (gone.image ∙ same) gone.failed (omega (arith, later, few, some)) rest)
calls_run image lines (suc calls) n m last old new before now answer same sound few (inr (inr (most, k, next, within, none, skipped, rest))) =
    let plan = (machine_module image).plan in
    let count : n ≡ k + (n - k) = omega (arith, within) in
    let later : next.standing.now ≡ m.standing.now + k = skipped.2.1 in
    let is : elapse plan [] k m.standing ≡ still next.standing = ap (λ (i : Image). elapse (machine_module i).plan [] k m.standing) (sym same) ∙ skipped.2.2 in
    let leads : LeadsTo plan lines k m.standing [] next.standing = skipped_leads plan lines k m.standing next.standing none is in
    let lines_left : lines_of plan lines n m.standing ≡ lines_of plan lines (n - k) next.standing =
    ap (λ (e : Elapsed _). e.lines) (ap (λ i. elapse plan lines i m.standing) count ∙ leads (n - k)) in
    subst (λ (es : List Event). RunsImage es old new answer) (sym lines_left)
    (calls_run image lines calls (n - k) next last old new before now answer (skipped.0 ∙ same) (skipped.1 ∙ sound) (omega (arith, later, few, within)) rest)

pub calls_write_the_trace : (image : Image) (lines : List DeviceLine) (calls n : ℕ) (last : Machine) (old new : Option (List ℕ)) (before now : ℕ) (answer : Result (Unit {0}) RunFault)
    → n ≤ MOST_TICKS → HaveTicked lines calls n (fresh_machine image) last old new before now answer → RunsImage (machine_trace image lines n) old new answer
calls_write_the_trace image lines calls n last old new before now answer few h =
    subst (λ (es : List Event). RunsImage es old new answer) (ticks_are_the_trace image lines n)
    (calls_run image lines calls n (fresh_machine image) last old new before now answer refl refl (omega (arith, few)) h)
