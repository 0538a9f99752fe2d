-- The state after some ticks.
use Rattle.module.proofs.Prelude.{◌≡◌, ◌<◌, ◌+◌, ◌-◌, ◌++◌, inl, inr, ℕ, zero, suc, List, Option, Some, None, Ok, refl, sym, ap, ◌∙◌, arith, DeviceLine, Event, Plan, Course, of_tick, still, Member, Image, machine_module, machine_trace, Machine, HaveTicked, fresh_machine, Elapsed, Standing, after, elapse, lines_of, ticks}
use Rattle.std.proofs.Common.{[], subst}
use Rattle.module.specs.Machines.{HasGoneOn}
use Rattle.module.specs.Pieces.{HasRun, LeadsTo}
use Rattle.module.specs.States.{state_before}
use Rattle.module.proofs.DeviceLines.{of_tick_again}
use Rattle.module.proofs.Machines.{ticks_are_the_trace}
use Rattle.module.proofs.Standing.{elapse_alike, elapse_more, same_ticks, skipped_leads}

-- after a shutdown nothing changes
down_from : {C : Type 0} (plan : Plan) (lines : List DeviceLine) (n now : ℕ) (ms : List (Member C))
    → (elapse plan lines n (record { members = ms; now = now; origin = None })).state ≡ record { members = ms; now = now + n; origin = None }
down_from plan lines zero now ms = let same : now ≡ now + 0 = omega arith in ap (λ t. record { members = ms; now = t; origin = None }) same
down_from plan lines (suc n) now ms =
    let same : now + 1 + n ≡ now + suc n = omega arith in
    down_from plan lines n (now + 1) ms ∙ ap (λ t. record { members = ms; now = t; origin = None }) same

pub stays_down : {C : Type 0} (plan : Plan) (lines : List DeviceLine) (n now : ℕ) (ms : List (Member C)) (o : Option ℕ) → o ≡ None
    → (elapse plan lines n (record { members = ms; now = now; origin = o })).state ≡ record { members = ms; now = now + n; origin = None }
stays_down plan lines n now ms None e = down_from plan lines n now ms
stays_down plan lines n now ms (Some origin) e = absurd cc

-- after the first of several ticks, and then the others, with the later lines
tick_leads : {C : Type 0} (plan : Plan) (lines now later : List DeviceLine) (n k : ℕ) (s next : Standing C) → n ≡ suc k
    → of_tick s.now now ≡ of_tick s.now lines → ((t : ℕ) → s.now < t → of_tick t later ≡ of_tick t lines)
    → next ≡ after s (ticks plan now s)
    → (elapse plan lines n s).state ≡ (elapse plan later k next).state
tick_leads plan lines now later n k s next count of_now of_later same =
    let own = ticks plan now s in
    ap (λ m. (elapse plan lines m s).state) count
    ∙ ap (λ (c : Course _). (elapse plan lines k (after s c)).state) (same_ticks plan (of_tick s.now lines) now s.now s.members s.origin (of_tick_again s.now lines ∙ sym of_now))
    ∙ ap (λ (e : Elapsed _). e.state) (elapse_alike plan lines later k (after s own) (λ u h below. sym (of_later u (omega (arith, h)))))
    ∙ ap (λ (x : Standing _). (elapse plan later k x).state) (sym same)

-- ---- of a machine

-- many ticks together
pub runs_on : {old new : Option (List ℕ)} {before now : ℕ} (image : Image) (m next : Machine) (lines : List DeviceLine) (left n k : ℕ) → left ≡ n + k → m.image ≡ image
    → HasRun (machine_module m.image).plan lines n m.standing next.standing old new before now
    → (elapse (machine_module image).plan lines left m.standing).state ≡ (elapse (machine_module image).plan lines k next.standing).state
runs_on image m next lines left n k count same h =
    ap (λ j. (elapse (machine_module image).plan lines j m.standing).state) count
    ∙ subst (λ (i : Image). (elapse (machine_module i).plan lines (n + k) m.standing).state ≡ (elapse (machine_module i).plan lines k next.standing).state) same
    (ap (λ (e : Elapsed _). e.state) (h.leads k))

-- one tick
pub ticks_on : {old new : Option (List ℕ)} {before now : ℕ} (image : Image) (m next : Machine) (lines own later : List DeviceLine) (n k : ℕ) → n ≡ suc k → m.image ≡ image
    → of_tick m.standing.now own ≡ of_tick m.standing.now lines → ((t : ℕ) → m.standing.now < t → of_tick t later ≡ of_tick t lines)
    → HasGoneOn own m next old new before now
    → (elapse (machine_module image).plan lines n m.standing).state ≡ (elapse (machine_module image).plan later k next.standing).state
ticks_on image m next lines own later n k count same of_now of_later h =
    let plan = (machine_module image).plan in
    let course = ap (λ (i : Image). ticks (machine_module i).plan own m.standing) same in
    tick_leads plan lines own later n k m.standing next.standing count of_now of_later (h.standing ∙ ap (λ c. after m.standing c) course)

-- ---- calls of a machine

-- calls that make n ticks
calls_lead : (image : Image) (lines : List DeviceLine) (calls n : ℕ) (m last : Machine) (old new : Option (List ℕ)) (before now : ℕ) → m.image ≡ image → HaveTicked lines calls n m last old new before now (Ok tt)
    → (last.image ≡ image) × (last.standing ≡ (elapse (machine_module image).plan lines n m.standing).state)
calls_lead image lines zero n m last old new before now same h =
    let is : last ≡ m = h.2.machine in
    (ap (λ (x : Machine). x.image) is ∙ same, ap (λ (x : Machine). x.standing) is ∙ ap (λ k. (elapse (machine_module image).plan lines k m.standing).state) (sym h.0))
calls_lead image lines (suc calls) n m last old new before now same (inl (some, f, is, h)) = absurd cc
calls_lead image lines (suc calls) n m last old new before now same (inr (inl (some, next, mid, between, h, rest))) =
    let count : n ≡ suc (n - 1) = omega (arith, some) in
    let gone = h.2 in
    let on = calls_lead image lines calls (n - 1) next last mid new between now (gone.image ∙ same) rest in
    (on.0, on.1 ∙ sym (ticks_on image m next lines (of_tick m.standing.now lines) lines n (n - 1) count same (of_tick_again m.standing.now lines) (λ t k. refl) gone))
calls_lead image lines (suc calls) n m last old new before now same (inr (inr (most, k, next, within, none, skipped, rest))) =
    let plan = (machine_module image).plan in
    let count : n ≡ k + (n - k) = omega (arith, within) in
    let is : elapse plan [] k m.standing ≡ still next.standing = ap (λ (i : Image). elapse (machine_module i).plan [] k m.standing) (sym same) ∙ skipped.2.2 in
    let leads : LeadsTo plan lines k m.standing [] next.standing = skipped_leads plan lines k m.standing next.standing none is in
    let on = calls_lead image lines calls (n - k) next last old new before now (skipped.0 ∙ same) rest in
    (on.0, on.1 ∙ sym (ap (λ (e : Elapsed _). e.state) (ap (λ i. elapse plan lines i m.standing) count ∙ leads (n - k))))

pub calls_lead_to_the_state : (image : Image) (lines : List DeviceLine) (calls n : ℕ) (last : Machine) (old new : Option (List ℕ)) (before now : ℕ) → HaveTicked lines calls n (fresh_machine image) last old new before now (Ok tt)
    → (last.image ≡ image) × (last.standing ≡ state_before image lines n)
calls_lead_to_the_state image lines calls n last old new before now h = calls_lead image lines calls n (fresh_machine image) last old new before now refl h

-- ---- what follows

pub state_decides : (image : Image) (lines : List DeviceLine) (n m : ℕ)
    → machine_trace image lines (n + m) ≡ machine_trace image lines n ++ lines_of (machine_module image).plan lines m (state_before image lines n)
state_decides image lines n m =
    let plan = (machine_module image).plan in
    sym (ticks_are_the_trace image lines (n + m))
    ∙ ap (λ (e : Elapsed _). e.lines) (elapse_more plan lines n m (fresh_machine image).standing)
    ∙ ap (λ (es : List Event). es ++ lines_of plan lines m (state_before image lines n)) (ticks_are_the_trace image lines n)
