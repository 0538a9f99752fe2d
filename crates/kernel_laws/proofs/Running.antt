-- While nothing is due and the choice stays, ticks of a partition are ticks of its current runner.
use Rattle.kernel_laws.proofs.Prelude.{◌≤◌, ◌≡◌, ℕ, zero, suc, ◌+◌, ◌-◌, ◌<◌, ℤ, Bool, true, false, cond, List, ◌∷◌, refl, sym, ◌∙◌, arith, subst, slice_set, place_of, Event, Runner, Engine, Asks, Nothing, Calls, Faults, Ends, World, Moved, tick, moved, spends_chosen, treats_asked, given, ticked, control_at, chooses_with_handler, nothing, tick_from, Burst, alone, HasNothingDue}
use Rattle.std.proofs.Common.{[], ap}
use Rattle.std.specs.Prelude.{None, Option, Some}
use Rattle.engine_meaning.specs.Engine.{Ticked}
use Rattle.kernel_meaning.specs.Partition.{spends}
use Rattle.kernel_laws.specs.Bursts.{later, burst, is_nothing, told_of}
use Rattle.kernel_laws.proofs.Until.{ticked_once}
use Rattle.kernel_laws.specs.Running.{Goes, is_silent, partition_tick, advances_by, with_control, burst_of, treated_at, lifted}
use Rattle.kernel_laws.proofs.Quiet.{idle_tick, running_tick}

nothing_is : (a : Asks) → is_nothing a ≡ true → a ≡ Nothing
nothing_is Nothing h = refl
nothing_is (Calls c) h = absurd (cc)
nothing_is (Faults e) h = absurd (cc)
nothing_is Ends h = absurd (cc)

set_as_found : {C : Type 0} (xs : List (Option C)) (p : ℕ) → slice_set xs p (control_at xs p) ≡ xs
set_as_found [] p = refl
set_as_found (x ∷ xs) zero = refl
set_as_found (x ∷ xs) (suc p) = ap (λ l. x ∷ l) (set_as_found xs p)

set_again : {A : Type 0} (xs : List A) (p : ℕ) (x y : A) → slice_set (slice_set xs p x) p y ≡ slice_set xs p y
set_again [] p x y = refl
set_again (z ∷ xs) zero x y = refl
set_again (z ∷ xs) (suc p) x y = ap (λ l. z ∷ l) (set_again xs p x y)

found_set : {C : Type 0} (e : Engine C) (xs : List (Option C)) (p : ℕ) (ws : List ℤ) → control_at (slice_set xs p (ticked e (control_at xs p) ws).control) p ≡ (ticked e (control_at xs p) ws).control
found_set e [] p ws = refl
found_set e (x ∷ xs) zero ws = refl
found_set e (x ∷ xs) (suc p) ws = found_set e xs p ws

-- the world after a tick of p in which it asks for nothing
abbrev quiet_world : {C : Type 0} → Engine C → Runner → World C → World C
quiet_world e p w = let r = ticked e (control_at w.controls (place_of p)) w.words in with_control w p r.control r.words

runs_on : {C : Type 0} (e : Engine C) (origin t : ℕ) (p : Runner) (w : World C) → w.kernel.processes.running ≡ Some p → chooses_with_handler w.kernel ≡ nothing w.kernel → HasNothingDue (tick_from origin t) w.kernel
    → tick e (tick_from origin t) w ≡ spends e (tick_from origin t) p w
runs_on e origin t p w runs chosen due = running_tick e (tick_from origin t) w chosen due ∙ ap (λ o. spends_chosen e (tick_from origin t) o w) runs

abbrev Law : {C : Type 0} → Engine C → ℕ → Runner → World C → ℕ → ℕ → Burst (Option C) (List ℤ) Asks → Type 0
Law e origin p w t m b =
    let l = lifted e origin p w t b in
    advances_by e origin (b.ticks + m) w t ≡ cond (is_silent l.told) (later b.ticks (advances_by e origin m l.control l.words)) l

lifted_later : {C : Type 0} (e : Engine C) (origin t : ℕ) (p : Runner) (w : World C) (control : Option C) (words : List ℤ) (b : Burst (Option C) (List ℤ) Asks)
    → lifted e origin p w t (later 1 b) ≡ later 1 (lifted e origin p (with_control w p control words) (t + 1) b)
lifted_later e origin t p w control words b =
    let when : t + (1 + b.ticks) - 1 ≡ t + 1 + b.ticks - 1 = omega arith in
    let next : t + (1 + b.ticks) ≡ t + 1 + b.ticks = omega arith in
    let shows : (cs : List (Option _)) (u v : ℕ) → Burst (World _) ℕ (List Event) = λ cs u v.
    let m = moved (tick_from origin u) e (treats_asked (tick_from origin u) w.kernel p b.told (given b.told b.words)) (record { kernel = w.kernel; controls = cs; words = b.words; initial = w.initial }) in
    record { control = m.world; words = v; told = m.lines; ticks = 1 + b.ticks } in
    ap (λ u. shows (slice_set w.controls (place_of p) b.control) u (t + (1 + b.ticks))) when
    ∙ ap (λ v. shows (slice_set w.controls (place_of p) b.control) (t + 1 + b.ticks - 1) v) next
    ∙ ap (λ cs. shows cs (t + 1 + b.ticks - 1) (t + 1 + b.ticks)) (sym (set_again w.controls (place_of p) control b.control))

later_cond : {C W A : Type 0} (s : Bool) (k : ℕ) (x l : Burst C W A) → later 1 (cond s (later k x) l) ≡ cond s (later (1 + k) x) (later 1 l)
later_cond true k x l = let n : 1 + (k + x.ticks) ≡ 1 + k + x.ticks = omega arith in ap (λ t. record { control = x.control; words = x.words; told = x.told; ticks = t }) n
later_cond false k x l = refl

-- one quiet tick, then the law from there
law_goes_on : {C : Type 0} (e : Engine C) (origin t m : ℕ) (p : Runner) (w v : World C) (b : Burst (Option C) (List ℤ) Asks)
    → v ≡ quiet_world e p w → partition_tick e origin w t ≡ record { control = v; words = t + 1; told = [] } → Law e origin p v (t + 1) m b → Law e origin p w t m (later 1 b)
law_goes_on e origin t m p w v b same first law =
    let one_more : 1 + b.ticks + m ≡ suc (b.ticks + m) = omega arith in
    let r = ticked e (control_at w.controls (place_of p)) w.words in
    let l = lifted e origin p v (t + 1) b in
    let both : later 1 l ≡ lifted e origin p w t (later 1 b) = ap (λ (u : World _). later 1 (lifted e origin p u (t + 1) b)) same ∙ sym (lifted_later e origin t p w r.control r.words b) in
    ap (λ k. advances_by e origin k w t) one_more
    ∙ ticked_once is_silent [] (partition_tick e origin) (b.ticks + m) w v t (t + 1) [] first refl
    ∙ ap (later 1) law
    ∙ later_cond (is_silent l.told) b.ticks (advances_by e origin m l.control l.words) l
    ∙ ap (λ (x : Burst _ _ _). cond (is_silent x.told) (later (1 + b.ticks) (advances_by e origin m x.control x.words)) x) both

-- the tick in which p asks for something
law_ends : {C : Type 0} (e : Engine C) (origin t m : ℕ) (p : Runner) (w : World C) → tick e (tick_from origin t) w ≡ spends e (tick_from origin t) p w
    → Law e origin p w t m (alone (told_of (ticked e (control_at w.controls (place_of p)) w.words)))
law_ends e origin t m p w here =
    let one_more : 1 + m ≡ suc m = omega arith in
    let now : t ≡ t + 1 - 1 = omega arith in
    let b = alone (told_of (ticked e (control_at w.controls (place_of p)) w.words)) in
    let shows : Moved _ → Burst (World _) ℕ (List Event) = λ x. cond (is_silent x.lines) (later 1 (advances_by e origin m x.world (t + 1))) (record { control = x.world; words = t + 1; told = x.lines; ticks = 1 }) in
    ap (λ k. advances_by e origin k w t) one_more ∙ ap shows here ∙ ap (λ u. shows (treated_at e origin p w u b)) now

-- While nothing is due and the choice stays, the ticks of a partition up to the end of a burst of
-- its current runner are this burst. What the runner asked last is treated once.
pub running_burst : {C : Type 0} (e : Engine C) (origin : ℕ) (p : Runner) (n m t : ℕ) (w : World C)
    → w.kernel.processes.running ≡ Some p → chooses_with_handler w.kernel ≡ nothing w.kernel → ((i : ℕ) → i < n → HasNothingDue (tick_from origin (t + i)) w.kernel)
    → Law e origin p w t m (burst_of e n p w)
running_burst e origin p zero m t w runs chosen due =
    let same : 0 + m ≡ m = omega arith in
    let here : t ≡ t + 0 = omega arith in
    let later_none : (x : Burst _ _ _) → x ≡ later 0 x = λ x. ap (λ k. record { control = x.control; words = x.words; told = x.told; ticks = k }) (let k : x.ticks ≡ 0 + x.ticks = omega arith in k) in
    ap (λ k. advances_by e origin k w t) same
    ∙ ap (λ u. advances_by e origin m w u) here
    ∙ ap (λ cs. advances_by e origin m (record { kernel = w.kernel; controls = cs; words = w.words; initial = w.initial }) (t + 0)) (sym (set_as_found w.controls (place_of p)))
    ∙ later_none (advances_by e origin m (with_control w p (control_at w.controls (place_of p)) w.words) (t + 0))
running_burst e origin p (suc n) m t w runs chosen due =
    let r = ticked e (control_at w.controls (place_of p)) w.words in
    let v = with_control w p r.control r.words in
    let at = tick_from origin t in
    let now : t + 0 ≡ t = omega arith in
    let here : tick e at w ≡ spends e at p w = runs_on e origin t p w runs chosen (subst (λ u. HasNothingDue (tick_from origin u) w.kernel) now (due 0 (omega arith))) in
    let next : (i : ℕ) → i < n → HasNothingDue (tick_from origin (t + 1 + i)) w.kernel = λ i below.
    let k : t + suc i ≡ t + 1 + i = omega arith in subst (λ u. HasNothingDue (tick_from origin u) w.kernel) k (due (suc i) (omega (arith, below))) in
    let again : Law e origin p v (t + 1) m (burst (ticked e) n r.control r.words) =
    subst (λ c. Law e origin p v (t + 1) m (burst (ticked e) n c r.words)) (found_set e w.controls (place_of p) w.words) (running_burst e origin p n m (t + 1) v runs chosen next) in
    let step : (q : Bool) → is_nothing r.asks ≡ q → Law e origin p w t m (cond q (later 1 (burst (ticked e) n r.control r.words)) (alone (told_of r))) =
    λ q. elim q as (λ q. is_nothing r.asks ≡ q → Law e origin p w t m (cond q (later 1 (burst (ticked e) n r.control r.words)) (alone (told_of r)))) [
      | true ↦ λ h. law_goes_on e origin t m p w v (burst (ticked e) n r.control r.words) refl
          (ap (λ (x : Moved _). record { control = x.world; words = t + 1; told = x.lines }) here
          ∙ ap (λ a. let x = moved at e (treats_asked at w.kernel p a (given a r.words)) v in record { control = x.world; words = t + 1; told = x.lines }) (nothing_is r.asks h))
          again
      | false ↦ λ h. law_ends e origin t m p w here
    ] in
    step (is_nothing r.asks) refl

ticks_most : {C : Type 0} (f : C → List ℤ → Ticked C) (n : ℕ) (c : C) (ws : List ℤ) → (burst f n c ws).ticks ≤ n
ticks_most f zero c ws = omega arith
ticks_most f (suc n) c ws =
    let t = f c ws in
    let rest = burst f n t.control t.words in
    let most : rest.ticks ≤ n = ticks_most f n t.control t.words in
    let one : 1 + rest.ticks ≤ suc n = omega (arith, most) in
    let alone_one : 1 ≤ suc n = omega arith in
    let step : (q : Bool) → (cond q (later 1 rest) (alone (told_of t))).ticks ≤ suc n =
    λ q. elim q as (λ q. (cond q (later 1 rest) (alone (told_of t))).ticks ≤ suc n) [ true ↦ one | false ↦ alone_one ] in
    step (is_nothing t.asks)

-- n ticks in which nothing runs
pub goes_idle : {C : Type 0} (e : Engine C) (origin n t : ℕ) (w : World C) → w.kernel.processes.running ≡ None → chooses_with_handler w.kernel ≡ nothing w.kernel → ((i : ℕ) → i < n → HasNothingDue (tick_from origin (t + i)) w.kernel)
    → Goes e origin w t (record { control = w; words = t + n; told = []; ticks = n })
goes_idle e origin zero t w runs chosen due m =
    let same : 0 + m ≡ m = omega arith in
    let here : t ≡ t + 0 = omega arith in
    let later_none : (x : Burst (World _) ℕ (List Event)) → x ≡ later 0 x = λ x. ap (λ k. record { control = x.control; words = x.words; told = x.told; ticks = k }) (let k : x.ticks ≡ 0 + x.ticks = omega arith in k) in
    ap (λ k. advances_by e origin k w t) same ∙ ap (λ u. advances_by e origin m w u) here ∙ later_none (advances_by e origin m w (t + 0))
goes_idle e origin (suc n) t w runs chosen due m =
    let one_more : suc n + m ≡ suc (n + m) = omega arith in
    let now : t + 0 ≡ t = omega arith in
    let there : t + 1 + n ≡ t + suc n = omega arith in
    let count : 1 + n ≡ suc n = omega arith in
    let first : tick e (tick_from origin t) w ≡ record { world = w; lines = [] } = idle_tick e (tick_from origin t) w (record { nobody = runs; chosen = chosen }) (subst (λ u. HasNothingDue (tick_from origin u) w.kernel) now (due 0 (omega arith))) in
    let next : (i : ℕ) → i < n → HasNothingDue (tick_from origin (t + 1 + i)) w.kernel = λ i below.
    let k : t + suc i ≡ t + 1 + i = omega arith in subst (λ u. HasNothingDue (tick_from origin u) w.kernel) k (due (suc i) (omega (arith, below))) in
    let rest = advances_by e origin m w in
    ap (λ k. advances_by e origin k w t) one_more
    ∙ ticked_once is_silent [] (partition_tick e origin) (n + m) w w t (t + 1) [] (ap (λ (x : Moved _). record { control = x.world; words = t + 1; told = x.lines }) first) refl
    ∙ ap (later 1) (goes_idle e origin n (t + 1) w runs chosen next m)
    ∙ later_cond true n (rest (t + 1 + n)) (rest (t + 1 + n))
    ∙ ap (λ k. later k (rest (t + 1 + n))) count
    ∙ ap (λ u. later (suc n) (rest u)) there

-- the number of ticks of a burst
pub burst_ticks : {C : Type 0} (e : Engine C) (n : ℕ) (p : Runner) (w : World C) → (burst_of e n p w).ticks ≤ n
burst_ticks e n p w = ticks_most (ticked e) n (control_at w.controls (place_of p)) w.words
