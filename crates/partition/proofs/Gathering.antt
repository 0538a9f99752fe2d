-- Ticks of a partition whose lines are gathered, as the code makes them.
use Rattle.std.proofs.Common.{◌≡◌, ◌≤◌, ◌<◌, ℕ, zero, suc, ◌+◌, ◌-◌, ℤ, Bool, true, false, cond, List, [], ◌∷◌, ◌++◌, length, Option, Some, None, append_assoc, append-nil, length-append, refl, ap, sym, subst, ◌∙◌, arith}
use Rattle.std.proofs.lemmas.Bool.{le-leb, lt-leb}
use Rattle.std.specs.Prelude.{slice_set}
use Rattle.apex_types.specs.Runners.{place_of}
use Rattle.apex_types.specs.declared.event.Event.{Event}
use Rattle.apex_types.specs.declared.identity.Runner.{Runner}
use Rattle.engine_meaning.specs.Engine.{Asks, Calls, Ends, Engine, Faults, Nothing}
use Rattle.kernel_meaning.specs.Partition.{World, Moved, chooses_with_handler, control_at, followed_by, given, moved, prepares, spends, spends_chosen, tick, ticked, treats_asked}
use Rattle.kernel_meaning.specs.Step.{nothing}
use Rattle.kernel_meaning.specs.Windows.{tick_from}
use Rattle.kernel_laws.specs.Bursts.{Burst, alone, burst, is_nothing, later, told_of}
use Rattle.kernel_laws.specs.Quiet.{HasNothingDue}
use Rattle.kernel_laws.specs.Running.{Goes, advances_by, burst_of, is_silent, partition_tick, treated_at, with_control}
use Rattle.kernel_laws.proofs.Running.{goes_idle, running_burst}
use Rattle.partition.specs.declared.rooms.TheConstants.{LINES_FOR_TICK}
use Rattle.partition.specs.Gathering.{Gathers, joined, no_ticks, ticks_within}

silent_none : (ls : List Event) → is_silent ls ≡ true → ls ≡ []
silent_none [] h = refl
silent_none (l ∷ ls) h = absurd cc

nothing_is : (a : Asks) → is_nothing a ≡ true → a ≡ Nothing
nothing_is Nothing h = refl
nothing_is (Calls c) h = absurd cc
nothing_is (Faults e) h = absurd cc
nothing_is Ends h = absurd cc

-- ---- one after another

pub gathers_none : {C : Type 0} (e : Engine C) (origin room t : ℕ) (w : World C) → Gathers e origin room w t 0 [] w
gathers_none e origin room t w m =
    let same : 0 + m ≡ m = omega arith in
    let here : t ≡ t + 0 = omega arith in
    let whole : room ≡ room - 0 = omega arith in
    let x = ticks_within e origin (room - 0) m w (t + 0) in
    let ticks : x.ticks ≡ 0 + x.ticks = omega arith in
    ap (λ k. ticks_within e origin room k w t) same
    ∙ ap (λ u. ticks_within e origin room m w u) here
    ∙ ap (λ r. ticks_within e origin r m w (t + 0)) whole
    ∙ ap (λ k. record { control = x.control; words = x.words; told = x.told; ticks = k }) ticks

pub gathers_more : {C : Type 0} (e : Engine C) (origin room t n m : ℕ) (w v u : World C) (before after : List Event)
    → Gathers e origin room w t n before v → Gathers e origin (room - length before) v (t + n) m after u → Gathers e origin room w t (n + m) (before ++ after) u
gathers_more e origin room t n m w v u before after first second j =
    let split : n + m + j ≡ n + (m + j) = omega arith in
    let there : t + n + m ≡ t + (n + m) = omega arith in
    let both : length (before ++ after) ≡ length before + length after = length-append before after in
    let left : room - length before - length after ≡ room - length (before ++ after) = omega (arith, both) in
    let x = ticks_within e origin (room - length (before ++ after)) j u (t + (n + m)) in
    let count : n + (m + x.ticks) ≡ n + m + x.ticks = omega arith in
    ap (λ k. ticks_within e origin room k w t) split
    ∙ first (m + j)
    ∙ ap (joined before n) (second j)
    ∙ ap (λ r. joined before n (joined after m (ticks_within e origin r j u (t + n + m)))) left
    ∙ ap (λ s. joined before n (joined after m (ticks_within e origin (room - length (before ++ after)) j u s))) there
    ∙ ap (λ ls. record { control = x.control; words = x.words; told = ls; ticks = n + (m + x.ticks) }) (sym (append_assoc before after x.told))
    ∙ ap (λ k. record { control = x.control; words = x.words; told = (before ++ after) ++ x.told; ticks = k }) count

-- a tick for which there is room
one_tick : {C : Type 0} (e : Engine C) (origin room t m : ℕ) (w : World C) → LINES_FOR_TICK ≤ room
    → let k = tick e (tick_from origin t) w in ticks_within e origin room (suc m) w t ≡ joined k.lines 1 (ticks_within e origin (room - length k.lines) m k.world (t + 1))
one_tick e origin room t m w fits =
    let k = tick e (tick_from origin t) w in
    ap (λ b. cond b (joined k.lines 1 (ticks_within e origin (room - length k.lines) m k.world (t + 1))) (no_ticks w t)) (le-leb LINES_FOR_TICK room fits)

pub gathers_once : {C : Type 0} (e : Engine C) (origin room t : ℕ) (w v : World C) (lines : List Event) → LINES_FOR_TICK ≤ room
    → tick e (tick_from origin t) w ≡ record { world = v; lines = lines } → Gathers e origin room w t 1 lines v
gathers_once e origin room t w v lines fits here m =
    let one_more : 1 + m ≡ suc m = omega arith in
    ap (λ k. ticks_within e origin room k w t) one_more
    ∙ one_tick e origin room t m w fits
    ∙ ap (λ (x : Moved _). joined x.lines 1 (ticks_within e origin (room - length x.lines) m x.world (t + 1))) here

-- ---- ticks up to the first with a line

-- the ticks of a burst lead to its end, whatever ticks follow
abbrev AreGathered : {C : Type 0} → Engine C → (origin room t : ℕ) → World C → Burst (World C) ℕ (List Event) → Type 0
AreGathered e origin room t w b = (m : ℕ) → ticks_within e origin room (b.ticks + m) w t ≡ joined b.told b.ticks (ticks_within e origin (room - length b.told) m b.control b.words)

burst_is_gathered : {C : Type 0} (e : Engine C) (origin room n t : ℕ) (w : World C) → LINES_FOR_TICK ≤ room → AreGathered e origin room t w (advances_by e origin n w t)
burst_is_gathered e origin room zero t w fits = λ m.
    let here : t + 0 ≡ t = omega arith in
    gathers_none e origin room t w m ∙ ap (λ u. joined [] 0 (ticks_within e origin (room - 0) m w u)) here
burst_is_gathered e origin room (suc n) t w fits =
    let k = tick e (tick_from origin t) w in
    let b = advances_by e origin n k.world (t + 1) in
    let rest : AreGathered e origin room (t + 1) k.world b = burst_is_gathered e origin room n (t + 1) k.world fits in
    let whole : room - 0 ≡ room = omega arith in
    let step : (q : Bool) → is_silent k.lines ≡ q → AreGathered e origin room t w (cond q (later 1 b) (alone (partition_tick e origin w t))) =
    λ q. elim q as (λ q. is_silent k.lines ≡ q → AreGathered e origin room t w (cond q (later 1 b) (alone (partition_tick e origin w t)))) [
      | true ↦ λ s m.
          let count : 1 + b.ticks + m ≡ suc (b.ticks + m) = omega arith in
          let x = ticks_within e origin (room - length b.told) m b.control b.words in
          let sums : 1 + (b.ticks + x.ticks) ≡ 1 + b.ticks + x.ticks = omega arith in
          ap (λ j. ticks_within e origin room j w t) count
          ∙ one_tick e origin room t (b.ticks + m) w fits
          ∙ ap (λ (ls : List Event). joined ls 1 (ticks_within e origin (room - length ls) (b.ticks + m) k.world (t + 1))) (silent_none k.lines s)
          ∙ ap (λ r. joined [] 1 (ticks_within e origin r (b.ticks + m) k.world (t + 1))) whole
          ∙ ap (joined [] 1) (rest m)
          ∙ ap (λ j. record { control = x.control; words = x.words; told = b.told ++ x.told; ticks = j }) sums
      | false ↦ λ s m.
          let count : 1 + m ≡ suc m = omega arith in
          ap (λ j. ticks_within e origin room j w t) count ∙ one_tick e origin room t m w fits
    ] in
    step (is_silent k.lines) refl

-- ticks that lead somewhere as a burst does
pub gathers_goes : {C : Type 0} (e : Engine C) (origin room t n : ℕ) (w v : World C) (lines : List Event) → LINES_FOR_TICK ≤ room
    → Goes e origin w t (record { control = v; words = t + n; told = lines; ticks = n }) → Gathers e origin room w t n lines v
gathers_goes e origin room t n w v lines fits goes =
    let l : Burst (World _) ℕ (List Event) = record { control = v; words = t + n; told = lines; ticks = n } in
    let none : n + 0 ≡ n = omega arith in
    let step : (q : Bool) → is_silent lines ≡ q → cond q (later n (no_ticks v (t + n))) l ≡ l =
    λ q. elim q as (λ q. is_silent lines ≡ q → cond q (later n (no_ticks v (t + n))) l ≡ l) [
      | true ↦ λ s. ap (λ (ls : List Event). record { control = v; words = t + n; told = ls; ticks = n + 0 }) (sym (silent_none lines s))
          ∙ ap (λ k. record { control = v; words = t + n; told = lines; ticks = k }) none
      | false ↦ λ s. refl
    ] in
    subst (AreGathered e origin room t w) (goes 0 ∙ step (is_silent lines) refl) (burst_is_gathered e origin room (n + 0) t w fits)

-- ---- as the code meets them

-- the current runner goes on
gathers_burst : {C : Type 0} (e : Engine C) (origin room t k : ℕ) (p : Runner) (w : World C) → LINES_FOR_TICK ≤ room
    → w.kernel.processes.running ≡ Some p → chooses_with_handler w.kernel ≡ nothing w.kernel → ((i : ℕ) → i < k → HasNothingDue (tick_from origin (t + i)) w.kernel)
    → let b = burst_of e k p w in let s = treated_at e origin p w (t + b.ticks - 1) b in Gathers e origin room w t b.ticks s.lines s.world
gathers_burst e origin room t k p w fits runs chosen due =
    let b = burst_of e k p w in
    let s = treated_at e origin p w (t + b.ticks - 1) b in
    gathers_goes e origin room t b.ticks w s.world s.lines fits (λ m. running_burst e origin p k m t w runs chosen due)

set_again : {A : Type 0} (xs : List A) (p : ℕ) (x y : A) → slice_set (slice_set xs p x) p y ≡ slice_set xs p y
set_again [] p x y = refl
set_again (z ∷ xs) zero x y = refl
set_again (z ∷ xs) (suc p) x y = ap (λ l. z ∷ l) (set_again xs p x y)

found_set : {C : Type 0} (e : Engine C) (xs : List (Option C)) (p : ℕ) (ws : List ℤ) → control_at (slice_set xs p (ticked e (control_at xs p) ws).control) p ≡ (ticked e (control_at xs p) ws).control
found_set e [] p ws = refl
found_set e (x ∷ xs) zero ws = refl
found_set e (x ∷ xs) (suc p) ws = found_set e xs p ws

-- a request is treated in the same way after a quiet tick
treated_later : {C : Type 0} (e : Engine C) (origin u : ℕ) (p : Runner) (w : World C) (control : Option C) (words : List ℤ) (b : Burst (Option C) (List ℤ) Asks)
    → treated_at e origin p (with_control w p control words) u b ≡ treated_at e origin p w u (later 1 b)
treated_later e origin u p w control words b =
    ap (λ cs. moved (tick_from origin u) e (treats_asked (tick_from origin u) w.kernel p b.told (given b.told b.words)) (record { kernel = w.kernel; controls = cs; words = b.words; initial = w.initial })) (set_again w.controls (place_of p) control b.control)

-- what is due and the choice, then the ticks of the chosen runner
abbrev IsBegun : {C : Type 0} → Engine C → (origin room t : ℕ) → Runner → World C → Burst (Option C) (List ℤ) Asks → Type 0
IsBegun e origin room t p w b =
    let m = prepares e (tick_from origin t) w in
    let s = treated_at e origin p m.world (t + (b.ticks - 1)) b in
    Gathers e origin room w t b.ticks (m.lines ++ s.lines) s.world

-- its first tick asks for nothing
begun_quiet : {C : Type 0} (e : Engine C) (origin room t q : ℕ) (p : Runner) (w : World C)
    → let m = prepares e (tick_from origin t) w in LINES_FOR_TICK ≤ room → (0 < q → LINES_FOR_TICK ≤ room - length m.lines)
    → m.world.kernel.processes.running ≡ Some p → (0 < q → chooses_with_handler m.world.kernel ≡ nothing m.world.kernel)
    → ((i : ℕ) → i < q → HasNothingDue (tick_from origin (t + 1 + i)) m.world.kernel)
    → let r = ticked e (control_at m.world.controls (place_of p)) m.world.words in
    tick e (tick_from origin t) w ≡ record { world = with_control m.world p r.control r.words; lines = m.lines ++ [] }
    → IsBegun e origin room t p w (later 1 (burst (ticked e) q r.control r.words))
begun_quiet e origin room t zero p w fits more runs chosen due here =
    let m = prepares e (tick_from origin t) w in
    let r = ticked e (control_at m.world.controls (place_of p)) m.world.words in
    gathers_once e origin room t w (with_control m.world p r.control r.words) (m.lines ++ []) fits here
begun_quiet e origin room t (suc q) p w fits more runs chosen due here =
    let m = prepares e (tick_from origin t) w in
    let r = ticked e (control_at m.world.controls (place_of p)) m.world.words in
    let v = with_control m.world p r.control r.words in
    let rest = burst (ticked e) (suc q) r.control r.words in
    let same : burst_of e (suc q) p v ≡ rest = ap (λ c. burst (ticked e) (suc q) c r.words) (found_set e m.world.controls (place_of p) m.world.words) in
    let last : t + 1 + rest.ticks - 1 ≡ t + (1 + rest.ticks - 1) = omega arith in
    let left = room - length m.lines in
    let first : Gathers e origin room w t 1 m.lines v = gathers_once e origin room t w v m.lines fits (here ∙ ap (λ ls. record { world = v; lines = ls }) (append-nil m.lines)) in
    let law = gathers_burst e origin left (t + 1) (suc q) p v (more (omega arith)) runs (chosen (omega arith)) due in
    let IsRest : Burst (Option _) (List ℤ) Asks → Type 0 = λ b. let s = treated_at e origin p v (t + 1 + b.ticks - 1) b in Gathers e origin left v (t + 1) b.ticks s.lines s.world in
    let second : IsRest rest = subst IsRest same law in
    let all : treated_at e origin p v (t + 1 + rest.ticks - 1) rest ≡ treated_at e origin p m.world (t + (1 + rest.ticks - 1)) (later 1 rest) =
    ap (λ u. treated_at e origin p v u rest) last ∙ treated_later e origin (t + (1 + rest.ticks - 1)) p m.world r.control r.words rest in
    let s = treated_at e origin p v (t + 1 + rest.ticks - 1) rest in
    subst (λ (x : Moved _). Gathers e origin room w t (1 + rest.ticks) (m.lines ++ x.lines) x.world) all
    (gathers_more e origin room t 1 rest.ticks w v s.world m.lines s.lines first second)

begun_burst : {C : Type 0} (e : Engine C) (origin room t q : ℕ) (p : Runner) (w : World C)
    → let m = prepares e (tick_from origin t) w in LINES_FOR_TICK ≤ room → (0 < q → LINES_FOR_TICK ≤ room - length m.lines)
    → m.world.kernel.processes.running ≡ Some p → (0 < q → chooses_with_handler m.world.kernel ≡ nothing m.world.kernel)
    → ((i : ℕ) → i < q → HasNothingDue (tick_from origin (t + 1 + i)) m.world.kernel)
    → IsBegun e origin room t p w (burst_of e (suc q) p m.world)
begun_burst e origin room t q p w fits more runs chosen due =
    let at = tick_from origin t in
    let m = prepares e at w in
    let r = ticked e (control_at m.world.controls (place_of p)) m.world.words in
    let v = with_control m.world p r.control r.words in
    let rest = burst (ticked e) q r.control r.words in
    let s = spends e at p m.world in
    let now : t ≡ t + (1 - 1) = omega arith in
    let here : tick e at w ≡ record { world = s.world; lines = m.lines ++ s.lines } = ap (λ o. followed_by m (λ u. spends_chosen e at o m.world)) runs in
    let step : (b : Bool) → is_nothing r.asks ≡ b → IsBegun e origin room t p w (cond b (later 1 rest) (alone (told_of r))) =
    λ b. elim b as (λ b. is_nothing r.asks ≡ b → IsBegun e origin room t p w (cond b (later 1 rest) (alone (told_of r)))) [
      | true ↦ λ h. begun_quiet e origin room t q p w fits more runs chosen due
          (here ∙ ap (λ a. followed_by m (λ u. moved at e (treats_asked at m.world.kernel p a (given a r.words)) v)) (nothing_is r.asks h))
      | false ↦ λ h.
          let x : ℕ → Moved _ = λ u. treated_at e origin p m.world u (alone (told_of r)) in
          gathers_once e origin room t w (x (t + (1 - 1))).world (m.lines ++ (x (t + (1 - 1))).lines) fits (here ∙ ap (λ u. record { world = (x u).world; lines = m.lines ++ (x u).lines }) now)
    ] in
    step (is_nothing r.asks) refl

-- the same, of as many ticks as the code says
pub gathers_begun : {C : Type 0} (e : Engine C) (origin room t q n : ℕ) (p : Runner) (w : World C)
    → let m = prepares e (tick_from origin t) w in LINES_FOR_TICK ≤ room → (0 < q → LINES_FOR_TICK ≤ room - length m.lines)
    → m.world.kernel.processes.running ≡ Some p → (0 < q → chooses_with_handler m.world.kernel ≡ nothing m.world.kernel)
    → ((i : ℕ) → i < q → HasNothingDue (tick_from origin (t + 1 + i)) m.world.kernel)
    → n ≡ (burst_of e (suc q) p m.world).ticks
    → let s = treated_at e origin p m.world (t + (n - 1)) (burst_of e (suc q) p m.world) in Gathers e origin room w t n (m.lines ++ s.lines) s.world
gathers_begun e origin room t q n p w fits more runs chosen due count =
    let m = prepares e (tick_from origin t) w in
    let b = burst_of e (suc q) p m.world in
    subst (λ j. let s = treated_at e origin p m.world (t + (j - 1)) b in Gathers e origin room w t j (m.lines ++ s.lines) s.world) (sym count) (begun_burst e origin room t q p w fits more runs chosen due)

-- nobody is chosen, and nothing happens in the ticks after it
idle_behind : {C : Type 0} (e : Engine C) (origin room t q : ℕ) (w : World C) → (0 < q → LINES_FOR_TICK ≤ room)
    → w.kernel.processes.running ≡ None → (0 < q → chooses_with_handler w.kernel ≡ nothing w.kernel) → ((i : ℕ) → i < q → HasNothingDue (tick_from origin (t + i)) w.kernel)
    → Gathers e origin room w t q [] w
idle_behind e origin room t zero w more nobody chosen due = gathers_none e origin room t w
idle_behind e origin room t (suc q) w more nobody chosen due =
    let fits = more (omega arith) in
    gathers_goes e origin room t (suc q) w w [] fits (goes_idle e origin (suc q) t w nobody (chosen (omega arith)) due)

pub gathers_nobody : {C : Type 0} (e : Engine C) (origin room t q n : ℕ) (w : World C)
    → let m = prepares e (tick_from origin t) w in LINES_FOR_TICK ≤ room → (0 < q → LINES_FOR_TICK ≤ room - length m.lines)
    → m.world.kernel.processes.running ≡ None → (0 < q → chooses_with_handler m.world.kernel ≡ nothing m.world.kernel)
    → ((i : ℕ) → i < q → HasNothingDue (tick_from origin (t + 1 + i)) m.world.kernel)
    → n ≡ q + 1 → Gathers e origin room w t n m.lines m.world
gathers_nobody e origin room t q n w fits more nobody chosen due count =
    let at = tick_from origin t in
    let m = prepares e at w in
    let first : Gathers e origin room w t 1 m.lines m.world =
    gathers_once e origin room t w m.world m.lines fits
    (ap (λ o. followed_by m (λ u. spends_chosen e at o m.world)) nobody ∙ ap (λ ls. record { world = m.world; lines = ls }) (append-nil m.lines)) in
    let both = gathers_more e origin room t 1 q w m.world m.world m.lines [] first (idle_behind e origin (room - length m.lines) (t + 1) q m.world more nobody chosen due) in
    let all : 1 + q ≡ n = omega (arith, count) in
    subst (λ k. Gathers e origin room w t k m.lines m.world) all (subst (λ ls. Gathers e origin room w t (1 + q) ls m.world) (append-nil m.lines) both)

-- ---- all of them

no_more : {C : Type 0} (e : Engine C) (origin room t m : ℕ) (w : World C) → (0 < m → room < LINES_FOR_TICK) → ticks_within e origin room m w t ≡ no_ticks w t
no_more e origin room t zero w full = refl
no_more e origin room t (suc m) w full =
    let k = tick e (tick_from origin t) w in
    ap (λ b. cond b (joined k.lines 1 (ticks_within e origin (room - length k.lines) m k.world (t + 1))) (no_ticks w t)) (lt-leb LINES_FOR_TICK room (full (omega arith)))

-- all ticks are made, or there is no room for one more
pub gathers_all : {C : Type 0} (e : Engine C) (origin room t n k : ℕ) (w v : World C) (lines : List Event) → Gathers e origin room w t n lines v → n ≤ k → (n < k → room - length lines < LINES_FOR_TICK)
    → ticks_within e origin room k w t ≡ record { control = v; words = t + n; told = lines; ticks = n }
gathers_all e origin room t n k w v lines made within full =
    let split : k ≡ n + (k - n) = omega (arith, within) in
    let none : n + 0 ≡ n = omega arith in
    ap (λ j. ticks_within e origin room j w t) split
    ∙ made (k - n)
    ∙ ap (joined lines n) (no_more e origin (room - length lines) (t + n) (k - n) v (λ some. full (omega (arith, some))))
    ∙ ap (λ (ls : List Event). record { control = v; words = t + n; told = ls; ticks = n + 0 }) (append-nil lines)
    ∙ ap (λ j. record { control = v; words = t + n; told = lines; ticks = j }) none

-- at least one tick is made, if there is room for one
pub some_ticks : {C : Type 0} (e : Engine C) (origin room t n : ℕ) (w : World C) → LINES_FOR_TICK ≤ room → 0 < n → 0 < (ticks_within e origin room n w t).ticks
some_ticks e origin room t zero w fits some = absurd (omega (arith, some))
some_ticks e origin room t (suc n) w fits some =
    let k = tick e (tick_from origin t) w in
    let x = ticks_within e origin (room - length k.lines) n k.world (t + 1) in
    let one_more : 0 < 1 + x.ticks = omega arith in
    subst (λ (b : Burst (World _) ℕ (List Event)). 0 < b.ticks) (sym (one_tick e origin room t n w fits)) one_more
