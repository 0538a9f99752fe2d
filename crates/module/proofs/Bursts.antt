-- Many ticks of the module together, between two standings.
use Rattle.module.proofs.Prelude.{still, ◌≡◌, ◌⊎◌, inl, inr, ℕ, zero, suc, ◌+◌, ◌-◌, ◌<◌, ◌≤◌, List, ◌∷◌, ◌++◌, length, Option, Some, None, refl, sym, ap, ◌∙◌, arith, slice_get, option_map, none-some, same_Some, text_of, TakesBeginning, IsUnderWay, under_way_fails, DeviceLine, Event, At, Kernel, Plan, Member, Schedule, tick_from, owner, ended, IsStill, AreStill, HaveNoLines, nothing_sent, Sent, LeadsTo, HasPassedSome, HasSkippedSome, IsBrokenOff, Standing, lines_of, AreFrom, Elapsed, elapse, preceded_by, Course, Stepped, of_tick, origin_of, then_runs, module_tick}
use Rattle.std.proofs.Common.{[], subst}
use Rattle.kernel_meaning.specs.Windows.{at_tick}
use Rattle.module_meaning.specs.Module.{goes_on}
use Rattle.kernel_laws.proofs.Quiet.{still_tick}
use Rattle.lone_partition.proofs.LinesOfTicks as of_any
use Rattle.module.proofs.DeviceLines.{none_before, of_tick_again}
use Rattle.module.specs.Pieces.{AreQuiet}
use Rattle.module.specs.Written.{tick_of_line}
use Rattle.module.proofs.Standing.{begins_later, skipped_leads}
use Rattle.lone_partition.proofs.Texts.{text_append}

abbrev pub standing_at : {C : Type 0} → List (Member C) → (now origin : ℕ) → Standing C
standing_at ms now origin = record { members = ms; now = now; origin = Some origin }

-- ---- the device lines

pub from_lower : (t u : ℕ) (ls : List DeviceLine) → t ≤ u → AreFrom u ls → AreFrom t ls
from_lower t u ls h order = of_any.from_lower tick_of_line t u ls h order

pub no_lines : (t u : ℕ) (ls : List DeviceLine) → AreFrom u ls → HaveNoLines t u ls
no_lines t u ls order = λ v from below. none_before v u ls below order

-- ---- no tick at all

pub leads_nowhere : {C : Type 0} (plan : Plan) (lines : List DeviceLine) (s : Standing C) → LeadsTo plan lines 0 s [] s
leads_nowhere plan lines s m = let same : 0 + m ≡ m = omega arith in ap (λ k. elapse plan lines k s) same

-- ---- ticks in which nothing happens

elapse_still : {C : Type 0} (plan : Plan) (lines : List DeviceLine) (origin from limit : ℕ) (ms : List (Member C)) → AreStill origin from limit ms
    → (n m t : ℕ) → 0 < t → from ≤ t → t + n ≤ limit → HaveNoLines t (t + n) lines
    → elapse plan lines (n + m) (standing_at ms t origin) ≡ elapse plan lines m (standing_at ms (t + n) origin)
elapse_still plan lines origin from limit ms h zero m t begun start within none =
    let same : 0 + m ≡ m = omega arith in
    let here : t ≡ t + 0 = omega arith in
    ap (λ k. elapse plan lines k (standing_at ms t origin)) same ∙ ap (λ u. elapse plan lines m (standing_at ms u origin)) here
elapse_still plan lines origin from limit ms h (suc n) m t begun start within none =
    let at = tick_from origin t in
    let its = of_tick t lines in
    let one_more : suc n + m ≡ suc (n + m) = omega arith in
    let there : t + 1 + n ≡ t + suc n = omega arith in
    let shows : Course _ → Elapsed _ = λ c. preceded_by c.lines (elapse plan lines (n + m) (record { members = c.state; now = t + 1; origin = option_map origin_of c.at })) in
    ap (λ k. elapse plan lines k (standing_at ms t origin)) one_more
    ∙ ap (λ (b : Stepped _). shows (then_runs (goes_on at b) (λ x xs. module_tick plan x its xs))) (begins_later t ms begun)
    ∙ ap shows (still_tick plan its origin t from limit ms start (omega (arith, within)) h (of_tick_again t lines ∙ none t (omega arith) (omega arith)))
    ∙ elapse_still plan lines origin from limit ms h n m (t + 1) (omega (arith, begun)) (omega (arith, start)) (omega (arith, within)) (λ u above below. none u (omega (arith, above)) (omega (arith, below)))
    ∙ ap (λ u. elapse plan lines m (standing_at ms u origin)) there

pub leads_still : {C : Type 0} (plan : Plan) (lines : List DeviceLine) (n now origin : ℕ) (ms : List (Member C)) → 0 < now → AreFrom (now + n) lines → AreStill origin now (now + n) ms
    → LeadsTo plan lines n (standing_at ms now origin) [] (standing_at ms (now + n) origin)
leads_still plan lines n now origin ms begun order still m =
    elapse_still plan lines origin now (now + n) ms still n m now begun (omega arith) (omega arith) (no_lines now (now + n) lines order)

-- ---- still partitions

pub apart : (a b : ℕ) → (a < b) ⊎ (b ≤ a)
apart a zero = inr (omega arith)
apart zero (suc b) = inl (omega arith)
apart (suc a) (suc b) = elim (apart a b) [ inl h ↦ inl (omega (arith, h)) | inr h ↦ inr (omega (arith, h)) ]

past : {A : Type 0} (xs : List A) (place : ℕ) → length xs ≤ place → slice_get xs place ≡ None
past [] place h = refl
past (x ∷ xs) zero h = absurd (omega (arith, h))
past (x ∷ xs) (suc place) h = past xs place (omega (arith, h))

still_sooner : (origin now n m : ℕ) (k : Kernel) → m ≤ n → IsStill origin now (now + n) k → IsStill origin now (now + m) k
still_sooner origin now n m k h s = record { idle = s.idle; due = λ t from below. s.due t from (omega (arith, h, below)); ports = s.ports }

-- the partitions before a place are still
abbrev pub AreStillBefore : {C : Type 0} → (origin now n place : ℕ) → List (Member C) → Type 0
AreStillBefore origin now n place ms = (q : ℕ) → q < place → (x : Member _) → slice_get ms q ≡ Some x → IsStill origin now (now + n) x.world.kernel

seen : {C : Type 0} (o : Option (Member C)) (k : Kernel) (x : Member C) → Some k ≡ option_map (λ (x : Member C). x.world.kernel) o → o ≡ Some x → k ≡ x.world.kernel
seen None k x e f = absurd (none-some x f)
seen (Some y) k x e f = same_Some k y.world.kernel e ∙ ap (λ (z : Member _). z.world.kernel) (same_Some y x f)

pub one_more_still : {C : Type 0} (origin now n m place : ℕ) (ms : List (Member C)) (k : Kernel) → m ≤ n → Some k ≡ option_map (λ (x : Member C). x.world.kernel) (slice_get ms place)
    → AreStillBefore origin now n place ms → IsStill origin now (now + m) k → AreStillBefore origin now m (place + 1) ms
one_more_still origin now n m place ms k h there before here q below x e = elim (apart q place) [
  | inl less ↦ still_sooner origin now n m x.world.kernel h (before q less x e)
  | inr more ↦
      let same : q ≡ place = omega (arith, below, more) in
      subst (λ (k : Kernel). IsStill origin now (now + m) k) (seen (slice_get ms place) k x there (ap (slice_get ms) (sym same) ∙ e)) here
]

pub all_still : {C : Type 0} (origin now n place : ℕ) (ms : List (Member C)) → length ms ≤ place → AreStillBefore origin now n place ms → AreStill origin now (now + n) ms
all_still origin now n place ms h before q x e = elim (apart q place) [
  | inl less ↦ before q less x e
  | inr more ↦ absurd (none-some x (sym (past ms q (omega (arith, h, more))) ∙ e))
]

-- ---- the text of a run

pub breaks_off : {C : Type 0} {old mid new : Option (List ℕ)} {text : List ℕ} {before between : ℕ} (plan : Plan) (lines : List DeviceLine) (s : Standing C) (left k : ℕ) → k ≤ left
    → IsUnderWay old mid text (text_of (lines_of plan lines left s)) → IsBrokenOff plan lines k s mid new before between
    → TakesBeginning old new text
breaks_off {old = old} {mid = mid} {new = new} {text = text} plan lines s left k few way h =
    let count : left ≡ h.ticks + (left - h.ticks) = omega (arith, few, h.within) in
    let rest = left - h.ticks in
    let split : text_of (lines_of plan lines left s) ≡ text_of h.told ++ text_of (lines_of plan lines rest h.next) =
    ap (λ (e : Elapsed _). text_of e.lines) (ap (λ j. elapse plan lines j s) count ∙ h.leads rest) ∙ text_append h.told (lines_of plan lines rest h.next) in
    under_way_fails old mid new text (text_of h.told) _ (rw split at way) h.beginning

-- ---- as the code meets them

pub run_nothing : {C : Type 0} (plan : Plan) (lines : List DeviceLine) (k : ℕ) (s : Standing C) (sent : Sent) → HasPassedSome plan lines k s s sent sent 0
run_nothing plan lines k s sent =
    let none : 0 ≤ k = omega arith in
    let same : s.now ≡ s.now + 0 = omega arith in
    (none, same, record { told = []; leads = leads_nowhere plan lines s; sent = nothing_sent sent })

pub lift : {C : Type 0} (plan : Plan) (lines : List DeviceLine) (n t origin : ℕ) (s : Standing C) (told : List Event) (ms : List (Member C)) → t ≡ s.now → s.origin ≡ Some origin
    → LeadsTo plan lines n (standing_at s.members t origin) told (standing_at ms (t + n) origin) → LeadsTo plan lines n s told (record { members = ms; now = s.now + n; origin = s.origin })
lift plan lines n t origin s told ms here from h =
    subst (λ (o : Option ℕ). LeadsTo plan lines n (record { members = s.members; now = s.now; origin = o }) told (record { members = ms; now = s.now + n; origin = o })) (sym from)
    (subst (λ u. LeadsTo plan lines n (standing_at s.members u origin) told (standing_at ms (u + n) origin)) here h)

pub run_still : {C : Type 0} (plan : Plan) (lines : List DeviceLine) (k t origin : ℕ) (s : Standing C) (sent : Sent) → t ≡ s.now → s.origin ≡ Some origin
    → 0 < t → AreFrom (t + k) lines → AreStill origin t (t + k) s.members
    → HasPassedSome plan lines k s (record { members = s.members; now = s.now + k; origin = s.origin }) sent sent k
run_still plan lines k t origin s sent here from begun order still =
    let all : k ≤ k = omega arith in
    (all, refl, record { told = []; leads = lift plan lines k t origin s [] s.members here from (leads_still plan lines k t origin s.members begun order still); sent = nothing_sent sent })

pub skip_ticks : {C : Type 0} (plan : Plan) (k n t origin : ℕ) (s : Standing C) → t ≡ s.now → s.origin ≡ Some origin → n ≤ k
    → 0 < t → AreStill origin t (t + n) s.members
    → HasSkippedSome plan k s (record { members = s.members; now = s.now + n; origin = s.origin }) n
skip_ticks plan k n t origin s here from few begun still =
    let all : n ≡ n + 0 = omega arith in
    (few, refl, ap (λ j. elapse plan [] j s) all ∙ lift plan [] n t origin s [] s.members here from (leads_still plan [] n t origin s.members begun tt still) 0)

-- nothing happens in any of them
pub quiet_ticks : {C : Type 0} (plan : Plan) (n t origin : ℕ) (s : Standing C) → t ≡ s.now → s.origin ≡ Some origin → 0 < t → AreStill origin t (t + n) s.members → AreQuiet plan s n
quiet_ticks plan n t origin s here from begun calm k within =
    let all : k ≤ k = omega arith in
    (skip_ticks plan k k t origin s here from all begun (λ place x e. still_sooner origin t n k x.world.kernel within (calm place x e))).2

pub quiet_at_once : {C : Type 0} (plan : Plan) (s : Standing C) → AreQuiet plan s 0
quiet_at_once plan s k within =
    let none : k ≡ 0 = omega (arith, within) in
    let same : s.now ≡ s.now + k = omega (arith, none) in
    ap (λ j. elapse plan [] j s) none ∙ ap (λ t. still (record { members = s.members; now = t; origin = s.origin })) same

-- ticks that were skipped lead on with any device lines that are later
pub skipped_ahead : {C : Type 0} (plan : Plan) (lines : List DeviceLine) (k : ℕ) (s next : Standing C) → next.now ≡ s.now + k → AreFrom next.now lines → elapse plan [] k s ≡ still next → LeadsTo plan lines k s [] next
skipped_ahead plan lines k s next now order is = skipped_leads plan lines k s next (subst (λ u. HaveNoLines s.now u lines) now (no_lines s.now next.now lines order)) is

-- some of fewer ticks are some of more
pub run_fewer : {C : Type 0} (old new : Sent) (plan : Plan) (lines : List DeviceLine) (m k n : ℕ) (s next : Standing C) → m ≤ k → HasPassedSome plan lines m s next old new n → HasPassedSome plan lines k s next old new n
run_fewer old new plan lines m k n s next few h = let all : n ≤ k = let within : n ≤ m = h.0 in omega (arith, within, few) in (all, h.1, h.2)

-- the device lines are still ahead
pub still_ahead : {C : Type 0} (old new : Sent) (plan : Plan) (lines : List DeviceLine) (k t n : ℕ) (s next : Standing C) → t ≡ s.now → AreFrom (t + k) lines → HasPassedSome plan lines k s next old new n → AreFrom next.now lines
still_ahead old new plan lines k t n s next here order h =
    let lower : next.now ≤ t + k = let within : n ≤ k = h.0 in let later : next.now ≡ s.now + n = h.1 in omega (arith, within, later, here) in
    from_lower next.now (t + k) lines lower order

-- ---- up to the next change of the owner

pub owner_kept : (s : Schedule) (at : At) (o : Option ℕ) (count change : ℕ) → count ≤ change → owner s at ≡ o → ((i : ℕ) → i < change → owner s (at_tick at (at.now.0 + i)) ≡ owner s at)
    → (i : ℕ) → i < count → owner s (tick_from at.origin.0 (at.now.0 + i)) ≡ o
owner_kept s at o count change few is h i below = h i (omega (arith, few, below)) ∙ is

pub none_ended : (s : Schedule) (at : At) (count change : ℕ) → count ≤ change → ((i : ℕ) → 0 < i → i < change → ended s (at_tick at (at.now.0 + i)) ≡ None)
    → (i : ℕ) → 0 < i → i < count → ended s (tick_from at.origin.0 (at.now.0 + i)) ≡ None
none_ended s at count change few h i some below = h i some (omega (arith, few, below))
