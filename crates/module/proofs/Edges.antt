-- Ticks of the owner of a window from an edge on: first the messages move, then it makes its ticks.
use Rattle.module.proofs.Prelude.{◌≡◌, ◌≢◌, ℕ, zero, suc, ◌+◌, ◌-◌, ◌<◌, ◌≤◌, List, ◌∷◌, ◌++◌, Option, Some, None, Bool, true, false, cond, inl, inr, ◌⊎◌, length, map, refl, sym, ap, ◌∙◌, append-nil, arith, slice_get, slice_set, option_map, none-some, same_Some, place_of_number, DeviceLine, Event, At, PartitionId, Port, is_source, Member, World, messages_to_move, tick, with_world, Schedule, tick_from, owner, ended, Stepped, Course, Plan, inputs_all, module_tick, moves_and_ticks, moves_ended, moves_ports, moves_so_many, of_member, of_tick, ports_from, ports_of, steps_member, still, then_goes, then_runs, ticks_owner, Channel, at_number, lines_sent, nothing_sent, Sent, LeadsTo, EndsQuietly, HasNoSource, HasPassedSome, HasPassedSomeBehind, ticks_by, Elapsed, Standing, elapse, preceded_by, origin_of, AreFrom, IsMade}
use Rattle.std.proofs.Common.{[], subst}
use Rattle.std.proofs.lemmas.Bool.{cases_lt}
use Rattle.kernel_meaning.specs.Partition.{advances}
use Rattle.module_meaning.specs.Module.{goes_on}
use Rattle.module.specs.Pieces.{LeadsBehind, elapse_behind}
use Rattle.module.proofs.Bursts.{from_lower, standing_at}
use Rattle.module.proofs.DeviceLines.{none_before, of_tick_again}
use Rattle.module.proofs.Sources.{sources_of, tick_keeps}
use Rattle.module.proofs.Standing.{begins_later, preceded_twice}

-- ---- a tick without device lines: its moves, and then the rest

pub after_moves : {C : Type 0} (plan : Plan) (lines : List DeviceLine) (k now origin : ℕ) (ms : List (Member C)) → 0 < now → of_tick now lines ≡ []
    → let a = moves_ended plan.channels (tick_from origin now) ms (ended plan.schedule (tick_from origin now)) in
    elapse plan lines (suc k) (standing_at ms now origin) ≡ preceded_by a.lines (elapse_behind plan lines (suc k) (standing_at a.state now origin))
after_moves plan lines k now origin ms begun none =
    let at = tick_from origin now in
    let its = of_tick now lines in
    let shows : Course _ → Elapsed _ = λ c. preceded_by c.lines (elapse plan lines k (record { members = c.state; now = now + 1; origin = option_map origin_of c.at })) in
    let a = moves_ended plan.channels at ms (ended plan.schedule at) in
    let o = ticks_owner at a.state (owner plan.schedule at) in
    ap (λ (b : Stepped _). shows (then_runs (goes_on at b) (λ x xs. module_tick plan x its xs))) (begins_later now ms begun)
    ∙ ap (λ ls. shows (then_runs (inputs_all plan at ls ms) (moves_and_ticks plan))) (of_tick_again now lines ∙ none)
    ∙ preceded_twice a.lines o.lines (elapse plan lines k (standing_at o.state (now + 1) origin))

-- ---- edges at which nothing moves

none_moves : (ports : List Port) → ((place : ℕ) → messages_to_move (slice_get ports place) ≡ None) → (number : ℕ) → messages_to_move (at_number ports number) ≡ None
none_moves ports h zero = refl
none_moves ports h (suc place) = h place

sourceless_moves : {C : Type 0} (n number : ℕ) (channels : List Channel) (at : At) (p : PartitionId) (ms : List (Member C)) → HasNoSource ms p.0 → moves_ports n number channels at p ms ≡ still ms
sourceless_moves zero number channels at p ms h = refl
sourceless_moves (suc n) number channels at p ms h =
    ap (λ o. then_goes (moves_so_many channels at p (record { 0 = number }) ms o) (moves_ports n (number + 1) channels at p)) (none_moves (ports_from ms p.0) h number)
    ∙ sourceless_moves n (number + 1) channels at p ms h

quiet_moves : {C : Type 0} (channels : List Channel) (at : At) (ms : List (Member C)) (p : ℕ) (o : Option ℕ) → (o ≡ None) ⊎ ((o ≡ Some p) × HasNoSource ms p) → moves_ended channels at ms o ≡ still ms
quiet_moves channels at ms p o (inl none) = ap (moves_ended channels at ms) none
quiet_moves channels at ms p o (inr both) =
    ap (moves_ended channels at ms) both.0 ∙ sourceless_moves (length (ports_from ms p)) 1 channels at (record { 0 = p }) ms both.1

no_moves : {C : Type 0} (plan : Plan) (lines : List DeviceLine) (k now origin p : ℕ) (ms : List (Member C)) → 0 < now → of_tick now lines ≡ [] → EndsQuietly plan origin ms p now
    → elapse plan lines (suc k) (standing_at ms now origin) ≡ elapse_behind plan lines (suc k) (standing_at ms now origin)
no_moves plan lines k now origin p ms begun none over =
    after_moves plan lines k now origin ms begun none
    ∙ ap (λ (a : Stepped _). preceded_by a.lines (elapse_behind plan lines (suc k) (standing_at a.state now origin)))
    (quiet_moves plan.channels (tick_from origin now) ms p (ended plan.schedule (tick_from origin now)) over)

same_sources : (ports others : List Port) → map is_source others ≡ map is_source ports → ((place : ℕ) → messages_to_move (slice_get ports place) ≡ None) → (place : ℕ) → messages_to_move (slice_get others place) ≡ None
same_sources ports [] same h place = refl
same_sources [] (y ∷ ys) same h place = absurd (cc)
same_sources (x ∷ xs) (y ∷ ys) same h zero =
    let first : is_source y ≡ is_source x = cc in
    ap (λ b. cond b (Some (length y.messages)) None) first ∙ neither (is_source x) (h 0)
  where
    neither : (b : Bool) → cond b (Some (length x.messages)) None ≡ None → cond b (Some (length y.messages)) None ≡ None
    neither true e = absurd (none-some (length x.messages) (sym e))
    neither false e = refl
same_sources (x ∷ xs) (y ∷ ys) same h (suc place) =
    let rest : map is_source ys ≡ map is_source xs = cc in
    same_sources xs ys rest (λ q. h (suc q)) place

-- ---- the owner's ticks

set_found : {A : Type 0} (xs : List A) (place : ℕ) (x y : A) → slice_get xs place ≡ Some x → slice_get (slice_set xs place y) place ≡ Some y
set_found [] place x y e = absurd (none-some x e)
set_found (z ∷ xs) zero x y e = refl
set_found (z ∷ xs) (suc place) x y e = set_found xs place x y e

none_there : {A : Type 0} (xs : List A) (place : ℕ) → place < length xs → slice_get xs place ≢ None
none_there [] place h e = absurd (omega (arith, h))
none_there (y ∷ xs) zero h e = none-some y (sym e)
none_there (y ∷ xs) (suc place) h e = none_there xs place (omega (arith, h)) e

set_again : {A : Type 0} (xs : List A) (place : ℕ) (x y : A) → slice_set (slice_set xs place x) place y ≡ slice_set xs place y
set_again [] place x y = refl
set_again (z ∷ xs) zero x y = refl
set_again (z ∷ xs) (suc place) x y = ap (λ l. z ∷ l) (set_again xs place x y)

-- the partition at a place in another world
set_sourceless : {C : Type 0} (ms : List (Member C)) (place : ℕ) (x : Member C) (w : World C) → slice_get ms place ≡ Some x → sources_of w.kernel ≡ sources_of x.world.kernel → HasNoSource ms (suc place)
    → HasNoSource (slice_set ms place (with_world x w)) (suc place)
set_sourceless ms place x w e same h =
    let seen : ports_from ms (suc place) ≡ ports_of x = ap (of_member [] ports_of) e in
    let now : ports_from (slice_set ms place (with_world x w)) (suc place) ≡ w.kernel.ports.ports = ap (of_member [] ports_of) (set_found ms place x (with_world x w) e) in
    subst (λ (ports : List Port). (q : ℕ) → messages_to_move (slice_get ports q) ≡ None) (sym now)
    (same_sources (ports_of x) w.kernel.ports.ports same (subst (λ (ports : List Port). (q : ℕ) → messages_to_move (slice_get ports q) ≡ None) seen h))

still_quiet : {C : Type 0} (plan : Plan) (origin p t : ℕ) (ms next : List (Member C)) → (HasNoSource ms p → HasNoSource next p) → EndsQuietly plan origin ms p t → EndsQuietly plan origin next p t
still_quiet plan origin p t ms next kept (inl none) = inl none
still_quiet plan origin p t ms next kept (inr both) = inr (both.0, kept both.1)

-- a tick of the owner at which nothing moves
record IsOwned {C : Type 0} (plan : Plan) (devices : List DeviceLine) (origin place : ℕ) (ms : List (Member C)) (t : ℕ) : Type 0 where
  lines : of_tick t devices ≡ []
  quiet : EndsQuietly plan origin ms (suc place) t
  owner : owner plan.schedule (tick_from origin t) ≡ Some (suc place)

-- one tick
owner_tick : {C : Type 0} (plan : Plan) (lines : List DeviceLine) (k now origin place : ℕ) (ms : List (Member C)) (x : Member C) → slice_get ms place ≡ Some x → owner plan.schedule (tick_from origin now) ≡ Some (suc place)
    → let a = tick x.engine (tick_from origin now) x.world in
    elapse_behind plan lines (suc k) (standing_at ms now origin) ≡ preceded_by a.lines (elapse plan lines k (standing_at (slice_set ms place (with_world x a.world)) (now + 1) origin))
owner_tick plan lines k now origin place ms x e owned =
    let at = tick_from origin now in
    let shows : Stepped _ → Elapsed _ = λ a. preceded_by a.lines (elapse plan lines k (standing_at a.state (now + 1) origin)) in
    ap (λ o. shows (ticks_owner at ms o)) owned
    ∙ ap (λ o. shows (steps_member (advances at) ms place o)) e

-- several ticks
owner_ticks : {C : Type 0} (plan : Plan) (lines : List DeviceLine) (n m now origin place : ℕ) (ms : List (Member C)) (x : Member C) → slice_get ms place ≡ Some x → owner plan.schedule (tick_from origin now) ≡ Some (suc place)
    → ((i : ℕ) → i < n → IsOwned plan lines origin place ms (now + 1 + i))
    → let a = ticks_by (suc n) (tick_from origin now) x in
    elapse_behind plan lines (suc n + m) (standing_at ms now origin) ≡ preceded_by a.lines (elapse plan lines m (standing_at (slice_set ms place (with_world x a.world)) (now + suc n) origin))
owner_ticks plan lines zero m now origin place ms x e owned h =
    let a = tick x.engine (tick_from origin now) x.world in
    let once : suc zero + m ≡ suc m = omega arith in
    let next : now + 1 ≡ now + suc zero = omega arith in
    ap (λ j. elapse_behind plan lines j (standing_at ms now origin)) once
    ∙ owner_tick plan lines m now origin place ms x e owned
    ∙ ap (λ (ls : List Event). preceded_by ls (elapse plan lines m (standing_at (slice_set ms place (with_world x a.world)) (now + 1) origin))) (sym (append-nil a.lines))
    ∙ ap (λ u. preceded_by (a.lines ++ []) (elapse plan lines m (standing_at (slice_set ms place (with_world x a.world)) u origin))) next
owner_ticks plan lines (suc n) m now origin place ms x e owned h =
    let a = tick x.engine (tick_from origin now) x.world in
    let y = with_world x a.world in
    let after = slice_set ms place y in
    let b = ticks_by (suc n) (tick_from origin (now + 1)) y in
    let here : now + 1 + 0 ≡ now + 1 = omega arith in
    let kept : HasNoSource ms (suc place) → HasNoSource after (suc place) = set_sourceless ms place x a.world e (tick_keeps x.engine (tick_from origin now) x.world) in
    let later : (t : ℕ) → IsOwned plan lines origin place ms t → IsOwned plan lines origin place after t = λ t g.
    record { lines = g.lines; quiet = still_quiet plan origin (suc place) t ms after kept g.quiet; owner = g.owner } in
    let first : IsOwned plan lines origin place after (now + 1) = subst (λ u. IsOwned plan lines origin place after u) here (later (now + 1 + 0) (h 0 (omega arith))) in
    let rest : (i : ℕ) → i < n → IsOwned plan lines origin place after (now + 1 + 1 + i) = λ i below.
    let u : now + 1 + suc i ≡ now + 1 + 1 + i = omega arith in subst (λ v. IsOwned plan lines origin place after v) u (later (now + 1 + suc i) (h (suc i) (omega (arith, below)))) in
    let one_more : suc (suc n) + m ≡ suc (suc (n + m)) = omega arith in
    let others : suc (n + m) ≡ suc n + m = omega arith in
    let there : now + 1 + suc n ≡ now + suc (suc n) = omega arith in
    ap (λ j. elapse_behind plan lines j (standing_at ms now origin)) one_more
    ∙ owner_tick plan lines (suc (n + m)) now origin place ms x e owned
    ∙ ap (preceded_by a.lines)
    (no_moves plan lines (n + m) (now + 1) origin (suc place) after (omega arith) first.lines first.quiet
    ∙ ap (λ j. elapse_behind plan lines j (standing_at after (now + 1) origin)) others
    ∙ owner_ticks plan lines n m (now + 1) origin place after y (set_found ms place x y e) first.owner rest)
    ∙ ap (λ (xs : List (Member _)). preceded_by a.lines (preceded_by b.lines (elapse plan lines m (standing_at xs (now + 1 + suc n) origin)))) (set_again ms place y (with_world x b.world))
    ∙ ap (λ u. preceded_by a.lines (preceded_by b.lines (elapse plan lines m (standing_at (slice_set ms place (with_world x b.world)) u origin)))) there
    ∙ sym (preceded_twice a.lines b.lines (elapse plan lines m (standing_at (slice_set ms place (with_world x b.world)) (now + suc (suc n)) origin)))

-- ---- ticks that no partition is there to own

nobody_ticks : {C : Type 0} (plan : Plan) (lines : List DeviceLine) (n m now origin : ℕ) (ms : List (Member C))
    → ((i : ℕ) → i ≤ n → ticks_owner (tick_from origin (now + i)) ms (owner plan.schedule (tick_from origin (now + i))) ≡ still ms)
    → ((i : ℕ) → i < n → (of_tick (now + 1 + i) lines ≡ []) × (ended plan.schedule (tick_from origin (now + 1 + i)) ≡ None))
    → elapse_behind plan lines (suc n + m) (standing_at ms now origin) ≡ elapse plan lines m (standing_at ms (now + suc n) origin)
nobody_ticks plan lines zero m now origin ms rests h =
    let once : suc zero + m ≡ suc m = omega arith in
    let here : now + 0 ≡ now = omega arith in
    let next : now + 1 ≡ now + suc zero = omega arith in
    ap (λ j. elapse_behind plan lines j (standing_at ms now origin)) once
    ∙ ap (λ (a : Stepped _). preceded_by a.lines (elapse plan lines m (standing_at a.state (now + 1) origin)))
    (subst (λ u. ticks_owner (tick_from origin u) ms (owner plan.schedule (tick_from origin u)) ≡ still ms) here (rests 0 (omega arith)))
    ∙ ap (λ u. elapse plan lines m (standing_at ms u origin)) next
nobody_ticks plan lines (suc n) m now origin ms rests h =
    let here : now + 0 ≡ now = omega arith in
    let first : now + 1 + 0 ≡ now + 1 = omega arith in
    let one_more : suc (suc n) + m ≡ suc (suc (n + m)) = omega arith in
    let others : suc (n + m) ≡ suc n + m = omega arith in
    let there : now + 1 + suc n ≡ now + suc (suc n) = omega arith in
    let next = h 0 (omega arith) in
    ap (λ j. elapse_behind plan lines j (standing_at ms now origin)) one_more
    ∙ ap (λ (a : Stepped _). preceded_by a.lines (elapse plan lines (suc (n + m)) (standing_at a.state (now + 1) origin)))
    (subst (λ u. ticks_owner (tick_from origin u) ms (owner plan.schedule (tick_from origin u)) ≡ still ms) here (rests 0 (omega arith)))
    ∙ no_moves plan lines (n + m) (now + 1) origin 0 ms (omega arith) (subst (λ u. of_tick u lines ≡ []) first next.0) (inl (subst (λ u. ended plan.schedule (tick_from origin u) ≡ None) first next.1))
    ∙ ap (λ j. elapse_behind plan lines j (standing_at ms (now + 1) origin)) others
    ∙ nobody_ticks plan lines n m (now + 1) origin ms
    (λ i below. let u : now + suc i ≡ now + 1 + i = omega arith in subst (λ v. ticks_owner (tick_from origin v) ms (owner plan.schedule (tick_from origin v)) ≡ still ms) u (rests (suc i) (omega (arith, below))))
    (λ i below. let u : now + 1 + suc i ≡ now + 1 + 1 + i = omega arith in subst (λ v. (of_tick v lines ≡ []) × (ended plan.schedule (tick_from origin v) ≡ None)) u (h (suc i) (omega (arith, below))))
    ∙ ap (λ u. elapse plan lines m (standing_at ms u origin)) there

-- ---- as the code meets them

-- no partition has this number
pub nobody_there : {C : Type 0} (ms : List (Member C)) (n place : ℕ) (o : Option ℕ) → o ≡ Some n → place_of_number n ≡ Some place → slice_get ms place ≡ None → (at : At) → ticks_owner at ms o ≡ still ms
nobody_there ms zero place o is number none at = absurd (none-some place number)
nobody_there ms (suc m) place o is number none at =
    let same : slice_get ms m ≡ None = ap (slice_get ms) (same_Some m place number) ∙ none in
    ap (ticks_owner at ms) is ∙ ap (steps_member (advances at) ms m) same

-- ticks of a partition from an edge on
owner_leads : {C : Type 0} (plan : Plan) (lines : List DeviceLine) (k n now origin place : ℕ) (ms : List (Member C)) (x : Member C) → slice_get ms place ≡ Some x
    → 0 < n → n ≤ k → AreFrom (now + k) lines → ((i : ℕ) → i < k → owner plan.schedule (tick_from origin (now + i)) ≡ Some (suc place)) → ((i : ℕ) → 0 < i → i < k → EndsQuietly plan origin ms (suc place) (now + i))
    → let a = ticks_by n (tick_from origin now) x in LeadsBehind plan lines n (standing_at ms now origin) a.lines (standing_at (slice_set ms place (with_world x a.world)) (now + n) origin)
owner_leads plan lines k zero now origin place ms x e some within order owned over m = absurd (omega (arith, some))
owner_leads plan lines k (suc n) now origin place ms x e some within order owned over m =
    let here : now + 0 ≡ now = omega arith in
    let others : (i : ℕ) → i < n → IsOwned plan lines origin place ms (now + 1 + i) = λ i below.
    let u : now + suc i ≡ now + 1 + i = omega arith in
    subst (λ v. IsOwned plan lines origin place ms v) u
    (record {
      lines = none_before (now + suc i) (now + k) lines (omega (arith, below, within)) order;
      quiet = over (suc i) (omega arith) (omega (arith, below, within));
      owner = owned (suc i) (omega (arith, below, within));
    }) in
    owner_ticks plan lines n m now origin place ms x e (subst (λ u. owner plan.schedule (tick_from origin u) ≡ Some (suc place)) here (owned 0 (omega (arith, within)))) others

-- the origin by any name
lift_behind : {C : Type 0} (plan : Plan) (lines : List DeviceLine) (n origin : ℕ) (s : Standing C) (told : List Event) (ms : List (Member C)) → s.origin ≡ Some origin
    → LeadsBehind plan lines n (standing_at s.members s.now origin) told (standing_at ms (s.now + n) origin) → LeadsBehind plan lines n s told (record { members = ms; now = s.now + n; origin = s.origin })
lift_behind plan lines n origin s told ms from h =
    subst (λ (o : Option ℕ). LeadsBehind plan lines n (record { members = s.members; now = s.now; origin = o }) told (record { members = ms; now = s.now + n; origin = o })) (sym from) h

-- the ticks of a piece
pub run_piece : {C : Type 0} {old new : Sent} (plan : Plan) (lines : List DeviceLine) (k n origin place : ℕ) (s : Standing C) (ms : List (Member C)) (o : Option (Member C)) → slice_get s.members place ≡ o
    → place < length s.members → s.origin ≡ Some origin → 0 < n → n ≤ k → AreFrom (s.now + k) lines
    → ((i : ℕ) → i < k → owner plan.schedule (tick_from origin (s.now + i)) ≡ Some (suc place)) → ((i : ℕ) → 0 < i → i < k → EndsQuietly plan origin s.members (suc place) (s.now + i))
    → IsMade (steps_member (ticks_by n (tick_from origin s.now)) s.members place o) ms old new
    → HasPassedSomeBehind plan lines k s (record { members = ms; now = s.now + n; origin = s.origin }) old new n
run_piece plan lines k n origin place s ms None e there from some within order owned over made = absurd (none_there s.members place there e)
run_piece plan lines k n origin place s ms (Some x) e there from some within order owned over made =
    let a = ticks_by n (tick_from origin s.now) x in
    let leads = subst (λ (xs : List (Member _)). LeadsBehind plan lines n (standing_at s.members s.now origin) a.lines (standing_at xs (s.now + n) origin)) (sym made.state)
    (owner_leads plan lines k n s.now origin place s.members x e some within order owned over) in
    (some, within, refl, record { told = a.lines; leads = lift_behind plan lines n origin s a.lines ms from leads; sent = made.sent })

-- ticks that no partition owns
pub run_nobody : {C : Type 0} (plan : Plan) (lines : List DeviceLine) (k origin : ℕ) (s : Standing C) (sent : Sent) (o : Option ℕ) → s.origin ≡ Some origin → 0 < k → AreFrom (s.now + k) lines
    → ((i : ℕ) → i < k → owner plan.schedule (tick_from origin (s.now + i)) ≡ o) → ((i : ℕ) → 0 < i → i < k → ended plan.schedule (tick_from origin (s.now + i)) ≡ None)
    → ((at : At) → ticks_owner at s.members o ≡ still s.members)
    → HasPassedSomeBehind plan lines k s (record { members = s.members; now = s.now + k; origin = s.origin }) sent sent k
run_nobody plan lines zero origin s sent o from some order owned over rests = absurd (omega (arith, some))
run_nobody plan lines (suc n) origin s sent o from some order owned over rests =
    let all : suc n ≤ suc n = omega arith in
    let leads : LeadsBehind plan lines (suc n) (standing_at s.members s.now origin) [] (standing_at s.members (s.now + suc n) origin) = λ m.
    nobody_ticks plan lines n m s.now origin s.members
    (λ i below. ap (λ o. ticks_owner (tick_from origin (s.now + i)) s.members o) (owned i (omega (arith, below))) ∙ rests (tick_from origin (s.now + i)))
    (λ i below.
    let u : s.now + suc i ≡ s.now + 1 + i = omega arith in
    subst (λ v. (of_tick v lines ≡ []) × (ended plan.schedule (tick_from origin v) ≡ None)) u
    (none_before (s.now + suc i) (s.now + suc n) lines (omega (arith, below)) order, over (suc i) (omega arith) (omega (arith, below)))) in
    (some, all, refl, record { told = []; leads = lift_behind plan lines (suc n) origin s [] s.members from leads; sent = nothing_sent sent })

-- some of fewer ticks are some of more
pub behind_fewer : {C : Type 0} (old new : Sent) (plan : Plan) (lines : List DeviceLine) (m k n : ℕ) (s next : Standing C) → m ≤ k → HasPassedSomeBehind plan lines m s next old new n → HasPassedSomeBehind plan lines k s next old new n
behind_fewer old new plan lines m k n s next few h = let all : n ≤ k = let within : n ≤ m = h.1 in omega (arith, within, few) in (h.0, all, h.2, h.3)

edge_leads : {C : Type 0} (plan : Plan) (lines : List DeviceLine) (n now origin : ℕ) (before : List (Member C)) (a : Stepped (List (Member C))) (next : Standing C) (told : List Event) → 0 < now → 0 < n → AreFrom (now + n) lines
    → moves_ended plan.channels (tick_from origin now) before (ended plan.schedule (tick_from origin now)) ≡ a
    → LeadsBehind plan lines n (standing_at a.state now origin) told next → LeadsTo plan lines n (standing_at before now origin) (a.lines ++ told) next
edge_leads plan lines zero now origin before a next told begun some order is h m = absurd (omega (arith, some))
edge_leads plan lines (suc n) now origin before a next told begun some order is h m =
    let one_more : suc n + m ≡ suc (n + m) = omega arith in
    ap (λ j. elapse plan lines j (standing_at before now origin)) one_more
    ∙ after_moves plan lines (n + m) now origin before begun (none_before now (now + suc n) lines (omega arith) order)
    ∙ ap (λ (a : Stepped _). preceded_by a.lines (elapse_behind plan lines (suc (n + m)) (standing_at a.state now origin))) is
    ∙ ap (λ j. preceded_by a.lines (elapse_behind plan lines j (standing_at a.state now origin))) (sym one_more)
    ∙ ap (preceded_by a.lines) (h m)
    ∙ sym (preceded_twice a.lines told (elapse plan lines m next))

-- the moves at an edge, and then the ticks
pub edge_run : {C : Type 0} {old mid new : Sent} (plan : Plan) (lines : List DeviceLine) (k n origin : ℕ) (s : Standing C) (ms : List (Member C)) (next : Standing C) (rows : List Channel) (o : Option ℕ) → s.origin ≡ Some origin → 0 < s.now → AreFrom (s.now + k) lines
    → rows ≡ plan.channels → o ≡ ended plan.schedule (tick_from origin s.now) → IsMade (moves_ended rows (tick_from origin s.now) s.members o) ms old mid
    → HasPassedSomeBehind plan lines k (record { members = ms; now = s.now; origin = s.origin }) next mid new n
    → HasPassedSome plan lines k s next old new n
edge_run {old = old} {mid = mid} {new = new} plan lines k n origin s ms next rows o from begun order channels over made h =
    let at = tick_from origin s.now in
    let a = moves_ended rows at s.members o in
    let is : moves_ended plan.channels at s.members (ended plan.schedule at) ≡ record { state = ms; lines = a.lines } =
    ap (λ cs. moves_ended cs at s.members (ended plan.schedule at)) (sym channels) ∙ ap (λ e. moves_ended rows at s.members e) (sym over) ∙ ap (λ (xs : List (Member _)). record { state = xs; lines = a.lines }) (sym made.state) in
    let within : n ≤ k = h.1 in
    let leads : LeadsTo plan lines n (standing_at s.members s.now origin) (a.lines ++ h.3.told) next =
    edge_leads plan lines n s.now origin s.members (record { state = ms; lines = a.lines }) next h.3.told begun h.0 (from_lower (s.now + n) (s.now + k) lines (omega (arith, within)) order) is
    (subst (λ (p : Option ℕ). LeadsBehind plan lines n (record { members = ms; now = s.now; origin = p }) h.3.told next) from h.3.leads) in (
      within,
      h.2,
      record {
        told = a.lines ++ h.3.told;
        leads = subst (λ (p : Option ℕ). LeadsTo plan lines n (record { members = s.members; now = s.now; origin = p }) (a.lines ++ h.3.told) next) (sym from) leads;
        sent = lines_sent old mid new a.lines h.3.told (a.lines ++ h.3.told) refl made.sent h.3.sent;
      },
    )

-- ---- up to an edge at which the owner changes or a message may move

-- a partition whose ports are no sources, found one after another
none_past : (ports : List Port) (place : ℕ) → length ports ≤ place → messages_to_move (slice_get ports place) ≡ None
none_past [] place h = refl
none_past (x ∷ xs) zero h = absurd (omega (arith, h))
none_past (x ∷ xs) (suc place) h = none_past xs place (omega (arith, h))

pub no_source : {C : Type 0} (ms : List (Member C)) (p count : ℕ) → length (ports_from ms p) ≤ count
    → ((place : ℕ) → place < count → messages_to_move (at_number (ports_from ms p) (place + 1)) ≡ None) → HasNoSource ms p
no_source ms p count all h place = elim (cases_lt place count) [
  | inl l ↦ let next : place + 1 ≡ suc place = omega arith in subst (λ n. messages_to_move (at_number (ports_from ms p) n) ≡ None) next (h place l)
  | inr g ↦ none_past (ports_from ms p) place (omega (arith, all, g))
]

-- further ticks of the same owner
pub owned_longer : (s : Schedule) (origin now owned start more p : ℕ) → start ≡ now + owned → ((i : ℕ) → i < owned → owner s (tick_from origin (now + i)) ≡ Some p)
    → owner s (tick_from origin start) ≡ Some p
    → ((i : ℕ) → i < more → owner s (tick_from origin (start + i)) ≡ owner s (tick_from origin start))
    → (i : ℕ) → i < owned + more → owner s (tick_from origin (now + i)) ≡ Some p
owned_longer s origin now owned start more p here before is stays i below = elim (cases_lt i owned) [
  | inl l ↦ before i l
  | inr g ↦
      let there : start + (i - owned) ≡ now + i = omega (arith, here, g) in
      sym (ap (λ t. owner s (tick_from origin t)) there) ∙ stays (i - owned) (omega (arith, g, below)) ∙ is
]

-- further ticks in which no message moves, from an edge of the same owner on
pub quiet_longer : {C : Type 0} (plan : Plan) (origin now owned start more p : ℕ) (ms : List (Member C)) → start ≡ now + owned → ((i : ℕ) → 0 < i → i < owned → EndsQuietly plan origin ms p (now + i))
    → ended plan.schedule (tick_from origin start) ≡ Some p → HasNoSource ms p
    → ((i : ℕ) → 0 < i → i < more → ended plan.schedule (tick_from origin (start + i)) ≡ None)
    → (i : ℕ) → 0 < i → i < owned + more → EndsQuietly plan origin ms p (now + i)
quiet_longer plan origin now owned start more p ms here before is none ends i some below = elim (cases_lt i owned) [
  | inl l ↦ before i some l
  | inr g ↦ elim (cases_lt owned i) [
    | inl l ↦
        let there : start + (i - owned) ≡ now + i = omega (arith, here, g) in
        inl (subst (λ t. ended plan.schedule (tick_from origin t) ≡ None) there (ends (i - owned) (omega (arith, l)) (omega (arith, g, below))))
    | inr e ↦
        let there : start ≡ now + i = omega (arith, here, g, e) in
        inr (subst (λ t. ended plan.schedule (tick_from origin t) ≡ Some p) there is, none)
  ]
]
