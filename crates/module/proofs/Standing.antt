-- A module tick by tick, and its trace.
use Rattle.module.proofs.Prelude.{◌≡◌, ℕ, zero, suc, ◌+◌, ◌<◌, ◌≤◌, ◌==◌, Bool, false, if◌then◌else◌, List, ◌++◌, Option, Some, None, refl, sym, ap, ◌∙◌, append_assoc, arith, Decides-eqb, none-some, same_Some, option_map, text_of, DeviceLine, Event, At, Ticks, Plan, Stepped, Course, of_tick, first_tick, next_tick, still, starts, module_tick, trace_from, Member, tick_from, IsNow, Elapsed, Standing, at_first, begins, elapse, moment_of, preceded_by, ticks_from, ticks_in, ticks, origin_of, after, lines_of}
use Rattle.std.proofs.Common.{[], subst}
use Rattle.module_meaning.specs.Module.{trace}
use Rattle.kernel_laws.specs.Quiet.{HaveNoLines}
use Rattle.module.specs.Pieces.{LeadsTo}
use Rattle.module_meaning.specs.Standing.{begins_and_ticks}
use Rattle.lone_partition.proofs.LinesOfTicks.{not_true}
use Rattle.isolation.proofs.Now.{tick_in}
use Rattle.module.proofs.DeviceLines.{of_tick_again, same_tick}
use Rattle.lone_partition.proofs.Texts.{text_append}

-- the begin, and then the tick
abbrev behind : {C : Type 0} → Stepped (List (Member C)) → Course (List (Member C)) → Course (List (Member C))
behind b d = record { at = d.at; state = d.state; lines = b.lines ++ d.lines }

-- ---- other device lines

-- only the lines of its tick count
pub same_ticks : {C : Type 0} (plan : Plan) (xs ys : List DeviceLine) (t : ℕ) (ms : List (Member C)) (o : Option ℕ) → of_tick t xs ≡ of_tick t ys → ticks_from plan xs t ms o ≡ ticks_from plan ys t ms o
same_ticks plan xs ys t ms None e = refl
same_ticks plan xs ys t ms (Some origin) e = ap (behind (begins t ms)) (same_tick plan (tick_from origin t) xs ys (begins t ms).state e)

-- only the lines of these ticks count
same_lines : {C : Type 0} (plan : Plan) (n : ℕ) (s : Standing C) (xs ys : List DeviceLine) → ((u : ℕ) → s.now ≤ u → of_tick u xs ≡ of_tick u ys) → lines_of plan xs n s ≡ lines_of plan ys n s
same_lines plan zero s xs ys h = refl
same_lines plan (suc n) s xs ys h =
    let own = ticks plan (of_tick s.now ys) s in
    ap (λ (ls : List DeviceLine). (ticks plan ls s).lines ++ lines_of plan xs n (after s (ticks plan ls s))) (h s.now (omega arith))
    ∙ ap (λ (es : List Event). own.lines ++ es) (same_lines plan n (after s own) xs ys (λ u k. h u (omega (arith, k))))

-- ---- several ticks, and then others

pub preceded_twice : {C : Type 0} (told more : List Event) (e : Elapsed C) → preceded_by (told ++ more) e ≡ preceded_by told (preceded_by more e)
preceded_twice told more e = ap (λ (ls : List Event). record { state = e.state; lines = ls }) (append_assoc told more e.lines)

-- k ticks, then j more
pub elapse_more : {C : Type 0} (plan : Plan) (lines : List DeviceLine) (k j : ℕ) (s : Standing C) → let e = elapse plan lines k s in elapse plan lines (k + j) s ≡ preceded_by e.lines (elapse plan lines j e.state)
elapse_more plan lines zero j s = let same : 0 + j ≡ j = omega arith in ap (λ i. elapse plan lines i s) same
elapse_more plan lines (suc k) j s =
    let c = ticks plan (of_tick s.now lines) s in
    let e = elapse plan lines k (after s c) in
    let one_more : suc k + j ≡ suc (k + j) = omega arith in
    ap (λ i. elapse plan lines i s) one_more
    ∙ ap (preceded_by c.lines) (elapse_more plan lines k j (after s c))
    ∙ sym (preceded_twice c.lines e.lines (elapse plan lines j e.state))

-- only the lines of these ticks count
pub elapse_alike : {C : Type 0} (plan : Plan) (xs ys : List DeviceLine) (n : ℕ) (s : Standing C) → ((u : ℕ) → s.now ≤ u → u < s.now + n → of_tick u xs ≡ of_tick u ys) → elapse plan xs n s ≡ elapse plan ys n s
elapse_alike plan xs ys zero s h = refl
elapse_alike plan xs ys (suc n) s h =
    let own = ticks plan (of_tick s.now ys) s in
    ap (λ (ls : List DeviceLine). preceded_by (ticks plan ls s).lines (elapse plan xs n (after s (ticks plan ls s)))) (h s.now (omega arith) (omega arith))
    ∙ ap (preceded_by own.lines) (elapse_alike plan xs ys n (after s own) (λ u above below. h u (omega (arith, above)) (omega (arith, below))))

-- ticks that were skipped lead on with any device lines that have none of them
pub skipped_leads : {C : Type 0} (plan : Plan) (lines : List DeviceLine) (k : ℕ) (s next : Standing C) → HaveNoLines s.now (s.now + k) lines → elapse plan [] k s ≡ still next → LeadsTo plan lines k s [] next
skipped_leads plan lines k s next none is m =
    elapse_more plan lines k m s
    ∙ ap (λ (e : Elapsed _). preceded_by e.lines (elapse plan lines m e.state)) (elapse_alike plan lines [] k s none ∙ is)

-- The text of the first of several ticks, with the lines of this tick, and that of the other ticks,
-- with the later lines.
pub tick_text : {C : Type 0} (plan : Plan) (lines now later : List DeviceLine) (n k : ℕ) (s next : Standing C) → n ≡ suc k
    → of_tick s.now now ≡ of_tick s.now lines → ((t : ℕ) → s.now < t → of_tick t later ≡ of_tick t lines)
    → next ≡ after s (ticks plan now s)
    → text_of (lines_of plan lines n s) ≡ text_of (ticks plan now s).lines ++ text_of (lines_of plan later k next)
tick_text plan lines now later n k s next count of_now of_later same =
    let own = ticks plan now s in
    ap text_of (ap (λ m. lines_of plan lines m s) count
    ∙ ap (λ (c : Course _). c.lines ++ lines_of plan lines k (after s c)) (same_ticks plan (of_tick s.now lines) now s.now s.members s.origin (of_tick_again s.now lines ∙ sym of_now))
    ∙ ap (λ (es : List Event). own.lines ++ es) (same_lines plan k (after s own) lines later (λ u h. sym (of_later u (omega (arith, h)))) ∙ ap (λ (x : Standing _). lines_of plan later k x) (sym same)))
    ∙ text_append own.lines (lines_of plan later k next)

-- ---- after a shutdown

none_from : {C : Type 0} (plan : Plan) (lines : List DeviceLine) (n now : ℕ) (ms : List (Member C)) → lines_of plan lines n (record { members = ms; now = now; origin = None }) ≡ []
none_from plan lines zero now ms = refl
none_from plan lines (suc n) now ms = none_from plan lines n (now + 1) ms

-- a module that is shut down has no lines
pub none_down : {C : Type 0} (plan : Plan) (lines : List DeviceLine) (n now : ℕ) (ms : List (Member C)) (o : Option ℕ) → o ≡ None → lines_of plan lines n (record { members = ms; now = now; origin = o }) ≡ []
none_down plan lines n now ms None e = none_from plan lines n now ms
none_down plan lines n now ms (Some origin) e = absurd cc

-- ---- the trace

pub begins_later : {C : Type 0} (now : ℕ) (ms : List (Member C)) → 0 < now → begins now ms ≡ still ms
begins_later now ms h =
    let later : (now == 0) ≡ false = not_true (now == 0) (λ e. let first : now ≡ 0 = (Decides-eqb now 0).0 e in absurd (omega (arith, h, first))) in
    ap (λ (b : Bool). if b then starts ms else still ms) later

pub same_next : (now : ℕ) (o : Option At) → IsNow now o → option_map (λ x. tick_from x (now + 1)) (option_map origin_of o) ≡ option_map next_tick o
same_next now None h = refl
same_next now (Some a) h = ap (λ (n : ℕ). Some (tick_from a.origin.0 (n + 1))) (sym h)

-- after the first tick
pub later_is : {C : Type 0} (plan : Plan) (lines : List DeviceLine) (n now : ℕ) (ms : List (Member C)) (o : Option ℕ) → 0 < now → lines_of plan lines n (record { members = ms; now = now; origin = o }) ≡ trace_from plan lines n (option_map (λ x. tick_from x now) o) ms
later_is plan lines zero now ms o h = refl
later_is plan lines (suc n) now ms None h = none_from plan lines n (now + 1) ms
later_is plan lines (suc n) now ms (Some origin) h =
    let at = tick_from origin now in
    let its = of_tick now lines in
    let own = module_tick plan at lines ms in
    ap (λ (b : Stepped _). (b.lines ++ (module_tick plan at its b.state).lines) ++ lines_of plan lines n (record { members = (module_tick plan at its b.state).state; now = now + 1; origin = option_map origin_of (module_tick plan at its b.state).at })) (begins_later now ms h)
    ∙ ap (λ (c : Course _). c.lines ++ lines_of plan lines n (record { members = c.state; now = now + 1; origin = option_map origin_of c.at })) (same_tick plan at its lines ms (of_tick_again now lines))
    ∙ ap (λ (es : List Event). own.lines ++ es)
    (later_is plan lines n (now + 1) own.state (option_map origin_of own.at) (omega arith) ∙ ap (λ (x : Option At). trace_from plan lines n x own.state) (same_next now own.at (tick_in plan lines at ms)))

-- n ticks of a module, one after another, make its trace
pub is_traced : {C : Type 0} (plan : Plan) (devices : List DeviceLine) (n : ℕ) (ms : List (Member C)) → trace (record { plan = plan; members = ms }) devices n ≡ lines_of plan devices n (at_first ms)
is_traced plan devices zero ms = refl
is_traced plan devices (suc n) ms =
    let s = starts ms in
    let own = module_tick plan first_tick devices s.state in
    let next = lines_of plan devices n (record { members = own.state; now = 0 + 1; origin = option_map origin_of own.at }) in
    let first = same_tick plan first_tick (of_tick 0 devices) devices s.state (of_tick_again 0 devices) in
    sym (ap (λ (c : Course _). (s.lines ++ c.lines) ++ lines_of plan devices n (record { members = c.state; now = 0 + 1; origin = option_map origin_of c.at })) first
    ∙ append_assoc s.lines own.lines next
    ∙ ap (λ (es : List Event). s.lines ++ (own.lines ++ es))
    (later_is plan devices n (0 + 1) own.state (option_map origin_of own.at) (omega arith) ∙ ap (λ (x : Option At). trace_from plan devices n x own.state) (same_next 0 own.at (tick_in plan devices first_tick s.state))))

-- ---- the next tick

-- the tick is the next one, unless it shuts the module down
pub ticks_now : {C : Type 0} (plan : Plan) (lines : List DeviceLine) (s : Standing C) (answer : Option At) → answer ≡ (ticks plan lines s).at → IsNow s.now answer
ticks_now plan lines s answer is = subst (IsNow s.now) (sym is) (from s.origin)
  where
    from : (o : Option ℕ) → IsNow s.now (ticks_from plan lines s.now s.members o).at
    from None = tt
    from (Some origin) = tick_in plan lines (tick_from origin s.now) (begins s.now s.members).state

-- its number
pub moment_now : (now : Ticks) (o : Option Ticks) (at : At) → Some at ≡ moment_of now o → at.now ≡ now
moment_now now None at e = absurd (none-some at (sym e))
moment_now now (Some origin) at e = ap (λ (a : At). a.now) (same_Some at (record { now = now; origin = origin }) e)

-- its origin
pub moment_origin : (now : Ticks) (o : Option Ticks) (at : At) → Some at ≡ moment_of now o → o ≡ Some at.origin
moment_origin now None at e = absurd (none-some at (sym e))
moment_origin now (Some origin) at e = ap (λ (a : At). Some a.origin) (sym (same_Some at (record { now = now; origin = origin }) e))

-- the events of the next tick
pub goes_from : {C : Type 0} (plan : Plan) (lines : List DeviceLine) (now : Ticks) (ms : List (Member C)) (o : Option Ticks) (at : At) → Some at ≡ moment_of now o → begins_and_ticks plan at lines ms ≡ ticks_from plan lines now.0 ms (ticks_in o)
goes_from plan lines now ms None at e = absurd (none-some at (sym e))
goes_from plan lines now ms (Some origin) at e = ap (λ (a : At). begins_and_ticks plan a lines ms) (same_Some at (record { now = now; origin = origin }) e)

-- after a shutdown nothing happens
pub goes_nowhere : {C : Type 0} (plan : Plan) (lines : List DeviceLine) (now : Ticks) (ms : List (Member C)) (o : Option Ticks) → None ≡ moment_of now o → ticks_from plan lines now.0 ms (ticks_in o) ≡ record { at = None; state = ms; lines = [] }
goes_nowhere plan lines now ms None e = refl
goes_nowhere plan lines now ms (Some origin) e = let at : At = record { now = now; origin = origin } in absurd (none-some at e)
