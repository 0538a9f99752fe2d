-- The inputs that the ticks of a module bring one partition, one tick after another.
use Rattle.module.proofs.Prelude.{◌≡◌, ℕ, zero, suc, ◌+◌, ◌<◌, ◌≤◌, ◌^◌, ◌==◌, Bool, if◌then◌else◌, List, ◌∷◌, ◌++◌, length, map, false, true, Option, Some, None, refl, sym, ap, ◌∙◌, append_assoc, append-nil, length-append, arith, length-map, none-some, same_Some, DeviceLine, At, Ticks, Stepped, Course, Plan, first_tick, next_tick, inputs_all, module_tick, moves_and_ticks, of_tick, starts, then_runs, unless_down, Member, tick_from, Input, InputLine, brought_in_all, brought_moved, brought_tick, inputs_from, line_in, HasNoRoom, IsMadeUnseen, brought_next, brought_of, Standing, after, at_first, begins, moment_of, origin_of, ticks, ticks_from, ticks_in, InputsFault}
use Rattle.std.proofs.Common.{[], option_map, is_some, subst}
use Rattle.isolation.specs.Brought.{inputs_of}
use Rattle.module.specs.Collecting.{brought_from}
use Rattle.module.proofs.Collecting.{no_room_for_more}
use Rattle.isolation.proofs.Now.{tick_in}
use Rattle.module.proofs.DeviceLines.{of_tick_again, same_tick}
use Rattle.module.proofs.Standing.{begins_later, same_next, same_ticks}

-- the inputs that a tick brings by these lines, which are all of it
abbrev brought_by_lines : {C : Type 0} → Plan → ℕ → At → List (Member C) → List DeviceLine → List Input
brought_by_lines plan p at ms lines = let c = inputs_all plan at lines ms in brought_in_all plan p lines ++ brought_moved plan p c.state c.at

-- only the lines of its tick count
same_brought_tick : {C : Type 0} (plan : Plan) (p : ℕ) (at : At) (xs ys : List DeviceLine) (ms : List (Member C)) → of_tick at.now.0 xs ≡ of_tick at.now.0 ys → brought_tick plan p at xs ms ≡ brought_tick plan p at ys ms
same_brought_tick plan p at xs ys ms e = ap (brought_by_lines plan p at ms) e

-- of lines that are all of this tick
pub brought_all : {C : Type 0} (plan : Plan) (p : ℕ) (at : At) (lines : List DeviceLine) (ms : List (Member C)) → of_tick at.now.0 lines ≡ lines
    → brought_tick plan p at lines ms ≡ brought_in_all plan p lines ++ brought_moved plan p (inputs_all plan at lines ms).state (inputs_all plan at lines ms).at
brought_all plan p at lines ms e = ap (brought_by_lines plan p at ms) e

same_brought_from : {C : Type 0} (plan : Plan) (p : ℕ) (xs ys : List DeviceLine) (t : ℕ) (ms : List (Member C)) (o : Option ℕ) → of_tick t xs ≡ of_tick t ys → brought_from plan p xs t ms o ≡ brought_from plan p ys t ms o
same_brought_from plan p xs ys t ms None e = refl
same_brought_from plan p xs ys t ms (Some origin) e = same_brought_tick plan p (tick_from origin t) xs ys (begins t ms).state e

-- only the lines of these ticks count
same_brought : {C : Type 0} (plan : Plan) (p n : ℕ) (s : Standing C) (xs ys : List DeviceLine) → ((u : ℕ) → s.now ≤ u → of_tick u xs ≡ of_tick u ys) → brought_of plan p xs n s ≡ brought_of plan p ys n s
same_brought plan p zero s xs ys h = refl
same_brought plan p (suc n) s xs ys h =
    let own = of_tick s.now ys in
    ap (λ (ls : List DeviceLine). map (line_in s.now) (brought_next plan p ls s) ++ brought_of plan p xs n (after s (ticks plan ls s))) (h s.now (omega arith))
    ∙ ap (λ (is : List InputLine). map (line_in s.now) (brought_next plan p own s) ++ is) (same_brought plan p n (after s (ticks plan own s)) xs ys (λ u k. h u (omega (arith, k))))

-- The inputs that the first of several ticks brings, with the lines of this tick, and those of the
-- other ticks, with the later lines.
pub tick_brings : {C : Type 0} (plan : Plan) (p : ℕ) (lines now later : List DeviceLine) (n k : ℕ) (s next : Standing C) → n ≡ suc k
    → of_tick s.now now ≡ of_tick s.now lines → ((t : ℕ) → s.now < t → of_tick t later ≡ of_tick t lines)
    → next ≡ after s (ticks plan now s)
    → brought_of plan p lines n s ≡ map (line_in s.now) (brought_next plan p now s) ++ brought_of plan p later k next
tick_brings plan p lines now later n k s next count of_now of_later same =
    let own = of_tick s.now lines in
    let all : of_tick s.now own ≡ of_tick s.now now = of_tick_again s.now lines ∙ sym of_now in
    ap (λ m. brought_of plan p lines m s) count
    ∙ ap (λ (is : List Input). map (line_in s.now) is ++ brought_of plan p lines k (after s (ticks plan own s))) (same_brought_from plan p own now s.now s.members s.origin all)
    ∙ ap (λ (c : Course _). map (line_in s.now) (brought_next plan p now s) ++ brought_of plan p lines k (after s c)) (same_ticks plan own now s.now s.members s.origin all)
    ∙ ap (λ (is : List InputLine). map (line_in s.now) (brought_next plan p now s) ++ is)
    (same_brought plan p k (after s (ticks plan now s)) lines later (λ u h. sym (of_later u (omega (arith, h)))) ∙ ap (λ (x : Standing _). brought_of plan p later k x) (sym same))

-- ---- after a shutdown

none_from : {C : Type 0} (plan : Plan) (p : ℕ) (lines : List DeviceLine) (n now : ℕ) (ms : List (Member C)) → brought_of plan p lines n (record { members = ms; now = now; origin = None }) ≡ []
none_from plan p lines zero now ms = refl
none_from plan p lines (suc n) now ms = none_from plan p lines n (now + 1) ms

-- a module that is shut down brings nothing
pub none_brought : {C : Type 0} (plan : Plan) (p : ℕ) (lines : List DeviceLine) (n now : ℕ) (ms : List (Member C)) (o : Option Ticks) → is_some o ≡ false → brought_of plan p lines n (record { members = ms; now = now; origin = ticks_in o }) ≡ []
none_brought plan p lines n now ms None e = none_from plan p lines n now ms
none_brought plan p lines n now ms (Some origin) e = absurd cc

-- ---- the inputs of a run

-- after the first tick
pub later_is : {C : Type 0} (plan : Plan) (p : ℕ) (lines : List DeviceLine) (n now : ℕ) (ms : List (Member C)) (o : Option ℕ) → 0 < now
    → brought_of plan p lines n (record { members = ms; now = now; origin = o }) ≡ inputs_from plan p lines n (option_map (λ x. tick_from x now) o) ms
later_is plan p lines zero now ms o h = refl
later_is plan p lines (suc n) now ms None h = none_from plan p lines n (now + 1) ms
later_is plan p lines (suc n) now ms (Some origin) h =
    let at = tick_from origin now in
    let its = of_tick now lines in
    let own = module_tick plan at lines ms in
    ap (λ (b : Stepped _). map (line_in now) (brought_tick plan p at its b.state) ++ brought_of plan p lines n (record { members = (module_tick plan at its b.state).state; now = now + 1; origin = option_map origin_of (module_tick plan at its b.state).at })) (begins_later now ms h)
    ∙ ap (λ (is : List Input). map (line_in now) is ++ brought_of plan p lines n (record { members = (module_tick plan at its ms).state; now = now + 1; origin = option_map origin_of (module_tick plan at its ms).at })) (same_brought_tick plan p at its lines ms (of_tick_again now lines))
    ∙ ap (λ (c : Course _). map (line_in now) (brought_tick plan p at lines ms) ++ brought_of plan p lines n (record { members = c.state; now = now + 1; origin = option_map origin_of c.at })) (same_tick plan at its lines ms (of_tick_again now lines))
    ∙ ap (λ (is : List InputLine). map (line_in now) (brought_tick plan p at lines ms) ++ is)
    (later_is plan p lines n (now + 1) own.state (option_map origin_of own.at) (omega arith) ∙ ap (λ (x : Option At). inputs_from plan p lines n x own.state) (same_next now own.at (tick_in plan lines at ms)))

-- n ticks of a module, one after another, bring the inputs that a run brings
pub is_brought : {C : Type 0} (plan : Plan) (p : ℕ) (devices : List DeviceLine) (n : ℕ) (ms : List (Member C)) → inputs_of (record { plan = plan; members = ms }) p devices n ≡ brought_of plan p devices n (at_first ms)
is_brought plan p devices zero ms = refl
is_brought plan p devices (suc n) ms =
    let s = starts ms in
    let its = of_tick 0 devices in
    let own = module_tick plan first_tick devices s.state in
    sym (ap (λ (is : List Input). map (line_in 0) is ++ brought_of plan p devices n (record { members = (module_tick plan first_tick its s.state).state; now = 0 + 1; origin = option_map origin_of (module_tick plan first_tick its s.state).at })) (same_brought_tick plan p first_tick its devices s.state (of_tick_again 0 devices))
    ∙ ap (λ (c : Course _). map (line_in 0) (brought_tick plan p first_tick devices s.state) ++ brought_of plan p devices n (record { members = c.state; now = 0 + 1; origin = option_map origin_of c.at })) (same_tick plan first_tick its devices s.state (of_tick_again 0 devices))
    ∙ ap (λ (is : List InputLine). map (line_in 0) (brought_tick plan p first_tick devices s.state) ++ is)
    (later_is plan p devices n (0 + 1) own.state (option_map origin_of own.at) (omega arith) ∙ ap (λ (x : Option At). inputs_from plan p devices n x own.state) (same_next 0 own.at (tick_in plan devices first_tick s.state))))

-- ---- the inputs so far

-- one more tick
pub comes_further : (whole so_far more now rest : List InputLine) → whole ≡ so_far ++ now → now ≡ more ++ rest → whole ≡ (so_far ++ more) ++ rest
comes_further whole so_far more now rest all split = all ∙ ap (λ (is : List InputLine). so_far ++ is) split ∙ sym (append_assoc so_far more rest)

-- no more inputs come
pub all_came : (whole so_far now : List InputLine) → whole ≡ so_far ++ now → now ≡ [] → so_far ≡ whole
all_came whole so_far now all none = sym (all ∙ ap (λ (is : List InputLine). so_far ++ is) none ∙ append-nil so_far)

-- without room for the inputs of the next tick there is no room for all
pub no_room_for_all : (tick : ℕ) (whole so_far now rest : List InputLine) (is : List Input) (f : InputsFault) → whole ≡ so_far ++ now → now ≡ map (line_in tick) is ++ rest → HasNoRoom (length so_far + length is) f → HasNoRoom (length whole) f
no_room_for_all tick whole so_far now rest is f all split h =
    let count : length whole ≡ length so_far + (length is + length rest) =
    ap length all ∙ length-append so_far now ∙ ap (λ (k : ℕ). length so_far + k) (ap length split ∙ length-append (map (line_in tick) is) rest ∙ ap (λ (k : ℕ). k + length rest) (length-map is (line_in tick))) in
    no_room_for_more (length so_far + length is) (length whole) f (omega (arith, count)) h

-- ---- the next tick

pub brought_at : {C : Type 0} (plan : Plan) (p : ℕ) (lines : List DeviceLine) (now : Ticks) (ms : List (Member C)) (o : Option Ticks) (at : At) → Some at ≡ moment_of now o
    → brought_tick plan p at lines (begins at.now.0 ms).state ≡ brought_from plan p lines now.0 ms (ticks_in o)
brought_at plan p lines now ms None at e = absurd (none-some at (sym e))
brought_at plan p lines now ms (Some origin) at e = ap (λ (a : At). brought_tick plan p a lines (begins a.now.0 ms).state) (same_Some at (record { now = now; origin = origin }) e)

-- after a shutdown there are no inputs
pub brought_nowhere : {C : Type 0} (plan : Plan) (p : ℕ) (lines : List DeviceLine) (now : Ticks) (ms : List (Member C)) (o : Option Ticks) → None ≡ moment_of now o → brought_from plan p lines now.0 ms (ticks_in o) ≡ []
brought_nowhere plan p lines now ms None e = refl
brought_nowhere plan p lines now ms (Some origin) e = let at : At = record { now = now; origin = origin } in absurd (none-some at e)
