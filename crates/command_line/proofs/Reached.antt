-- How far a run is that waits for a line, and how it ends.
use Rattle.std.proofs.Common.{◌≡◌, ◌≤◌, ◌<◌, ◌⊎◌, inl, inr, ◌+◌, ℕ, Bool, true, false, List, [], ◌++◌, Option, Result, Ok, Err, refl, sym, ap, subst, ◌∙◌, arith, append-nil}
use Rattle.std.specs.Prelude.{is_none}
use Rattle.std.specs.Io.KnownBytes.{Appends, Keeps}
use Rattle.std.proofs.KnownBytes.{Appends-kept, Appends-nil, Appends-trans}
use Rattle.apex_types.specs.Line.{TakesBeginning}
use Rattle.apex_types.specs.declared.limits.TheConstants.{MOST_TICKS}
use Rattle.apex_types.specs.declared.device.DeviceLine.{DeviceLine}
use Rattle.apex_types.proofs.Writing.{under_way_fails}
use Rattle.machine_meaning.specs.Image.{Image}
use Rattle.machine_meaning.specs.MachineMeaning.{machine_module}
use Rattle.module.specs.Machines.{Machine, HasSkipped, fresh_machine}
use Rattle.module.specs.Pieces.{LeadsTo}
use Rattle.module.specs.Watched.{IsFollowed, IsToldMade, TakesAtLeast, Told, text_to}
use Rattle.module.specs.Written.{AreFrom}
use Rattle.module.specs.declared.fault.RunFault.{RunFault}
use Rattle.module.specs.declared.fault.RunFault.TheVariants as fault
use Rattle.module.proofs.Ahead.{IsAhead, ahead_first, down_same}
use Rattle.module.proofs.Bursts.{from_lower, skipped_ahead}
use Rattle.module.proofs.Watched.{followed_more, not_followed, takes_all, takes_beginning, takes_kept, takes_more}
use Rattle.module_meaning.specs.Standing.{elapse}
use Rattle.command_line.specs.Stops.{BreaksOff, EndsImage, MayRun}
use Rattle.command_line.specs.StopSteps.{IsHeld, IsReported}
use Rattle.command_line.specs.Awaited.{has_line}
use Rattle.command_line.proofs.Ahead.{NoneCame, ahead_skipped, ahead_ticked, line_ticked, none_first, none_later, none_ticked, now_ticked, text_skipped, text_ticked}

-- Of n ticks, all but `left` are made. No line came so far, and the sink has taken their text.
pub record IsReached (asked : List (List ℕ)) (image : Image) (devices lines : List DeviceLine) (n left : ℕ) (old now : Option (List ℕ)) (m : Machine) : Type 0 where
  pub same : m.image ≡ image
  pub sound : m.failed ≡ false
  pub count : m.standing.now + left ≡ n
  pub order : AreFrom m.standing.now lines
  pub ahead : IsAhead image devices lines m.standing
  pub none : NoneCame asked image devices m.standing.now
  pub taken : Appends old now (text_to image devices m.standing.now)

pub reached_first : (asked : List (List ℕ)) (image : Image) (devices : List DeviceLine) (n : ℕ) (old : Option (List ℕ)) (m : Machine) → m ≡ fresh_machine image → AreFrom 0 devices → IsReached asked image devices devices n n old old m
reached_first asked image devices n old m fresh order =
    let first : m.standing.now ≡ 0 = ap (λ (x : Machine). x.standing.now) fresh in record {
      same = ap (λ (x : Machine). x.image) fresh;
      sound = ap (λ (x : Machine). x.failed) fresh;
      count = omega (arith, first);
      order = subst (λ t. AreFrom t devices) (sym first) order;
      ahead = ahead_first image m devices fresh;
      none = none_first asked image devices m.standing.now first;
      taken = subst (λ t. Appends old old (text_to image devices t)) (sym first) (Appends-nil old);
    }

-- nothing more is taken
pub reached_kept : {asked : List (List ℕ)} {image : Image} {devices lines : List DeviceLine} {n left : ℕ} {old mid : Option (List ℕ)} {m : Machine} (new : Option (List ℕ)) → IsReached asked image devices lines n left old mid m → Keeps mid new
    → IsReached asked image devices lines n left old new m
reached_kept {old = old} {mid = mid} new i kept = record {
  same = i.same;
  sound = i.sound;
  count = i.count;
  order = i.order;
  ahead = i.ahead;
  none = i.none;
  taken = Appends-kept old mid new _ i.taken kept;
}

-- The ticks that are skipped come before these lines, if all that may be do.
pub skipped_before : (m next : Machine) (most k : ℕ) (lines : List DeviceLine) → HasSkipped most m next k → AreFrom (m.standing.now + most) lines
    → AreFrom next.standing.now lines × HasSkipped most m next k
skipped_before m next most k lines h from =
    let few : k ≤ most = h.2.0 in
    let now : next.standing.now ≡ m.standing.now + k = h.2.1 in
    (from_lower next.standing.now (m.standing.now + most) lines (omega (arith, few, now)) from, h)

-- ticks without lines are skipped
pub reached_skipped : {asked : List (List ℕ)} {image : Image} {devices lines : List DeviceLine} {n left : ℕ} {old mid : Option (List ℕ)} {m : Machine} (next : Machine) (most k rest : ℕ) → IsReached asked image devices lines n left old mid m
    → HasSkipped most m next k → AreFrom next.standing.now lines → left ≡ k + rest → IsReached asked image devices lines n rest old mid next
reached_skipped {asked = asked} {image = image} {devices = devices} {lines = lines} {old = old} {mid = mid} {m = m} next most k rest i h order count =
    let s = m.standing in
    let now = h.2.1 in
    let plan = (machine_module image).plan in
    let leads : LeadsTo plan lines k s [] next.standing = skipped_ahead plan lines k s next.standing now order (ap (λ (x : Image). elapse (machine_module x).plan [] k s) (sym i.same) ∙ h.2.2) in
    let all : k ≤ k = omega arith in
    record {
      same = h.0 ∙ i.same;
      sound = h.1 ∙ i.sound;
      count = omega (arith, now, i.count, count);
      order = order;
      ahead = ahead_skipped image devices lines k s next.standing now i.ahead leads;
      none = none_later asked image devices s.now k next.standing.now now (λ j few. text_skipped image devices lines k j s next.standing i.ahead leads few) i.none;
      taken = subst (Appends old mid) (sym (text_skipped image devices lines k k s next.standing i.ahead leads all) ∙ ap (text_to image devices) (sym now)) i.taken;
    }

-- no tick is skipped
pub reached_still : {asked : List (List ℕ)} {image : Image} {devices lines : List DeviceLine} {n left : ℕ} {old mid : Option (List ℕ)} {m : Machine} (next : Machine) (most k : ℕ) → IsReached asked image devices lines n left old mid m
    → HasSkipped most m next k → AreFrom next.standing.now lines → k ≡ 0 → IsReached asked image devices lines n left old mid next
reached_still {left = left} next most k i h order none = reached_skipped next most k left i h order (omega (arith, none))

-- ---- the next tick

line_of_tick : {asked : List (List ℕ)} {image : Image} {devices lines : List DeviceLine} {n left : ℕ} {old mid : Option (List ℕ)} {m : Machine} (next : Machine) (later : List DeviceLine) (bytes : List ℕ)
    → IsReached asked image devices lines n left old mid m → IsHeld lines later m next bytes → has_line asked (text_to image devices next.standing.now) ≡ has_line asked bytes
line_of_tick {asked = asked} {image = image} {devices = devices} {lines = lines} {m = m} next later bytes i h =
    line_ticked asked image devices m.standing.now next.standing.now bytes (now_ticked h) (text_ticked image m next devices lines later bytes i.same h i.ahead) i.none

taken_ticked : {asked : List (List ℕ)} {image : Image} {devices lines : List DeviceLine} {n left : ℕ} {old mid : Option (List ℕ)} {m : Machine} (new : Option (List ℕ)) (next : Machine) (later : List DeviceLine) (bytes : List ℕ)
    → IsReached asked image devices lines n left old mid m → IsHeld lines later m next bytes → Appends mid new bytes → Appends old new (text_to image devices next.standing.now)
taken_ticked {image = image} {devices = devices} {lines = lines} {old = old} {mid = mid} {m = m} new next later bytes i h more =
    subst (Appends old new) (sym (text_ticked image m next devices lines later bytes i.same h i.ahead) ∙ ap (text_to image devices) (sym (now_ticked h)))
    (Appends-trans old mid new (text_to image devices m.standing.now) bytes i.taken more)

-- it has no line that is asked for
pub reached_ticked : {asked : List (List ℕ)} {image : Image} {devices lines : List DeviceLine} {n left : ℕ} {old mid : Option (List ℕ)} {m : Machine} (new : Option (List ℕ)) (next : Machine) (later : List DeviceLine) (bytes : List ℕ) (rest : ℕ)
    → IsReached asked image devices lines n left old mid m → IsHeld lines later m next bytes → left ≡ rest + 1 → Appends mid new bytes → has_line asked bytes ≡ false
    → IsReached asked image devices later n rest old new next
reached_ticked {asked = asked} {image = image} {devices = devices} {lines = lines} {m = m} new next later bytes rest i h count more without =
    let after = now_ticked h in
    record {
      same = h.image ∙ i.same;
      sound = h.failed;
      count = omega (arith, after, i.count, count);
      order = h.order;
      ahead = ahead_ticked image m next devices lines later bytes i.same h i.ahead;
      none = none_ticked asked image devices m.standing.now next.standing.now after i.none (line_of_tick next later bytes i h ∙ without);
      taken = taken_ticked new next later bytes i h more;
    }

-- the tick may be run
may_run_next : {asked : List (List ℕ)} {image : Image} {devices lines : List DeviceLine} {n left : ℕ} {old mid : Option (List ℕ)} {m : Machine} (next : Machine) (later : List DeviceLine) (bytes : List ℕ)
    → IsReached asked image devices lines n left old mid m → IsHeld lines later m next bytes → 0 < left → MayRun asked image devices n next.standing.now
may_run_next next later bytes i h some =
    let after = now_ticked h in
    record { within = omega (arith, after, i.count, some); none_before = λ k below. i.none k (omega (arith, below, after)) }

-- it has one
pub ends_found : {asked : List (List ℕ)} {image : Image} {devices lines : List DeviceLine} {n left : ℕ} {old mid : Option (List ℕ)} {m : Machine} (new : Option (List ℕ)) (next : Machine) (later : List DeviceLine) (bytes : List ℕ)
    → IsReached asked image devices lines n left old mid m → IsHeld lines later m next bytes → 0 < left → Appends mid new bytes → has_line asked bytes ≡ true
    → EndsImage asked image devices n old new (Ok true)
ends_found {asked = asked} {image = image} {devices = devices} {n = n} {m = m} new next later bytes i h some more with = (
  next.standing.now,
  record {
    run = may_run_next next later bytes i h some;
    last = line_of_tick next later bytes i h ∙ with;
    all = λ (e : true ≡ false). absurd cc;
  },
  taken_ticked new next later bytes i h more,
)

-- the sink fails in it
pub breaks_in_tick : {asked : List (List ℕ)} {image : Image} {devices lines : List DeviceLine} {n left : ℕ} {old mid : Option (List ℕ)} {m : Machine} (new : Option (List ℕ)) (next : Machine) (later : List DeviceLine) (bytes : List ℕ)
    → IsReached asked image devices lines n left old mid m → IsHeld lines later m next bytes → 0 < left → TakesBeginning mid new bytes → BreaksOff asked image devices n old new
breaks_in_tick {image = image} {devices = devices} {lines = lines} {old = old} {mid = mid} {m = m} new next later bytes i h some part =
    let so_far = text_to image devices m.standing.now in
    let whole : text_to image devices next.standing.now ≡ so_far ++ (bytes ++ []) =
    ap (text_to image devices) (now_ticked h) ∙ text_ticked image m next devices lines later bytes i.same h i.ahead ∙ ap (λ (text : List ℕ). so_far ++ text) (sym (append-nil bytes)) in (
      next.standing.now,
      may_run_next next later bytes i h some,
      under_way_fails old mid new (text_to image devices next.standing.now) bytes [] (record { done = so_far; taken = i.taken; left = whole }) part,
    )

-- ---- the end

-- nothing more is taken, and the run goes on no more
pub breaks_between : {asked : List (List ℕ)} {image : Image} {devices lines : List DeviceLine} {n left : ℕ} {old mid : Option (List ℕ)} {m : Machine} (new : Option (List ℕ)) → IsReached asked image devices lines n left old mid m → Keeps mid new
    → BreaksOff asked image devices n old new
breaks_between {image = image} {devices = devices} {old = old} {mid = mid} {m = m} new i kept =
    let so_far = text_to image devices m.standing.now in
    let none : 0 ≤ 0 = omega arith in (
      m.standing.now,
      record { within = omega (arith, i.count); none_before = λ k below. i.none k (omega (arith, below)) },
      under_way_fails old mid new so_far [] [] (record { done = so_far; taken = i.taken; left = sym (append-nil so_far) }) (0, none, Appends-kept mid mid new [] (Appends-nil mid) kept),
    )

-- the result of a run that breaks off
pub ends_broken : (asked : List (List ℕ)) (image : Image) (devices : List DeviceLine) (n : ℕ) (old new : Option (List ℕ)) (f : RunFault) (r : Result Bool RunFault) → r ≡ Err f → (f ≡ fault.Write) ⊎ (f ≡ fault.Memory)
    → BreaksOff asked image devices n old new → EndsImage asked image devices n old new r
ends_broken asked image devices n old new f r is (inl w) h = subst (EndsImage asked image devices n old new) (sym (is ∙ ap (λ (x : RunFault). Err x) w)) h
ends_broken asked image devices n old new f r is (inr w) h = subst (EndsImage asked image devices n old new) (sym (is ∙ ap (λ (x : RunFault). Err x) w)) h

without : (asked : List (List ℕ)) (image : Image) (devices : List DeviceLine) (n : ℕ) (old new : Option (List ℕ)) → NoneCame asked image devices n → Appends old new (text_to image devices n) → EndsImage asked image devices n old new (Ok false)
without asked image devices n old new none taken =
    let all : n ≤ n = omega arith in (
      n,
      record {
        run = record { within = all; none_before = λ k below. none k (omega (arith, below)) };
        last = none n all;
        all = λ is. refl;
      },
      taken,
    )

-- all ticks are made
pub ends_all : {asked : List (List ℕ)} {image : Image} {devices lines : List DeviceLine} {n left : ℕ} {old now : Option (List ℕ)} {m : Machine} → IsReached asked image devices lines n left old now m → left ≡ 0 → EndsImage asked image devices n old now (Ok false)
ends_all {asked = asked} {image = image} {devices = devices} {n = n} {old = old} {now = now} {m = m} i none_left =
    let all : m.standing.now ≡ n = omega (arith, i.count, none_left) in
    without asked image devices n old now (subst (NoneCame asked image devices) all i.none) (subst (λ k. Appends old now (text_to image devices k)) all i.taken)

-- the module is shut down
pub ends_down : {asked : List (List ℕ)} {image : Image} {devices lines : List DeviceLine} {n left : ℕ} {old now : Option (List ℕ)} {m : Machine} → IsReached asked image devices lines n left old now m → is_none m.standing.origin ≡ true
    → EndsImage asked image devices n old now (Ok false)
ends_down {asked = asked} {image = image} {devices = devices} {lines = lines} {n = n} {left = left} {old = old} {now = now} {m = m} i down =
    let s = m.standing in
    let same : text_to image devices n ≡ text_to image devices s.now = ap (text_to image devices) (sym i.count) ∙ down_same image devices lines left s down i.ahead in
    without asked image devices n old now (none_later asked image devices s.now left n (sym i.count) (λ k few. down_same image devices lines k s down i.ahead) i.none) (subst (Appends old now) (sym same) i.taken)

-- ---- what a watcher is told of it

-- It was told of `last` ticks last, whose text was taken then.
pub record IsFollowedBy (image : Image) (devices : List DeviceLine) (n last made : ℕ) (old new : Option (List ℕ)) (before after : Told) : Type 0 where
  pub within : last ≤ made
  pub kept : TakesAtLeast old new (text_to image devices last)
  pub followed : IsFollowed n last before after

pub followed_first : (image : Image) (devices : List DeviceLine) (n made : ℕ) (old : Option (List ℕ)) (told : Told) → IsFollowedBy image devices n 0 made old old told told
followed_first image devices n made old told = record { within = omega arith; kept = takes_all (Appends-nil old); followed = not_followed n 0 told }

pub followed_told : {image : Image} {devices : List DeviceLine} {n told made : ℕ} {old mid : Option (List ℕ)} {before between : Told} (last : ℕ) (new : Option (List ℕ)) (after : Told) → n ≤ MOST_TICKS → Keeps mid new → Appends old mid (text_to image devices made)
    → IsFollowedBy image devices n told made old mid before between → IsReported told made n last between after → IsFollowedBy image devices n last made old new before after
followed_told {image = image} {devices = devices} {n = n} {told = told} {old = old} {before = before} last new after few kept taken i (inl (same, quiet)) = record {
  within = omega (arith, same, i.within);
  kept = subst (λ t. TakesAtLeast old new (text_to image devices t)) (sym same) (takes_kept new i.kept kept);
  followed = subst (λ t. IsFollowed n t before after) (sym same) (subst (IsFollowed n told before) (sym quiet) i.followed);
}
followed_told {image = image} {devices = devices} {n = n} {made = made} {old = old} {mid = mid} {before = before} last new after few kept taken i (inr (same, above, heard)) = record {
  within = omega (arith, same);
  kept = subst (λ t. TakesAtLeast old new (text_to image devices t)) (sym same) (takes_kept new (takes_all taken) kept);
  followed = subst (λ t. IsFollowed n t before after) (sym same) (followed_more made after few above i.followed heard);
}

pub followed_further : {image : Image} {devices : List DeviceLine} {n last made : ℕ} {old mid : Option (List ℕ)} {before after : Told} (next : ℕ) (new : Option (List ℕ)) (bytes : List ℕ) → made ≤ next → Appends mid new bytes
    → IsFollowedBy image devices n last made old mid before after → IsFollowedBy image devices n last next old new before after
followed_further next new bytes further more i = record { within = omega (arith, further, i.within); kept = takes_more new bytes i.kept more; followed = i.followed }

pub followed_beginning : {image : Image} {devices : List DeviceLine} {n last made : ℕ} {old mid : Option (List ℕ)} {before after : Told} (new : Option (List ℕ)) (bytes : List ℕ) → TakesBeginning mid new bytes
    → IsFollowedBy image devices n last made old mid before after → IsFollowedBy image devices n last made old new before after
followed_beginning new bytes part i = record { within = i.within; kept = takes_beginning new bytes i.kept part; followed = i.followed }

pub followed_made : {image : Image} {devices : List DeviceLine} {n last made : ℕ} {old new : Option (List ℕ)} {before after : Told} → made ≤ n → IsFollowedBy image devices n last made old new before after → IsToldMade image devices n old new before after
followed_made {last = last} few i = record { made = last; within = omega (arith, few, i.within); taken = i.kept; followed = i.followed }
