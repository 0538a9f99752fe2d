-- A machine that goes on to the first state in which a row has some words.
use Rattle.module.proofs.Prelude.{◌≡◌, ◌⊎◌, ◌≤◌, ◌<◌, ◌+◌, ◌-◌, inl, inr, ℕ, suc, Bool, true, false, List, Option, Some, None, refl, sym, ap, ◌∙◌, arith, is_none, still, DeviceLine, of_tick, Image, machine_module, Machine, fresh_machine, MachineControl, AreFrom, Elapsed, Standing, elapse}
use Rattle.std.proofs.Common.{[], subst}
use Rattle.std.proofs.lemmas.Bool.{cases_lt}
use Rattle.module.specs.Machines.{HasSkipped}
use Rattle.module.specs.Pieces.{AreQuiet}
use Rattle.module.specs.States.{state_before, watched_of}
use Rattle.module.specs.Stating.{IsBefore, IsFirst, watches, watches_before}
use Rattle.module.proofs.Bursts.{from_lower}
use Rattle.module.proofs.DeviceLines.{none_before}
use Rattle.module.proofs.Elapsed.{stays_down}
use Rattle.module.proofs.Spaced.{AreAlike, alike_later, before_first, later_state, passed_to, watched_now}
use Rattle.module.proofs.Standing.{elapse_alike}
use Rattle.state_rows.specs.Rows.{Row}

-- No state before the machine's has such a row. Of n ticks so many are left.
pub record IsAwaited (words : List (List ℕ)) (only : Option ℕ) (image : Image) (devices lines : List DeviceLine) (n left : ℕ) (m : Machine) (found : Bool) : Type 0 where
  pub own : m.image ≡ image
  pub sound : m.failed ≡ false
  pub count : m.standing.now + left ≡ n
  pub before : IsBefore image devices m
  pub order : AreFrom m.standing.now lines
  pub alike : AreAlike m lines devices
  pub none : (u : ℕ) → u < m.standing.now → watches_before words only image devices u ≡ false
  pub here : watches_before words only image devices m.standing.now ≡ found

pub awaited_first : {words : List (List ℕ)} {only : Option ℕ} {devices : List DeviceLine} (n : ℕ) (m : Machine) (found : Bool) → m ≡ fresh_machine m.image → AreFrom 0 devices → found ≡ watches words only m.image m.standing
    → IsAwaited words only m.image devices devices n n m found
awaited_first {words = words} {only = only} {devices = devices} n m found fresh order is =
    let first : m.standing.now ≡ 0 = ap (λ (x : Machine). x.standing.now) fresh in
    let before = before_first m.image devices m fresh in
    record {
      own = refl;
      sound = ap (λ (x : Machine). x.failed) fresh;
      count = omega (arith, first);
      before = before;
      order = subst (λ t. AreFrom t devices) (sym first) order;
      alike = λ u above. refl;
      none = λ u below. absurd (omega (arith, below, first));
      here = watched_now words only m.image devices m found refl before is;
    }

-- ---- rows that stay

-- the rows are those of the partitions, whatever the tick is
same_rows : (words : List (List ℕ)) (only : Option ℕ) (image : Image) (s t : Standing MachineControl) → s.members ≡ t.members → watched_of words only image s ≡ watched_of words only image t
same_rows words None image s t same = ap (λ ms. watched_of words None image (record { members = ms; now = 0; origin = None })) same
same_rows words (Some number) image s t same = ap (λ ms. watched_of words (Some number) image (record { members = ms; now = 0; origin = None })) same

same_watched : (words : List (List ℕ)) (only : Option ℕ) (image : Image) (s t : Standing MachineControl) → s.members ≡ t.members → watches words only image s ≡ watches words only image t
same_watched words only image s t same = let is = same_rows words only image s t same in rw is refl

-- k ticks later, if nothing happens in them
quiet_state : {words : List (List ℕ)} {only : Option ℕ} {image : Image} {devices lines : List DeviceLine} {n left : ℕ} {m : Machine} {found : Bool} (k quiet : ℕ) → IsAwaited words only image devices lines n left m found
    → k ≤ quiet → AreFrom (m.standing.now + quiet) lines → AreQuiet (machine_module m.image).plan m.standing k
    → state_before image devices (m.standing.now + k) ≡ record { members = m.standing.members; now = m.standing.now + k; origin = m.standing.origin }
quiet_state {image = image} {devices = devices} {lines = lines} {m = m} k quiet i within ahead still_for =
    let all : k ≤ k = omega arith in
    sym (later_state image m lines devices k i.own i.before i.alike)
    ∙ ap (λ (e : Elapsed MachineControl). e.state)
    (elapse_alike (machine_module m.image).plan lines [] k m.standing (λ u above below. none_before u (m.standing.now + quiet) lines (omega (arith, below, within)) ahead) ∙ still_for k all)

quiet_row : {words : List (List ℕ)} {only : Option ℕ} {image : Image} {devices lines : List DeviceLine} {n left : ℕ} {m : Machine} {found : Bool} (k quiet : ℕ) → IsAwaited words only image devices lines n left m found
    → k ≤ quiet → AreFrom (m.standing.now + quiet) lines → AreQuiet (machine_module m.image).plan m.standing k → watches_before words only image devices (m.standing.now + k) ≡ found
quiet_row {words = words} {only = only} {image = image} {devices = devices} {m = m} k quiet i within ahead still_for =
    let same = ap (λ (s : Standing MachineControl). s.members) (quiet_state k quiet i within ahead still_for) ∙ ap (λ (s : Standing MachineControl). s.members) i.before in
    same_watched words only image (state_before image devices (m.standing.now + k)) (state_before image devices m.standing.now) same ∙ i.here

-- some ticks were skipped
pub awaited_skipped : {words : List (List ℕ)} {only : Option ℕ} {image : Image} {devices lines : List DeviceLine} {n left : ℕ} {m : Machine} (next : Machine) (most count rest : ℕ) → IsAwaited words only image devices lines n left m false
    → AreFrom (m.standing.now + most) lines → HasSkipped most m next count → AreQuiet (machine_module m.image).plan m.standing count → left ≡ count + rest
    → IsAwaited words only image devices lines n rest next false
awaited_skipped {words = words} {only = only} {image = image} {devices = devices} {lines = lines} {m = m} next most count rest i ahead skipped quiet split =
    let few : count ≤ most = skipped.2.0 in
    let now : next.standing.now ≡ m.standing.now + count = skipped.2.1 in
    let all : count ≤ count = omega arith in
    let made : next.standing ≡ record { members = m.standing.members; now = m.standing.now + count; origin = m.standing.origin } = ap (λ (e : Elapsed MachineControl). e.state) (sym skipped.2.2 ∙ quiet count all) in
    let lower : next.standing.now ≤ m.standing.now + most = omega (arith, now, few) in
    let each : (k : ℕ) → k ≤ count → AreQuiet (machine_module m.image).plan m.standing k = λ k within j h. quiet j (omega (arith, h, within)) in
    record {
      own = skipped.0 ∙ i.own;
      sound = skipped.1 ∙ i.sound;
      count = omega (arith, now, i.count, split);
      before = made ∙ sym (quiet_state count most i few ahead quiet) ∙ ap (state_before image devices) (sym now);
      order = from_lower next.standing.now (m.standing.now + most) lines lower ahead;
      alike = λ u above. i.alike u (omega (arith, above, now));
      none = λ u below. in_between u below (cases_lt u m.standing.now) each few;
      here = ap (watches_before words only image devices) now ∙ quiet_row count most i few ahead quiet;
    }
  where
    in_between : (u : ℕ) → u < next.standing.now → (u < m.standing.now) ⊎ (m.standing.now ≤ u) → ((k : ℕ) → k ≤ count → AreQuiet (machine_module m.image).plan m.standing k) → count ≤ most → watches_before words only image devices u ≡ false
    in_between u below (inl sooner) each few = i.none u sooner
    in_between u below (inr later) each few =
        let now : next.standing.now ≡ m.standing.now + count = skipped.2.1 in
        let within : u - m.standing.now ≤ count = omega (arith, below, later, now) in
        let fewer : u - m.standing.now ≤ most = omega (arith, within, few) in
        let same : u ≡ m.standing.now + (u - m.standing.now) = omega (arith, later) in
        ap (watches_before words only image devices) same ∙ quiet_row (u - m.standing.now) most i fewer ahead (each (u - m.standing.now) within)

-- none was skipped, so that nothing has changed
pub awaited_still : {words : List (List ℕ)} {only : Option ℕ} {image : Image} {devices lines : List DeviceLine} {n left : ℕ} {m : Machine} (next : Machine) (most count : ℕ) → IsAwaited words only image devices lines n left m false
    → AreFrom (m.standing.now + most) lines → HasSkipped most m next count → AreQuiet (machine_module m.image).plan m.standing count → count ≡ 0
    → IsAwaited words only image devices lines n left next false
awaited_still {left = left} next most count i ahead skipped quiet none = let split : left ≡ count + left = omega (arith, none) in awaited_skipped next most count left i ahead skipped quiet split

-- one tick more
pub awaited_passed : {words : List (List ℕ)} {only : Option ℕ} {image : Image} {devices lines : List DeviceLine} {n left : ℕ} {m : Machine} (next : Machine) (later : List DeviceLine) (rest : ℕ) (found : Bool) → IsAwaited words only image devices lines n left m false
    → next.image ≡ m.image → next.failed ≡ false → next.standing ≡ (elapse (machine_module m.image).plan lines 1 m.standing).state → AreFrom next.standing.now later
    → ((u : ℕ) → next.standing.now ≤ u → of_tick u later ≡ of_tick u lines) → found ≡ watches words only next.image next.standing → left ≡ suc rest
    → IsAwaited words only image devices later n rest next found
awaited_passed {words = words} {only = only} {image = image} {devices = devices} {lines = lines} {m = m} next later rest found i same sound made order kept is one =
    let passed = passed_to image m next lines devices 1 i.own i.before i.alike made in
    let now : next.standing.now ≡ m.standing.now + 1 = passed.0 in
    record {
      own = same ∙ i.own;
      sound = sound;
      count = omega (arith, now, i.count, one);
      before = passed.1;
      order = order;
      alike = alike_later m next lines later devices 1 now i.alike kept;
      none = λ u below. earlier u below (cases_lt u m.standing.now) now;
      here = watched_now words only image devices next found (same ∙ i.own) passed.1 is;
    }
  where
    earlier : (u : ℕ) → u < next.standing.now → (u < m.standing.now) ⊎ (m.standing.now ≤ u) → next.standing.now ≡ m.standing.now + 1 → watches_before words only image devices u ≡ false
    earlier u below (inl sooner) now = i.none u sooner
    earlier u below (inr later) now = let same : u ≡ m.standing.now = omega (arith, below, later, now) in ap (watches_before words only image devices) same ∙ i.here

-- ---- the end

up_to_now : {words : List (List ℕ)} {only : Option ℕ} {image : Image} {devices lines : List DeviceLine} {n left : ℕ} {m : Machine} (u : ℕ) → IsAwaited words only image devices lines n left m false → u ≤ m.standing.now → watches_before words only image devices u ≡ false
up_to_now {words = words} {only = only} {image = image} {devices = devices} {m = m} u i within = by_case (cases_lt u m.standing.now)
  where
    by_case : (u < m.standing.now) ⊎ (m.standing.now ≤ u) → watches_before words only image devices u ≡ false
    by_case (inl sooner) = i.none u sooner
    by_case (inr later) = let same : u ≡ m.standing.now = omega (arith, within, later) in ap (watches_before words only image devices) same ∙ i.here

-- all ticks are made
pub ends_awaited : {words : List (List ℕ)} {only : Option ℕ} {image : Image} {devices lines : List DeviceLine} {n left : ℕ} {m : Machine} (found : Bool) → IsAwaited words only image devices lines n left m found → left ≡ 0 → IsFirst words only image devices n m.standing.now found
ends_awaited true i none = (omega (arith, i.count), i.here, i.none)
ends_awaited false i none = λ u within. up_to_now u i (omega (arith, i.count, none, within))

-- there is such a row now
pub ends_found : {words : List (List ℕ)} {only : Option ℕ} {image : Image} {devices lines : List DeviceLine} {n left : ℕ} {m : Machine} (found : Bool) → IsAwaited words only image devices lines n left m found → found ≡ true → IsFirst words only image devices n m.standing.now found
ends_found true i is = (omega (arith, i.count), i.here, i.none)
ends_found false i is = absurd cc

-- the module is shut down
down_origin : (o : Option ℕ) → is_none o ≡ true → o ≡ None
down_origin None h = refl
down_origin (Some x) h = absurd cc

pub ends_down : {words : List (List ℕ)} {only : Option ℕ} {image : Image} {devices lines : List DeviceLine} {n left : ℕ} {m : Machine} (found : Bool) → IsAwaited words only image devices lines n left m found → is_none m.standing.origin ≡ true → IsFirst words only image devices n m.standing.now found
ends_down true i down = (omega (arith, i.count), i.here, i.none)
ends_down {words = words} {only = only} {image = image} {devices = devices} {lines = lines} {m = m} false i down = λ u within. by_case u (cases_lt u m.standing.now)
  where
    by_case : (u : ℕ) → (u < m.standing.now) ⊎ (m.standing.now ≤ u) → watches_before words only image devices u ≡ false
    by_case u (inl sooner) = i.none u sooner
    by_case u (inr later) =
        let k = u - m.standing.now in
        let same : u ≡ m.standing.now + k = omega (arith, later) in
        let stayed : state_before image devices (m.standing.now + k) ≡ record { members = m.standing.members; now = m.standing.now + k; origin = None } =
        sym (later_state image m lines devices k i.own i.before i.alike) ∙ stays_down (machine_module m.image).plan lines k m.standing.now m.standing.members m.standing.origin (down_origin m.standing.origin down) in
        let members = ap (λ (s : Standing MachineControl). s.members) stayed ∙ ap (λ (s : Standing MachineControl). s.members) i.before in
        ap (watches_before words only image devices) same ∙ same_watched words only image (state_before image devices (m.standing.now + k)) (state_before image devices m.standing.now) members ∙ i.here
