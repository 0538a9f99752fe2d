-- The text that is still ahead of a run.
use Rattle.module.proofs.Prelude.{◌≡◌, ◌<◌, ◌+◌, ℕ, suc, true, List, ◌++◌, Option, Some, None, refl, sym, ap, ◌∙◌, append-nil, append_assoc, arith, Appends, Appends-nil, is_none, text_of, DeviceLine, Event, IsUnderWay, Image, MachineControl, machine_module, Machine, fresh_machine, Elapsed, Standing, after, lines_of, of_tick, ticks, HasRun}
use Rattle.std.proofs.Common.{subst}
use Rattle.std.proofs.KnownBytes.{Appends-trans, Appends-kept}
use Rattle.std.specs.Io.KnownBytes.{Keeps}
use Rattle.module.specs.Machines.{HasGoneOn}
use Rattle.module.specs.Watched.{text_to}
use Rattle.module.proofs.Machines.{ticks_are_the_trace}
use Rattle.module.proofs.Standing.{none_down, tick_text}
use Rattle.lone_partition.proofs.Texts.{text_append}

-- the text of k more ticks
abbrev pub text_on : Image → List DeviceLine → ℕ → Standing MachineControl → List ℕ
text_on image lines k s = text_of (lines_of (machine_module image).plan lines k s)

-- Up to this `Standing` the text is that of its ticks, and further ticks append theirs.
abbrev pub IsAhead : Image → List DeviceLine → List DeviceLine → Standing MachineControl → Type 0
IsAhead image devices lines s = (k : ℕ) → text_to image devices (s.now + k) ≡ text_to image devices s.now ++ text_on image lines k s

pub ahead_first : (image : Image) (m : Machine) (devices : List DeviceLine) → m ≡ fresh_machine image → IsAhead image devices devices m.standing
ahead_first image m devices is =
    subst (λ (x : Machine). IsAhead image devices devices x.standing) (sym is)
    (λ k. let all : 0 + k ≡ k = omega arith in ap (text_to image devices) all ∙ ap text_of (sym (ticks_are_the_trace image devices k)))

-- ---- n more ticks with this text

pub text_further : (image : Image) (devices lines later : List DeviceLine) (n : ℕ) (told : List ℕ) (s next : Standing MachineControl) → next.now ≡ s.now + n
    → ((k : ℕ) → text_on image lines (n + k) s ≡ told ++ text_on image later k next) → IsAhead image devices lines s → text_to image devices next.now ≡ text_to image devices s.now ++ told
text_further image devices lines later n told s next now on ahead =
    let all : n ≡ n + 0 = omega arith in
    ap (text_to image devices) now
    ∙ ahead n
    ∙ ap (λ (text : List ℕ). text_to image devices s.now ++ text) (ap (λ j. text_on image lines j s) all ∙ on 0 ∙ append-nil told)

pub ahead_further : (image : Image) (devices lines later : List DeviceLine) (n : ℕ) (told : List ℕ) (s next : Standing MachineControl) → next.now ≡ s.now + n
    → ((k : ℕ) → text_on image lines (n + k) s ≡ told ++ text_on image later k next) → IsAhead image devices lines s → IsAhead image devices later next
ahead_further image devices lines later n told s next now on ahead k =
    let so_far = text_to image devices s.now in
    let there : next.now + k ≡ s.now + (n + k) = omega (arith, now) in
    ap (text_to image devices) there
    ∙ ahead (n + k)
    ∙ ap (λ (text : List ℕ). so_far ++ text) (on k)
    ∙ sym (append_assoc so_far told (text_on image later k next))
    ∙ ap (λ (text : List ℕ). text ++ text_on image later k next) (sym (text_further image devices lines later n told s next now on ahead))

-- ---- what a sink has of it

-- the sink has taken the text up to here
pub record IsGoing (image : Image) (devices lines : List DeviceLine) (old now : Option (List ℕ)) (s : Standing MachineControl) : Type 0 where
  pub taken : Appends old now (text_to image devices s.now)
  pub ahead : IsAhead image devices lines s

pub going_first : (image : Image) (m : Machine) (devices : List DeviceLine) (old : Option (List ℕ)) → m ≡ fresh_machine image → IsGoing image devices devices old old m.standing
going_first image m devices old is =
    let first : m.standing.now ≡ 0 = ap (λ (x : Machine). x.standing.now) is in record {
      taken = subst (λ t. Appends old old (text_to image devices t)) (sym first) (Appends-nil old);
      ahead = ahead_first image m devices is;
    }

pub going_kept : {image : Image} {devices lines : List DeviceLine} {old mid : Option (List ℕ)} {s : Standing MachineControl} (new : Option (List ℕ)) → IsGoing image devices lines old mid s → Keeps mid new → IsGoing image devices lines old new s
going_kept {old = old} {mid = mid} new i kept = record { taken = Appends-kept old mid new _ i.taken kept; ahead = i.ahead }

-- the rest of n ticks is still to come
pub under_way : {image : Image} {devices lines : List DeviceLine} {old now : Option (List ℕ)} {s : Standing MachineControl} (n left : ℕ) → s.now + left ≡ n → IsGoing image devices lines old now s
    → IsUnderWay old now (text_to image devices n) (text_on image lines left s)
under_way {image = image} {devices = devices} {s = s} n left count i = record {
  done = text_to image devices s.now;
  taken = i.taken;
  left = ap (text_to image devices) (sym count) ∙ i.ahead left;
}

going_further : {image : Image} {devices lines : List DeviceLine} {old mid new : Option (List ℕ)} {s : Standing MachineControl} (later : List DeviceLine) (n : ℕ) (told : List ℕ) (next : Standing MachineControl) → next.now ≡ s.now + n
    → ((k : ℕ) → text_on image lines (n + k) s ≡ told ++ text_on image later k next) → IsGoing image devices lines old mid s → Appends mid new told → IsGoing image devices later old new next
going_further {image = image} {devices = devices} {lines = lines} {old = old} {mid = mid} {new = new} {s = s} later n told next now on i more = record {
  taken = subst (Appends old new) (sym (text_further image devices lines later n told s next now on i.ahead)) (Appends-trans old mid new (text_to image devices s.now) told i.taken more);
  ahead = ahead_further image devices lines later n told s next now on i.ahead;
}

-- ticks that were made together
pub going_on : {image : Image} {devices lines : List DeviceLine} {old mid new : Option (List ℕ)} {before between : ℕ} (m next : Machine) (n : ℕ) → m.image ≡ image → next.standing.now ≡ m.standing.now + n
    → IsGoing image devices lines old mid m.standing → HasRun (machine_module m.image).plan lines n m.standing next.standing mid new before between → IsGoing image devices lines old new next.standing
going_on {image = image} {lines = lines} {mid = mid} {new = new} {before = before} {between = between} m next n same now i run =
    let h = subst (λ (x : Image). HasRun (machine_module x).plan lines n m.standing next.standing mid new before between) same run in
    going_further lines n (text_of h.told) next.standing now
    (λ k. ap (λ (e : Elapsed _). text_of e.lines) (h.leads k) ∙ text_append h.told (lines_of (machine_module image).plan lines k next.standing))
    i h.written

-- a tick with its device lines
pub going_ticked : {image : Image} {devices lines : List DeviceLine} {old mid new : Option (List ℕ)} {before between : ℕ} (m next : Machine) (now later : List DeviceLine) → m.image ≡ image
    → of_tick m.standing.now now ≡ of_tick m.standing.now lines → ((t : ℕ) → m.standing.now < t → of_tick t later ≡ of_tick t lines)
    → IsGoing image devices lines old mid m.standing → HasGoneOn now m next mid new before between → IsGoing image devices later old new next.standing
going_ticked {image = image} {lines = lines} m next now later same of_now of_later i h =
    let plan = (machine_module image).plan in
    let course = ap (λ (x : Image). ticks (machine_module x).plan now m.standing) same in
    let gone = h.standing ∙ ap (λ c. after m.standing c) course in
    going_further later 1 (text_of (ticks plan now m.standing).lines) next.standing (ap (λ s. s.now) gone)
    (λ k. let one : 1 + k ≡ suc k = omega arith in tick_text plan lines now later (1 + k) k m.standing next.standing one of_now of_later gone)
    i (rw (ap (λ c. text_of c.lines) course) at h.written)

-- ---- after a shutdown

pub down_same : (image : Image) (devices lines : List DeviceLine) (k : ℕ) (s : Standing MachineControl) → is_none s.origin ≡ true → IsAhead image devices lines s → text_to image devices (s.now + k) ≡ text_to image devices s.now
down_same image devices lines k s down ahead =
    ahead k
    ∙ ap (λ (es : List Event). text_to image devices s.now ++ text_of es) (none_down (machine_module image).plan lines k s.now s.members s.origin (is s.origin down))
    ∙ append-nil (text_to image devices s.now)
  where
    is : (o : Option ℕ) → is_none o ≡ true → o ≡ None
    is None h = refl
    is (Some t) h = absurd cc

-- ---- the end

-- all ticks are made
pub all_taken : {image : Image} {devices lines : List DeviceLine} {old new : Option (List ℕ)} {s : Standing MachineControl} (n left : ℕ) → s.now + left ≡ n → left ≡ 0 → IsGoing image devices lines old new s → Appends old new (text_to image devices n)
all_taken {image = image} {devices = devices} {old = old} {new = new} {s = s} n left count none i =
    let all : s.now ≡ n = omega (arith, count, none) in
    subst (λ t. Appends old new (text_to image devices t)) all i.taken

-- the module is shut down
pub taken_down : {image : Image} {devices lines : List DeviceLine} {old new : Option (List ℕ)} {s : Standing MachineControl} (n left : ℕ) → s.now + left ≡ n → is_none s.origin ≡ true → IsGoing image devices lines old new s → Appends old new (text_to image devices n)
taken_down {image = image} {devices = devices} {lines = lines} {old = old} {new = new} {s = s} n left count down i =
    subst (Appends old new) (sym (down_same image devices lines left s down i.ahead) ∙ ap (text_to image devices) count) i.taken
