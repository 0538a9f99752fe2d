-- What a watcher of a run is told.
use Rattle.module.proofs.Prelude.{◌≡◌, ◌≤◌, ◌<◌, ◌+◌, ◌-◌, ◌^◌, ◌∷◌, ◌++◌, inl, inr, ℕ, true, List, Option, Some, None, Result, Ok, Err, OnOk, refl, sym, ap, ◌∙◌, append-nil, append_assoc, arith, take, Appends, MOST_TICKS, TakesBeginning, DeviceLine, Image, Fault, RunFault, verdict_for, MachineControl, Standing, is_none}
use Rattle.std.proofs.Common.{[], subst}
use Rattle.std.proofs.KnownBytes.{Appends-kept, Appends-trans}
use Rattle.std.specs.Io.KnownBytes.{Keeps}
use Rattle.module.specs.Watched.{AreRising, AreSteps, Hears, IsFollowed, IsToldAll, IsToldMade, IsToldRun, IsToldWhole, TakesAtLeast, Told, text_to}
use Rattle.module.specs.declared.telling.TheConstants.{STEPS_BETWEEN_REPORTS}
use Rattle.module.proofs.Ahead.{IsGoing, down_same}
use Rattle.module.proofs.Bursts.{apart}

-- ---- reports

pub hears_nothing : (a : Told) → Hears a a []
hears_nothing None = tt
hears_nothing (Some x) = sym (append-nil x)

hears_more : (a b c : Told) (rs ss : List (ℕ × ℕ)) → Hears a b rs → Hears b c ss → Hears a c (rs ++ ss)
hears_more None b c rs ss p q = tt
hears_more (Some x) None c rs ss p q = absurd p
hears_more (Some x) (Some y) None rs ss p q = absurd q
hears_more (Some x) (Some y) (Some z) rs ss p q = q ∙ ap (λ (l : List (ℕ × ℕ)). l ++ ss) p ∙ append_assoc x rs ss

rising_more : (n low high now : ℕ) (rs : List (ℕ × ℕ)) → low ≤ high → AreRising n low high rs → high < now → AreRising n low now (rs ++ (now, n) ∷ [])
rising_more n low high now [] order h above = (refl, omega (arith, order, above), omega arith, tt)
rising_more n low high now (r ∷ rs) order (is, more, within, rest) above = (is, more, omega (arith, within, above), rising_more n r.0 high now rs within rest above)

rising_within : (n low high top : ℕ) (rs : List (ℕ × ℕ)) → high ≤ top → AreRising n low high rs → AreRising n low top rs
rising_within n low high top [] order h = tt
rising_within n low high top (r ∷ rs) order (is, more, within, rest) = (is, more, omega (arith, within, order), rising_within n r.0 high top rs order rest)

steps_more : (low high now n : ℕ) (rs : List (ℕ × ℕ)) → AreSteps low high rs → now ≤ high + 2 ^ 20 → AreSteps low now (rs ++ (now, n) ∷ [])
steps_more low high now n [] is near = (subst (λ t. now ≤ t + 2 ^ 20) (sym is) near, refl)
steps_more low high now n (r ∷ rs) (near, rest) last = (near, steps_more r.0 high now n rs rest last)

pub not_followed : (n high : ℕ) (told : Told) → IsFollowed n high told told
not_followed n high told = inl refl

pub followed_within : {n high : ℕ} {before after : Told} (top : ℕ) → high ≤ top → IsFollowed n high before after → IsFollowed n top before after
followed_within top order (inl same) = inl same
followed_within {n = n} {high = high} top order (inr (few, reports, rising, heard)) = inr (few, reports, rising_within n 0 high top reports order rising, heard)

pub followed_more : {n high : ℕ} {before mid : Told} (now : ℕ) (after : Told) → n ≤ MOST_TICKS → high < now → IsFollowed n high before mid → Hears mid after ((now, n) ∷ []) → IsFollowed n now before after
followed_more {n = n} now after few above (inl same) more =
    let some : 0 < now = omega (arith, above) in
    let all : now ≤ now = omega arith in
    inr (few, (now, n) ∷ [], (refl, some, all, tt), subst (λ t. Hears t after ((now, n) ∷ [])) same more)
followed_more {n = n} {high = high} {before = before} {mid = mid} now after few above (inr (within, reports, rising, heard)) more =
    let order : 0 ≤ high = omega arith in
    inr (few, reports ++ (now, n) ∷ [], rising_more n 0 high now reports order rising above, hears_more before mid after reports ((now, n) ∷ []) heard more)

-- ---- a run in steps of 2^20 ticks

-- it was told of `now` ticks last
pub record IsHeard (n now : ℕ) (before after : Told) : Type 0 where
  pub reports : List (ℕ × ℕ)
  pub rising : AreRising n 0 now reports
  pub steps : AreSteps 0 now reports
  pub heard : Hears before after reports

pub heard_nothing : (n now : ℕ) (told : Told) → now ≡ 0 → IsHeard n now told told
heard_nothing n now told first = record { reports = []; rising = tt; steps = sym first; heard = hears_nothing told }

pub heard_next : {n last : ℕ} {before mid : Told} (now : ℕ) (after : Told) → last < now → now ≤ last + 2 ^ 20 → IsHeard n last before mid → Hears mid after ((now, n) ∷ []) → IsHeard n now before after
heard_next {n = n} {last = last} {before = before} {mid = mid} now after above near i more =
    let order : 0 ≤ last = omega arith in record {
      reports = i.reports ++ (now, n) ∷ [];
      rising = rising_more n 0 last now i.reports order i.rising above;
      steps = steps_more 0 last now n i.reports i.steps near;
      heard = hears_more before mid after i.reports ((now, n) ∷ []) i.heard more;
    }

-- ---- the text of the ticks that were made

pub takes_all : {old new : Option (List ℕ)} {text : List ℕ} → Appends old new text → TakesAtLeast old new text
takes_all {old = old} {new = new} {text = text} h = record { more = []; taken = subst (Appends old new) (sym (append-nil text)) h }

pub takes_more : {old mid : Option (List ℕ)} {text : List ℕ} (new : Option (List ℕ)) (bytes : List ℕ) → TakesAtLeast old mid text → Appends mid new bytes → TakesAtLeast old new text
takes_more {old = old} {mid = mid} {text = text} new bytes i k = record {
  more = i.more ++ bytes;
  taken = subst (Appends old new) (append_assoc text i.more bytes) (Appends-trans old mid new (text ++ i.more) bytes i.taken k);
}

pub takes_beginning : {old mid : Option (List ℕ)} {text : List ℕ} (new : Option (List ℕ)) (bytes : List ℕ) → TakesAtLeast old mid text → TakesBeginning mid new bytes → TakesAtLeast old new text
takes_beginning new bytes i (k, within, h) = takes_more new (take k bytes) i h

pub takes_kept : {old mid : Option (List ℕ)} {text : List ℕ} (new : Option (List ℕ)) → TakesAtLeast old mid text → Keeps mid new → TakesAtLeast old new text
takes_kept {old = old} {mid = mid} new i kept = record { more = i.more; taken = Appends-kept old mid new _ i.taken kept }

-- ---- the end

-- the ticks that were reported last are made
pub told_made : {image : Image} {lines : List DeviceLine} {n now : ℕ} {old new : Option (List ℕ)} {before after : Told} → n ≤ MOST_TICKS → now ≤ n → TakesAtLeast old new (text_to image lines now) → IsHeard n now before after → IsToldMade image lines n old new before after
told_made {now = now} few within taken i = record { made = now; within = within; taken = taken; followed = inr (few, i.reports, i.rising, i.heard) }

-- they are all
pub told_all : {image : Image} {devices lines : List DeviceLine} {old new : Option (List ℕ)} {before after : Told} {s : Standing MachineControl} (n left : ℕ) → s.now + left ≡ n → left ≡ 0 → IsGoing image devices lines old new s → IsHeard n s.now before after
    → IsToldAll image devices n before after
told_all {image = image} {devices = devices} {s = s} n left count none going i =
    let all : s.now ≡ n = omega (arith, count, none) in
    record { made = s.now; reports = i.reports; all = ap (text_to image devices) all; steps = i.steps; heard = i.heard }

-- the module is shut down
pub told_down : {image : Image} {devices lines : List DeviceLine} {old new : Option (List ℕ)} {before after : Told} {s : Standing MachineControl} (n left : ℕ) → s.now + left ≡ n → is_none s.origin ≡ true → IsGoing image devices lines old new s
    → IsHeard n s.now before after → IsToldAll image devices n before after
told_down {image = image} {devices = devices} {lines = lines} {s = s} n left count down going i = record {
  made = s.now;
  reports = i.reports;
  all = sym (ap (text_to image devices) (sym count) ∙ down_same image devices lines left s down going.ahead);
  steps = i.steps;
  heard = i.heard;
}

-- ---- a run with a device text

pub not_begun : (read : Result Image Fault) (text : List ℕ) (n : ℕ) (taken : Option (List ℕ)) (told : Told) → IsToldRun read text n taken taken told told
not_begun read text n taken told = inl refl

pub begun : {old new : Option (List ℕ)} {before after : Told} (read : Result Image Fault) (image : Image) (text : List ℕ) (lines : List DeviceLine) (n : ℕ)
    → read ≡ Ok image → verdict_for image text ≡ Ok lines → n ≤ MOST_TICKS → IsToldMade image lines n old new before after → IsToldRun read text n old new before after
begun read image text lines n loaded taken few h = inr (image, lines, record { loaded = loaded; taken = taken; few = few }, h)

pub whole_if_ok : (read : Result Image Fault) (image : Image) (text : List ℕ) (lines : List DeviceLine) (n : ℕ) (before after : Told) (answer : Result (Unit {0}) RunFault)
    → read ≡ Ok image → verdict_for image text ≡ Ok lines → n ≤ MOST_TICKS → OnOk answer (IsToldAll image lines n before after) → OnOk answer (IsToldWhole read text n before after)
whole_if_ok read image text lines n before after (Ok done) loaded taken few h = (image, lines, record { loaded = loaded; taken = taken; few = few }, h)
whole_if_ok read image text lines n before after (Err f) loaded taken few h = tt

-- whatever it was, no more than all ticks were told
pub all_followed : (read : Result Image Fault) (text : List ℕ) (n : ℕ) (old new : Option (List ℕ)) (before after : Told) → IsToldRun read text n old new before after → IsFollowed n n before after
all_followed read text n old new before after (inl same) = subst (IsFollowed n n before) (sym same) (not_followed n n before)
all_followed read text n old new before after (inr (image, lines, run, h)) = followed_within n h.within h.followed

-- ---- the inputs of a partition

-- It was told of so many ticks at most, and since then at least `steps` ticks were made.
pub record IsCounted (n now steps : ℕ) (before after : Told) : Type 0 where
  pub last : ℕ
  pub counted : last + steps ≤ now
  pub within : last ≤ n - 1
  pub followed : IsFollowed n last before after

pub counted_first : (n now : ℕ) (told : Told) → IsCounted n now 0 told told
counted_first n now told = record { last = 0; counted = omega arith; within = omega arith; followed = not_followed n 0 told }

-- one step more, which may report
pub counted_told : {n now steps : ℕ} {before mid : Told} (later result : ℕ) (after : Told) → n ≤ MOST_TICKS → now < n → now < later → IsCounted n now steps before mid
    → (steps < STEPS_BETWEEN_REPORTS → (result ≡ steps + 1) × (after ≡ mid)) → (STEPS_BETWEEN_REPORTS ≤ steps → (result ≡ 0) × Hears mid after ((now, n) ∷ []))
    → IsCounted n later result before after
counted_told {n = n} {now = now} {steps = steps} {before = before} later result after few below further i quiet told = elim (apart steps STEPS_BETWEEN_REPORTS) [
  | inl fewer ↦
      let step = quiet fewer in record {
        last = i.last;
        counted = omega (arith, i.counted, step.0, further);
        within = i.within;
        followed = subst (IsFollowed n i.last before) (sym step.1) i.followed;
      }
  | inr enough ↦
      let step = told enough in
      let above : i.last < now = omega (arith, i.counted, enough) in record {
        last = now;
        counted = omega (arith, step.0, further);
        within = omega (arith, below);
        followed = followed_more now after few above i.followed step.1;
      }
]

pub counted_all : {n now steps : ℕ} {before after : Told} → IsCounted n now steps before after → IsFollowed n (n - 1) before after
counted_all {n = n} i = followed_within (n - 1) i.within i.followed
