-- States of a machine, one after another.
use Rattle.module.proofs.Prelude.{◌≡◌, ◌≤◌, ◌<◌, ◌+◌, ◌-◌, ◌++◌, inl, inr, ℕ, suc, true, false, List, ◌∷◌, length, take, Option, Result, Ok, Err, refl, sym, ap, ◌∙◌, arith, Bool, flat_map, Appends, Appends-nil, TakesBeginning, IsUnderWay, under_way_fails, under_way_more, DeviceLine, of_tick, Image, machine_module, Machine, fresh_machine, MachineControl, AreFrom, RunFault, Elapsed, Standing, elapse}
use Rattle.std.proofs.Common.{[], ◌*◌, ◌==◌, if◌then◌else◌, subst}
use Rattle.apex_types.proofs.Writing.{under_way_end, under_way_start}
use Rattle.std.proofs.lemmas.Bool.Decides.{Decides-eqb}
use Rattle.lone_partition.proofs.LinesOfTicks.{not_true, from_lower}
use Rattle.module.specs.States.{Every, First, Last, every, rows_of, spaced, state_before}
use Rattle.module.specs.Stating.{AreParted, IsBefore, IsFirst, IsPut, IsShown, text_before, texts_before, watches, watches_before}
use Rattle.module.specs.Written.{tick_of_line}
use Rattle.module.specs.declared.fault.RunFault.TheVariants as fault
use Rattle.module.proofs.Standing.{elapse_alike, elapse_more}
use Rattle.module.proofs.Stated.{elapsed_now}
use Rattle.state_rows.specs.Rows.{rows_in}
use Rattle.state_rows.specs.declared.row.Form.{Form}

-- ---- the machine

-- these lines are those of its next tick and of later ones
abbrev pub AreAlike : Machine → (lines devices : List DeviceLine) → Type 0
AreAlike m lines devices = (u : ℕ) → m.standing.now ≤ u → of_tick u lines ≡ of_tick u devices

pub before_first : (image : Image) (lines : List DeviceLine) (m : Machine) → m ≡ fresh_machine image → IsBefore image lines m
before_first image lines m fresh =
    let now : m.standing.now ≡ 0 = ap (λ (x : Machine). x.standing.now) fresh in
    ap (λ (x : Machine). x.standing) fresh ∙ ap (state_before image lines) (sym now)

-- k ticks later
pub later_state : (image : Image) (m : Machine) (lines devices : List DeviceLine) (k : ℕ) → m.image ≡ image → IsBefore image devices m → AreAlike m lines devices
    → (elapse (machine_module m.image).plan lines k m.standing).state ≡ state_before image devices (m.standing.now + k)
later_state image m lines devices k same before alike =
    let plan = (machine_module image).plan in
    ap (λ (i : Image). (elapse (machine_module i).plan lines k m.standing).state) same
    ∙ ap (λ (e : Elapsed MachineControl). e.state) (elapse_alike plan lines devices k m.standing (λ u above below. alike u above))
    ∙ ap (λ (s : Standing MachineControl). (elapse plan devices k s).state) before
    ∙ sym (ap (λ (e : Elapsed MachineControl). e.state) (elapse_more plan devices m.standing.now k (fresh_machine image).standing))

now_before : (image : Image) (lines : List DeviceLine) (n : ℕ) → (state_before image lines n).now ≡ n
now_before image lines n =
    let counted : (state_before image lines n).now ≡ 0 + n = elapsed_now (machine_module image).plan lines n (fresh_machine image).standing in
    counted ∙ omega arith

pub passed_to : (image : Image) (m next : Machine) (lines devices : List DeviceLine) (k : ℕ) → m.image ≡ image → IsBefore image devices m → AreAlike m lines devices
    → next.standing ≡ (elapse (machine_module m.image).plan lines k m.standing).state
    → (next.standing.now ≡ m.standing.now + k) × IsBefore image devices next
passed_to image m next lines devices k same before alike made =
    let is : next.standing ≡ state_before image devices (m.standing.now + k) = made ∙ later_state image m lines devices k same before alike in
    let now : next.standing.now ≡ m.standing.now + k = ap (λ (s : Standing MachineControl). s.now) is ∙ now_before image devices (m.standing.now + k) in
    (now, is ∙ ap (state_before image devices) (sym now))

-- the lines that are left then
pub alike_later : (m next : Machine) (lines later devices : List DeviceLine) (k : ℕ) → next.standing.now ≡ m.standing.now + k → AreAlike m lines devices
    → ((u : ℕ) → next.standing.now ≤ u → of_tick u later ≡ of_tick u lines) → AreAlike next later devices
alike_later m next lines later devices k now alike kept u above = kept u above ∙ alike u (omega (arith, now, above))

-- the rows that it writes now
pub rows_now : (form : Form) (only : Option ℕ) (image : Image) (devices : List DeviceLine) (m : Machine) → m.image ≡ image → IsBefore image devices m
    → rows_in form (rows_of only m.image m.standing.now m.standing) ≡ text_before form only image devices m.standing.now
rows_now form only image devices m same before =
    ap (λ (i : Image). rows_in form (rows_of only i m.standing.now m.standing)) same
    ∙ ap (λ (s : Standing MachineControl). rows_in form (rows_of only image m.standing.now s)) before

-- whether it has a row with these words
pub watched_now : (words : List (List ℕ)) (only : Option ℕ) (image : Image) (devices : List DeviceLine) (m : Machine) (found : Bool) → m.image ≡ image → IsBefore image devices m
    → found ≡ watches words only m.image m.standing → watches_before words only image devices m.standing.now ≡ found
watched_now words only image devices m found same before is =
    sym (is ∙ ap (λ (i : Image). watches words only i m.standing) same ∙ ap (watches words only image) before)

-- ---- device lines

-- one of an earlier tick is not among those of a tick
pub earlier_gone : (t : ℕ) (l : DeviceLine) (ls : List DeviceLine) → l.tick.0 < t → of_tick t ls ≡ of_tick t (l ∷ ls)
earlier_gone t l ls h =
    let other : (l.tick.0 == t) ≡ false = not_true (l.tick.0 == t) (λ e. let same : l.tick.0 ≡ t = (Decides-eqb l.tick.0 t).0 e in absurd (omega (arith, h, same))) in
    sym (ap (λ (b : Bool). if b then l ∷ of_tick t ls else of_tick t ls) other)

pub from_first : (t : ℕ) (ls : List DeviceLine) → AreFrom t ls → AreFrom 0 ls
from_first t ls order = let least : 0 ≤ t = omega arith in from_lower tick_of_line 0 t ls least order

-- ---- the text of several states

-- one more is out, and so many are still to come
pub one_more : (form : Form) (only : Option ℕ) (image : Image) (devices : List DeviceLine) (k t next left rest : ℕ) (old mid new : Option (List ℕ)) (text own : List ℕ) → left ≡ suc rest → next ≡ t + k
    → IsUnderWay old mid text (texts_before form only image devices (spaced k t left)) → own ≡ text_before form only image devices t → Appends mid new own
    → IsUnderWay old new text (texts_before form only image devices (spaced k next rest))
one_more form only image devices k t next left rest old mid new text own one later way is taken =
    let behind = texts_before form only image devices (spaced k (t + k) rest) in
    subst (λ (n : ℕ). IsUnderWay old new text (texts_before form only image devices (spaced k n rest))) (sym later)
    (under_way_more old mid new text own behind
    (subst (λ (bytes : List ℕ). IsUnderWay old mid text (bytes ++ behind)) (sym is) (subst (λ (n : ℕ). IsUnderWay old mid text (texts_before form only image devices (spaced k t n))) one way))
    taken)

-- the next one is not out, or only a beginning of it
by_fault : (old mid new : Option (List ℕ)) (text own rest : List ℕ) (f : RunFault) → IsUnderWay old mid text (own ++ rest) → IsPut own mid new (Err f) → AreParted text old new (Err f)
by_fault old mid new text own rest fault.Write way h = under_way_fails old mid new text own rest way h
by_fault old mid new text own rest fault.Memory way h =
    let none : 0 ≤ length own = omega arith in
    subst (λ (taken : Option (List ℕ)). TakesBeginning old taken text) (sym h) (under_way_fails old mid mid text own rest way (0, none, Appends-nil mid))
by_fault old mid new text own rest fault.Ticks way h = absurd h
by_fault old mid new text own rest (fault.Image f) way h = absurd h
by_fault old mid new text own rest fault.Partition way h = absurd h
by_fault old mid new text own rest (fault.Device f) way h = absurd h
by_fault old mid new text own rest fault.Failed way h = absurd h

pub none_more : (form : Form) (only : Option ℕ) (image : Image) (devices : List DeviceLine) (k t left rest : ℕ) (old mid new : Option (List ℕ)) (text own : List ℕ) (f : RunFault) (answer : Result Bool RunFault) → answer ≡ Err f → left ≡ suc rest
    → IsUnderWay old mid text (texts_before form only image devices (spaced k t left)) → own ≡ text_before form only image devices t → IsPut own mid new (Err f)
    → AreParted text old new answer
none_more form only image devices k t left rest old mid new text own f answer failed one way is broken =
    let behind = texts_before form only image devices (spaced k (t + k) rest) in
    subst (AreParted text old new) (sym failed)
    (by_fault old mid new text own behind f
    (subst (λ (bytes : List ℕ). IsUnderWay old mid text (bytes ++ behind)) (sym is) (subst (λ (n : ℕ). IsUnderWay old mid text (texts_before form only image devices (spaced k t n))) one way))
    broken)

-- all are out
pub all_out : (form : Form) (only : Option ℕ) (image : Image) (devices : List DeviceLine) (k t left : ℕ) (old new : Option (List ℕ)) (text : List ℕ) → left ≡ 0
    → IsUnderWay old new text (texts_before form only image devices (spaced k t left)) → Appends old new text
all_out form only image devices k t left old new text none way =
    under_way_end old new text (subst (λ (n : ℕ). IsUnderWay old new text (texts_before form only image devices (spaced k t n))) none way)

-- the ticks of one distance and of the others
pub one_distance : (left rest k : ℕ) → left ≡ suc rest → left * k ≡ k + rest * k
one_distance left rest k one = ap (λ (n : ℕ). n * k) one ∙ grind arith

-- ---- what is shown

pub shown_every : (form : Form) (only : Option ℕ) (image : Image) (devices : List DeviceLine) (k n : ℕ) (old new : Option (List ℕ)) (text : List ℕ) (answer : Result Bool RunFault) → text ≡ texts_before form only image devices (every k n)
    → AreParted text old new answer → IsShown (Every k) form only image devices n old new answer
shown_every form only image devices k n old new text (Ok found) is (all, taken) = (text, (all, is), taken)
shown_every form only image devices k n old new text (Err fault.Write) is part = (text, (refl, is), part)
shown_every form only image devices k n old new text (Err fault.Memory) is part = inr (tt, (text, (refl, is), part))
shown_every form only image devices k n old new text (Err fault.Ticks) is part = absurd part
shown_every form only image devices k n old new text (Err (fault.Image f)) is part = absurd part
shown_every form only image devices k n old new text (Err fault.Partition) is part = absurd part
shown_every form only image devices k n old new text (Err (fault.Device f)) is part = absurd part
shown_every form only image devices k n old new text (Err fault.Failed) is part = absurd part

-- of one state
pub broken_last : (form : Form) (only : Option ℕ) (image : Image) (devices : List DeviceLine) (n : ℕ) (old new : Option (List ℕ)) (text : List ℕ) (f : RunFault) (answer : Result Bool RunFault) → answer ≡ Err f → text ≡ text_before form only image devices n
    → IsPut text old new (Err f) → IsShown Last form only image devices n old new answer
broken_last form only image devices n old new text f answer failed is h = subst (IsShown Last form only image devices n old new) (sym failed) (go f h)
  where
    go : (f : RunFault) → IsPut text old new (Err f) → IsShown Last form only image devices n old new (Err f)
    go fault.Write h = (text, (refl, is), h)
    go fault.Memory h = inl h
    go fault.Ticks h = absurd h
    go (fault.Image f) h = absurd h
    go fault.Partition h = absurd h
    go (fault.Device f) h = absurd h
    go fault.Failed h = absurd h

pub broken_first : (words : List (List ℕ)) (form : Form) (only : Option ℕ) (image : Image) (devices : List DeviceLine) (n t : ℕ) (old new : Option (List ℕ)) (text : List ℕ) (f : RunFault) (answer : Result Bool RunFault) → answer ≡ Err f
    → IsFirst words only image devices n t true → text ≡ text_before form only image devices t → IsPut text old new (Err f) → IsShown (First words) form only image devices n old new answer
broken_first words form only image devices n t old new text f answer failed first is h = subst (IsShown (First words) form only image devices n old new) (sym failed) (go f h)
  where
    go : (f : RunFault) → IsPut text old new (Err f) → IsShown (First words) form only image devices n old new (Err f)
    go fault.Write h = (text, (t, first, is), h)
    go fault.Memory h = inl h
    go fault.Ticks h = absurd h
    go (fault.Image f) h = absurd h
    go fault.Partition h = absurd h
    go (fault.Device f) h = absurd h
    go fault.Failed h = absurd h

-- memory ran out before anything was taken
pub nothing_shown : (words : List (List ℕ)) (form : Form) (only : Option ℕ) (image : Image) (devices : List DeviceLine) (n : ℕ) (old : Option (List ℕ)) (f : RunFault) (answer : Result Bool RunFault) → answer ≡ Err f → f ≡ fault.Memory
    → IsShown (First words) form only image devices n old old answer
nothing_shown words form only image devices n old f answer failed lack = subst (IsShown (First words) form only image devices n old old) (sym (failed ∙ ap (λ (x : RunFault). Err x) lack)) (inl refl)
