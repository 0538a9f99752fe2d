-- The text of states, and why there is none.
use Rattle.module.proofs.Prelude.{◌≡◌, ◌≤◌, ◌<◌, ◌+◌, ◌++◌, inl, inr, ℕ, zero, suc, Bool, true, false, List, ◌∷◌, length, drop, Option, Some, None, Result, Ok, Err, refl, sym, ap, ◌∙◌, append-nil, append_assoc, arith, slice_get, none-some, same_Some, place_of_number, at_number, OnOk, DeviceFault, DeviceLine, Plan, of_tick, Image, Item, Fault, verdict_for, Member, MachineControl, MOST_TICKS, AreRefused, IsRun, Runs, RunFault, Standing, after, elapse, ticks}
use Rattle.std.proofs.Common.{[], subst}
use Rattle.module.specs.declared.fault.RunFault.TheVariants as fault
use Rattle.module.specs.States.{AreStateTexts, Every, First, HasRowAt, IsTextAt, LacksWanted, Last, Moments, States, Wanted, every, rows_of, rows_of_all, rows_of_both, state_before, watched_of}
use Rattle.module.specs.Stating.{AreFor, IsShown, IsShownText, text_before, texts_before, watches_before}
use Rattle.module.proofs.Runs.{device_refused}
use Rattle.std.proofs.lemmas.Grind.{flat_map-append}
use Rattle.state_rows.specs.Rows.{Row, row_in, rows_in}
use Rattle.state_rows.specs.States.{member_rows, members_rows}
use Rattle.state_rows.specs.declared.row.Form.{Form}

abbrev ok_image : Image → Result Image Fault
ok_image image = Ok image

-- ---- refusals

as_run : (read : Result Image Fault) (devices : List ℕ) (n : ℕ) (wanted : Wanted) (old : Option (List ℕ)) (v : Result (List DeviceLine) DeviceFault) (f : RunFault) → AreRefused v f → Runs read devices n old old (Err f) → States read devices n wanted old old (Err f)
as_run read devices n wanted old v (fault.Device f) h r = r
as_run read devices n wanted old v fault.Memory h r = inl r
as_run read devices n wanted old v fault.Ticks h r = r
as_run read devices n wanted old v (fault.Image f) h r = r
as_run read devices n wanted old v fault.Partition h r = absurd r
as_run read devices n wanted old v fault.Failed h r = absurd r
as_run read devices n wanted old (Ok lines) fault.Write h r = absurd h
as_run read devices n wanted old (Err g) fault.Write h r = absurd h

-- the device text is refused, or memory ran out
pub text_refused : (read : Result Image Fault) (loaded : Image) (devices : List ℕ) (n : ℕ) (wanted : Wanted) (old : Option (List ℕ)) (f : RunFault) → read ≡ ok_image loaded → n ≤ MOST_TICKS → AreRefused (verdict_for loaded devices) f
    → States read devices n wanted old old (Err f)
text_refused read loaded devices n wanted old f is few h = as_run read devices n wanted old (verdict_for loaded devices) f h (device_refused read loaded devices n old f is few h)

-- there is no partition of that name
pub none_found : (read : Result Image Fault) (loaded : Image) (devices : List ℕ) (n : ℕ) (wanted : Wanted) (old : Option (List ℕ)) (f : RunFault) → read ≡ ok_image loaded → n ≤ MOST_TICKS → f ≡ fault.Partition → LacksWanted (ok_image loaded) wanted.partition
    → States read devices n wanted old old (Err f)
none_found read loaded devices n wanted old f is few none lacks =
    subst (λ (g : RunFault). States read devices n wanted old old (Err g)) (sym none) (few, subst (λ (r : Result Image Fault). LacksWanted r wanted.partition) (sym is) lacks, refl)

-- ---- the text

all_texts : (wanted : Wanted) (only : Option ℕ) (image : Image) (lines : List DeviceLine) (ticks : List ℕ) (text : List ℕ) → AreFor image wanted.partition only → text ≡ texts_before wanted.form only image lines ticks
    → AreStateTexts wanted image lines ticks text
all_texts wanted only image lines [] text each is = is
all_texts wanted only image lines (t ∷ ticks) text each is = (
  text_before wanted.form only image lines t,
  texts_before wanted.form only image lines ticks,
  (rows_of only image t (state_before image lines t), (each [] t (state_before image lines t)).0, refl),
  all_texts wanted only image lines ticks (texts_before wanted.form only image lines ticks) each refl,
  is,
)

row_at : (wanted : Wanted) (only : Option ℕ) (image : Image) (lines : List DeviceLine) (words : List (List ℕ)) (t : ℕ) (found : Bool) → AreFor image wanted.partition only → watches_before words only image lines t ≡ found → HasRowAt wanted image lines words t found
row_at wanted only image lines words t found each is = (watched_of words only image (state_before image lines t), (each words t (state_before image lines t)).1, is)

wanted_text : (moments : Moments) (wanted : Wanted) (only : Option ℕ) (image : Image) (lines : List DeviceLine) (n : ℕ) (found : Bool) (text : List ℕ) → AreFor image wanted.partition only → IsShownText moments wanted.form only image lines n found text
    → IsTextAt moments wanted image lines n found text
wanted_text Last wanted only image lines n found text each (there, is) = (there, (rows_of only image n (state_before image lines n), (each [] n (state_before image lines n)).0, is))
wanted_text (Every k) wanted only image lines n found text each (there, is) = (there, all_texts wanted only image lines (every k n) text each is)
wanted_text (First words) wanted only image lines n true text each (t, first, is) = (
  t,
  first.0,
  row_at wanted only image lines words t true each first.1,
  λ u below. row_at wanted only image lines words u false each (first.2 u below),
  (rows_of only image t (state_before image lines t), (each [] t (state_before image lines t)).0, is),
)
wanted_text (First words) wanted only image lines n false text each (none, is) = (λ u within. row_at wanted only image lines words u false each (none 0 u within), is)

-- the wanted states
pub shown_states : (read : Result Image Fault) (loaded : Image) (devices : List ℕ) (lines : List DeviceLine) (n : ℕ) (wanted : Wanted) (only : Option ℕ) (old new : Option (List ℕ)) (answer : Result Bool RunFault) → read ≡ ok_image loaded → verdict_for loaded devices ≡ Ok lines
    → n ≤ MOST_TICKS → AreFor loaded wanted.partition only → IsShown wanted.moments wanted.form only loaded lines n old new answer → States read devices n wanted old new answer
shown_states read loaded devices lines n wanted only old new answer is taken few each h = go answer h
  where
    run : IsRun read devices n loaded lines
    run = record { loaded = is; taken = taken; few = few }

    go : (answer : Result Bool RunFault) → IsShown wanted.moments wanted.form only loaded lines n old new answer → States read devices n wanted old new answer
    go (Ok found) (text, shown, all) = (loaded, lines, run, text, wanted_text wanted.moments wanted only loaded lines n found text each shown, all)
    go (Err fault.Write) (text, shown, part) = (loaded, lines, run, text, wanted_text wanted.moments wanted only loaded lines n true text each shown, part)
    go (Err fault.Memory) (inl kept) = inl kept
    go (Err fault.Memory) (inr (several, (text, shown, part))) = inr (several, (loaded, lines, run, text, wanted_text wanted.moments wanted only loaded lines n true text each shown, part))
    go (Err fault.Ticks) h = absurd h
    go (Err (fault.Image f)) h = absurd h
    go (Err fault.Partition) h = absurd h
    go (Err (fault.Device f)) h = absurd h
    go (Err fault.Failed) h = absurd h

-- ticks go by, whatever happens in them
pub elapsed_now : {C : Type 0} (plan : Plan) (lines : List DeviceLine) (n : ℕ) (s : Standing C) → (elapse plan lines n s).state.now ≡ s.now + n
elapsed_now plan lines zero s = omega arith
elapsed_now plan lines (suc n) s =
    let own = ticks plan (of_tick s.now lines) s in
    let on : (elapse plan lines n (after s own)).state.now ≡ s.now + 1 + n = elapsed_now plan lines n (after s own) in
    omega (arith, on)

-- ---- partition by partition

no_members : (rows : Item → Member MachineControl → List Row) (items : List Item) → rows_of_all rows items [] ≡ []
no_members rows [] = refl
no_members rows (i ∷ is) = refl

no_member : (rows : Item → Member MachineControl → List Row) (i : Option Item) → rows_of_both rows i None ≡ []
no_member rows None = refl
no_member rows (Some i) = refl

-- the rows of all partitions, with all of each
pub all_rows : (items : List Item) (members : List (Member MachineControl)) → rows_of_all member_rows items members ≡ members_rows items members
all_rows [] members = refl
all_rows (i ∷ is) [] = refl
all_rows (i ∷ is) (x ∷ xs) = ap (λ (rows : List Row). member_rows i x ++ rows) (all_rows is xs)

-- a partition without an item, or without a member
pub no_item_rows : (rows : Item → Member MachineControl → List Row) (i : Option Item) (x : Option (Member MachineControl)) → i ≡ None → rows_of_both rows i x ≡ []
no_item_rows rows None x e = refl
no_item_rows rows (Some i) x e = absurd cc

pub no_member_rows : (rows : Item → Member MachineControl → List Row) (i : Option Item) (x : Option (Member MachineControl)) → x ≡ None → rows_of_both rows i x ≡ []
no_member_rows rows i None e = no_member rows i
no_member_rows rows i (Some x) e = absurd cc

none_left : (rows : Item → Member MachineControl → List Row) (items : List Item) (place k : ℕ) → rows_of_all rows (drop place items) [] ≡ rows_of_both rows (slice_get items place) None ++ rows_of_all rows (drop k items) []
none_left rows items place k =
    no_members rows (drop place items) ∙ sym (ap (λ (rs : List Row). rs ++ rows_of_all rows (drop k items) []) (no_member rows (slice_get items place)) ∙ no_members rows (drop k items))

one_step : (rows : Item → Member MachineControl → List Row) (items : List Item) (members : List (Member MachineControl)) (place : ℕ) → place < length items
    → rows_of_all rows (drop place items) (drop place members)
    ≡ rows_of_both rows (slice_get items place) (slice_get members place) ++ rows_of_all rows (drop (suc place) items) (drop (suc place) members)
one_step rows [] members place h = absurd (omega (arith, h))
one_step rows (i ∷ items) [] zero h = sym (no_members rows items)
one_step rows (i ∷ items) (x ∷ members) zero h = refl
one_step rows (i ∷ items) [] (suc place) h = none_left rows items place (suc place)
one_step rows (i ∷ items) (x ∷ members) (suc place) h = one_step rows items members place (omega (arith, h))

-- one more partition
one_more : (rows : Item → Member MachineControl → List Row) (items : List Item) (members : List (Member MachineControl)) (place : ℕ) → place < length items
    → rows_of_all rows (drop place items) (drop place members)
    ≡ rows_of_both rows (slice_get items place) (slice_get members place) ++ rows_of_all rows (drop (place + 1) items) (drop (place + 1) members)
one_more rows items members place h =
    let next : suc place ≡ place + 1 = omega arith in
    one_step rows items members place h
    ∙ ap (λ k. rows_of_both rows (slice_get items place) (slice_get members place) ++ rows_of_all rows (drop k items) (drop k members)) next

all_done : (rows : Item → Member MachineControl → List Row) (items : List Item) (members : List (Member MachineControl)) (place : ℕ) → length items ≤ place → rows_of_all rows (drop place items) (drop place members) ≡ []
all_done rows [] members zero h = refl
all_done rows [] members (suc place) h = refl
all_done rows (i ∷ items) members zero h = absurd (omega (arith, h))
all_done rows (i ∷ items) [] (suc place) h = no_members rows (drop place items)
all_done rows (i ∷ items) (x ∷ members) (suc place) h = all_done rows items members place (omega (arith, h))

-- the text with one more partition
pub written_more : (rows : Item → Member MachineControl → List Row) (form : Form) (items : List Item) (members : List (Member MachineControl)) (place : ℕ) (old new whole : List ℕ) → place < length items
    → new ≡ old ++ rows_in form (rows_of_both rows (slice_get items place) (slice_get members place))
    → old ++ rows_in form (rows_of_all rows (drop place items) (drop place members)) ≡ whole
    → new ++ rows_in form (rows_of_all rows (drop (place + 1) items) (drop (place + 1) members)) ≡ whole
written_more rows form items members place old new whole within is so_far =
    let own = rows_of_both rows (slice_get items place) (slice_get members place) in
    let rest = rows_of_all rows (drop (place + 1) items) (drop (place + 1) members) in
    ap (λ (bytes : List ℕ). bytes ++ rows_in form rest) is
    ∙ append_assoc old (rows_in form own) (rows_in form rest)
    ∙ ap (λ (bytes : List ℕ). old ++ bytes) (sym (flat_map-append (row_in form) own rest))
    ∙ ap (λ (rs : List Row). old ++ rows_in form rs) (sym (one_more rows items members place within))
    ∙ so_far

pub written_all : (rows : Item → Member MachineControl → List Row) (form : Form) (items : List Item) (members : List (Member MachineControl)) (place : ℕ) (old whole : List ℕ) → length items ≤ place
    → old ++ rows_in form (rows_of_all rows (drop place items) (drop place members)) ≡ whole → old ≡ whole
written_all rows form items members place old whole done so_far =
    sym (append-nil old) ∙ sym (ap (λ (rs : List Row). old ++ rows_in form rs) (all_done rows items members place done)) ∙ so_far

-- ---- rows after rows

pub both_written : {E : Type 0} (form : Form) (a b : List Row) (old mid new : List ℕ) (answer : Result (Unit {0}) E) → mid ≡ old ++ rows_in form a → OnOk answer (new ≡ mid ++ rows_in form b) → OnOk answer (new ≡ old ++ rows_in form (a ++ b))
both_written form a b old mid new (Err e) first second = tt
both_written form a b old mid new (Ok x) first second =
    second ∙ ap (λ (bytes : List ℕ). bytes ++ rows_in form b) first ∙ append_assoc old (rows_in form a) (rows_in form b) ∙ ap (λ (bytes : List ℕ). old ++ bytes) (sym (flat_map-append (row_in form) a b))

pub none_written : (form : Form) (rows : List Row) (old : List ℕ) → rows ≡ [] → old ≡ old ++ rows_in form rows
none_written form rows old none = sym (append-nil old) ∙ sym (ap (λ (rs : List Row). old ++ rows_in form rs) none)

-- what has a number
pub at_place : {A : Type 0} (xs : List A) (n place : ℕ) → Some place ≡ place_of_number n → at_number xs n ≡ slice_get xs place
at_place xs zero place e = absurd (none-some place (sym e))
at_place xs (suc m) place e = ap (slice_get xs) (sym (same_Some place m e))

pub at_no_place : {A : Type 0} (xs : List A) (n : ℕ) → None ≡ place_of_number n → at_number xs n ≡ None
at_no_place xs zero e = refl
at_no_place xs (suc m) e = absurd (none-some m e)
