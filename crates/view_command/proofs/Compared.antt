-- Two traces that are read side by side.
use Rattle.std.proofs.Common.{◌≡◌, ◌⊎◌, inl, inr, length, Result, Ok, Err, ℕ, ◌+◌, ◌-◌, ◌^◌, ◌<◌, ◌≤◌, Bool, true, false, List, [], ◌∷◌, ◌++◌, Option, Some, None, IfSome, refl, sym, ap, subst, ◌∙◌, arith, cond}
use Rattle.std.specs.Prelude.{nat_lt, IfErr, IsErr, IsErrAnd}
use Rattle.std.proofs.lemmas.List.{append_cancel_left}
use Rattle.std.proofs.lemmas.Bool.{ltb-false, ltb-true}
use Rattle.std.specs.Io.KnownBytes.{IsAtEnd, prepend_known}
use Rattle.std.specs.declared.alloc.Global.{Global}
use Rattle.std.specs.declared.string.String.{String}
use Rattle.apex_types.specs.Line.{partition_text}
use Rattle.apex_types.specs.declared.event.Event.{Event}
use Rattle.streams.specs.Contents.{Contents, Opens}
use Rattle.trace_lines.specs.Comparisons.{AreDifferences, AreParts, told_of}
use Rattle.trace_lines.specs.Parts.{AreOther, IsFirst, IsJudged, first_line, first_with, part, second_with}
use Rattle.trace_lines.specs.declared.part.Difference.{Difference}
use Rattle.trace_lines.specs.declared.rest.Rest.{Rest}
use Rattle.trace_lines.specs.declared.part.Part.{Part}
use Rattle.trace_lines.specs.declared.side.Side.{Side}
use Rattle.trace_lines.specs.declared.side.Side.TheVariants as side
use Rattle.trace_lines.proofs.Comparisons.{first_kept, first_left, later_parts, partition_itself, second_kept, second_left}
use Rattle.trace_lines.specs.Filters.{is_word}
use Rattle.trace_text.specs.Trace.{IsReadAs}
use Rattle.apex_types.specs.declared.identity.Ticks.{Ticks}
use Rattle.trace_text.specs.Stream.{NextIn, ahead_bytes, left, next_number}
use Rattle.trace_text.specs.declared.stream.TraceStream.{TraceStream}
use Rattle.std.proofs.lemmas.Option.{same_Some}
use Rattle.trace_text.proofs.SoFar.{IsReadSoFar, read_as, read_on}
use Rattle.view_command.specs.Answers.{IsRefused, IsUnread}
use Rattle.view_command.specs.Lines.{called}
use Rattle.view_command.specs.States.{IsUntouched, State}
use Rattle.view_command.specs.Texts.{AreInRun, IsLateIn, IsLateLine, IsRefusedIn, IsRefusedLine, IsTraceIn}
use Rattle.view_command.specs.declared.refusal.Refusal.{Refusal}
use Rattle.view_command.specs.declared.refusal.Refusal.TheVariants.{Open, Read, Line, Late, TooMany, Crowded, Table, NoRow, Foreign, Unknown, Memory, Write}
use Rattle.view_command.specs.declared.views.Outcome.{Outcome}
use Rattle.view_command.specs.declared.views.Outcome.TheVariants.{Shown, Found}
use Rattle.view_command.specs.Compared.{AreToldBy, AreToldIn, IsInOrder, IsTextOf, asked, first_behind, second_behind, tick_behind}
use Rattle.view_command.specs.Differences.{earlier}
use Rattle.view_command.proofs.SoFar.{IsSoFar, next_is}

-- ---- one line

-- a line that is asked for
pub one_asked : (ps new : List Part) (p : Option (String Global)) (s : Side) (e : Event) (now : ℕ) (a b : List Event) → is_word p (partition_text e.partition) ≡ true
    → ((now : ℕ) (a b : List Event) → AreParts ps now a b → now ≤ e.tick.0 → AreParts new e.tick.0 (first_with s e a) (second_with s e b))
    → AreParts ps now (asked p a) (asked p b) → now ≤ e.tick.0 → AreParts new e.tick.0 (asked p (first_with s e a)) (asked p (second_with s e b))
one_asked ps new p s e now a b is adds h order =
    let f = λ (v : Event). is_word p (partition_text v.partition) in
    subst (λ (v : List Event). AreParts new e.tick.0 v (asked p (second_with s e b))) (sym (first_kept f s e a is))
    (subst (λ (v : List Event). AreParts new e.tick.0 (first_with s e (asked p a)) v) (sym (second_kept f s e b is)) (adds now (asked p a) (asked p b) h order))

-- and one that is not
pub one_other : (ps : List Part) (p : Option (String Global)) (s : Side) (e : Event) (now : ℕ) (a b : List Event) → is_word p (partition_text e.partition) ≡ false
    → AreParts ps now (asked p a) (asked p b) → now ≤ e.tick.0 → AreParts ps e.tick.0 (asked p (first_with s e a)) (asked p (second_with s e b))
one_other ps p s e now a b is h order =
    let f = λ (v : Event). is_word p (partition_text v.partition) in
    subst (λ (v : List Event). AreParts ps e.tick.0 v (asked p (second_with s e b))) (sym (first_left f s e a is))
    (subst (λ (v : List Event). AreParts ps e.tick.0 (asked p a) v) (sym (second_left f s e b is)) (later_parts ps now e.tick.0 (asked p a) (asked p b) order h))

-- ---- a text, with its next line

-- these lines were read, and no others
abbrev pub IsReadAll : Option (List ℕ) → ℕ → ℕ → Option (List ℕ) → List Event → Type 0
IsReadAll None before lines left fed = Unit {0}
IsReadAll (Some text) before lines None fed = ⊥
IsReadAll (Some text) before lines (Some left) fed = (so : IsReadSoFar text before lines left) × (so.read ≡ fed)

-- these lines were compared, and the next one was read; or these are all
abbrev pub IsFed : Option (List ℕ) → ℕ → ℕ → Option (List ℕ) → Option Event → List Event → Type 0
IsFed text before lines left None fed = IsTextOf text fed
IsFed text before lines left (Some e) fed = IsReadAll text before lines left (fed ++ e ∷ [])

pub all_to_come : (text left : Option (List ℕ)) (before lines : ℕ) → left ≡ text → before ≡ 0 → lines ≡ 0 → IsReadAll text before lines left []
all_to_come None left before lines same b l = tt
all_to_come (Some text) left before lines same b l = rw (same, b, l) (record { read = []; parts = refl; trace = tt; last = refl; count = refl }, refl)

-- the next line is read
pub fed_next : (text left rest : Option (List ℕ)) (before lines tick count : ℕ) (next : Option Event) (fed : List Event) → lines < 2 ^ 64 - 1 → IsReadAll text before lines left fed
    → IfSome next (λ e. NextIn before left e rest) → IfSome next (λ e. (tick ≡ e.tick.0) × (count ≡ next_number lines)) → (None ≡ next → IsAtEnd left) → IsFed text tick count rest next fed
fed_next None left rest before lines tick count None fed low so next noted done = tt
fed_next None left rest before lines tick count (Some e) fed low so next noted done = tt
fed_next (Some text) None rest before lines tick count next fed low so is noted done = absurd so
fed_next (Some text) (Some left) rest before lines tick count None fed low so next noted done = subst (λ (v : List Event). IsReadAs text v) so.1 (read_as text before lines left so.0 (done refl))
fed_next (Some text) (Some left) None before lines tick count (Some e) fed low so next noted done = absurd next
fed_next (Some text) (Some left) (Some rest) before lines tick count (Some e) fed low so next noted done =
    let on = read_on text before lines left e rest so.0 next in
    let it : IsReadAll (Some text) e.tick.0 (lines + 1) (Some rest) (fed ++ e ∷ []) = (on.0, on.1 ∙ ap (λ (v : List Event). v ++ e ∷ []) so.1) in
    subst (λ t. IsReadAll (Some text) t count (Some rest) (fed ++ e ∷ [])) (sym noted.0)
    (subst (λ n. IsReadAll (Some text) e.tick.0 n (Some rest) (fed ++ e ∷ [])) (sym (noted.1 ∙ next_is lines low)) it)

pub so_far : (text left : Option (List ℕ)) (before lines : ℕ) (fed : List Event) → IsReadAll text before lines left fed → IsSoFar text before lines left
so_far None left before lines fed so = tt
so_far (Some text) None before lines fed so = absurd so
so_far (Some text) (Some left) before lines fed so = so.0

-- ---- the order of both

abbrev pub IsLastOf : Option Event → ℕ → Type 0
IsLastOf None before = Unit {0}
IsLastOf (Some e) before = before ≡ e.tick.0

-- one of the two texts between two turns
pub record IsBetween (text left : Option (List ℕ)) (before lines counter : ℕ) (next : Option Event) (now : ℕ) (fed : List Event) : Type 0 where
  pub is_fed : IsFed text before lines left next fed
  pub in_order : IsInOrder now next
  pub last : IsLastOf next before
  pub few : lines ≤ counter + 1

pub first_turn : (line other_line : Option Event) → Some side.First ≡ earlier line other_line → (e : Event) × (line ≡ Some e) × IsInOrder e.tick.0 other_line
first_turn None None h = cc
first_turn None (Some o) h = cc
first_turn (Some e) None h = (e, refl, tt)
first_turn (Some e) (Some o) h = go (nat_lt o.tick.0 e.tick.0) refl h
  where
    go : (b : Bool) → b ≡ nat_lt o.tick.0 e.tick.0 → Some side.First ≡ cond b (Some side.Second) (Some side.First) → (v : Event) × (Some e ≡ Some v) × IsInOrder v.tick.0 (Some o)
    go true is h = cc
    go false is h = (e, refl, omega (arith, ltb-false o.tick.0 e.tick.0 (sym is)))

pub second_turn : (line other_line : Option Event) → Some side.Second ≡ earlier line other_line → (e : Event) × (other_line ≡ Some e) × IsInOrder e.tick.0 line
second_turn None None h = cc
second_turn None (Some o) h = (o, refl, tt)
second_turn (Some e) None h = cc
second_turn (Some e) (Some o) h = go (nat_lt o.tick.0 e.tick.0) refl h
  where
    go : (b : Bool) → b ≡ nat_lt o.tick.0 e.tick.0 → Some side.Second ≡ cond b (Some side.Second) (Some side.First) → (v : Event) × (Some o ≡ Some v) × IsInOrder v.tick.0 (Some e)
    go true is h = (o, refl, omega (arith, ltb-true o.tick.0 e.tick.0 (sym is)))
    go false is h = cc

pub no_turn : (line other_line : Option Event) → None ≡ earlier line other_line → (line ≡ None) × (other_line ≡ None)
no_turn None None h = (refl, refl)
no_turn None (Some o) h = cc
no_turn (Some e) None h = cc
no_turn (Some e) (Some o) h = go (nat_lt o.tick.0 e.tick.0) h
  where
    go : (b : Bool) → None ≡ cond b (Some side.Second) (Some side.First) → (Some e ≡ None) × (Some o ≡ None)
    go true h = cc
    go false h = cc

-- the text whose line was compared
pub between_next : (text left rest : Option (List ℕ)) (before lines counter tick count : ℕ) (next : Option Event) (e : Event) (now : ℕ) (fed : List Event) → counter < 2 ^ 64 - 2 → IsBetween text left before lines counter (Some e) now fed
    → IfSome next (λ n. NextIn before left n rest) → IfSome next (λ n. (tick ≡ n.tick.0) × (count ≡ next_number lines)) → (None ≡ next → IsAtEnd left) → (None ≡ next → count ≡ lines) → IfSome next (λ n. before ≤ n.tick.0)
    → IsBetween text rest tick count (counter + 1) next e.tick.0 (fed ++ e ∷ [])
between_next text left rest before lines counter tick count next e now fed low h is noted done stays order = record {
  is_fed = fed_next text left rest before lines tick count next (fed ++ e ∷ []) below h.is_fed is noted done;
  in_order = in_order next order;
  last = last next noted;
  few = few next noted stays;
}
  where
    below : lines < 2 ^ 64 - 1
    below = omega (arith, low, h.few)

    in_order : (o : Option Event) → IfSome o (λ n. before ≤ n.tick.0) → IsInOrder e.tick.0 o
    in_order None order = tt
    in_order (Some n) order = omega (arith, h.last, order)

    last : (o : Option Event) → IfSome o (λ n. (tick ≡ n.tick.0) × (count ≡ next_number lines)) → IsLastOf o tick
    last None noted = tt
    last (Some n) noted = noted.0

    few : (o : Option Event) → IfSome o (λ n. (tick ≡ n.tick.0) × (count ≡ next_number lines)) → (None ≡ o → count ≡ lines) → count ≤ counter + 1 + 1
    few None noted stays = omega (arith, h.few, stays refl)
    few (Some n) noted stays = omega (arith, h.few, noted.1 ∙ next_is lines below)

-- and the other one
pub between_waits : (text left : Option (List ℕ)) (before lines counter : ℕ) (next : Option Event) (now then : ℕ) (fed : List Event) → IsBetween text left before lines counter next now fed → IsInOrder then next → IsBetween text left before lines (counter + 1) next then fed
between_waits text left before lines counter next now then fed h order = record { is_fed = h.is_fed; in_order = order; last = h.last; few = omega (arith, h.few) }

-- ---- what a stream returns

-- before anything is read, all is left
pub at_start : {R : Type 0} (remaining : R → Option (List ℕ)) (s : TraceStream R) (reader : R) → s.reader ≡ reader → ahead_bytes s.ahead ≡ [] → left remaining s ≡ remaining reader
at_start remaining s reader same none =
    ap (λ (b : List ℕ). prepend_known b (remaining s.reader)) none ∙ nothing_ahead (remaining s.reader) ∙ ap remaining same
  where
    nothing_ahead : (o : Option (List ℕ)) → prepend_known [] o ≡ o
    nothing_ahead None = refl
    nothing_ahead (Some t) = refl

pub noted_ticks : (o : Option Event) (before : Ticks) (count number : ℕ) → IfSome o (λ e. (before ≡ e.tick) × (count ≡ number)) → IfSome o (λ e. (before.0 ≡ e.tick.0) × (count ≡ number))
noted_ticks None before count number h = tt
noted_ticks (Some e) before count number h = (ap (λ (t : Ticks). t.0) h.0, h.1)

pub in_line : (o : Option Event) (P : Event → Type 0) (before : ℕ) → IfSome o (λ e. P e × (before ≤ e.tick.0)) → IfSome o (λ e. before ≤ e.tick.0)
in_line None P before h = tt
in_line (Some e) P before h = h.1

-- the first line of a text was read
pub between_start : (text left rest : Option (List ℕ)) (before lines tick count : ℕ) (next : Option Event) → left ≡ text → before ≡ 0 → lines ≡ 0
    → IfSome next (λ n. NextIn before left n rest) → IfSome next (λ n. (tick ≡ n.tick.0) × (count ≡ next_number lines)) → (None ≡ next → IsAtEnd left) → (None ≡ next → count ≡ lines)
    → IsBetween text rest tick count 0 next 0 []
between_start text left rest before lines tick count next same b l is noted done stays = record {
  is_fed = fed_next text left rest before lines tick count next [] below (all_to_come text left before lines same b l) is noted done;
  in_order = in_order next;
  last = last next noted;
  few = few next noted stays;
}
  where
    below : lines < 2 ^ 64 - 1
    below = omega (arith, l)

    in_order : (o : Option Event) → IsInOrder 0 o
    in_order None = tt
    in_order (Some n) = omega arith

    last : (o : Option Event) → IfSome o (λ n. (tick ≡ n.tick.0) × (count ≡ next_number lines)) → IsLastOf o tick
    last None noted = tt
    last (Some n) noted = noted.0

    few : (o : Option Event) → IfSome o (λ n. (tick ≡ n.tick.0) × (count ≡ next_number lines)) → (None ≡ o → count ≡ lines) → count ≤ 0 + 1
    few None noted stays = omega (arith, l, stays refl)
    few (Some n) noted stays = omega (arith, l, noted.1 ∙ next_is lines below)

-- ---- a line that was taken

-- what taking a line promises
abbrev pub Takes : Option (String Global) → List Part → List Part → Side → Option Event → Type 0
Takes p old new s line =
    (now : ℕ) (a b : List Event) → AreParts old now (asked p a) (asked p b) → IsInOrder now line
    → AreParts new (tick_behind now line) (asked p (first_behind s line a)) (asked p (second_behind s line b))

pub first_taken : (p : Option (String Global)) (old new : List Part) (line : Option Event) (e : Event) (now : ℕ) (a b : List Event) → line ≡ Some e → Takes p old new side.First line → IsInOrder now line
    → AreParts old now (asked p a) (asked p b) → AreParts new e.tick.0 (asked p (a ++ e ∷ [])) (asked p b)
first_taken p old new None e now a b is takes order h = absurd cc
first_taken p old new (Some x) e now a b is takes order h =
    subst (λ (v : Event). AreParts new v.tick.0 (asked p (a ++ v ∷ [])) (asked p b)) (same_Some x e is) (takes now a b h order)

pub second_taken : (p : Option (String Global)) (old new : List Part) (line : Option Event) (e : Event) (now : ℕ) (a b : List Event) → line ≡ Some e → Takes p old new side.Second line → IsInOrder now line
    → AreParts old now (asked p a) (asked p b) → AreParts new e.tick.0 (asked p a) (asked p (b ++ e ∷ []))
second_taken p old new None e now a b is takes order h = absurd cc
second_taken p old new (Some x) e now a b is takes order h =
    subst (λ (v : Event). AreParts new v.tick.0 (asked p a) (asked p (b ++ v ∷ []))) (same_Some x e is) (takes now a b h order)

-- ---- between two turns

-- both texts between two turns, and what was compared of them
abbrev pub AreBetween : (text other left other_left : Option (List ℕ)) (p : Option (String Global)) (initial parts : List Part) (before lines other_before other_lines counter : ℕ) (line other_line : Option Event) → Type 0
AreBetween text other left other_left p initial parts before lines other_before other_lines counter line other_line =
    (a : List Event) × ((b : List Event) × ((now : ℕ) × (
    (AreParts initial 0 [] [] → AreParts parts now (asked p a) (asked p b))
    × IsBetween text left before lines counter line now a
    × IsBetween other other_left other_before other_lines counter other_line now b)))

-- ---- what is reported

-- where lines differ first, they are not the same
differ : (before : List Event) (x y : Rest) (a b : List Event) → IsFirst before x y a b → a ≡ b → ⊥
differ before x y a b is same =
    let rests : is.first ≡ is.second = append_cancel_left is.both is.first is.second (sym is.first_part ∙ same ∙ is.second_part) in
    let lines : x.line ≡ y.line = is.first_rest.first ∙ ap first_line rests ∙ sym is.second_rest.first in
    not_other y.line (subst (λ (o : Option Event). AreOther o y.line) lines is.differ)
  where
    not_other : (o : Option Event) → AreOther o o → ⊥
    not_other None h = h
    not_other (Some e) h = h refl

-- nothing is reported: the lines are the same
pub told_none : (found : List Difference) (p : Option (String Global)) (a b : List Event) → AreDifferences found (asked p a) (asked p b) → length found ≡ 0 → AreToldBy Shown p a b
told_none [] p a b are none = λ q. are q
told_none (d ∷ ds) p a b are none = absurd cc

-- something is reported: there is a partition with other lines
pub told_some : (found : List Difference) (p : Option (String Global)) (a b : List Event) → AreDifferences found (asked p a) (asked p b) → (length found ≡ 0 → ⊥) → AreToldBy Found p a b
told_some [] p a b are some = absurd (some refl)
told_some (d ∷ ds) p a b are some =
    let told : told_of d.partition (d ∷ ds) ≡ Some d = rw (partition_itself d.partition) refl in
    (d.partition, differ d.before.items d.first d.second _ _ (subst (λ (v : Option Difference). IsJudged v (part d.partition (asked p a)) (part d.partition (asked p b))) told (are d.partition)))

-- each tick is one of a run of which it is not known how many it had
in_any_run : (events : List Event) → AreInRun None events
in_any_run [] = tt
in_any_run (e ∷ es) = (refl, in_any_run es)

-- the trace of a name, of the text that its reader has
pub trace_in : (texts : Option Contents) (name : List ℕ) (text : Option (List ℕ)) (events : List Event) → Opens texts name text → IsTextOf text events → IsTraceIn texts None name
trace_in None name text events opens is = tt
trace_in (Some files) name None events opens is = absurd opens
trace_in (Some files) name (Some bytes) events opens is = (bytes, opens, events, is, in_any_run events)

pub told_in : (texts : Option Contents) (name other : List ℕ) (text other_text : Option (List ℕ)) (p : Option (String Global)) (o : Outcome) (a b : List Event) → Opens texts name text → Opens texts other other_text
    → IsTextOf text a → IsTextOf other_text b → AreToldBy o p a b → AreToldIn texts name other p o
told_in None name other text other_text p o a b one two is is_other told = tt
told_in (Some files) name other None other_text p o a b one two is is_other told = absurd one
told_in (Some files) name other (Some bytes) None p o a b one two is is_other told = absurd two
told_in (Some files) name other (Some bytes) (Some other_bytes) p o a b one two is is_other told =
    (a, (b, (bytes, (one, is)), (other_bytes, (two, is_other)), told))

-- a text that is not read, or not taken, changes nothing
pub unread_in : (texts : Option Contents) (ran : Option ℕ) (name shown : List ℕ) (text : Option (List ℕ)) (before after : State) (r : Refusal) → Opens texts name text → shown ≡ called name → IsUntouched before after → IsUnread text ran shown r → IsRefused texts ran name before after r
unread_in texts ran name shown text before after (Open s) opens is same h = absurd h
unread_in texts ran name shown text before after (Read s) opens is same h = (same, h ∙ is)
unread_in texts ran name shown text before after (Line number s) opens is same h = (same, h.0 ∙ is, refused_in texts name text number opens h.1)
  where
    refused_in : (texts : Option Contents) (name : List ℕ) (text : Option (List ℕ)) (number : ℕ) → Opens texts name text → IsRefusedLine text number → IsRefusedIn texts name number
    refused_in None name text number opens h = tt
    refused_in (Some files) name None number opens h = absurd opens
    refused_in (Some files) name (Some bytes) number opens h = (bytes, opens, h)
unread_in texts ran name shown text before after (Late number s) opens is same h = (same, h.0 ∙ is, late_in texts name text opens h.1)
  where
    late_in : (texts : Option Contents) (name : List ℕ) (text : Option (List ℕ)) → Opens texts name text → IsLateLine text ran number → IsLateIn texts ran name number
    late_in None name text opens h = tt
    late_in (Some files) name None opens h = absurd opens
    late_in (Some files) name (Some bytes) opens h = (bytes, opens, h)
unread_in texts ran name shown text before after TooMany opens is same h = same
unread_in texts ran name shown text before after (Crowded shapes from until elements) opens is same h = same
unread_in texts ran name shown text before after (Table fault s) opens is same h = absurd h
unread_in texts ran name shown text before after (NoRow number s) opens is same h = absurd h
unread_in texts ran name shown text before after (Foreign partition) opens is same h = same
unread_in texts ran name shown text before after (Unknown line) opens is same h = same
unread_in texts ran name shown text before after Memory opens is same h = same
unread_in texts ran name shown text before after Write opens is same h = absurd h

-- one of two texts is not read
pub unread_of_both : {A : Type 0} (texts : Option Contents) (ran : Option ℕ) (name other shown other_shown : List ℕ) (text other_text : Option (List ℕ)) (before after : State) (r : Refusal) (answer : Result A Refusal)
    → Opens texts name text → Opens texts other other_text → shown ≡ called name → other_shown ≡ called other → IsUntouched before after
    → IsUnread text ran shown r ⊎ IsUnread other_text ran other_shown r → IsErr answer × IsErrAnd answer (λ e. e ≡ r)
    → IfErr answer (λ e. IsRefused texts ran name before after e ⊎ IsRefused texts ran other before after e)
unread_of_both texts ran name other shown other_shown text other_text before after r (Ok x) one two is is_other same h passed = tt
unread_of_both texts ran name other shown other_shown text other_text before after r (Err e) one two is is_other same h passed =
    subst (λ (v : Refusal). IsRefused texts ran name before after v ⊎ IsRefused texts ran other before after v) (sym passed.1) (go h)
  where
    go : IsUnread text ran shown r ⊎ IsUnread other_text ran other_shown r → IsRefused texts ran name before after r ⊎ IsRefused texts ran other before after r
    go (inl u) = inl (unread_in texts ran name shown text before after r one is same u)
    go (inr u) = inr (unread_in texts ran other other_shown other_text before after r two is_other same u)
