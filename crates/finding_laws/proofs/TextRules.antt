-- The lines of a text, one after another: each is refused by the rule that what is found in it breaks.
use Rattle.finding_laws.proofs.Prelude.{◌≡◌, ℕ, ◌+◌, ℤ, Bool, cond, ◌∷◌, Option, Some, Result, Ok, Err, codes, subst, ◌∙◌, nat_le, nat_lt, same_Some, space, DeviceFault, MOST_TICKS, PortRow, Message, ModuleFault, PartitionFault, Written, WrittenLine, is_room, line_with, piece, pieces, pieces_behind_marks, plain_number, line_by, written_by, form_wrong, or_else, Names, Receiver, mark_of, Part, parts, total, rule_in}
use Rattle.std.proofs.Common.{true, false, List, [], None, length, refl, sym, ap, map}
use Rattle.std.specs.Prelude.{◌&&◌, ◌||◌}
use Rattle.apex_types.specs.declared.device.DeviceFault.TheVariants as fault
use Rattle.apex_types.specs.declared.device.DeviceInput.{DeviceInput}
use Rattle.apex_types.specs.declared.device.DeviceLine.{DeviceLine}
use Rattle.engine_meaning.specs.Digits.{same}
use Rattle.isolation.specs.declared.input.Input.{Input}
use Rattle.isolation.specs.declared.input.InputLine.{InputLine}
use Rattle.isolation.specs.ReplayText as replay
use Rattle.module_meaning.specs.DeviceText as device
use Rattle.module_meaning.specs.DeviceText.{first_from, words_of_ends}
use Rattle.module_meaning.specs.Table.{Channel, Partition, is_device}
use Rattle.module_base.specs.TextLines.{Taking, and_then, ends_with, lines_by, put_line, taken_by, verdict_by}
use Rattle.module_base.proofs.Alike.{devices_read, inputs_read}
use Rattle.image_findings.specs.First.{first_wrong, in_text, line_wrong, unended}
use Rattle.image_findings.specs.Naming as naming
use Rattle.image_findings.specs.What.{Early, Wrong}
use Rattle.image_findings.specs.Named.{channel_receiver, device_names_of, input_names, partition_names, port_receiver}
use Rattle.finding_laws.specs.Rules.{refusal_of}
use Rattle.finding_laws.proofs.Forms.{IsFormed, line_formed}
use Rattle.finding_laws.proofs.Meanings.{event_found, receiver_rule, room_rule, written_rule}

-- a line is taken and no rule is broken, or it is refused by the rule that is
abbrev pub IsJudged : {L : Type 0} → (L → ℕ) → ℕ → Result L DeviceFault → Option DeviceFault → Type 0
IsJudged tick_of tick (Ok l) None = tick_of l ≡ tick
IsJudged tick_of tick (Ok l) (Some f) = ⊥
IsJudged tick_of tick (Err f) None = ⊥
IsJudged tick_of tick (Err f) (Some g) = f ≡ g

-- so it is with each line of one of the forms
abbrev pub Keeps : {L : Type 0} → Names → Taking L → (L → ℕ) → Type 0
Keeps names named tick_of = (count tick : ℕ) (w : Written) → IsJudged tick_of tick (named count tick w) (written_rule names count w)

-- ---- a line

line_is : (n : Option ℕ) (o : Option Written) (l : WrittenLine) → line_with n o ≡ Some l → (n ≡ Some l.tick) × (o ≡ Some l.written)
line_is None o l h = cc
line_is (Some n) None l h = cc
line_is (Some n) (Some w) l h =
    let same : record { tick = n; written = w } ≡ l = same_Some (record { tick = n; written = w }) l h in
    (ap (λ (x : WrittenLine). Some x.tick) same, ap (λ (x : WrittenLine). Some x.written) same)

in_order : {L : Type 0} (b : Bool) (tick_of : L → ℕ) (tick : ℕ) (r : Result L DeviceFault) (w e : Option Wrong) → rule_in e ≡ Some fault.Order → IsJudged tick_of tick r (rule_in w) → IsJudged tick_of tick (cond b (Err fault.Order) r) (rule_in (cond b e w))
in_order {L = L} true tick_of tick r w e early h = subst (λ (f : Option DeviceFault). IsJudged {L = L} tick_of tick (Err fault.Order) f) (sym early) refl
in_order false tick_of tick r w e early h = h

meant : {L : Type 0} (names : Names) (named : Taking L) (tick_of : L → ℕ) → Keeps names named tick_of → (count before : ℕ) (t : List ℕ) (ps : List (List ℕ)) (l : WrittenLine) → line_with (plain_number MOST_TICKS t) (written_by (mark_of names.kind) ps) ≡ Some l
    → IsJudged tick_of (naming.tick_of t) (taken_by named count before (Some l)) (rule_in (naming.meaning_wrong names count before (parts (t ∷ ps))))
meant names named tick_of keeps count before t ps l h =
    let is = line_is (plain_number MOST_TICKS t) (written_by (mark_of names.kind) ps) l h in
    let tick : Part = record { text = t; left = total (t ∷ ps) } in
    let now : naming.tick_of t ≡ l.tick = ap naming.or_zero is.0 in
    let found = event_found names count tick ps l.written is.1 in
    let kept : IsJudged tick_of (naming.tick_of t) (named count (naming.tick_of t) l.written) (rule_in (naming.event_wrong names count tick (parts ps))) =
    subst (λ (f : Option DeviceFault). IsJudged tick_of (naming.tick_of t) (named count (naming.tick_of t) l.written) f) (sym found) (keeps count (naming.tick_of t) l.written) in
    subst (λ (n : ℕ). IsJudged tick_of (naming.tick_of t) (cond (nat_lt n before) (Err fault.Order) (named count n l.written)) (rule_in (naming.meaning_wrong names count before (parts (t ∷ ps))))) now
    (in_order (nat_lt (naming.tick_of t) before) tick_of (naming.tick_of t) (named count (naming.tick_of t) l.written) (naming.event_wrong names count tick (parts ps)) (Some (naming.at tick (Early (naming.tick_of t) before))) refl kept)

formed : {L : Type 0} (named : Taking L) (tick_of : L → ℕ) (count before tick : ℕ) (o : Option WrittenLine) (f m : Option Wrong) → IsFormed o f → ((l : WrittenLine) → o ≡ Some l → IsJudged tick_of tick (taken_by named count before (Some l)) (rule_in m))
    → IsJudged tick_of tick (taken_by named count before o) (rule_in (or_else f m))
formed named tick_of count before tick None None m h each = absurd h
formed named tick_of count before tick None (Some w) m h each = sym h
formed named tick_of count before tick (Some l) None m h each = each l refl
formed named tick_of count before tick (Some l) (Some w) m h each = absurd h

line_judged : {L : Type 0} (names : Names) (named : Taking L) (tick_of : L → ℕ) → Keeps names named tick_of → (count before : ℕ) (line : List ℕ)
    → IsJudged tick_of (naming.tick_of (piece space line)) (taken_by named count before (line_by (mark_of names.kind) line)) (rule_in (line_wrong names count before line))
line_judged names named tick_of keeps count before line =
    formed named tick_of count before (naming.tick_of (piece space line)) (line_by (mark_of names.kind) line) (form_wrong names.kind line (parts (pieces space line))) (naming.meaning_wrong names count before (parts (pieces space line)))
    (line_formed names.kind line) (λ l e. meant names named tick_of keeps count before (piece space line) (pieces_behind_marks space line) l e)

-- ---- the lines

put_found : {L : Type 0} (l : L) (r : Result (List L) DeviceFault) → refusal_of (put_line l r) ≡ refusal_of r
put_found l (Ok ls) = refl
put_found l (Err f) = refl

step : {L : Type 0} (tick_of : L → ℕ) (tick n m : ℕ) (r : Result L DeviceFault) (w other : Option Wrong) (rest : L → Result (List L) DeviceFault) → IsJudged tick_of tick r (rule_in w) → ((l : L) → tick_of l ≡ tick → refusal_of (rest l) ≡ rule_in other)
    → refusal_of (and_then r rest) ≡ rule_in (elim w [ Some x ↦ Some (in_text n m x) | None ↦ other ])
step tick_of tick n m (Err f) None other rest h each = absurd h
step tick_of tick n m (Err f) (Some x) other rest h each = ap (λ (g : DeviceFault). Some g) h
step tick_of tick n m (Ok l) None other rest h each = put_found l (rest l) ∙ each l h
step tick_of tick n m (Ok l) (Some x) other rest h each = absurd h

last_found : (L : Type 0) (last : List ℕ) → refusal_of (ends_with {L = L} last) ≡ rule_in (unended last)
last_found L [] = refl
last_found L (b ∷ bs) = refl

lines_found : {L : Type 0} (names : Names) (named : Taking L) (tick_of : L → ℕ) → Keeps names named tick_of → (count before : ℕ) (ps : List (List ℕ))
    → refusal_of (lines_by (mark_of names.kind) named tick_of count before ps) ≡ rule_in (first_wrong names count before ps)
unfolding lines_by first_wrong
lines_found names named tick_of keeps count before [] = refl
lines_found {L = L} names named tick_of keeps count before (last ∷ []) = last_found L last
lines_found names named tick_of keeps count before (line ∷ next ∷ more) =
    step tick_of (naming.tick_of (piece space line)) (total (line ∷ next ∷ more)) (length line) (taken_by named count before (line_by (mark_of names.kind) line)) (line_wrong names count before line)
    (first_wrong names (count + 1) (naming.tick_of (piece space line)) (next ∷ more)) (λ l. lines_by (mark_of names.kind) named tick_of (count + 1) (tick_of l) (next ∷ more))
    (line_judged names named tick_of keeps count before line)
    (λ l e. lines_found names named tick_of keeps (count + 1) (tick_of l) (next ∷ more) ∙ ap (λ (n : ℕ). rule_in (first_wrong names (count + 1) n (next ∷ more))) e)

text_found : {L : Type 0} (names : Names) (named : Taking L) (tick_of : L → ℕ) → Keeps names named tick_of → (text : List ℕ) → refusal_of (verdict_by (mark_of names.kind) named tick_of text) ≡ rule_in (first_wrong names 0 0 (pieces 10 text))
unfolding verdict_by
text_found names named tick_of keeps text = lines_found names named tick_of keeps 0 0 (pieces 10 text)

-- ---- device texts

abbrev device_tick : DeviceLine → ℕ
device_tick l = l.tick.0

device_within : (t : Bool) (tick : ℕ) (i : DeviceInput) → IsJudged device_tick tick (device.within t tick i) (cond t None (Some fault.Size))
device_within true tick i = refl
device_within false tick i = refl

device_open : (t fits : Bool) (tick : ℕ) (i : DeviceInput) → IsJudged device_tick tick (cond t (device.within fits tick i) (Err fault.Name)) (cond t (cond fits None (Some fault.Size)) (Some fault.Name))
device_open true fits tick i = device_within fits tick i
device_open false fits tick i = refl

device_here : (t : Bool) (rows : List Partition) (count tick place : ℕ) (ws : List ℤ) (c : Channel) (o : Option (ℕ × Channel)) (r : Option Receiver) → IsJudged device_tick tick (device.taken_message rows count tick ws o) (receiver_rule count (length ws) r)
    → IsJudged device_tick tick (device.taken_message rows count tick ws (cond t (Some (place, c)) o)) (receiver_rule count (length ws) (cond t (Some (channel_receiver rows c)) r))
device_here true rows count tick place ws c o r h = device_open (is_device c.source) (is_room count && nat_le (length ws) (words_of_ends rows c.destinations)) tick _
device_here false rows count tick place ws c o r h = h

device_message : (rows : List Partition) (cs : List Channel) (place count tick : ℕ) (name : List ℕ) (ws : List ℤ)
    → IsJudged device_tick tick (device.taken_message rows count tick ws (first_from place (λ c. same c.name name) cs)) (receiver_rule count (length ws) (naming.receiver_named name (map (channel_receiver rows) cs)))
unfolding first_from
device_message rows [] place count tick name ws = refl
device_message rows (c ∷ cs) place count tick name ws =
    device_here (same c.name name) rows count tick place ws c (first_from (place + 1) (λ c. same c.name name) cs) (naming.receiver_named name (map (channel_receiver rows) cs))
    (device_message rows cs (place + 1) count tick name ws)

device_there : (t other : Bool) (count tick place : ℕ) (p : Partition) (o : Option (ℕ × Partition)) → IsJudged device_tick tick (device.taken_fault count tick o) (cond other (room_rule count) (Some fault.Name))
    → IsJudged device_tick tick (device.taken_fault count tick (cond t (Some (place, p)) o)) (cond (t || other) (room_rule count) (Some fault.Name))
device_there true other count tick place p o h = device_within (is_room count) tick _
device_there false other count tick place p o h = h

device_fault : (rows : List Partition) (place count tick : ℕ) (name : List ℕ)
    → IsJudged device_tick tick (device.taken_fault count tick (first_from place (λ p. same p.name name) rows)) (cond (naming.is_among name (partition_names rows)) (room_rule count) (Some fault.Name))
unfolding first_from
device_fault [] place count tick name = refl
device_fault (p ∷ rows) place count tick name =
    device_there (same p.name name) (naming.is_among name (partition_names rows)) count tick place p (first_from (place + 1) (λ p. same p.name name) rows) (device_fault rows (place + 1) count tick name)

device_keeps : (rows : List Partition) (channels : List Channel) → Keeps (device_names_of rows channels) (device.named rows channels) device_tick
device_keeps rows channels count tick (Message name ws) = device_message rows channels 0 count tick name ws
device_keeps rows channels count tick ModuleFault = device_within (is_room count) tick _
device_keeps rows channels count tick (PartitionFault name) = device_fault rows 1 count tick name

pub device_found : (rows : List Partition) (channels : List Channel) (text : List ℕ) → refusal_of (device.verdict rows channels text) ≡ rule_in (first_wrong (device_names_of rows channels) 0 0 (pieces 10 text))
device_found rows channels text =
    ap refusal_of (devices_read rows channels (codes "MSG") text refl)
    ∙ text_found (device_names_of rows channels) (device.named rows channels) device_tick (device_keeps rows channels) text

-- ---- replay texts

abbrev input_tick : InputLine → ℕ
input_tick l = l.tick.0

input_within : (t : Bool) (tick : ℕ) (i : Input) → IsJudged input_tick tick (replay.within t tick i) (cond t None (Some fault.Size))
input_within true tick i = refl
input_within false tick i = refl

input_open : (t fits : Bool) (tick : ℕ) (i : Input) → IsJudged input_tick tick (cond t (replay.within fits tick i) (Err fault.Name)) (cond t (cond fits None (Some fault.Size)) (Some fault.Name))
input_open true fits tick i = input_within fits tick i
input_open false fits tick i = refl

input_here : (t : Bool) (count tick place : ℕ) (ws : List ℤ) (x : PortRow) (o : Option (ℕ × PortRow)) (r : Option Receiver) → IsJudged input_tick tick (replay.taken_message count tick ws o) (receiver_rule count (length ws) r)
    → IsJudged input_tick tick (replay.taken_message count tick ws (cond t (Some (place, x)) o)) (receiver_rule count (length ws) (cond t (Some (port_receiver x)) r))
input_here true count tick place ws x o r h = input_open (replay.is_destination x.direction) (is_room count && nat_le (length ws) x.words) tick _
input_here false count tick place ws x o r h = h

input_message : (ports : List PortRow) (place count tick : ℕ) (name : List ℕ) (ws : List ℤ)
    → IsJudged input_tick tick (replay.taken_message count tick ws (first_from place (λ x. same x.name name) ports)) (receiver_rule count (length ws) (naming.receiver_named name (map port_receiver ports)))
unfolding first_from
input_message [] place count tick name ws = refl
input_message (x ∷ ports) place count tick name ws =
    input_here (same x.name name) count tick place ws x (first_from (place + 1) (λ x. same x.name name) ports) (naming.receiver_named name (map port_receiver ports))
    (input_message ports (place + 1) count tick name ws)

input_there : (t : Bool) (count tick : ℕ) (i : Input) → IsJudged input_tick tick (cond t (replay.within (is_room count) tick i) (Err fault.Name)) (cond (t || false) (room_rule count) (Some fault.Name))
input_there true count tick i = input_within (is_room count) tick i
input_there false count tick i = refl

input_keeps : (row : Partition) → Keeps (input_names row) (replay.named row) input_tick
input_keeps row count tick (Message name ws) = input_message row.ports 1 count tick name ws
input_keeps row count tick ModuleFault = input_within (is_room count) tick _
input_keeps row count tick (PartitionFault name) = input_there (same row.name name) count tick _

pub input_found : (row : Partition) (text : List ℕ) → refusal_of (replay.replay_verdict row text) ≡ rule_in (first_wrong (input_names row) 0 0 (pieces 10 text))
input_found row text = ap refusal_of (inputs_read row (codes "ARRIVE") text refl) ∙ text_found (input_names row) (replay.named row) input_tick (input_keeps row) text
