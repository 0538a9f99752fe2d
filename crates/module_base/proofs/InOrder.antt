-- The lines of an accepted replay text are in the order of their ticks.
use Rattle.module_base.proofs.Prelude.{◌≡◌, ◌≤◌, ℕ, ◌+◌, ℤ, Bool, true, false, List, ◌∷◌, Option, Some, None, Result, Ok, Err, arith, nat_lt, if◌then◌else◌, DeviceFault, PortRow, Written, WrittenLine, is_room, pieces, same, Partition, Input, InputLine}
use Rattle.std.proofs.Common.{[], refl, ap, subst}
use Rattle.std.proofs.lemmas.Bool.{ltb-false}
use Rattle.apex_types.specs.declared.device.DeviceFault.TheVariants as fault
use Rattle.module_meaning.specs.DeviceText.{Message, ModuleFault as DeviceModuleFault, PartitionFault as DevicePartitionFault}
use Rattle.isolation.specs.InputText.{AreInOrder}
use Rattle.isolation.specs.ReplayText as text

abbrev ok_line : InputLine → Result InputLine DeviceFault
ok_line l = Ok l

abbrev ok_lines : List InputLine → Result (List InputLine) DeviceFault
ok_lines ls = Ok ls

line_is : (l m : InputLine) → ok_line l ≡ ok_line m → l ≡ m
line_is l m e = cc

lines_are : (ls ms : List InputLine) → ok_lines ls ≡ ok_lines ms → ls ≡ ms
lines_are ls ms e = cc

-- ---- the tick of a line
within_tick : (b : Bool) (tick : ℕ) (i : Input) (l : InputLine) → text.within b tick i ≡ ok_line l → tick ≡ l.tick.0
within_tick true tick i l e = ap (λ (x : InputLine). x.tick.0) (line_is (record { tick = record { 0 = tick }; input = i }) l e)
within_tick false tick i l e = absurd cc

if_so : (b c : Bool) (tick : ℕ) (i : Input) (l : InputLine) → (if b then text.within c tick i else Err fault.Name) ≡ ok_line l → tick ≡ l.tick.0
if_so true c tick i l e = within_tick c tick i l e
if_so false c tick i l e = absurd cc

message_tick : (count tick : ℕ) (ws : List ℤ) (o : Option (ℕ × PortRow)) (l : InputLine) → text.taken_message count tick ws o ≡ ok_line l → tick ≡ l.tick.0
message_tick count tick ws None l e = absurd cc
message_tick count tick ws (Some f) l e = if_so (text.is_destination f.1.direction) _ tick _ l e

named_tick : (row : Partition) (count tick : ℕ) (w : Written) (l : InputLine) → text.named row count tick w ≡ ok_line l → tick ≡ l.tick.0
named_tick row count tick (Message port ws) l e = message_tick count tick ws _ l e
named_tick row count tick DeviceModuleFault l e = within_tick (is_room count) tick _ l e
named_tick row count tick (DevicePartitionFault name) l e = if_so (same row.name name) (is_room count) tick _ l e

unless_below : (row : Partition) (count before : ℕ) (b : Bool) (w : WrittenLine) (l : InputLine) → nat_lt w.tick before ≡ b
    → (if b then Err fault.Order else text.named row count w.tick w.written) ≡ ok_line l → before ≤ l.tick.0
unless_below row count before true w l below e = absurd cc
unless_below row count before false w l below e =
    let same_tick = named_tick row count w.tick w.written l e in
    let above : before ≤ w.tick = ltb-false w.tick before below in
    omega (arith, above, same_tick)

not_below : (row : Partition) (count before : ℕ) (o : Option WrittenLine) (l : InputLine) → text.taken row count before o ≡ ok_line l → before ≤ l.tick.0
not_below row count before None l e = absurd cc
not_below row count before (Some w) l e = unless_below row count before (nat_lt w.tick before) w l refl e

-- ---- the lines in their order
ends_in_order : (before : ℕ) (last : List ℕ) (lines : List InputLine) → text.ends_with last ≡ ok_lines lines → AreInOrder before lines
ends_in_order before [] lines e = subst (AreInOrder before) (lines_are [] lines e) tt
ends_in_order before (b ∷ bs) lines e = absurd cc

put_in_order : (before : ℕ) (l : InputLine) (rest : Result (List InputLine) DeviceFault) (lines : List InputLine) → before ≤ l.tick.0
    → ((ls : List InputLine) → rest ≡ ok_lines ls → AreInOrder l.tick.0 ls) → text.put_line l rest ≡ ok_lines lines → AreInOrder before lines
put_in_order before l (Ok ls) lines h later e = subst (AreInOrder before) (lines_are (l ∷ ls) lines e) (h, later ls refl)
put_in_order before l (Err f) lines h later e = absurd cc

then_in_order : (before : ℕ) (one : Result InputLine DeviceFault) (rest : InputLine → Result (List InputLine) DeviceFault) (lines : List InputLine)
    → ((l : InputLine) → one ≡ ok_line l → before ≤ l.tick.0) → ((l : InputLine) (ls : List InputLine) → rest l ≡ ok_lines ls → AreInOrder l.tick.0 ls)
    → text.and_then one rest ≡ ok_lines lines → AreInOrder before lines
then_in_order before (Ok l) rest lines first later e = put_in_order before l (rest l) lines (first l refl) (later l) e
then_in_order before (Err f) rest lines first later e = absurd cc

in_order : (row : Partition) (count before : ℕ) (ps : List (List ℕ)) (lines : List InputLine) → text.lines_from row count before ps ≡ ok_lines lines → AreInOrder before lines
unfolding text.lines_from
in_order row count before [] lines e = subst (AreInOrder before) (lines_are [] lines e) tt
in_order row count before (last ∷ []) lines e = ends_in_order before last lines e
in_order row count before (line ∷ next ∷ more) lines e =
    then_in_order before (text.taken row count before (text.line_of line)) (λ l. text.lines_from row (count + 1) l.tick.0 (next ∷ more)) lines
    (not_below row count before (text.line_of line))
    (λ l ls later. in_order row (count + 1) l.tick.0 (next ∷ more) ls later) e

pub read_in_order : (row : Partition) (bytes : List ℕ) (lines : List InputLine) → text.replay_verdict row bytes ≡ Ok lines → AreInOrder 0 lines
unfolding text.replay_verdict
read_in_order row bytes lines e = in_order row 0 0 (pieces 10 bytes) lines e
