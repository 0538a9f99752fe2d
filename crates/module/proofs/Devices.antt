-- The lines of an accepted device text are in the order of their ticks.
use Rattle.module.proofs.Prelude.{◌≡◌, ◌≤◌, ℕ, ◌+◌, ℤ, Bool, true, false, List, ◌∷◌, Option, Some, None, Result, Ok, Err, refl, ap, arith, nat_lt, ltb-false, DeviceFault, DeviceInput, DeviceLine, Partition, Channel, AreFrom}
use Rattle.std.proofs.Common.{[], subst}
use Rattle.std.specs.Prelude.{if◌then◌else◌}
use Rattle.apex_types.specs.declared.device.DeviceFault.TheVariants as fault
use Rattle.module_meaning.specs.DeviceText as text
use Rattle.module_meaning.specs.DeviceText.{WrittenLine}
use Rattle.module_meaning.specs.Table.{is_device}

abbrev ok_line : DeviceLine → Result DeviceLine DeviceFault
ok_line l = Ok l

abbrev ok_lines : List DeviceLine → Result (List DeviceLine) DeviceFault
ok_lines ls = Ok ls

line_is : (l m : DeviceLine) → ok_line l ≡ ok_line m → l ≡ m
line_is l m e = cc

lines_are : (ls ms : List DeviceLine) → ok_lines ls ≡ ok_lines ms → ls ≡ ms
lines_are ls ms e = cc

-- ---- the tick of a line

within_tick : (b : Bool) (tick : ℕ) (i : DeviceInput) (l : DeviceLine) → text.within b tick i ≡ ok_line l → tick ≡ l.tick.0
within_tick true tick i l e = ap (λ (x : DeviceLine). x.tick.0) (line_is (record { tick = record { 0 = tick }; input = i }) l e)
within_tick false tick i l e = absurd cc

if_device : (b c : Bool) (tick : ℕ) (i : DeviceInput) (l : DeviceLine) → (if b then text.within c tick i else Err fault.Name) ≡ ok_line l → tick ≡ l.tick.0
if_device true c tick i l e = within_tick c tick i l e
if_device false c tick i l e = absurd cc

message_tick : (rows : List Partition) (count tick : ℕ) (ws : List ℤ) (o : Option (ℕ × Channel)) (l : DeviceLine) → text.taken_message rows count tick ws o ≡ ok_line l → tick ≡ l.tick.0
message_tick rows count tick ws None l e = absurd cc
message_tick rows count tick ws (Some f) l e = if_device (is_device f.1.source) _ tick _ l e

fault_tick : (count tick : ℕ) (o : Option (ℕ × Partition)) (l : DeviceLine) → text.taken_fault count tick o ≡ ok_line l → tick ≡ l.tick.0
fault_tick count tick None l e = absurd cc
fault_tick count tick (Some f) l e = within_tick (text.is_room count) tick _ l e

named_tick : (rows : List Partition) (channels : List Channel) (count tick : ℕ) (w : text.Written) (l : DeviceLine) → text.named rows channels count tick w ≡ ok_line l → tick ≡ l.tick.0
named_tick rows channels count tick (text.Message channel ws) l e = message_tick rows count tick ws _ l e
named_tick rows channels count tick text.ModuleFault l e = within_tick (text.is_room count) tick _ l e
named_tick rows channels count tick (text.PartitionFault name) l e = fault_tick count tick _ l e

unless_below : (rows : List Partition) (channels : List Channel) (count before : ℕ) (b : Bool) (w : WrittenLine) (l : DeviceLine) → nat_lt w.tick before ≡ b
    → (if b then Err fault.Order else text.named rows channels count w.tick w.written) ≡ ok_line l → before ≤ l.tick.0
unless_below rows channels count before true w l below e = absurd cc
unless_below rows channels count before false w l below e =
    let same = named_tick rows channels count w.tick w.written l e in
    let above : before ≤ w.tick = ltb-false w.tick before below in
    omega (arith, above, same)

not_below : (rows : List Partition) (channels : List Channel) (count before : ℕ) (o : Option WrittenLine) (l : DeviceLine) → text.taken rows channels count before o ≡ ok_line l → before ≤ l.tick.0
not_below rows channels count before None l e = absurd cc
not_below rows channels count before (Some w) l e = unless_below rows channels count before (nat_lt w.tick before) w l refl e

-- ---- the lines in their order

ends_in_order : (before : ℕ) (last : List ℕ) (lines : List DeviceLine) → text.ends_with last ≡ ok_lines lines → AreFrom before lines
ends_in_order before [] lines e = subst (AreFrom before) (lines_are [] lines e) tt
ends_in_order before (b ∷ bs) lines e = absurd cc

put_in_order : (before : ℕ) (l : DeviceLine) (rest : Result (List DeviceLine) DeviceFault) (lines : List DeviceLine) → before ≤ l.tick.0
    → ((ls : List DeviceLine) → rest ≡ ok_lines ls → AreFrom l.tick.0 ls) → text.put_line l rest ≡ ok_lines lines → AreFrom before lines
put_in_order before l (Ok ls) lines h later e = subst (AreFrom before) (lines_are (l ∷ ls) lines e) (h, later ls refl)
put_in_order before l (Err f) lines h later e = absurd cc

then_in_order : (before : ℕ) (one : Result DeviceLine DeviceFault) (rest : DeviceLine → Result (List DeviceLine) DeviceFault) (lines : List DeviceLine)
    → ((l : DeviceLine) → one ≡ ok_line l → before ≤ l.tick.0) → ((l : DeviceLine) (ls : List DeviceLine) → rest l ≡ ok_lines ls → AreFrom l.tick.0 ls)
    → text.and_then one rest ≡ ok_lines lines → AreFrom before lines
then_in_order before (Ok l) rest lines first later e = put_in_order before l (rest l) lines (first l refl) (later l) e
then_in_order before (Err f) rest lines first later e = absurd cc

in_order : (rows : List Partition) (channels : List Channel) (count before : ℕ) (pieces : List (List ℕ)) (lines : List DeviceLine) → text.lines_from rows channels count before pieces ≡ ok_lines lines → AreFrom before lines
unfolding text.lines_from
in_order rows channels count before [] lines e = subst (AreFrom before) (lines_are [] lines e) tt
in_order rows channels count before (last ∷ []) lines e = ends_in_order before last lines e
in_order rows channels count before (line ∷ next ∷ more) lines e =
    then_in_order before (text.taken rows channels count before (text.line_of line)) (λ l. text.lines_from rows channels (count + 1) l.tick.0 (next ∷ more)) lines
    (not_below rows channels count before (text.line_of line))
    (λ l ls later. in_order rows channels (count + 1) l.tick.0 (next ∷ more) ls later) e

pub read_in_order : (rows : List Partition) (channels : List Channel) (bytes : List ℕ) (lines : List DeviceLine) → text.verdict rows channels bytes ≡ Ok lines → AreFrom 0 lines
unfolding text.verdict
read_in_order rows channels bytes lines e = in_order rows channels 0 0 (text.pieces 10 bytes) lines e
