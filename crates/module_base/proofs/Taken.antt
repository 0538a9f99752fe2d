-- The meaning of a line as the code holds it is the meaning of the line.
use Rattle.module_base.proofs.Prelude.{◌≡◌, ℕ, ℤ, Bool, true, false, cond, List, Option, Some, None, Err, Result, ◌∙◌, option_map, nat_lt, if◌then◌else◌, space, MOST_TICKS, DeviceFault, DeviceLine, PortRow, first_from, is_room, line_with, piece, plain_number, same, Partition, Channel, PartitionFault, InputLine, pieces_of, fitting, Taking, line_by, taken_by, written_by, MessageWords}
use Rattle.std.proofs.Common.{refl, sym, ap}
use Rattle.apex_types.specs.declared.device.DeviceFault.TheVariants as fault
use Rattle.module_meaning.specs.DeviceText as meant
use Rattle.module_meaning.specs.DeviceText.{pieces_behind_marks, taken_message, taken_fault, named}
use Rattle.isolation.specs.ReplayText as replay
use Rattle.module_base.specs.Seen.{seen, seen_line}
use Rattle.module_base.specs.declared.line.Written.{Written}
use Rattle.module_base.specs.declared.line.Written.TheVariants as written
use Rattle.module_base.specs.declared.line.WrittenLine.{WrittenLine}

-- ---- any text
held_with : (tick : ℕ) (w : Written) (t : Option ℕ) (o : Option meant.Written) → Some tick ≡ t → Some w ≡ option_map seen o → Some (record { tick = record { 0 = tick }; written = w }) ≡ option_map seen_line (line_with t o)
held_with tick w None o e h = cc
held_with tick w (Some n) None e h = cc
held_with tick w (Some n) (Some v) e h = let t : tick ≡ n = cc in let s : w ≡ seen v = cc in rw (t, s) refl

-- a line consists of its first piece, which is its tick, and the meaning of the pieces after it
pub held_line : (mark text front : List ℕ) (rest : Option (List ℕ)) (tick : ℕ) (w : Written) → front ≡ piece space text → pieces_behind_marks space text ≡ pieces_of space rest → Some tick ≡ plain_number MOST_TICKS front → Some w ≡ option_map seen (written_by mark (pieces_of space rest)) → Some (record { tick = record { 0 = tick }; written = w }) ≡ option_map seen_line (line_by mark text)
held_line mark text front rest tick w f b t h =
    held_with tick w (plain_number MOST_TICKS (piece space text)) (written_by mark (pieces_behind_marks space text))
    (t ∙ ap (plain_number MOST_TICKS) f) (h ∙ ap (λ (ps : List (List ℕ)). option_map seen (written_by mark ps)) (sym b))

none_with : (t : Option ℕ) (o : Option meant.Written) → None ≡ option_map seen o → None ≡ option_map seen_line (line_with t o)
none_with None o h = refl
none_with (Some n) None h = refl
none_with (Some n) (Some w) h = cc

-- if the pieces after the first one mean nothing, there is no line
pub unsaid_line : (mark text : List ℕ) (rest : Option (List ℕ)) → pieces_behind_marks space text ≡ pieces_of space rest → None ≡ option_map seen (written_by mark (pieces_of space rest)) → None ≡ option_map seen_line (line_by mark text)
unsaid_line mark text rest b h =
    none_with (plain_number MOST_TICKS (piece space text)) (written_by mark (pieces_behind_marks space text))
    (h ∙ ap (λ (ps : List (List ℕ)). option_map seen (written_by mark ps)) (sym b))

pub taken_line : {L : Type 0} (named : Taking L) (count before : ℕ) (o : Option meant.WrittenLine) (line : WrittenLine) (r : Result L DeviceFault) → Some line ≡ option_map seen_line o → ((l : meant.WrittenLine) → line ≡ seen_line l → r ≡ taken_by named count before (Some l)) → r ≡ taken_by named count before o
taken_line named count before None line r e h = cc
taken_line named count before (Some l) line r e h = h l cc

pub no_line : {L : Type 0} (named : Taking L) (count before : ℕ) (o : Option meant.WrittenLine) → None ≡ option_map seen_line o → Err fault.Form ≡ taken_by named count before o
no_line named count before None e = refl
no_line named count before (Some l) e = cc

chosen : {A : Type 0} (b : Bool) (x y : A) → b ≡ false → cond b x y ≡ y
chosen true x y e = cc
chosen false x y e = refl

pub later_line : {L : Type 0} (named : Taking L) (count before : ℕ) (line : WrittenLine) (l : meant.WrittenLine) (r : Result L DeviceFault) → line ≡ seen_line l → nat_lt line.tick.0 before ≡ false → ((w : meant.Written) → line.written ≡ seen w → r ≡ named count line.tick.0 w) → r ≡ taken_by named count before (Some l)
later_line named count before line l r e late h =
    let t : line.tick.0 ≡ l.tick = ap (λ (x : WrittenLine). x.tick.0) e in
    h l.written (ap (λ (x : WrittenLine). x.written) e)
    ∙ ap (λ (n : ℕ). named count n l.written) t
    ∙ sym (chosen (nat_lt l.tick before) (Err fault.Order) (named count l.tick l.written) (ap (λ (n : ℕ). nat_lt n before) (sym t) ∙ late))

-- ---- device texts
pub message_named : (rows : List Partition) (channels : List Channel) (count tick : ℕ) (w : meant.Written) (name : List ℕ) (words : MessageWords) (r : Result DeviceLine DeviceFault) → written.Message name words ≡ seen w → ((ws : List ℤ) → words ≡ fitting ws → r ≡ taken_message rows count tick ws (first_from 0 (λ c. same c.name name) channels)) → r ≡ named rows channels count tick w
message_named rows channels count tick (meant.Message channel ws) name words r e h =
    let n : name ≡ channel = cc in
    let f : words ≡ fitting ws = cc in
    h ws f ∙ ap (λ (text : List ℕ). taken_message rows count tick ws (first_from 0 (λ c. same c.name text) channels)) n
message_named rows channels count tick meant.ModuleFault name words r e h = cc
message_named rows channels count tick (meant.PartitionFault partition) name words r e h = cc

pub fault_named : (rows : List Partition) (channels : List Channel) (count tick : ℕ) (w : meant.Written) (name : List ℕ) (r : Result DeviceLine DeviceFault) → written.PartitionFault name ≡ seen w → r ≡ taken_fault count tick (first_from 1 (λ p. same p.name name) rows) → r ≡ named rows channels count tick w
fault_named rows channels count tick (meant.Message channel ws) name r e h = cc
fault_named rows channels count tick meant.ModuleFault name r e h = cc
fault_named rows channels count tick (meant.PartitionFault partition) name r e h =
    let n : name ≡ partition = cc in
    h ∙ ap (λ (text : List ℕ). taken_fault count tick (first_from 1 (λ p. same p.name text) rows)) n

-- ---- replay texts
pub arrival_named : (row : Partition) (ports : List PortRow) (count tick : ℕ) (w : meant.Written) (name : List ℕ) (words : MessageWords) (r : Result InputLine DeviceFault) → ports ≡ row.ports → written.Message name words ≡ seen w → ((ws : List ℤ) → words ≡ fitting ws → r ≡ replay.taken_message count tick ws (first_from 1 (λ x. same x.name name) ports)) → r ≡ replay.named row count tick w
arrival_named row ports count tick (meant.Message port ws) name words r is e h =
    let n : name ≡ port = cc in
    let f : words ≡ fitting ws = cc in
    h ws f
    ∙ ap (λ (text : List ℕ). replay.taken_message count tick ws (first_from 1 (λ x. same x.name text) ports)) n
    ∙ ap (λ (xs : List PortRow). replay.taken_message count tick ws (first_from 1 (λ x. same x.name port) xs)) is
arrival_named row ports count tick meant.ModuleFault name words r is e h = cc
arrival_named row ports count tick (meant.PartitionFault partition) name words r is e h = cc

pub own_fault_named : (row : Partition) (count tick : ℕ) (w : meant.Written) (name : List ℕ) (r : Result InputLine DeviceFault) → written.PartitionFault name ≡ seen w → r ≡ (if same row.name name then replay.within (is_room count) tick PartitionFault else Err fault.Name) → r ≡ replay.named row count tick w
own_fault_named row count tick (meant.Message port ws) name r e h = cc
own_fault_named row count tick meant.ModuleFault name r e h = cc
own_fault_named row count tick (meant.PartitionFault partition) name r e h =
    let n : name ≡ partition = cc in
    h ∙ ap (λ (text : List ℕ). if same row.name text then replay.within (is_room count) tick PartitionFault else Err fault.Name) n
