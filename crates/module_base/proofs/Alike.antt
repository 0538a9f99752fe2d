-- Device texts and replay texts are read as the lines of any text are.
use Rattle.module_base.proofs.Prelude.{◌≡◌, ℕ, ◌+◌, codes, List, ◌∷◌, Option, Some, None, Ok, Err, Result, ◌∙◌, space, MOST_TICKS, DeviceFault, DeviceLine, Written, WrittenLine, line_with, plain_number, piece, pieces, Partition, Channel, InputLine, line_by, written_by, taken_by, ends_with, put_line, and_then}
use Rattle.std.proofs.Common.{[], refl, sym, ap}
use Rattle.std.specs.Prelude.{◌^◌}
use Rattle.module_meaning.specs.DeviceText as device
use Rattle.module_meaning.specs.DeviceText.{pieces_behind_marks}
use Rattle.isolation.specs.ReplayText as replay
use Rattle.module_base.specs.TextLines.{lines_by, verdict_by}

-- ---- device texts
device_written : (ps : List (List ℕ)) → device.written_of ps ≡ written_by (codes "MSG") ps
device_written [] = refl
device_written (kind ∷ rest) = refl

device_line : (text : List ℕ) → device.line_of text ≡ line_by (codes "MSG") text
device_line text = ap (line_with (plain_number MOST_TICKS (piece space text))) (device_written (pieces_behind_marks space text))

device_named : (rows : List Partition) (channels : List Channel) (count before : ℕ) (o : Option WrittenLine) → device.taken rows channels count before o ≡ taken_by (device.named rows channels) count before o
device_named rows channels count before None = refl
device_named rows channels count before (Some l) = refl

device_taken : (rows : List Partition) (channels : List Channel) (count before : ℕ) (text : List ℕ) → device.taken rows channels count before (device.line_of text) ≡ taken_by (device.named rows channels) count before (line_by (codes "MSG") text)
device_taken rows channels count before text =
    ap (device.taken rows channels count before) (device_line text) ∙ device_named rows channels count before (line_by (codes "MSG") text)

device_puts : (l : DeviceLine) (r : Result (List DeviceLine) DeviceFault) → device.put_line l r ≡ put_line l r
device_puts l (Ok ls) = refl
device_puts l (Err f) = refl

device_goes : (one other : Result DeviceLine DeviceFault) (f g : DeviceLine → Result (List DeviceLine) DeviceFault) → one ≡ other → ((l : DeviceLine) → f l ≡ g l) → device.and_then one f ≡ and_then other g
device_goes one (Err x) f g same each = ap (λ (r : Result DeviceLine DeviceFault). device.and_then r f) same
device_goes one (Ok l) f g same each = ap (λ (r : Result DeviceLine DeviceFault). device.and_then r f) same ∙ device_puts l (f l) ∙ ap (put_line l) (each l)

device_ends : (last : List ℕ) → device.ends_with last ≡ ends_with last
device_ends [] = refl
device_ends (b ∷ bs) = refl

device_lines : (rows : List Partition) (channels : List Channel) (count before : ℕ) (ps : List (List ℕ)) → device.lines_from rows channels count before ps ≡ lines_by (codes "MSG") (device.named rows channels) (λ (l : DeviceLine). l.tick.0) count before ps
unfolding device.lines_from lines_by
device_lines rows channels count before [] = refl
device_lines rows channels count before (last ∷ []) = device_ends last
device_lines rows channels count before (line ∷ next ∷ more) =
    device_goes (device.taken rows channels count before (device.line_of line)) (taken_by (device.named rows channels) count before (line_by (codes "MSG") line))
    (λ l. device.lines_from rows channels (count + 1) l.tick.0 (next ∷ more)) (λ l. lines_by (codes "MSG") (device.named rows channels) (λ (l : DeviceLine). l.tick.0) (count + 1) l.tick.0 (next ∷ more))
    (device_taken rows channels count before line) (λ l. device_lines rows channels (count + 1) l.tick.0 (next ∷ more))

devices_marked : (rows : List Partition) (channels : List Channel) (text : List ℕ) → device.verdict rows channels text ≡ verdict_by (codes "MSG") (device.named rows channels) (λ (l : DeviceLine). l.tick.0) text
unfolding device.verdict verdict_by
devices_marked rows channels text = device_lines rows channels 0 0 (pieces 10 text)

pub devices_read : (rows : List Partition) (channels : List Channel) (mark text : List ℕ) → mark ≡ codes "MSG" → device.verdict rows channels text ≡ verdict_by mark (device.named rows channels) (λ (l : DeviceLine). l.tick.0) text
devices_read rows channels mark text is =
    devices_marked rows channels text ∙ ap (λ (m : List ℕ). verdict_by m (device.named rows channels) (λ (l : DeviceLine). l.tick.0) text) (sym is)

-- ---- replay texts
input_written : (ps : List (List ℕ)) → replay.written_of ps ≡ written_by (codes "ARRIVE") ps
input_written [] = refl
input_written (kind ∷ rest) = refl

input_line : (text : List ℕ) → replay.line_of text ≡ line_by (codes "ARRIVE") text
input_line text = ap (line_with (plain_number MOST_TICKS (piece space text))) (input_written (pieces_behind_marks space text))

input_named : (row : Partition) (count before : ℕ) (o : Option WrittenLine) → replay.taken row count before o ≡ taken_by (replay.named row) count before o
input_named row count before None = refl
input_named row count before (Some l) = refl

input_taken : (row : Partition) (count before : ℕ) (text : List ℕ) → replay.taken row count before (replay.line_of text) ≡ taken_by (replay.named row) count before (line_by (codes "ARRIVE") text)
input_taken row count before text = ap (replay.taken row count before) (input_line text) ∙ input_named row count before (line_by (codes "ARRIVE") text)

input_puts : (l : InputLine) (r : Result (List InputLine) DeviceFault) → replay.put_line l r ≡ put_line l r
input_puts l (Ok ls) = refl
input_puts l (Err f) = refl

input_goes : (one other : Result InputLine DeviceFault) (f g : InputLine → Result (List InputLine) DeviceFault) → one ≡ other → ((l : InputLine) → f l ≡ g l) → replay.and_then one f ≡ and_then other g
input_goes one (Err x) f g same each = ap (λ (r : Result InputLine DeviceFault). replay.and_then r f) same
input_goes one (Ok l) f g same each = ap (λ (r : Result InputLine DeviceFault). replay.and_then r f) same ∙ input_puts l (f l) ∙ ap (put_line l) (each l)

input_ends : (last : List ℕ) → replay.ends_with last ≡ ends_with last
input_ends [] = refl
input_ends (b ∷ bs) = refl

input_lines : (row : Partition) (count before : ℕ) (ps : List (List ℕ)) → replay.lines_from row count before ps ≡ lines_by (codes "ARRIVE") (replay.named row) (λ (l : InputLine). l.tick.0) count before ps
unfolding replay.lines_from lines_by
input_lines row count before [] = refl
input_lines row count before (last ∷ []) = input_ends last
input_lines row count before (line ∷ next ∷ more) =
    input_goes (replay.taken row count before (replay.line_of line)) (taken_by (replay.named row) count before (line_by (codes "ARRIVE") line))
    (λ l. replay.lines_from row (count + 1) l.tick.0 (next ∷ more)) (λ l. lines_by (codes "ARRIVE") (replay.named row) (λ (l : InputLine). l.tick.0) (count + 1) l.tick.0 (next ∷ more))
    (input_taken row count before line) (λ l. input_lines row (count + 1) l.tick.0 (next ∷ more))

inputs_marked : (row : Partition) (text : List ℕ) → replay.replay_verdict row text ≡ verdict_by (codes "ARRIVE") (replay.named row) (λ (l : InputLine). l.tick.0) text
unfolding replay.replay_verdict verdict_by
inputs_marked row text = input_lines row 0 0 (pieces 10 text)

pub inputs_read : (row : Partition) (mark text : List ℕ) → mark ≡ codes "ARRIVE" → replay.replay_verdict row text ≡ verdict_by mark (replay.named row) (λ (l : InputLine). l.tick.0) text
inputs_read row mark text is =
    inputs_marked row text ∙ ap (λ (m : List ℕ). verdict_by m (replay.named row) (λ (l : InputLine). l.tick.0) text) (sym is)
