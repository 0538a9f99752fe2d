-- From the parts of writing a partition's inputs to its promise.
use Rattle.module.proofs.Prelude.{◌≡◌, ◌<◌, ◌≤◌, ◌^◌, ℕ, List, length, Option, Some, None, Result, Ok, Err, refl, sym, ap, ◌∙◌, Appends, MOST_DEVICE_LINES, MOST_TICKS, TakesBeginning, DeviceFault, DeviceLine, verdict_for, Image, Item, IsLawful, Fault, InputLine, replay_text, replay_verdict, numbered, Slice, machine_inputs, slice, slice_of, IsRefusal, DeviceTextFault, HasNoRoom, TellsSlice, InputsFault}
use Rattle.std.proofs.Common.{option_map, subst}
use Rattle.isolation.specs.InputText.{AreWritable}
use Rattle.isolation.proofs.InputsLaw.{inputs_read_again}
use Rattle.module_base.specs.declared.fault.DeviceTextFault.TheVariants as text_fault
use Rattle.module.specs.Telling.{AreRunInputs, AreTold, IsDeviceRefusalBeside, Tells, fault_of_text}
use Rattle.module.specs.declared.inputs_fault.InputsFault.TheVariants.{Ticks, Image as NoImage, Partition as NoPartition, Device, Memory, TooMany, Write}
use Rattle.module.proofs.Headline.{ok_image, image_is}
use Rattle.module.proofs.Named.{by_number, numbered_slice}

-- ---- one partition

-- the lines that are lent are the lines that were taken
pub lines_taken : {verdict : Result (List DeviceLine) DeviceFault} {lines : List DeviceLine} (lent : List DeviceLine) → lent ≡ lines → verdict ≡ Ok lines → verdict ≡ Ok lent
lines_taken lent same taken = taken ∙ ap (λ (ls : List DeviceLine). Ok ls) (sym same)

-- the device text is refused, or memory runs out
pub text_refused : (image : Image) (s : Slice) (devices : List ℕ) (n : ℕ) (old : Option (List ℕ)) (f : DeviceTextFault) → IsRefusal (verdict_for image devices) f → TellsSlice image s devices n old old (Err (fault_of_text f))
text_refused image s devices n old text_fault.Memory h = refl
text_refused image s devices n old (text_fault.Line f) h = (refused (verdict_for image devices) h, refl)
  where
    refused : (v : Result (List DeviceLine) DeviceFault) → IsRefusal v (text_fault.Line f) → v ≡ Err f
    refused (Ok ls) k = absurd k
    refused (Err g) k = ap (λ (x : DeviceFault). Err x) k

-- there are too many inputs, or memory runs out
pub no_room_told : (image : Image) (s : Slice) (devices : List ℕ) (lines : List DeviceLine) (n : ℕ) (old : Option (List ℕ)) (f : InputsFault) → verdict_for image devices ≡ Ok lines
    → HasNoRoom (length (machine_inputs image s.number lines n)) f → TellsSlice image s devices n old old (Err f)
no_room_told image s devices lines n old TooMany taken h = (lines, taken, (h, refl))
no_room_told image s devices lines n old Memory taken h = refl
no_room_told image s devices lines n old Ticks taken h = absurd h
no_room_told image s devices lines n old (NoImage f) taken h = absurd h
no_room_told image s devices lines n old NoPartition taken h = absurd h
no_room_told image s devices lines n old (Device f) taken h = absurd h
no_room_told image s devices lines n old Write taken h = absurd h

-- the text is written
pub text_told : (image : Image) (s : Slice) (devices : List ℕ) (lines : List DeviceLine) (n : ℕ) (inputs : List InputLine) (old new : Option (List ℕ)) → IsLawful image → slice image s.number ≡ Some s
    → verdict_for image devices ≡ Ok lines → n ≤ MOST_TICKS → inputs ≡ machine_inputs image s.number lines n → length inputs ≤ MOST_DEVICE_LINES → AreWritable inputs
    → Appends old new (replay_text s.item.partition inputs) → TellsSlice image s devices n old new (Ok tt)
text_told image s devices lines n inputs old new lawful there taken few is room words out =
    let its = machine_inputs image s.number lines n in
    let few_inputs : length its ≤ MOST_DEVICE_LINES = subst (λ (ls : List InputLine). length ls ≤ MOST_DEVICE_LINES) is room in
    let again = inputs_read_again image devices lines s.number s n lawful taken there few (subst AreWritable is words) few_inputs in
    (lines, taken, (few_inputs, again, subst (λ (ls : List InputLine). Appends old new (replay_text s.item.partition ls)) is out))

-- the sink fails
pub text_cut_off : (image : Image) (s : Slice) (devices : List ℕ) (lines : List DeviceLine) (n : ℕ) (inputs : List InputLine) (old new : Option (List ℕ)) → verdict_for image devices ≡ Ok lines
    → inputs ≡ machine_inputs image s.number lines n → length inputs ≤ MOST_DEVICE_LINES → TakesBeginning old new (replay_text s.item.partition inputs) → TellsSlice image s devices n old new (Err Write)
text_cut_off image s devices lines n inputs old new taken is room out =
    (lines, taken, (subst (λ (ls : List InputLine). length ls ≤ MOST_DEVICE_LINES) is room, subst (λ (ls : List InputLine). TakesBeginning old new (replay_text s.item.partition ls)) is out))

-- ---- by its name

refused_beside : (read : Result Image Fault) (loaded : Image) (name devices : List ℕ) (found : ℕ × Item) (f : DeviceFault) → read ≡ ok_image loaded → numbered loaded name ≡ Some found → verdict_for loaded devices ≡ Err f → IsDeviceRefusalBeside read name devices f
refused_beside (Ok image) loaded name devices found f is named refused =
    let same = image_is image loaded is in
    (found, ap (λ (i : Image). numbered i name) same ∙ named, ap (λ (i : Image). verdict_for i devices) same ∙ refused)
refused_beside (Err g) loaded name devices found f is named refused = absurd cc

run_inputs : (read : Result Image Fault) (loaded : Image) (name devices : List ℕ) (n : ℕ) (found : ℕ × Item) (lines : List DeviceLine) → read ≡ ok_image loaded → n ≤ MOST_TICKS → numbered loaded name ≡ Some found → verdict_for loaded devices ≡ Ok lines
    → AreRunInputs read name devices n found.1.partition (machine_inputs loaded found.0 lines n)
run_inputs read loaded name devices n found lines is few named taken = record {
  image = loaded;
  lines = lines;
  run = record { loaded = is; taken = taken; few = few };
  found = found;
  named = named;
  its_row = refl;
  brought = refl;
}

slice_told : (read : Result Image Fault) (loaded : Image) (name devices : List ℕ) (n : ℕ) (found : ℕ × Item) (old new : Option (List ℕ)) (answer : Result (Unit {0}) InputsFault)
    → read ≡ ok_image loaded → n ≤ MOST_TICKS → numbered loaded name ≡ Some found → TellsSlice loaded (slice_of loaded found.0 found.1) devices n old new answer → Tells read name devices n old new answer
slice_told read loaded name devices n found old new (Ok x) is few named (lines, taken, told) =
    (found.1.partition, machine_inputs loaded found.0 lines n, run_inputs read loaded name devices n found lines is few named taken, told)
slice_told read loaded name devices n found old new (Err Write) is few named (lines, taken, told) =
    (found.1.partition, machine_inputs loaded found.0 lines n, run_inputs read loaded name devices n found lines is few named taken, told)
slice_told read loaded name devices n found old new (Err TooMany) is few named (lines, taken, told) =
    (found.1.partition, machine_inputs loaded found.0 lines n, run_inputs read loaded name devices n found lines is few named taken, told)
slice_told read loaded name devices n found old new (Err (Device f)) is few named h = (few, refused_beside read loaded name devices found f is named h.0, h.1)
slice_told read loaded name devices n found old new (Err Memory) is few named h = h
slice_told read loaded name devices n found old new (Err Ticks) is few named h = absurd h.2
slice_told read loaded name devices n found old new (Err (NoImage f)) is few named h = absurd h.2
slice_told read loaded name devices n found old new (Err NoPartition) is few named h = absurd h.2

pub told : (read : Result Image Fault) (loaded : Image) (name devices : List ℕ) (n p : ℕ) (old new : Option (List ℕ)) (answer : Result (Unit {0}) InputsFault)
    → read ≡ ok_image loaded → n ≤ MOST_TICKS → Some p ≡ option_map (λ (f : ℕ × Item). f.0) (numbered loaded name)
    → ((s : Slice) → slice loaded p ≡ Some s → TellsSlice loaded s devices n old new answer) → Tells read name devices n old new answer
told read loaded name devices n p old new answer is few number each =
    let r = by_number loaded name p number in
    slice_told read loaded name devices n r.0 old new answer is few r.1 (each (slice_of loaded r.0.0 r.0.1) (ap (slice loaded) r.2 ∙ numbered_slice loaded name r.0 r.1))
