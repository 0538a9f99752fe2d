-- From the parts of a replay to its promise.
use Rattle.module.proofs.Prelude.{◌≡◌, ◌≤◌, ◌^◌, ℕ, List, ◌∷◌, Option, Some, None, Result, Ok, Err, OnOk, refl, sym, ap, ◌∙◌, same_Some, Appends, MOST_TICKS, text_of, TakesBeginning, DeviceFault, DeviceLine, Image, Item, IsLawful, Fault, MachineControl, machine_trace, InputLine, AreInOrder, replay_verdict, numbered, Slice, machine_inputs, slice, slice_of, part_of_slice, IsRefusal, DeviceTextFault, Replays, IsRun, ReplaysSlice, fault_of_text, RunFault, NoImage, NoPartition, Memory, Write, Failed}
use Rattle.std.proofs.Common.{[], option_map, subst}
use Rattle.apex_types.specs.declared.sink.SinkFault.{SinkFault}
use Rattle.isolation.specs.Alone.{Alone, trace_alone}
use Rattle.isolation.specs.Brought.{part}
use Rattle.isolation.specs.Slices.{machine_alone, slice_trace}
use Rattle.lone_partition.specs.Lines.{AreFrom, tick_of_input}
use Rattle.module_base.specs.declared.fault.DeviceTextFault.TheVariants as text_fault
use Rattle.module.specs.Replays.{IsInputRefusal, LacksPartition, ReplaysPart}
use Rattle.module.specs.declared.fault.RunFault.TheVariants.{Ticks, Device}
use Rattle.module.proofs.Headline.{ok_image, image_is}
use Rattle.module.proofs.Named.{by_number, no_number, numbered_name, numbered_slice}

-- ---- one partition

-- its text is refused, or memory runs out
pub text_refused : (s : Slice) (inputs : List ℕ) (n : ℕ) (old : Option (List ℕ)) (f : DeviceTextFault) → IsRefusal (replay_verdict s.item.partition inputs) f → ReplaysSlice s inputs n old old (Err (fault_of_text f))
text_refused s inputs n old text_fault.Memory h = refl
text_refused s inputs n old (text_fault.Line f) h = (refused (replay_verdict s.item.partition inputs) h, refl)
  where
    refused : (v : Result (List InputLine) DeviceFault) → IsRefusal v (text_fault.Line f) → v ≡ Err f
    refused (Ok ls) k = absurd k
    refused (Err g) k = ap (λ (x : DeviceFault). Err x) k

-- the lines that are lent are the lines that were taken
pub inputs_taken : {verdict : Result (List InputLine) DeviceFault} {lines : List InputLine} (lent : List InputLine) → lent ≡ lines → verdict ≡ Ok lines → verdict ≡ Ok lent
inputs_taken lent same taken = taken ∙ ap (λ (ls : List InputLine). Ok ls) (sym same)

-- the partition that runs is that of the slice
same_alone : (s : Slice) (o : Option Slice) (a : Alone MachineControl) → Some a ≡ option_map machine_alone o → o ≡ Some s → a ≡ machine_alone s
same_alone s o a e is = same_Some a (machine_alone s) (e ∙ ap (option_map machine_alone) is)

pub slice_written : (s : Slice) (o : Option Slice) (a : Alone MachineControl) (inputs : List ℕ) (lines : List InputLine) (n : ℕ) (old new : Option (List ℕ)) → Some a ≡ option_map machine_alone o → o ≡ Some s
    → replay_verdict s.item.partition inputs ≡ Ok lines → Appends old new (text_of (trace_alone a lines n)) → ReplaysSlice s inputs n old new (Ok tt)
slice_written s o a inputs lines n old new e is taken out =
    (lines, taken, subst (λ (b : Alone MachineControl). Appends old new (text_of (trace_alone b lines n))) (same_alone s o a e is) out)

pub slice_cut_off : (s : Slice) (o : Option Slice) (a : Alone MachineControl) (inputs : List ℕ) (lines : List InputLine) (n : ℕ) (old new : Option (List ℕ)) → Some a ≡ option_map machine_alone o → o ≡ Some s
    → replay_verdict s.item.partition inputs ≡ Ok lines → TakesBeginning old new (text_of (trace_alone a lines n)) → ReplaysSlice s inputs n old new (Err Write)
slice_cut_off s o a inputs lines n old new e is taken out =
    (lines, taken, subst (λ (b : Alone MachineControl). TakesBeginning old new (text_of (trace_alone b lines n))) (same_alone s o a e is) out)

-- ---- by its name

refused_for : (read : Result Image Fault) (loaded : Image) (name inputs : List ℕ) (found : ℕ × Item) (f : DeviceFault) → read ≡ ok_image loaded → numbered loaded name ≡ Some found → replay_verdict found.1.partition inputs ≡ Err f → IsInputRefusal read name inputs f
refused_for (Ok image) loaded name inputs found f is named refused = (found, ap (λ (i : Image). numbered i name) (image_is image loaded is) ∙ named, refused)
refused_for (Err g) loaded name inputs found f is named refused = absurd cc

slice_replayed : (read : Result Image Fault) (loaded : Image) (name inputs : List ℕ) (n : ℕ) (found : ℕ × Item) (old new : Option (List ℕ)) (answer : Result (Unit {0}) RunFault)
    → read ≡ ok_image loaded → n ≤ MOST_TICKS → numbered loaded name ≡ Some found → ReplaysSlice (slice_of loaded found.0 found.1) inputs n old new answer → Replays read name inputs n old new answer
slice_replayed read loaded name inputs n found old new (Ok x) is few named (lines, taken, out) =
    (slice_of loaded found.0 found.1, lines, record { image = loaded; loaded = is; found = (found, named, refl); taken = taken; few = few }, out)
slice_replayed read loaded name inputs n found old new (Err Write) is few named (lines, taken, out) =
    (slice_of loaded found.0 found.1, lines, record { image = loaded; loaded = is; found = (found, named, refl); taken = taken; few = few }, out)
slice_replayed read loaded name inputs n found old new (Err (Device f)) is few named h = (few, refused_for read loaded name inputs found f is named h.0, h.1)
slice_replayed read loaded name inputs n found old new (Err Memory) is few named h = h
slice_replayed read loaded name inputs n found old new (Err Ticks) is few named h = absurd h
slice_replayed read loaded name inputs n found old new (Err (NoImage f)) is few named h = absurd h
slice_replayed read loaded name inputs n found old new (Err NoPartition) is few named h = absurd h
slice_replayed read loaded name inputs n found old new (Err Failed) is few named h = absurd h

pub replayed : (read : Result Image Fault) (loaded : Image) (name inputs : List ℕ) (n p : ℕ) (old new : Option (List ℕ)) (answer : Result (Unit {0}) RunFault)
    → read ≡ ok_image loaded → n ≤ MOST_TICKS → Some p ≡ option_map (λ (f : ℕ × Item). f.0) (numbered loaded name)
    → ((s : Slice) → slice loaded p ≡ Some s → ReplaysSlice s inputs n old new answer) → Replays read name inputs n old new answer
replayed read loaded name inputs n p old new answer is few number each =
    let r = by_number loaded name p number in
    let its = slice_of loaded r.0.0 r.0.1 in
    slice_replayed read loaded name inputs n r.0 old new answer is few r.1 (each its (ap (slice loaded) r.2 ∙ numbered_slice loaded name r.0 r.1))

-- there is no partition with this name
pub lacking : (read : Result Image Fault) (loaded : Image) (name : List ℕ) → read ≡ ok_image loaded → None ≡ option_map (λ (f : ℕ × Item). f.0) (numbered loaded name) → LacksPartition read name
lacking (Ok image) loaded name is none = ap (λ (i : Image). numbered i name) (image_is image loaded is) ∙ no_number loaded name none
lacking (Err f) loaded name is none = absurd cc

-- ---- isolation

abbrev ok_inputs : List InputLine → Result (List InputLine) DeviceFault
ok_inputs ls = Ok ls

inputs_are : (ls ms : List InputLine) → ok_inputs ls ≡ ok_inputs ms → ls ≡ ms
inputs_are ls ms e = cc

-- for the inputs that a run brings the partition, its part of that run's trace is written
pub replay_isolated : (read : Result Image Fault) (loaded : Image) (name inputs : List ℕ) (n : ℕ) (old new : Option (List ℕ)) (answer : Result (Unit {0}) RunFault)
    → IsLawful loaded → read ≡ ok_image loaded → Replays read name inputs n old new answer → OnOk answer (ReplaysPart read name inputs n old new)
replay_isolated read loaded name inputs n old new (Err f) lawful is h = tt
replay_isolated read loaded name inputs n old new (Ok x) lawful is (s, ls, r, out) = part_written
  where
    part_written : ReplaysPart read name inputs n old new
    part_written image found devices lines run named taken =
        let loaded_is : loaded ≡ image = image_is loaded image (sym is ∙ run.loaded) in
        let image_same : r.image ≡ image = image_is r.image image (sym r.loaded ∙ run.loaded) in
        let found_same : r.found.0 ≡ found = same_Some r.found.0 found (sym r.found.1 ∙ ap (λ (i : Image). numbered i name) image_same ∙ named) in
        let its = slice_of image found.0 found.1 in
        let slice_is : s ≡ its = r.found.2 ∙ ap (λ (i : Image). slice_of i r.found.0.0 r.found.0.1) image_same ∙ ap (λ (f : ℕ × Item). slice_of image f.0 f.1) found_same in
        let lines_are : ls ≡ machine_inputs image found.0 lines n = inputs_are ls (machine_inputs image found.0 lines n) (sym r.taken ∙ ap (λ (t : Slice). replay_verdict t.item.partition inputs) slice_is ∙ taken) in
        let part_is = part_of_slice image devices lines found.0 its n (subst IsLawful loaded_is lawful) run.taken (numbered_slice image name found named) in
        let text_is : text_of (slice_trace s ls n) ≡ text_of (part name (machine_trace image lines n)) =
        ap (λ (t : Slice). text_of (slice_trace t ls n)) slice_is
        ∙ ap (λ (is : List InputLine). text_of (slice_trace its is n)) lines_are
        ∙ ap text_of (sym part_is)
        ∙ ap (λ (own : List ℕ). text_of (part own (machine_trace image lines n))) (numbered_name image name found named) in
        subst (Appends old new) text_is out

-- ---- the order of the inputs

-- in the form that the lone partition requires
pub in_order : (before : ℕ) (ls : List InputLine) → AreInOrder before ls → AreFrom tick_of_input before ls
in_order before [] h = tt
in_order before (l ∷ ls) h = (h.0, in_order l.tick.0 ls h.1)
