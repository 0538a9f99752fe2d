-- Files of which a beginning was read: what it settles holds for the whole file.
use Rattle.std.proofs.Common.{◌≡◌, inl, inr, ℕ, Bool, true, false, List, [], ◌∷◌, ◌++◌, Option, Some, None, Result, Ok, Err, refl, sym, ap, subst, ◌∙◌, append-nil}
use Rattle.std.specs.Io.KnownBytes.{Appends}
use Rattle.apex_types.specs.Line.{TakesBeginning}
use Rattle.apex_types.specs.declared.device.DeviceFault.{DeviceFault}
use Rattle.isolation.specs.ReplayText.{replay_verdict}
use Rattle.isolation.specs.declared.input.InputLine.{InputLine}
use Rattle.machine_meaning.specs.Image.{Image}
use Rattle.machine_meaning.specs.ImageReading.{Fault, image_at}
use Rattle.machine_meaning.specs.MachineMeaning.{verdict_for}
use Rattle.module_meaning.specs.Table.{Partition}
use Rattle.module.specs.Replays.{IsInputRefusal, Replays}
use Rattle.module.specs.Runs.{IsDeviceRefusal, Runs}
use Rattle.module.specs.States.{HasTaken, States, Wanted}
use Rattle.module.specs.Telling.{AreRunInputs, IsDeviceRefusalBeside, Tells}
use Rattle.module.specs.declared.fault.RunFault.{RunFault}
use Rattle.module.specs.declared.fault.RunFault.TheVariants as run
use Rattle.module.specs.declared.inputs_fault.InputsFault.{InputsFault}
use Rattle.module.specs.declared.inputs_fault.InputsFault.TheVariants as inputs
use Rattle.streams.specs.Beginnings.{HoldsFrom, IsBeginningOf}
use Rattle.streams.specs.Contents.{Contents, Holds}
use Rattle.text_beginnings.specs.Settled.{settles_image, settles_inputs}
use Rattle.text_beginnings.proofs.Images.{no_image}
use Rattle.text_beginnings.proofs.Inputs.{same_device_text, same_replay_text}
use Rattle.module.specs.Running.{IsRefused}
use Rattle.module.specs.Upgrades.{IsUpgraded}
use Rattle.command_line.specs.Stops.{RunsUntil}
use Rattle.command_line.specs.Done.{AreInputsOf, ImageAndText, IsImageIn, IsReplayOf, IsRunOf, IsStateOf, IsTraced, IsUpgradedIn}
use Rattle.command_line.specs.declared.outcome.Outcome.{Outcome}
use Rattle.command_line.specs.declared.outcome.Outcome.TheVariants.{Usual, Remarkable}
use Rattle.command_line.specs.Reading.{IsHeld}
use Rattle.command_line.specs.Refusals.{IsNotLoaded}
use Rattle.command_line.specs.declared.refusal.Refusal.TheVariants as refusal

-- the whole of a file, of which these bytes are the beginning
pub whole_of : (suffices : List ℕ → Bool) (files : Option Contents) (name bytes : List ℕ) → HoldsFrom suffices files name bytes → (whole : List ℕ) × Holds files name whole × IsBeginningOf suffices whole bytes
whole_of suffices None name bytes held = (bytes, tt, ([], sym (append-nil bytes), inl refl))
whole_of suffices (Some files) name bytes held = held

pub all_of : (whole bytes rest : List ℕ) → whole ≡ bytes ++ rest → rest ≡ [] → whole ≡ bytes
all_of whole bytes rest is none = is ∙ ap (λ r. bytes ++ r) none ∙ append-nil bytes

-- what is said of the beginning is said of the whole
pub settled : {A : Type 0} (suffices : List ℕ → Bool) (judge : List ℕ → A) → ((bytes rest : List ℕ) → suffices bytes ≡ true → judge (bytes ++ rest) ≡ judge bytes)
    → (whole bytes : List ℕ) → IsBeginningOf suffices whole bytes → judge whole ≡ judge bytes
settled suffices judge law whole bytes (rest, is, inl none) = ap judge (all_of whole bytes rest is none)
settled suffices judge law whole bytes (rest, is, inr enough) = ap judge is ∙ law bytes rest enough

pub image_settled : (whole bytes : List ℕ) → IsBeginningOf settles_image whole bytes → image_at whole ≡ image_at bytes
image_settled = settled settles_image image_at no_image

pub devices_settled : (whole bytes : List ℕ) → IsBeginningOf settles_inputs whole bytes → (image : Image) → verdict_for image whole ≡ verdict_for image bytes
devices_settled whole bytes begun image = settled settles_inputs (verdict_for image) (same_device_text _ image.channels) whole bytes begun

replay_settled : (whole bytes : List ℕ) → IsBeginningOf settles_inputs whole bytes → (row : Partition) → replay_verdict row whole ≡ replay_verdict row bytes
replay_settled whole bytes begun row = settled settles_inputs (replay_verdict row) (same_replay_text row) whole bytes begun

-- ---- an image and a text of inputs

-- In files, an image and a text; these are judged as those that were read.
pub record Given (files : Option Contents) (image text image_read text_read : List ℕ) : Type 0 where
  pub given : ImageAndText files image text
  pub same_image : image_at given.image_bytes ≡ image_at image_read
  pub same_devices : (i : Image) → verdict_for i given.text_bytes ≡ verdict_for i text_read
  pub same_replay : (row : Partition) → replay_verdict row given.text_bytes ≡ replay_verdict row text_read

pub given_from : (files now : Option Contents) (image text bytes read given_bytes given_text : List ℕ)
    → now ≡ files → given_bytes ≡ bytes → given_text ≡ read → HoldsFrom settles_image files image bytes → HoldsFrom settles_inputs now text read → Given files image text given_bytes given_text
given_from files now image text bytes read given_bytes given_text same same_bytes same_text in_image in_text =
    let first = whole_of settles_image files image bytes in_image in
    let second = whole_of settles_inputs files text read (subst (λ f. HoldsFrom settles_inputs f text read) same in_text) in
    record {
      given = record { image_bytes = first.0; text_bytes = second.0; in_image = first.1; in_text = second.1 };
      same_image = image_settled first.0 bytes first.2 ∙ ap image_at (sym same_bytes);
      same_devices = λ i. devices_settled second.0 read second.2 i ∙ ap (verdict_for i) (sym same_text);
      same_replay = λ row. replay_settled second.0 read second.2 row ∙ ap (replay_verdict row) (sym same_text);
    }

-- ---- runs, replays and inputs of texts that are judged alike

refusal_alike : (read : Result Image Fault) (devices whole : List ℕ) (f : DeviceFault) → ((i : Image) → verdict_for i whole ≡ verdict_for i devices) → IsDeviceRefusal read devices f → IsDeviceRefusal read whole f
refusal_alike (Err fault) devices whole f same h = absurd h
refusal_alike (Ok image) devices whole f same h = same image ∙ h

runs_alike : (read : Result Image Fault) (devices whole : List ℕ) (n : ℕ) (old new : Option (List ℕ)) (answer : Result (Unit {0}) RunFault)
    → ((i : Image) → verdict_for i whole ≡ verdict_for i devices) → Runs read devices n old new answer → Runs read whole n old new answer
runs_alike read devices whole n old new (Ok x) same (image, lines, r, out) = (image, lines, record { loaded = r.loaded; taken = same image ∙ r.taken; few = r.few }, out)
runs_alike read devices whole n old new (Err run.Write) same (image, lines, r, out) = (image, lines, record { loaded = r.loaded; taken = same image ∙ r.taken; few = r.few }, out)
runs_alike read devices whole n old new (Err (run.Device f)) same (few, refused, kept) = (few, refusal_alike read devices whole f same refused, kept)
runs_alike read devices whole n old new (Err run.Ticks) same h = h
runs_alike read devices whole n old new (Err (run.Image f)) same h = h
runs_alike read devices whole n old new (Err run.Partition) same h = h
runs_alike read devices whole n old new (Err run.Memory) same h = h
runs_alike read devices whole n old new (Err run.Failed) same h = h

until_alike : (read : Result Image Fault) (devices whole : List ℕ) (asked : List (List ℕ)) (n : ℕ) (old new : Option (List ℕ)) (answer : Result Bool RunFault)
    → ((i : Image) → verdict_for i whole ≡ verdict_for i devices) → RunsUntil read devices asked n old new answer → RunsUntil read whole asked n old new answer
until_alike read devices whole asked n old new (Ok found) same (image, lines, r, ended) = (image, lines, record { loaded = r.loaded; taken = same image ∙ r.taken; few = r.few }, ended)
until_alike read devices whole asked n old new (Err run.Memory) same (inl kept) = inl kept
until_alike read devices whole asked n old new (Err run.Memory) same (inr (image, lines, r, ended)) = inr (image, lines, record { loaded = r.loaded; taken = same image ∙ r.taken; few = r.few }, ended)
until_alike read devices whole asked n old new (Err run.Write) same (image, lines, r, ended) = (image, lines, record { loaded = r.loaded; taken = same image ∙ r.taken; few = r.few }, ended)
until_alike read devices whole asked n old new (Err (run.Device f)) same h = runs_alike read devices whole n old new (Err (run.Device f)) same h
until_alike read devices whole asked n old new (Err run.Ticks) same h = h
until_alike read devices whole asked n old new (Err (run.Image f)) same h = h
until_alike read devices whole asked n old new (Err run.Partition) same h = h
until_alike read devices whole asked n old new (Err run.Failed) same h = h

traced_alike : (read : Result Image Fault) (devices whole : List ℕ) (until : List (List ℕ)) (n : ℕ) (old new : Option (List ℕ)) (answer : Result Outcome RunFault)
    → ((i : Image) → verdict_for i whole ≡ verdict_for i devices) → IsTraced read devices until n old new answer → IsTraced read whole until n old new answer
traced_alike read devices whole [] n old new (Ok Usual) same h = runs_alike read devices whole n old new (Ok tt) same h
traced_alike read devices whole [] n old new (Ok Remarkable) same h = absurd h
traced_alike read devices whole [] n old new (Err fault) same h = runs_alike read devices whole n old new (Err fault) same h
traced_alike read devices whole (word ∷ words) n old new (Ok Usual) same h = until_alike read devices whole (word ∷ words) n old new (Ok true) same h
traced_alike read devices whole (word ∷ words) n old new (Ok Remarkable) same h = until_alike read devices whole (word ∷ words) n old new (Ok false) same h
traced_alike read devices whole (word ∷ words) n old new (Err fault) same h = until_alike read devices whole (word ∷ words) n old new (Err fault) same h

pub run_of_whole : {files : Option Contents} {image devices image_read text_read : List ℕ} (g : Given files image devices image_read text_read) (until : List (List ℕ)) (n : ℕ) (old new : Option (List ℕ)) (answer : Result Outcome RunFault)
    → IsTraced (image_at image_read) text_read until n old new answer → IsRunOf g.given until n old new answer
run_of_whole {text_read = text_read} g until n old new answer h =
    traced_alike (image_at g.given.image_bytes) text_read g.given.text_bytes until n old new answer g.same_devices (subst (λ read. IsTraced read text_read until n old new answer) (sym g.same_image) h)

replays_alike : (read : Result Image Fault) (name text whole : List ℕ) (n : ℕ) (old new : Option (List ℕ)) (answer : Result (Unit {0}) RunFault)
    → ((row : Partition) → replay_verdict row whole ≡ replay_verdict row text) → Replays read name text n old new answer → Replays read name whole n old new answer
replays_alike read name text whole n old new (Ok x) same (s, lines, r, out) =
    (s, lines, record { image = r.image; loaded = r.loaded; found = r.found; taken = same s.item.partition ∙ r.taken; few = r.few }, out)
replays_alike read name text whole n old new (Err run.Write) same (s, lines, r, out) =
    (s, lines, record { image = r.image; loaded = r.loaded; found = r.found; taken = same s.item.partition ∙ r.taken; few = r.few }, out)
replays_alike read name text whole n old new (Err (run.Device f)) same (few, refused, kept) = (few, input_alike read name text whole f same refused, kept)
  where
    input_alike : (read : Result Image Fault) (name text whole : List ℕ) (f : DeviceFault) → ((row : Partition) → replay_verdict row whole ≡ replay_verdict row text) → IsInputRefusal read name text f → IsInputRefusal read name whole f
    input_alike (Err fault) name text whole f same h = absurd h
    input_alike (Ok image) name text whole f same (found, numbered, refused) = (found, numbered, same found.1.partition ∙ refused)
replays_alike read name text whole n old new (Err run.Ticks) same h = h
replays_alike read name text whole n old new (Err (run.Image f)) same h = h
replays_alike read name text whole n old new (Err run.Partition) same h = h
replays_alike read name text whole n old new (Err run.Memory) same h = h
replays_alike read name text whole n old new (Err run.Failed) same h = absurd h

pub replay_of_whole : {files : Option Contents} {image text image_read text_read : List ℕ} (g : Given files image text image_read text_read) (name : List ℕ) (n : ℕ) (old new : Option (List ℕ)) (answer : Result (Unit {0}) RunFault)
    → Replays (image_at image_read) name text_read n old new answer → IsReplayOf g.given name n old new answer
replay_of_whole {text_read = text_read} g name n old new answer h =
    replays_alike (image_at g.given.image_bytes) name text_read g.given.text_bytes n old new answer g.same_replay (subst (λ read. Replays read name text_read n old new answer) (sym g.same_image) h)

inputs_alike : (read : Result Image Fault) (name devices whole : List ℕ) (n : ℕ) (row : Partition) (found : List InputLine)
    → ((i : Image) → verdict_for i whole ≡ verdict_for i devices) → AreRunInputs read name devices n row found → AreRunInputs read name whole n row found
inputs_alike read name devices whole n row found same r = record {
  image = r.image;
  lines = r.lines;
  run = record { loaded = r.run.loaded; taken = same r.image ∙ r.run.taken; few = r.run.few };
  found = r.found;
  named = r.named;
  its_row = r.its_row;
  brought = r.brought;
}

tells_alike : (read : Result Image Fault) (name devices whole : List ℕ) (n : ℕ) (old new : Option (List ℕ)) (answer : Result (Unit {0}) InputsFault)
    → ((i : Image) → verdict_for i whole ≡ verdict_for i devices) → Tells read name devices n old new answer → Tells read name whole n old new answer
tells_alike read name devices whole n old new (Ok x) same (row, found, r, out) = (row, found, inputs_alike read name devices whole n row found same r, out)
tells_alike read name devices whole n old new (Err inputs.Write) same (row, found, r, out) = (row, found, inputs_alike read name devices whole n row found same r, out)
tells_alike read name devices whole n old new (Err inputs.TooMany) same (row, found, r, out) = (row, found, inputs_alike read name devices whole n row found same r, out)
tells_alike read name devices whole n old new (Err (inputs.Device f)) same (few, refused, kept) = (few, beside read name devices whole f same refused, kept)
  where
    beside : (read : Result Image Fault) (name devices whole : List ℕ) (f : DeviceFault) → ((i : Image) → verdict_for i whole ≡ verdict_for i devices) → IsDeviceRefusalBeside read name devices f → IsDeviceRefusalBeside read name whole f
    beside (Err fault) name devices whole f same h = absurd h
    beside (Ok image) name devices whole f same (found, numbered, refused) = (found, numbered, same image ∙ refused)
tells_alike read name devices whole n old new (Err inputs.Ticks) same h = h
tells_alike read name devices whole n old new (Err (inputs.Image f)) same h = h
tells_alike read name devices whole n old new (Err inputs.Partition) same h = h
tells_alike read name devices whole n old new (Err inputs.Memory) same h = h

pub inputs_of_whole : {files : Option Contents} {image devices image_read text_read : List ℕ} (g : Given files image devices image_read text_read) (name : List ℕ) (n : ℕ) (old new : Option (List ℕ)) (answer : Result (Unit {0}) InputsFault)
    → Tells (image_at image_read) name text_read n old new answer → AreInputsOf g.given name n old new answer
inputs_of_whole {text_read = text_read} g name n old new answer h =
    tells_alike (image_at g.given.image_bytes) name text_read g.given.text_bytes n old new answer g.same_devices (subst (λ read. Tells read name text_read n old new answer) (sym g.same_image) h)

taken_alike : (Takes : Option (List ℕ) → Option (List ℕ) → List ℕ → Type 0) (read : Result Image Fault) (devices whole : List ℕ) (n : ℕ) (wanted : Wanted) (old new : Option (List ℕ)) (found : Bool)
    → ((i : Image) → verdict_for i whole ≡ verdict_for i devices) → HasTaken Takes read devices n wanted old new found → HasTaken Takes read whole n wanted old new found
taken_alike Takes read devices whole n wanted old new found same (image, lines, r, text, is, out) =
    (image, lines, record { loaded = r.loaded; taken = same image ∙ r.taken; few = r.few }, text, is, out)

pub states_alike : (read : Result Image Fault) (devices whole : List ℕ) (n : ℕ) (wanted : Wanted) (old new : Option (List ℕ)) (answer : Result Bool RunFault)
    → ((i : Image) → verdict_for i whole ≡ verdict_for i devices) → States read devices n wanted old new answer → States read whole n wanted old new answer
states_alike read devices whole n wanted old new (Ok found) same h = taken_alike Appends read devices whole n wanted old new found same h
states_alike read devices whole n wanted old new (Err run.Write) same h = taken_alike TakesBeginning read devices whole n wanted old new true same h
states_alike read devices whole n wanted old new (Err (run.Device f)) same (few, refused, kept) = (few, refusal_alike read devices whole f same refused, kept)
states_alike read devices whole n wanted old new (Err run.Ticks) same h = h
states_alike read devices whole n wanted old new (Err (run.Image f)) same h = h
states_alike read devices whole n wanted old new (Err run.Partition) same h = h
states_alike read devices whole n wanted old new (Err run.Memory) same (inl kept) = inl kept
states_alike read devices whole n wanted old new (Err run.Memory) same (inr (several, h)) = inr (several, taken_alike TakesBeginning read devices whole n wanted old new true same h)
states_alike read devices whole n wanted old new (Err run.Failed) same h = absurd h

pub state_of_whole : {files : Option Contents} {image devices image_read text_read : List ℕ} (g : Given files image devices image_read text_read) (wanted : Wanted) (n : ℕ) (old new : Option (List ℕ)) (answer : Result Bool RunFault)
    → States (image_at image_read) text_read n wanted old new answer → IsStateOf g.given wanted n old new answer
state_of_whole {text_read = text_read} g wanted n old new answer h =
    states_alike (image_at g.given.image_bytes) text_read g.given.text_bytes n wanted old new answer g.same_devices (subst (λ read. States read text_read n wanted old new answer) (sym g.same_image) h)

-- ---- only an image

pub loaded_whole : (files : Option Contents) (name bytes given : List ℕ) (image : Image)
    → given ≡ bytes → HoldsFrom settles_image files name bytes → image_at given ≡ Ok image → IsImageIn files name image
loaded_whole files name bytes given image same held h =
    let whole = whole_of settles_image files name bytes held in
    record { image_bytes = whole.0; in_image = whole.1; loaded = image_settled whole.0 bytes whole.2 ∙ ap image_at (sym same) ∙ h }

pub unloaded_whole : (files : Option Contents) (name bytes given : List ℕ) (fault : RunFault)
    → given ≡ bytes → HoldsFrom settles_image files name bytes → IsRefused (image_at given) fault → IsNotLoaded files name (refusal.Run fault)
unloaded_whole files name bytes given fault same held h =
    let whole = whole_of settles_image files name bytes held in
    (whole.0, whole.1, subst (λ read. IsRefused read fault) (ap image_at same ∙ sym (image_settled whole.0 bytes whole.2)) h)

pub upgraded_whole : (files : Option Contents) (name bytes given new : List ℕ)
    → given ≡ bytes → HoldsFrom settles_image files name bytes → IsUpgraded given new → IsUpgradedIn files name new
upgraded_whole files name bytes given new same held h =
    let whole = whole_of settles_image files name bytes held in
    record {
      image_bytes = whole.0;
      in_image = whole.1;
      upgraded = record { image = h.image; loaded = image_settled whole.0 bytes whole.2 ∙ ap image_at (sym same) ∙ h.loaded; read = h.read; taken = h.taken; same = h.same };
    }

pub held_on : (suffices : List ℕ → Bool) (files : Option Contents) (name bytes : List ℕ) → HoldsFrom suffices files name bytes → IsHeld files name
held_on suffices files name bytes held = let whole = whole_of suffices files name bytes held in (whole.0, whole.1)
