-- The states that were written with the names of their sources.
use Rattle.std.proofs.Common.{◌≡◌, inl, inr, ℕ, ◌-◌, ◌^◌, List, [], ◌∷◌, ◌++◌, Option, Some, None, Result, Ok, Err, refl, sym, ap, subst, ◌∙◌, min}
use Rattle.std.specs.Prelude.{string_bytes}
use Rattle.std.specs.Io.KnownBytes.{Keeps}
use Rattle.std.proofs.KnownBytes.{Appends-kept}
use Rattle.std.specs.Str.Parse.{digits_value}
use Rattle.machine_meaning.specs.Image.{Image}
use Rattle.machine_meaning.specs.ImageReading.{Fault, image_at}
use Rattle.machine_meaning.specs.MachineMeaning.{verdict_for}
use Rattle.state_rows.specs.Named.{Source}
use Rattle.module.specs.NamedStates.{NamedStates}
use Rattle.module.specs.States.{Wanted}
use Rattle.module.specs.declared.fault.RunFault.{RunFault}
use Rattle.module.specs.declared.fault.RunFault.TheVariants.{Ticks, Image as NoImage, Partition, Device, Memory, Write, Failed}
use Rattle.module_meaning.specs.Accepted.{AreAccepted}
use Rattle.module_meaning.specs.Table.{Partition as Row}
use Rattle.pal_meaning.specs.Program.{Program}
use Rattle.streams.specs.Beginnings.{HoldsFrom}
use Rattle.streams.specs.Contents.{Contents, HoldAll}
use Rattle.text_beginnings.specs.Settled.{settles_inputs}
use Rattle.command_line.specs.Done.{AreNamedNumbers, AreOnlyLast, IsBuiltIn, IsNamedStateDone, IsNamedStateOf, ModuleAndText, is_ok}
use Rattle.command_line.specs.Ends.{Ends, EndsNamed}
use Rattle.command_line.specs.Linting.{HaveTrees}
use Rattle.command_line.specs.Orders.{ShowNames, moments_of}
use Rattle.command_line.specs.Reading.{IsUnread}
use Rattle.command_line.specs.Refusals.{IsFirstUnread, IsNamedStateRefused, IsNotBuilt}
use Rattle.command_line.specs.States.{IsUntouched, State}
use Rattle.command_line.specs.declared.outcome.Outcome.{Outcome}
use Rattle.command_line.specs.declared.outcome.Outcome.TheVariants.{Usual, Remarkable}
use Rattle.command_line.specs.declared.refusal.Refusal.{Refusal}
use Rattle.command_line.specs.declared.refusal.Refusal.TheVariants as refusal
use Rattle.command_line.proofs.Begun.{devices_settled, states_alike, whole_of}
use Rattle.command_line.proofs.Ran.{few_same, many_same}
use Rattle.command_line.proofs.Stated.{states_by}

-- ---- what is read

-- accepted sources have trees
pub built_have_trees : (rows : List Row) (texts : List (List ℕ)) (programs : List Program) → AreAccepted rows texts programs → HaveTrees texts
built_have_trees [] [] [] h = tt
built_have_trees (row ∷ rows) (text ∷ texts) (p ∷ ps) h = ((h.0.tree, h.0.written), built_have_trees rows texts ps h.1)
built_have_trees [] [] (p ∷ ps) h = absurd h
built_have_trees [] (text ∷ texts) ps h = absurd h
built_have_trees (row ∷ rows) [] ps h = absurd h
built_have_trees (row ∷ rows) (text ∷ texts) [] h = absurd h

unread_among : (files : Option Contents) (names more : List (List ℕ)) (name : List ℕ) → IsFirstUnread files names name → IsFirstUnread files (names ++ more) name
unread_among files [] more name h = absurd h
unread_among files (next ∷ names) more name (inl is) = inl is
unread_among files (next ∷ names) more name (inr (held, rest)) = inr (held, unread_among files names more name rest)

last_unread : (files : Option Contents) (names texts : List (List ℕ)) (name : List ℕ) → HoldAll files names texts → IsFirstUnread files (names ++ name ∷ []) name
last_unread files [] [] name h = inl refl
last_unread files (next ∷ names) (text ∷ texts) name h = inr ((text, h.0), last_unread files names texts name h.1)
last_unread files [] (text ∷ texts) name h = absurd h
last_unread files (next ∷ names) [] name h = absurd h

-- no image is built
pub not_built : (table : List ℕ) (sources : List (List ℕ)) (devices : List ℕ) (wanted : Wanted) (n : ℕ) (before after : State) (r : Refusal) → IsUntouched before after → IsNotBuilt before.files table sources r
    → IsNamedStateRefused table sources devices wanted n before after r
not_built table sources devices wanted n before after (refusal.File name reason) same h = (same, unread_among before.files (table ∷ sources) (devices ∷ []) (string_bytes name) h)
not_built table sources devices wanted n before after (refusal.LongTable name) same h = (same, h)
not_built table sources devices wanted n before after (refusal.Build fault) same h = (same, h)
not_built table sources devices wanted n before after refusal.Memory same h = same
not_built table sources devices wanted n before after (refusal.Run fault) same h = absurd h
not_built table sources devices wanted n before after (refusal.Replay fault) same h = absurd h
not_built table sources devices wanted n before after (refusal.Inputs fault) same h = absurd h
not_built table sources devices wanted n before after refusal.Write same h = absurd h

-- the device text is not read
pub not_read : (table : List ℕ) (sources : List (List ℕ)) (devices : List ℕ) (wanted : Wanted) (n : ℕ) (before after : State) (r : Refusal) (image : List ℕ) (made : List Source) → IsUntouched before after → IsBuiltIn before.files table sources image made → IsUnread devices r
    → IsNamedStateRefused table sources devices wanted n before after r
not_read table sources devices wanted n before after (refusal.File name reason) image made same built h =
    (same, subst (IsFirstUnread before.files (table ∷ sources ++ devices ∷ [])) (sym h) (inr ((built.texts.table_text, built.texts.in_table.0), last_unread before.files sources built.texts.source_texts devices built.texts.in_sources)))
not_read table sources devices wanted n before after refusal.Memory image made same built h = same
not_read table sources devices wanted n before after (refusal.LongTable name) image made same built h = absurd h
not_read table sources devices wanted n before after (refusal.Build fault) image made same built h = absurd h
not_read table sources devices wanted n before after (refusal.Run fault) image made same built h = absurd h
not_read table sources devices wanted n before after (refusal.Replay fault) image made same built h = absurd h
not_read table sources devices wanted n before after (refusal.Inputs fault) image made same built h = absurd h
not_read table sources devices wanted n before after refusal.Write image made same built h = absurd h

-- ---- texts that are judged alike

names_alike : (read : Result Image Fault) (devices whole : List ℕ) (n : ℕ) (wanted : Wanted) (made : List Source) (old new : Option (List ℕ)) (answer : Result (Unit {0}) RunFault)
    → ((i : Image) → verdict_for i whole ≡ verdict_for i devices) → NamedStates read devices n wanted made old new answer → NamedStates read whole n wanted made old new answer
names_alike read devices whole n wanted made old new (Ok x) same (text, (image, lines, r, named), out) =
    (text, (image, lines, record { loaded = r.loaded; taken = same image ∙ r.taken; few = r.few }, named), out)
names_alike read devices whole n wanted made old new (Err Write) same (text, (image, lines, r, named), out) =
    (text, (image, lines, record { loaded = r.loaded; taken = same image ∙ r.taken; few = r.few }, named), out)
names_alike read devices whole n wanted made old new (Err Ticks) same h = states_alike read devices whole n wanted old new (Err Ticks) same h
names_alike read devices whole n wanted made old new (Err (NoImage f)) same h = states_alike read devices whole n wanted old new (Err (NoImage f)) same h
names_alike read devices whole n wanted made old new (Err Partition) same h = states_alike read devices whole n wanted old new (Err Partition) same h
names_alike read devices whole n wanted made old new (Err (Device f)) same h = states_alike read devices whole n wanted old new (Err (Device f)) same h
names_alike read devices whole n wanted made old new (Err Memory) same h = h
names_alike read devices whole n wanted made old new (Err Failed) same h = absurd h

-- In files, a module and a device text; this is judged as the one that was read.
pub record GivenModule (files : Option Contents) (table : List ℕ) (sources : List (List ℕ)) (devices image : List ℕ) (made : List Source) (text_read : List ℕ) : Type 0 where
  pub given : ModuleAndText files table sources devices
  pub same_image : given.image ≡ image
  pub same_made : given.made ≡ made
  pub same_devices : (i : Image) → verdict_for i given.text_bytes ≡ verdict_for i text_read

pub given_module : (files now : Option Contents) (table : List ℕ) (sources : List (List ℕ)) (devices image : List ℕ) (made : List Source) (read given_text : List ℕ)
    → now ≡ files → given_text ≡ read → IsBuiltIn files table sources image made → HoldsFrom settles_inputs now devices read → GivenModule files table sources devices image made given_text
given_module files now table sources devices image made read given_text same same_text built in_text =
    let whole = whole_of settles_inputs files devices read (subst (λ f. HoldsFrom settles_inputs f devices read) same in_text) in
    record {
      given = record { image = image; made = made; built = built; text_bytes = whole.0; in_text = whole.1 };
      same_image = refl;
      same_made = refl;
      same_devices = λ i. devices_settled whole.0 read whole.2 i ∙ ap (verdict_for i) (sym same_text);
    }

pub names_of_whole : {files : Option Contents} {table : List ℕ} {sources : List (List ℕ)} {devices image : List ℕ} {made : List Source} {text_read : List ℕ} (g : GivenModule files table sources devices image made text_read) (wanted : Wanted) (n : ℕ) (old new : Option (List ℕ)) (answer : Result (Unit {0}) RunFault)
    → NamedStates (image_at image) text_read n wanted made old new answer → IsNamedStateOf g.given wanted n old new answer
names_of_whole {image = image} {made = made} {text_read = text_read} g wanted n old new answer h =
    names_alike (image_at g.given.image) text_read g.given.text_bytes n wanted g.given.made old new answer g.same_devices
    (subst (λ (i : List ℕ). NamedStates (image_at i) text_read n wanted g.given.made old new answer) (sym g.same_image)
    (subst (λ (ts : List Source). NamedStates (image_at image) text_read n wanted ts old new answer) (sym g.same_made) h))

-- ---- what is kept by a flush

pub kept_names : (read : Result Image Fault) (devices : List ℕ) (n : ℕ) (wanted : Wanted) (made : List Source) (old mid new : Option (List ℕ)) → NamedStates read devices n wanted made old mid is_ok → Keeps mid new → NamedStates read devices n wanted made old new is_ok
kept_names read devices n wanted made old mid new (text, is, out) kept = (text, is, Appends-kept old mid new text out kept)

-- ---- the number in a word, and its value in 64 bits

names_by : (read : Result Image Fault) (devices : List ℕ) (n v : ℕ) (wanted : Wanted) (made : List Source) (old new : Option (List ℕ)) (answer : Result (Unit {0}) RunFault) → n ≡ min v (2 ^ 64 - 1) → NamedStates read devices n wanted made old new answer → NamedStates read devices v wanted made old new answer
names_by read devices n v wanted made old new (Ok x) is h = subst (λ k. NamedStates read devices k wanted made old new (Ok x)) (few_same n v is h.1.2.few) h
names_by read devices n v wanted made old new (Err Write) is h = subst (λ k. NamedStates read devices k wanted made old new (Err Write)) (few_same n v is h.1.2.few) h
names_by read devices n v wanted made old new (Err Ticks) is h = states_by read devices n v wanted old new (Err Ticks) is h
names_by read devices n v wanted made old new (Err (NoImage f)) is h = states_by read devices n v wanted old new (Err (NoImage f)) is h
names_by read devices n v wanted made old new (Err Partition) is h = states_by read devices n v wanted old new (Err Partition) is h
names_by read devices n v wanted made old new (Err (Device f)) is h = states_by read devices n v wanted old new (Err (Device f)) is h
names_by read devices n v wanted made old new (Err Memory) is h = h
names_by read devices n v wanted made old new (Err Failed) is h = absurd h

-- ---- the command

named_done_by : (table : List ℕ) (sources : List (List ℕ)) (devices : List ℕ) (wanted : Wanted) (n v : ℕ) (before after : State) → n ≡ min v (2 ^ 64 - 1) → IsNamedStateDone table sources devices wanted n before after → IsNamedStateDone table sources devices wanted v before after
named_done_by table sources devices wanted n v before after is (same, given, named) =
    (same, given, names_by (image_at given.image) given.text_bytes n v wanted given.made before.out.taken after.out.taken is_ok is named)

pub named_refused_by : (table : List ℕ) (sources : List (List ℕ)) (devices : List ℕ) (wanted : Wanted) (n v : ℕ) (before after : State) (r : Refusal) → n ≡ min v (2 ^ 64 - 1) → IsNamedStateRefused table sources devices wanted n before after r → IsNamedStateRefused table sources devices wanted v before after r
named_refused_by table sources devices wanted n v before after (refusal.File name reason) is h = h
named_refused_by table sources devices wanted n v before after (refusal.LongTable name) is h = h
named_refused_by table sources devices wanted n v before after (refusal.Build fault) is h = h
named_refused_by table sources devices wanted n v before after (refusal.Run fault) is (failed, same, given, named) =
    (failed, same, given, names_by (image_at given.image) given.text_bytes n v wanted given.made before.out.taken after.out.taken (Err fault) is named)
named_refused_by table sources devices wanted n v before after refusal.Memory is h = h
named_refused_by table sources devices wanted n v before after refusal.Write is (failed, done) = (failed, named_done_by table sources devices wanted n v before after is done)
named_refused_by table sources devices wanted n v before after (refusal.Replay fault) is h = absurd h
named_refused_by table sources devices wanted n v before after (refusal.Inputs fault) is h = absurd h

-- a state that is shown with names is an order that is done
pub names_end : (table : List ℕ) (sources : List (List ℕ)) (devices tick : List ℕ) (wanted : Wanted) (n : ℕ) (before after : State) (outcome : Outcome) → AreNamedNumbers tick wanted → n ≡ min (digits_value 10 tick) (2 ^ 64 - 1) → EndsNamed table sources devices wanted n before after (Ok outcome) → Ends (ShowNames table sources devices tick wanted) before after (Ok outcome)
names_end table sources devices tick wanted n before after Usual right is (done, well) = ((right, named_done_by table sources devices wanted n (digits_value 10 tick) before after is done), well)
names_end table sources devices tick wanted n before after Remarkable right is h = absurd h

-- ---- only the last state

pub with_spaces : (word : List ℕ) (until : List (List ℕ)) → AreOnlyLast (moments_of (Some word) until) → ⊥
with_spaces word [] h = h
with_spaces word (w ∷ ws) h = h

pub with_row : (every : Option (List ℕ)) (word : List ℕ) (words : List (List ℕ)) → AreOnlyLast (moments_of every (word ∷ words)) → ⊥
with_row None word words h = h
with_row (Some number) word words h = h
