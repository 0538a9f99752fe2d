-- The text that is still ahead of a run, and the line that it waits for.
use Rattle.std.proofs.Common.{◌≡◌, ◌≤◌, ◌<◌, ◌⊎◌, inl, inr, ◌+◌, ◌-◌, ℕ, zero, suc, true, false, List, [], ◌∷◌, ◌++◌, refl, sym, ap, ◌∙◌, append-nil, arith}
use Rattle.std.specs.Prelude.{◌||◌}
use Rattle.apex_types.specs.Line.{text_of}
use Rattle.apex_types.specs.declared.device.DeviceLine.{DeviceLine}
use Rattle.apex_types.specs.declared.event.Event.{Event}
use Rattle.machine_meaning.specs.Image.{Image}
use Rattle.machine_meaning.specs.MachineControl.{MachineControl}
use Rattle.machine_meaning.specs.MachineMeaning.{machine_module, machine_trace}
use Rattle.module_meaning.specs.Module.{Plan, of_tick}
use Rattle.module.specs.Machines.{Machine, course_of}
use Rattle.module.specs.Pieces.{LeadsTo}
use Rattle.module_meaning.specs.Standing.{Elapsed, Standing, after, elapse, lines_of, ticks}
use Rattle.module.specs.Watched.{text_to}
use Rattle.module.proofs.Ahead.{IsAhead, ahead_further, text_on}
use Rattle.module.proofs.DeviceLines.{of_tick_again}
use Rattle.module.proofs.Standing.{tick_text}
use Rattle.command_line.specs.StopSteps.{IsHeld}
use Rattle.command_line.specs.Awaited.{has_line}
use Rattle.command_line.proofs.WholeLines.{line_behind, line_of_nothing}

-- no line came in this many ticks, nor in fewer
abbrev pub NoneCame : List (List ℕ) → Image → List DeviceLine → ℕ → Type 0
NoneCame asked image devices n = (k : ℕ) → k ≤ n → has_line asked (text_to image devices k) ≡ false

-- ---- before the first tick

none_at_first : (asked : List (List ℕ)) (image : Image) (devices : List DeviceLine) → has_line asked (text_to image devices 0) ≡ false
none_at_first asked image devices = line_of_nothing asked

pub none_first : (asked : List (List ℕ)) (image : Image) (devices : List DeviceLine) (n : ℕ) → n ≡ 0 → NoneCame asked image devices n
none_first asked image devices n is k few =
    let none : k ≡ 0 = omega (arith, is, few) in
    ap (λ j. has_line asked (text_to image devices j)) none ∙ none_at_first asked image devices

-- ---- ticks without lines

none_of : (one two : List Event) → one ++ two ≡ [] → (one ≡ []) × (two ≡ [])
none_of [] two h = (refl, h)
none_of (x ∷ xs) two h = absurd cc

-- fewer ticks than those without a line have none
none_sooner : {C : Type 0} (plan : Plan) (lines : List DeviceLine) (n k : ℕ) (s : Standing C) → k ≤ n → lines_of plan lines n s ≡ [] → lines_of plan lines k s ≡ []
none_sooner plan lines n zero s few h = refl
none_sooner plan lines zero (suc k) s few h = absurd (omega (arith, few))
none_sooner plan lines (suc n) (suc k) s few h =
    let c = ticks plan (of_tick s.now lines) s in
    let parts = none_of c.lines (lines_of plan lines n (after s c)) h in
    ap (λ (es : List Event). es ++ lines_of plan lines k (after s c)) parts.0 ∙ none_sooner plan lines n k (after s c) (omega (arith, few)) parts.1

skipped_none : {C : Type 0} (plan : Plan) (lines : List DeviceLine) (n k : ℕ) (s next : Standing C) → LeadsTo plan lines n s [] next → k ≤ n → lines_of plan lines k s ≡ []
skipped_none plan lines n k s next leads few =
    let same : n ≡ n + 0 = omega arith in
    none_sooner plan lines n k s few (ap (λ (e : Elapsed _). e.lines) (ap (λ j. elapse plan lines j s) same ∙ leads 0))

-- the text is unchanged
pub text_skipped : (image : Image) (devices lines : List DeviceLine) (n k : ℕ) (s next : Standing MachineControl) → IsAhead image devices lines s → LeadsTo (machine_module image).plan lines n s [] next → k ≤ n
    → text_to image devices (s.now + k) ≡ text_to image devices s.now
text_skipped image devices lines n k s next ahead leads few =
    ahead k ∙ ap (λ (es : List Event). text_to image devices s.now ++ text_of es) (skipped_none (machine_module image).plan lines n k s next leads few) ∙ append-nil (text_to image devices s.now)

pub ahead_skipped : (image : Image) (devices lines : List DeviceLine) (n : ℕ) (s next : Standing MachineControl) → next.now ≡ s.now + n → IsAhead image devices lines s → LeadsTo (machine_module image).plan lines n s [] next
    → IsAhead image devices lines next
ahead_skipped image devices lines n s next now ahead leads =
    ahead_further image devices lines lines n [] s next now (λ k. ap (λ (e : Elapsed _). text_of e.lines) (leads k)) ahead

apart : (a b : ℕ) → (a ≤ b) ⊎ (b < a)
apart zero b = inl (omega arith)
apart (suc a) zero = inr (omega arith)
apart (suc a) (suc b) = elim (apart a b) [ inl h ↦ inl (omega (arith, h)) | inr h ↦ inr (omega (arith, h)) ]

-- none came in the ticks up to t, nor in n more, which add no text
pub none_later : (asked : List (List ℕ)) (image : Image) (devices : List DeviceLine) (t n u : ℕ) → u ≡ t + n → ((k : ℕ) → k ≤ n → text_to image devices (t + k) ≡ text_to image devices t)
    → NoneCame asked image devices t → NoneCame asked image devices u
none_later asked image devices t n u is same none k few = elim (apart k t) [
  | inl sooner ↦ none k sooner
  | inr later ↦
      let there : k ≡ t + (k - t) = omega (arith, later) in
      let within : k - t ≤ n = omega (arith, few, is, later) in
      let here : t ≤ t = omega arith in
      ap (λ j. has_line asked (text_to image devices j)) there ∙ ap (has_line asked) (same (k - t) within) ∙ none t here
]

-- ---- a tick

-- the ticks from here on are the current tick and those after it
pub tick_on : (image : Image) (m next : Machine) (lines later : List DeviceLine) (bytes : List ℕ) (k : ℕ) → m.image ≡ image → IsHeld lines later m next bytes
    → text_on image lines (suc k) m.standing ≡ bytes ++ text_on image later k next.standing
tick_on image m next lines later bytes k same held =
    let plan = (machine_module image).plan in
    let now = of_tick m.standing.now lines in
    let course : course_of now m ≡ ticks plan now m.standing = ap (λ (i : Image). ticks (machine_module i).plan now m.standing) same in
    tick_text plan lines now later (suc k) k m.standing next.standing refl (of_tick_again m.standing.now lines) held.others (held.standing ∙ ap (λ c. after m.standing c) course)
    ∙ ap (λ (text : List ℕ). text ++ text_on image later k next.standing) (ap (λ c. text_of c.lines) (sym course) ∙ sym held.text)

-- the text after the tick
pub text_ticked : (image : Image) (m next : Machine) (devices lines later : List DeviceLine) (bytes : List ℕ) → m.image ≡ image → IsHeld lines later m next bytes
    → IsAhead image devices lines m.standing → text_to image devices (m.standing.now + 1) ≡ text_to image devices m.standing.now ++ bytes
text_ticked image m next devices lines later bytes same held ahead =
    ahead 1 ∙ ap (λ (text : List ℕ). text_to image devices m.standing.now ++ text) (tick_on image m next lines later bytes 0 same held ∙ append-nil bytes)

pub now_ticked : {lines later : List DeviceLine} {m next : Machine} {bytes : List ℕ} → IsHeld lines later m next bytes → next.standing.now ≡ m.standing.now + 1
now_ticked held = ap (λ s. s.now) held.standing

pub ahead_ticked : (image : Image) (m next : Machine) (devices lines later : List DeviceLine) (bytes : List ℕ) → m.image ≡ image → IsHeld lines later m next bytes
    → IsAhead image devices lines m.standing → IsAhead image devices later next.standing
ahead_ticked image m next devices lines later bytes same held ahead =
    ahead_further image devices lines later 1 bytes m.standing next.standing (now_ticked held)
    (λ k. let one : 1 + k ≡ suc k = omega arith in ap (λ j. text_on image lines j m.standing) one ∙ tick_on image m next lines later bytes k same held)
    ahead

-- a line came by one more tick if one came before it or in it
pub line_ticked : (asked : List (List ℕ)) (image : Image) (devices : List DeviceLine) (t u : ℕ) (bytes : List ℕ) → u ≡ t + 1 → text_to image devices (t + 1) ≡ text_to image devices t ++ bytes → NoneCame asked image devices t
    → has_line asked (text_to image devices u) ≡ has_line asked bytes
line_ticked asked image devices t u bytes after is none =
    let here : t ≤ t = omega arith in
    ap (λ j. has_line asked (text_to image devices j)) after
    ∙ ap (has_line asked) is
    ∙ line_behind asked (machine_trace image devices t) bytes
    ∙ ap (λ b. b || has_line asked bytes) (none t here)

-- no line came in the tick
pub none_ticked : (asked : List (List ℕ)) (image : Image) (devices : List DeviceLine) (t u : ℕ) → u ≡ t + 1 → NoneCame asked image devices t → has_line asked (text_to image devices u) ≡ false → NoneCame asked image devices u
none_ticked asked image devices t u after none last k few = elim (apart k t) [
  | inl sooner ↦ none k sooner
  | inr later ↦
      let is : k ≡ u = omega (arith, later, few, after) in
      ap (λ j. has_line asked (text_to image devices j)) is ∙ last
]
