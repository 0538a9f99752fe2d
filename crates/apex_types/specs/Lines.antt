-- The lines of a step, as a buffer of a trace holds them.
use Rattle.std.specs.Prelude.{◌≡◌, ℕ, ◌-◌, ◌/◌, ◌≤◌, Bool, true, false, List, [], ◌∷◌, ◌++◌, length}
use Rattle.std.proofs.Common.{refl, ap, sym, subst}
use Rattle.std.proofs.Math.Nat.{le_refl}
use Rattle.std.proofs.lemmas.Bool.{true≢false}
use Rattle.std.proofs.lemmas.List.Concat.{flat_map-append}
use Rattle.apex_types.specs.declared.limits.TheConstants.{MOST_EVENTS, MOST_LINE_BYTES, MOST_STEP_BYTES}
use Rattle.apex_types.specs.Line.{line_of, text_of}
use Rattle.apex_types.specs.declared.event.Event.{Event}

-- the number of further lines that fit after this text
abbrev pub lines_left : List ℕ → ℕ
lines_left text = (MOST_STEP_BYTES - length text) / MOST_LINE_BYTES

-- ---- the rules of a log of events

pub text_of_both : (before after : List Event) → text_of (before ++ after) ≡ text_of before ++ text_of after
text_of_both before after = flat_map-append line_of before after

abbrev is_some_text : List ℕ → Bool
is_some_text [] = false
is_some_text (byte ∷ bytes) = true

-- each event has a line
pub no_text : (events : List Event) → text_of events ≡ [] → events ≡ []
no_text [] none = refl
no_text (e ∷ es) none = absurd (true≢false (ap is_some_text none))

-- an empty text has room for the lines of a phase
pub whole_room : (text : List ℕ) → text ≡ [] → MOST_EVENTS ≤ lines_left text
whole_room text none = subst (λ t. MOST_EVENTS ≤ lines_left t) (sym none) (le_refl MOST_EVENTS)

pub room_of_none : (events : List Event) → events ≡ [] → MOST_EVENTS ≤ MOST_EVENTS - length events
room_of_none events none = subst (λ l. MOST_EVENTS ≤ MOST_EVENTS - length l) (sym none) (le_refl MOST_EVENTS)
