-- The room that a step has for its lines and actions.
use Rattle.std.specs.Prelude.{◌≡◌, ℕ, ◌+◌, ◌≤◌, [], length}
use Rattle.apex_types.specs.declared.limits.TheConstants.{MOST_ACTIONS, MOST_EVENTS}
use Rattle.apex_types.specs.Output.{Output}

-- room for `lines` more lines and `actions` more actions
abbrev pub HasRoom : ℕ → ℕ → Output → Type 0
HasRoom lines actions out = (length out.lines + lines ≤ MOST_EVENTS) × (length out.actions + actions ≤ MOST_ACTIONS)

-- no line and no action yet
abbrev pub IsEmpty : Output → Type 0
IsEmpty out = (out.lines ≡ []) × (out.actions ≡ [])

-- at most `lines` lines and at most `actions` actions were added
abbrev pub Grows : ℕ → ℕ → Output → Output → Type 0
Grows lines actions before after = (length after.lines ≤ length before.lines + lines) × (length after.actions ≤ length before.actions + actions)
