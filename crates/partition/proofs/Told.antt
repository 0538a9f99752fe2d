-- The events recorded in a log.
use Rattle.std.proofs.Common.{◌≡◌, ◌≤◌, ℕ, ◌+◌, ◌-◌, List, [], ◌++◌, length, ap, sym, ◌∙◌, append-nil, append_assoc, length-append, arith}
use Rattle.std.proofs.lemmas.List.{length-map}
use Rattle.apex_types.specs.declared.identity.At.{At}
use Rattle.apex_types.specs.declared.event.EventKind.{EventKind}
use Rattle.kernel_meaning.specs.Partition.{line, told}
use Rattle.apex_types.specs.declared.event.Event.{Event}
use Rattle.apex_types.specs.declared.log.EventLog.{Ghosts as Log}
use Rattle.partition.specs.Members.{IsRecorded, IsTold}

-- no event
pub tells_none : {L : Type 0} (g : Log L) (log : L) → g.pieces [] ≡ [] → IsTold g log log []
tells_none g log none = sym (append-nil (g.held log)) ∙ ap (λ ps. g.held log ++ ps) (sym none)

pub records_none : {L : Type 0} (g : Log L) (log : L) (room : ℕ) → g.pieces [] ≡ [] → IsRecorded g log log room room []
records_none g log room none = (tells_none g log none, omega arith, omega arith)

-- some events, then others
pub records_more : {L : Type 0} (g : Log L) (old mid new : L) (first second third : ℕ) (before after : List Event) → ((before after : List Event) → g.pieces (before ++ after) ≡ g.pieces before ++ g.pieces after)
    → IsRecorded g old mid first second before → IsRecorded g mid new second third after → IsRecorded g old new first third (before ++ after)
records_more g old mid new first second third before after more one other =
    let whole : length (before ++ after) ≡ length before + length after = length-append before after in (
      other.0 ∙ ap (λ ps. ps ++ g.pieces after) one.0 ∙ append_assoc (g.held old) (g.pieces before) (g.pieces after) ∙ ap (λ ps. g.held old ++ ps) (sym (more before after)),
      omega (arith, one.1, other.1, whole),
      omega (arith, one.2, other.2, whole),
    )

-- the lines of a step
pub records_lines : {L : Type 0} (g : Log L) (old new : L) (before after : ℕ) (name : List ℕ) (at : At) (lines : List EventKind) → IsTold g old new (told name at lines) → g.room old ≤ g.room new + length lines → after ≡ before - length lines
    → IsRecorded g old new before after (told name at lines)
records_lines g old new before after name at lines tells few left =
    let many : length (told name at lines) ≡ length lines = length-map lines (line name at) in
    (tells, omega (arith, many, few), omega (arith, many, left))
