-- What the lines of a trace say of one tick, read up to this tick.
use Rattle.std.specs.Prelude.{◌≡◌, ℕ, Bool, true, false, nat_lt, if◌then◌else◌, List, [], ◌∷◌, Option, Some, None, slice_get}
use Rattle.apex_types.specs.declared.event.Event.{Event}
use Rattle.apex_types.specs.declared.event.Subject.{Subject}
use Rattle.kernel_meaning.specs.Windows.{Schedule, owner, tick_from}
use Rattle.module_meaning.specs.Table.{at_number}
use Rattle.state_laws.specs.Told.{told, worker_by_lines}
use Rattle.trace_windows.specs.Frames.{Frames, at_first, with_line}
use Rattle.trace_windows.specs.Uses.{use_by}
use Rattle.trace_windows.specs.declared.usage.Use.{Use}
use Rattle.trace_windows.specs.declared.usage.Use.TheVariants.{Unowned, Down}

-- ---- the lines

-- those before the first line of a later tick
abbrev pub up_to : ℕ → List Event → List Event
up_to t [] = []
up_to t (e ∷ es) = if nat_lt t e.tick.0 then [] else e ∷ up_to t es

-- no two partitions have the same name
abbrev pub HaveOwnNames : List (List ℕ) → Type 0
HaveOwnNames names = (i j : ℕ) (a b : List ℕ) → slice_get names i ≡ Some a → slice_get names j ≡ Some b → a ≡ b → i ≡ j

-- ---- who spends the tick, by the lines up to it

abbrev pub frames_after : Frames → List Event → Frames
frames_after f [] = f
frames_after f (e ∷ es) = frames_after (with_line e f) es

-- the runner of the partition with this name
abbrev pub worker_told : ℕ → List Event → Option (List ℕ) → Option Subject
worker_told t lines None = None
worker_told t lines (Some name) = worker_by_lines t (told name lines)

-- a tick of this owner, which its worker spends
abbrev pub use_with : Option ℕ → (ℕ → Option Subject) → Use
use_with None worker = Unowned
use_with (Some p) worker = use_by p (worker p)

abbrev pub use_unless : Bool → Option ℕ → (ℕ → Option Subject) → Use
use_unless true owner worker = Down
use_unless false owner worker = use_with owner worker

-- After a shutdown nobody spends the tick. Before, it is the owner's: the runner spends it that the lines of the owner tell.
abbrev pub use_told : Schedule → (names : List (List ℕ)) → List Event → ℕ → Use
use_told schedule names lines t =
    let f = frames_after at_first lines in
    use_unless f.is_down (owner schedule (tick_from f.origin t)) (λ p. worker_told t lines (at_number names p))
