-- How the messages of ports and channels are counted, each port and channel of each partition for itself.
use Rattle.std.specs.Prelude.{◌≡◌, ◌⊎◌, ℕ, if◌then◌else◌, List, [], ◌∷◌, ◌++◌, Some, slice_get, slice_set}
use Rattle.apex_types.specs.declared.event.EventKind.{EventKind}
use Rattle.engine_meaning.specs.Digits.{same}
use Rattle.trace_view.specs.Counting.{with_message}
use Rattle.trace_view.specs.declared.messages.Messages.{Messages}
use Rattle.trace_view.specs.declared.messages.Route.{Route}
use Rattle.trace_view.specs.declared.report.PartitionTotal.{PartitionTotal}
use Rattle.trace_view.specs.declared.report.RouteTotal.{RouteTotal}
use Rattle.trace_view.specs.declared.traffic.Passage.{Passage}

abbrev pub no_messages : Messages
no_messages = record { moved = 0; arrived = 0; lost = 0; out = 0 }

-- these messages are of this port or channel of this partition
abbrev pub IsOf : List ℕ → Route → Passage → Type 0
IsOf name route one = (one.partition ≡ name) × (one.route ≡ route)

-- none of them are
abbrev pub IsNoneOf : List ℕ → Route → List Passage → Type 0
IsNoneOf name route passages = (k : ℕ) (one : Passage) → slice_get passages k ≡ Some one → IsOf name route one → ⊥

-- one more message, of such a line
abbrev pub with_one : EventKind → Passage → Passage
with_one kind one = record one { messages = with_message kind one.messages }

abbrev pub first_one : List ℕ → Route → EventKind → Passage
first_one name route kind = record { partition = name; route = route; messages = with_message kind no_messages }

-- The message of such a line is counted where those of this port or channel of this partition are counted, and
-- nowhere else. If it is the first of them, it begins their count.
abbrev pub IsCounted : List ℕ → Route → EventKind → List Passage → List Passage → Type 0
IsCounted name route kind old new =
    ((k : ℕ) × ((one : Passage) × ((slice_get old k ≡ Some one) × IsOf name route one × (new ≡ slice_set old k (with_one kind one)))))
    ⊎ (IsNoneOf name route old × (new ≡ old ++ first_one name route kind ∷ []))

-- ---- the totals of a report

abbrev pub total_of : PartitionTotal → Passage → RouteTotal
total_of partition one = record { partition = partition.name; route = one.route; messages = one.messages }

-- the totals of this partition
abbrev pub totals_at : PartitionTotal → List Passage → List RouteTotal
totals_at partition [] = []
totals_at partition (one ∷ more) = if same one.partition partition.name then total_of partition one ∷ totals_at partition more else totals_at partition more

-- the totals of the first partition, then those of the next one, and so on
abbrev pub totals_from : List PartitionTotal → List Passage → List RouteTotal
totals_from [] passages = []
totals_from (partition ∷ others) passages = totals_at partition passages ++ totals_from others passages
