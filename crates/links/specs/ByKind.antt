-- The waiting lists by their keys, and the place of each among lists with numbers: sixteen of a
-- kind, one kind after another.
use Rattle.std.specs.Prelude.{◌*◌, ℕ, ◌≡◌, ◌+◌, nat_lt, List, length, take, drop, if◌then◌else◌}
use Rattle.apex_types.specs.declared.identity.ListKey.{ListKey}
use Rattle.apex_types.specs.declared.identity.ListKey.TheVariants as key
use Rattle.apex_types.specs.Limits.{MOST_OBJECTS}
use Rattle.apex_types.specs.declared.process.Entry.{Entry}
use Rattle.kernel_meaning.specs.Queues.{Queues}
use Rattle.links.specs.declared.waiting_lists.TheConstants.{ALL_LISTS}
use Rattle.links.specs.declared.waiting_lists.WaitingLists.TheInside.{Inside}

-- the lists of a kind, from number `first` on
abbrev pub lists_from : ℕ → List (List Entry) → List (List Entry)
lists_from first lists = take MOST_OBJECTS (drop first lists)

abbrev pub by_kind : List (List Entry) → Queues
by_kind lists = record {
  semaphores = lists_from 0 lists;
  events = lists_from MOST_OBJECTS lists;
  buffers = lists_from (2 * MOST_OBJECTS) lists;
  blackboards = lists_from (3 * MOST_OBJECTS) lists;
  ports = lists_from (4 * MOST_OBJECTS) lists;
}

-- the number of the list at a place; past all lists if the kind has no such place
abbrev pub number_from : ℕ → ℕ → ℕ
number_from first place = if nat_lt place MOST_OBJECTS then first + place else ALL_LISTS

abbrev pub number_of : ListKey → ℕ
number_of (key.Semaphore place) = number_from 0 place
number_of (key.Event place) = number_from MOST_OBJECTS place
number_of (key.Buffer place) = number_from (2 * MOST_OBJECTS) place
number_of (key.Blackboard place) = number_from (3 * MOST_OBJECTS) place
number_of (key.Port place) = number_from (4 * MOST_OBJECTS) place

abbrev pub queues_of : Inside → Queues
queues_of w = by_kind w.lists

-- as many lists as there may be objects and ports
abbrev pub IsWhole : Inside → Type 0
IsWhole w = length w.lists ≡ ALL_LISTS
