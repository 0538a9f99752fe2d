-- Lists of ready or waiting processes: a process with its priority when it joined the list. The
-- processes that wait for an object or a port are in its list, in the order of their release.
use Rattle.std.specs.Prelude.{ℕ, ◌==◌, Bool, not, nat_lt, List, [], ◌∷◌, if◌then◌else◌, filter, ◌++◌, map, slice_index_or, slice_set}
use Rattle.apex_types.specs.declared.identity.Priority.{Priority}
use Rattle.apex_types.specs.declared.identity.ProcessIndex.{ProcessIndex}
use Rattle.apex_types.specs.declared.process.Entry.{Entry}
use Rattle.apex_types.specs.declared.codes.Discipline.{Discipline}
use Rattle.apex_types.specs.declared.codes.Discipline.TheVariants as discipline
use Rattle.apex_types.specs.declared.identity.ListKey.{ListKey}
use Rattle.apex_types.specs.declared.identity.ListKey.TheVariants as key

-- Lists of ready or waiting processes: a process with its priority when it joined the list.

abbrev pub entry : ProcessIndex → Priority → Entry
entry p priority = record { process = p; priority = priority }

abbrev pub is_entry_of : ℕ → Entry → Bool
is_entry_of p e = p == e.process.0

-- all entries but those of p
abbrev pub without : ℕ → List Entry → List Entry
without p entries = filter (λ e. not (is_entry_of p e)) entries

-- inserted after all entries of its priority or a higher one
abbrev pub behind_equals : Entry → List Entry → List Entry
behind_equals e [] = e ∷ []
behind_equals e (x ∷ xs) = if nat_lt x.priority.0 e.priority.0 then e ∷ x ∷ xs else x ∷ behind_equals e xs

-- The lists of the processes that wait for an object or a port, each in the order of their release.

-- for each kind the lists of its objects, by their places
pub record Queues : Type 0 where
  pub semaphores : List (List Entry)
  pub events : List (List Entry)
  pub buffers : List (List Entry)
  pub blackboards : List (List Entry)
  pub ports : List (List Entry)

abbrev pub list_in : List (List Entry) → ℕ → List Entry
list_in lists place = slice_index_or lists place []

-- the list of an object or a port; empty for an unknown one
abbrev pub list_at : Queues → ListKey → List Entry
list_at q (key.Semaphore place) = list_in q.semaphores place
list_at q (key.Event place) = list_in q.events place
list_at q (key.Buffer place) = list_in q.buffers place
list_at q (key.Blackboard place) = list_in q.blackboards place
list_at q (key.Port place) = list_in q.ports place

-- replaces the list of `key` and no other
abbrev pub put_list : Queues → ListKey → List Entry → Queues
put_list q (key.Semaphore place) entries = record q { semaphores = slice_set q.semaphores place entries }
put_list q (key.Event place) entries = record q { events = slice_set q.events place entries }
put_list q (key.Buffer place) entries = record q { buffers = slice_set q.buffers place entries }
put_list q (key.Blackboard place) entries = record q { blackboards = slice_set q.blackboards place entries }
put_list q (key.Port place) entries = record q { ports = slice_set q.ports place entries }

-- changes each list in this way
abbrev pub each_list : (List Entry → List Entry) → Queues → Queues
each_list change q = record {
  semaphores = map change q.semaphores;
  events = map change q.events;
  buffers = map change q.buffers;
  blackboards = map change q.blackboards;
  ports = map change q.ports;
}

-- removes the process from all lists
abbrev pub without_in_all : ℕ → Queues → Queues
without_in_all p q = each_list (without p) q

-- First in, first out: after all others. By priority: after all of its priority or a higher one.
abbrev pub joined : Discipline → Entry → List Entry → List Entry
joined discipline.Fifo e entries = entries ++ e ∷ []
joined discipline.Priority e entries = behind_equals e entries

-- removes the entry's process from its list, and adds the entry to the list `k`
abbrev pub joins : ListKey → Discipline → Entry → Queues → Queues
joins k d e q =
    let others = without_in_all e.process.0 q in
    put_list others k (joined d e (list_at others k))

abbrev pub no_entries : List Entry → List Entry
no_entries entries = []

-- empties all lists
abbrev pub emptied : Queues → Queues
emptied q = each_list no_entries q
