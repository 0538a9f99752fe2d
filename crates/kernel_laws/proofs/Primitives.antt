-- The effect of each primitive on the numbers.
use Rattle.kernel_laws.proofs.Prelude.{List, Some, refl, subst, suc, sym, zero, ℕ, ◌++◌, ◌∙◌, ◌∷◌, ◌≡◌, ◌+◌, arith, append_assoc, same_Some, slice_get, slice_set, Discipline, EventKind, Subject, ListKey, Priority, Runner, Entry, ProcessStatus, IsNumbered, AreNumbersBelow, entry, Processes, goes_last, leaves, joins, list_at, emptied, Queues, AreQueues, AreAllowed, AreNamed, BeginsToWait, Follows, IsInOrder, Numbers, ready_lines, take_all, take_one, those_ready, called, May}
use Rattle.std.proofs.Common.{[], ap}
use Rattle.std.proofs.lemmas.List.{map-append, map-set}
use Rattle.std.proofs.lemmas.Option.{slice_get-map}
use Rattle.std.specs.Prelude.{map, option_map}
use Rattle.apex_types.specs.declared.identity.Runner.TheVariants as runner
use Rattle.kernel_meaning.specs.Processes.{leaves_queues}
use Rattle.kernel_laws.proofs.Choosing as choosing
use Rattle.kernel_laws.proofs.WaitingOrder as waiting
use Rattle.kernel_laws.specs.Numbers.{Taking, BecomesReady, GoesLast, ready_line, subjects}
use Rattle.kernel_laws.proofs.Going.{taken_ready}

-- ---- the next number grows

below_more : (number : ℕ → ℕ) (next : ℕ) (es : List Entry) → AreNumbersBelow number next es → AreNumbersBelow number (next + 1) es
below_more number next [] h = tt
below_more number next (x ∷ xs) h = (let older = h.0 in omega (arith, older), below_more number next xs h.1)

numbered_more : (number : ℕ → ℕ) (next : ℕ) (es : List Entry) → IsNumbered number next es → IsNumbered number (next + 1) es
numbered_more number next es h = record { ordered = h.ordered; below = below_more number next es h.below }

queues_more : (d : ListKey → Discipline) (number : ℕ → ℕ) (next : ℕ) (lists : Queues) → AreQueues d number next lists → AreQueues d number (next + 1) lists
queues_more d number next lists h k = let q = h k in record { ordered = q.ordered; below = below_more number next (list_at lists k) q.below }

-- ---- the primitives, on the lists

abbrev pub readied : (p : Runner) → List Taking
readied (runner.Process p) = BecomesReady p.0 ∷ []
readied _ = []

abbrev pub lasted : (p : Runner) → List Taking
lasted (runner.Process p) = GoesLast p.0 ∷ []
lasted _ = []

pub in_order_ready : (d : ListKey → Discipline) (n : Numbers) (p : Runner) (v : Priority) (ready : List Entry) (queues : Queues) → IsInOrder d n ready queues
    → IsInOrder d (take_all (readied p) n) (goes_last p v ready) queues
in_order_ready d n runner.Init v ready queues h = h
in_order_ready d n runner.Handler v ready queues h = h
in_order_ready d n (runner.Process p) v ready queues h = record {
  ready = choosing.goes_last n.ready n.next (entry p v) ready h.ready;
  queues = queues_more d n.waiting n.next queues h.queues;
}

pub in_order_last : (d : ListKey → Discipline) (n : Numbers) (p : Runner) (v : Priority) (ready : List Entry) (queues : Queues) → IsInOrder d n ready queues
    → IsInOrder d (take_all (lasted p) n) (goes_last p v ready) queues
in_order_last d n runner.Init v ready queues h = h
in_order_last d n runner.Handler v ready queues h = h
in_order_last d n (runner.Process p) v ready queues h = record {
  ready = choosing.goes_last n.ready n.next (entry p v) ready h.ready;
  queues = queues_more d n.waiting n.next queues h.queues;
}

pub in_order_unready : (d : ListKey → Discipline) (n : Numbers) (p : Runner) (ready : List Entry) (queues : Queues) → IsInOrder d n ready queues → IsInOrder d n (leaves p ready) queues
in_order_unready d n runner.Init ready queues h = h
in_order_unready d n runner.Handler ready queues h = h
in_order_unready d n (runner.Process p) ready queues h = record { ready = choosing.leaves n.ready n.next p.0 ready h.ready; queues = h.queues }

pub in_order_released : (d : ListKey → Discipline) (n : Numbers) (p : Runner) (ready : List Entry) (queues : Queues) → IsInOrder d n ready queues
    → IsInOrder d n ready (leaves_queues p queues)
in_order_released d n runner.Init ready queues h = h
in_order_released d n runner.Handler ready queues h = h
in_order_released d n (runner.Process p) ready queues h = record { ready = h.ready; queues = waiting.leaves d n.waiting n.next p.0 queues h.queues }

pub in_order_enters : (d : ListKey → Discipline) (n : Numbers) (k : ListKey) (e : Entry) (ready : List Entry) (queues : Queues) → IsInOrder d n ready queues
    → IsInOrder d (take_one (BeginsToWait e.process.0) n) ready (joins k (d k) e queues)
in_order_enters d n k e ready queues h = record { ready = numbered_more n.ready n.next ready h.ready; queues = waiting.begins_to_wait d n.waiting n.next k e queues h.queues }

pub in_order_cleared : (d : ListKey → Discipline) (n : Numbers) (queues : Queues) → IsInOrder d n [] (emptied queues)
in_order_cleared d n queues = record { ready = record { ordered = tt; below = tt }; queues = waiting.all_empty d n.waiting n.next queues }

-- ---- one after another

pub take_after : (ts us : List Taking) (n : Numbers) → take_all (ts ++ us) n ≡ take_all us (take_all ts n)
take_after [] us n = refl
take_after (t ∷ ts) us n = take_after ts us (take_one t n)

pub follows_after : (d : ListKey → Discipline) (ts us : List Taking) (s t u : Processes) → Follows d ts s t → Follows d us t u → Follows d (ts ++ us) s u
follows_after d ts us s t u h k n o = subst (λ (m : Numbers). IsInOrder d m u.ready u.queues) (sym (take_after ts us n)) (k (take_all ts n) (h n o))

pub lines_after : (ls ms : List EventKind) → ready_lines (ls ++ ms) ≡ ready_lines ls ++ ready_lines ms
lines_after [] ms = refl
lines_after (l ∷ ls) ms = ap (λ rest. ready_line l ++ rest) (lines_after ls ms) ∙ sym (append_assoc (ready_line l) (ready_lines ls) (ready_lines ms))

pub those_after : (names : List (List ℕ)) (ts us : List Taking) → those_ready names (ts ++ us) ≡ those_ready names ts ++ those_ready names us
those_after names [] us = refl
those_after names (t ∷ ts) us = ap (λ rest. taken_ready names t ++ rest) (those_after names ts us) ∙ sym (append_assoc (taken_ready names t) (those_ready names ts) (those_ready names us))

pub called_after : (ls ms : List EventKind) → called (ls ++ ms) ≡ called ls ++ called ms
called_after ls ms = ap (λ (xs : List (List ℕ)). map Some xs) (lines_after ls ms) ∙ map-append Some (ready_lines ls) (ready_lines ms)

pub told_after : (names : List (List ℕ)) (ts us : List Taking) (ls ms : List EventKind) → those_ready names ts ≡ called ls → those_ready names us ≡ called ms
    → those_ready names (ts ++ us) ≡ called (ls ++ ms)
told_after names ts us ls ms h k =
    those_after names ts us ∙ (ap (λ xs. xs ++ those_ready names us) h ∙ (ap (λ ys. called ls ++ ys) k ∙ sym (called_after ls ms)))

pub allowed_after : (may : May) (ts us : List Taking) → AreAllowed may ts → AreAllowed may us → AreAllowed may (ts ++ us)
allowed_after may [] us h k = k
allowed_after may (t ∷ ts) us h k = (h.0, allowed_after may ts us h.1 k)

-- ---- names

set_same_at : {A : Type 0} (xs : List A) (i : ℕ) (x : A) → slice_get xs i ≡ Some x → slice_set xs i x ≡ xs
set_same_at [] i x e = refl
set_same_at {A = A} (a ∷ xs) zero x e = ap (λ (b : A). b ∷ xs) (sym (same_Some a x e))
set_same_at (a ∷ xs) (suc i) x e = ap (λ rest. a ∷ rest) (set_same_at xs i x e)

-- the subject of a record
abbrev pub who : ProcessStatus → Subject
who r = r.who

-- the record at a place names the runner there
pub named_at : (names : List (List ℕ)) (rows : List ProcessStatus) (i : ℕ) (r : ProcessStatus) → AreNamed names rows → slice_get rows i ≡ Some r → slice_get (subjects names) i ≡ Some r.who
named_at names rows i r h e = ap (λ (xs : List Subject). slice_get xs i) (sym h) ∙ (slice_get-map who rows i ∙ ap (option_map who) e)

pub named_set : (names : List (List ℕ)) (rows : List ProcessStatus) (i : ℕ) (x : ProcessStatus) → AreNamed names rows → slice_get (subjects names) i ≡ Some x.who → AreNamed names (slice_set rows i x)
named_set names rows i x h e = map-set who rows i x ∙ (ap (λ (xs : List Subject). slice_set xs i x.who) h ∙ set_same_at (subjects names) i x.who e)

map_same : (f : ProcessStatus → ProcessStatus) → ((r : ProcessStatus) → (f r).who ≡ r.who) → (rows : List ProcessStatus) → map who (map f rows) ≡ map who rows
map_same f same [] = refl
map_same f same (r ∷ rows) = ap (λ (s : Subject). s ∷ map who (map f rows)) (same r) ∙ ap (λ (ss : List Subject). r.who ∷ ss) (map_same f same rows)

pub named_map : (names : List (List ℕ)) (f : ProcessStatus → ProcessStatus) → ((r : ProcessStatus) → (f r).who ≡ r.who) → (rows : List ProcessStatus) → AreNamed names rows
    → AreNamed names (map f rows)
named_map names f same rows h = map_same f same rows ∙ h
