-- An accepted program is resolved exactly.
use Rattle.compiling_laws.proofs.Prelude.{◌≡◌, ℕ, ◌+◌, ◌≤◌, ℤ, pos, Bool, true, false, cond, nat_eq, nat_le, nat_lt, List, ◌∷◌, ◌++◌, length, map, Option, Some, None, Ok, refl, sym, ap, ◌∙◌, subst, length-append, option_map, unwrap_or, list_all, and_parts, leb-true, cond-true, le-leb, lt-ltb, sum_by-cons, LEAST_STACK_WORDS, MOST_LOCALS, MOST_PARAMETERS, MOST_PROCESSES, MOST_STACK_WORDS, is_name, PortRow, Counts, no_counts, counted, after, count_within, Entry, declaration_entries, process_entries, own_entries, scope_of, within, resolve_body, resolve_body_block, resolve_stack_body, resolve_process, procedure_of, resolve, verdict, is_between, keeps_counts, keeps_declaration, keeps_handler, keeps_kind, keeps_process, keeps_stack_body, limits_hold}
use Rattle.std.proofs.Common.{[], arith, not}
use Rattle.module_meaning.specs.Table.{◌>>=◌}
use Rattle.std.proofs.lemmas.List.{take_all}
use Rattle.std.specs.Prelude.{◌&&◌, flat_map, count_by, is_some, ◌-ℤ◌}
use Rattle.apex_types.specs.declared.denotation.Denotation.TheVariants as denotation
use Rattle.apex_types.specs.declared.denotation.ObjectKind.TheVariants as object
use Rattle.apex_types.specs.declared.limits.TheConstants.{GREATEST_PRIORITY, MOST_DATA_WORDS, MOST_DEPTH, MOST_OBJECTS, MOST_PORTS, MOST_SEMAPHORE_VALUE, MOST_SLOTS, MOST_TICKS, MOST_WORDS}
use Rattle.apex_types.specs.declared.row.SemaphoreRow.{SemaphoreRow}
use Rattle.apex_types.specs.declared.row.BufferRow.{BufferRow}
use Rattle.apex_types.specs.declared.row.BlackboardRow.{BlackboardRow}
use Rattle.pal_meaning.specs.Program as program
use Rattle.pal_meaning.specs.Syntax as written
use Rattle.pal_meaning.specs.Resolve.{array_words, blackboard_of, buffer_of, counts_of, declared_entries, declared_meaning, next, semaphore_of, signed_word, slot, time_of, value_or_zero, words_of}
use Rattle.pal_meaning.specs.WellFormed.{fits_stack, holds_of_handler, holds_of_procedure, is_time, is_word, keeps_body, kinds_hold, kinds_hold_in_body, value_at_most}
use Rattle.compiling_laws.specs.Resolved.{each, joined, signed_number, resolved_time, counts_with, number_of_port, meaning_with, resolved_declarations, numbered_processes, own_slots, resolved_block, resolved_statements, resolved_body, resolved_handler, resolved_process, words_made, semaphores_made, buffers_made, blackboards_made, procedures_made, is_event, resolved}
use Rattle.compiling_laws.proofs.WellFormedFits.{accepted, few_locals, count_is, counted_is, counts_next, mapped_some}
use Rattle.compiling_laws.proofs.WellFormedObjects.{counted_most, one_or_none}
use Rattle.compiling_laws.proofs.ResolvedParts.{between_is, block_is, both, each_is, flat, four, picked_is}

-- ---- numbers

most_is : (most : Option ℕ) (limit : ℕ) (o : Option ℕ) → value_at_most o most ≡ true → is_between 1 limit most ≡ true → o ≡ Some (within limit o)
most_is None limit o h k = absurd cc
most_is (Some m) limit None h k = absurd cc
most_is (Some m) limit (Some n) h k =
    let a = leb-true n m h in
    let b = leb-true m limit (and_parts (nat_le 1 m) (nat_le m limit) k).1 in
    ap Some (sym (cond-true (nat_le n limit) n 0 (le-leb n limit (omega (arith, a, b)))))

word_is : (i : written.Integer) → is_word i ≡ true → signed_number i ≡ Some (signed_word i)
word_is i h = signed i.negative i.magnitude h
  where
    signed : (b : Bool) (o : Option ℕ) → is_some o ≡ true → option_map (λ n. cond b (pos 0 -ℤ pos n) (pos n)) o ≡ Some (cond b (pos 0 -ℤ pos (value_or_zero o)) (pos (value_or_zero o)))
    signed b None h = absurd cc
    signed b (Some n) h = refl

time_is : (i : written.Integer) → is_time i ≡ true → resolved_time i ≡ Some (time_of i)
time_is i h = timed i.negative i.magnitude h
  where
    timed : (b : Bool) (o : Option ℕ) → cond b (is_between 1 1 o) (is_between 1 MOST_TICKS o) ≡ true → (o >>= λ n. cond (not b) (Some (Some n)) (cond (nat_eq n 1) (Some None) None)) ≡ Some (cond b None (Some (within MOST_TICKS o)))
    timed true None h = absurd cc
    timed true (Some n) h =
        let parts = and_parts (nat_le 1 n) (nat_le n 1) h in
        let least = leb-true 1 n parts.0 in
        let most = leb-true n 1 parts.1 in
        let one : n ≡ 1 = omega arith in
        rw one refl
    timed false None h = absurd cc
    timed false (Some n) h = ap (λ (x : Option ℕ). Some x) (between_is 1 MOST_TICKS (Some n) h)

-- ---- the names that are declared

own_are : (place : ℕ) (xs : List (List ℕ)) → place + length xs ≤ MOST_SLOTS → own_slots place xs ≡ own_entries place xs
own_are place [] h = refl
own_are place (x ∷ xs) h =
    let here : slot place ≡ place = cond-true (nat_lt place MOST_SLOTS) place 0 (lt-ltb place MOST_SLOTS (omega arith)) in
    let rest = own_are (place + 1) xs (omega arith) in
    cc

next_is : (limit count : ℕ) → count + 1 ≤ limit → counted limit count 1 ≡ Some (1 + count)
next_is limit count h = cond-true (nat_le (1 + count) limit) (Some (1 + count)) None (le-leb (1 + count) limit (omega arith))

processes_are : (count : ℕ) (ps : List written.Process) → count + length ps ≤ MOST_PROCESSES → numbered_processes count ps ≡ process_entries count ps
processes_are count [] h = refl
processes_are count (p ∷ ps) h =
    let same : 1 + count ≡ count + 1 = omega arith in
    let is : counted MOST_PROCESSES count 1 ≡ Some (count + 1) = next_is MOST_PROCESSES count (omega arith) ∙ ap Some same in
    let rest = processes_are (count + 1) ps (omega arith) in
    rw (is, rest) refl

-- a count that stays within its limit
raised : (f : ℕ → Counts) (limit count more x : ℕ) (n : Counts) → x ≡ more + count → option_map f (counted limit count more) ≡ Some n → Some (f x) ≡ Some n
raised f limit count more x n is h = let m = mapped_some f (counted limit count more) n h in let e = counted_is limit count more m.0 m.1 in let same : x ≡ m.0 = omega arith in ap (λ (k : ℕ). Some (f k)) same ∙ ap Some m.2

counts_are : (declared : List Entry) (c n : Counts) (k : written.Kind) → after c k ≡ Some n → keeps_kind declared k ≡ true → counts_with c k ≡ Some n
counts_are declared c n (written.Variable value) h keeps = raised _ _ _ _ _ n (omega arith) h
counts_are declared c n (written.Array None values) h keeps = absurd cc
counts_are declared c n (written.Array (Some size) values) h keeps = raised _ _ _ _ _ n (omega arith) h
counts_are declared c n (written.Semaphore first maximum discipline) h keeps = raised _ _ _ _ _ n (omega arith) h
counts_are declared c n written.Event h keeps = raised _ _ _ _ _ n (omega arith) h
counts_are declared c n (written.Buffer words messages discipline) h keeps = raised _ _ _ _ _ n (omega arith) h
counts_are declared c n (written.Blackboard words) h keeps = raised _ _ _ _ _ n (omega arith) h
counts_are declared c n written.Port h keeps = raised _ _ _ _ _ n (omega arith) h
counts_are declared c n (written.Procedure parameters body) h keeps = raised _ _ _ _ _ n (omega arith) h

numbered : (f : ℕ → Counts) (limit count : ℕ) (n : Counts) → option_map f (counted limit count 1) ≡ Some n → count + 1 ≡ next limit count
numbered f limit count n h =
    let m = mapped_some f (counted limit count 1) n h in
    let e = counted_is limit count 1 m.0 m.1 in
    let is : next limit count ≡ m.0 = ap (λ (o : Option ℕ). unwrap_or o 0) m.1 in
    let same : count + 1 ≡ m.0 = omega arith in
    same ∙ sym is

size_is : (f : ℕ → Counts) (count size : ℕ) (n : Counts) → option_map f (counted MOST_DATA_WORDS count size) ≡ Some n → size ≡ within MOST_DATA_WORDS (Some size)
size_is f count size n h =
    let m = mapped_some f (counted MOST_DATA_WORDS count size) n h in
    let c = counted_most MOST_DATA_WORDS count size m.0 m.1 in
    let most = c.1 in
    sym (cond-true (nat_le size MOST_DATA_WORDS) size 0 (le-leb size MOST_DATA_WORDS (omega arith)))

meaning_is : (ports : List PortRow) (declared : List Entry) (c n : Counts) (name : List ℕ) (k : written.Kind) → length ports ≤ MOST_PORTS → after c k ≡ Some n → keeps_kind declared k ≡ true → meaning_with ports c name k ≡ Some (declared_meaning ports c name k)
meaning_is ports declared c n name (written.Variable value) few h keeps = refl
meaning_is ports declared c n name (written.Array None values) few h keeps = absurd cc
meaning_is ports declared c n name (written.Array (Some size) values) few h keeps = ap (λ (s : ℕ). Some (denotation.Array c.words (pos s))) (size_is _ c.words size n h)
meaning_is ports declared c n name (written.Semaphore first maximum discipline) few h keeps = ap (λ (i : ℕ). Some (denotation.Object object.Semaphore i)) (numbered _ MOST_OBJECTS c.semaphores n h)
meaning_is ports declared c n name written.Event few h keeps = ap (λ (i : ℕ). Some (denotation.Object object.Event i)) (numbered _ MOST_OBJECTS c.events n h)
meaning_is ports declared c n name (written.Buffer words messages discipline) few h keeps = ap (λ (i : ℕ). Some (denotation.Object object.Buffer i)) (numbered _ MOST_OBJECTS c.buffers n h)
meaning_is ports declared c n name (written.Blackboard words) few h keeps = ap (λ (i : ℕ). Some (denotation.Object object.Blackboard i)) (numbered _ MOST_OBJECTS c.blackboards n h)
meaning_is ports declared c n name written.Port few h keeps = ap (λ (ps : List PortRow). Some (denotation.Object object.Port (number_of_port ps name))) (sym (take_all MOST_PORTS ports few))
meaning_is ports declared c n name (written.Procedure parameters body) few h keeps = refl

abbrev events_in : Option Counts → ℕ
events_in None = 0
events_in (Some c) = c.events

event_counted : (c n : Counts) (k : written.Kind) → counts_with c k ≡ Some n → n.events ≡ c.events + cond (is_event k) 1 0
event_counted c n (written.Array None values) h = absurd cc
event_counted c n (written.Array (Some size) values) h = omega (arith, ap events_in h)
event_counted c n _ h = omega (arith, ap events_in h)

-- ---- what the declarations make

semaphores_are : (declared : List Entry) (k : written.Kind) → keeps_kind declared k ≡ true → semaphores_made k ≡ Some (one_or_none (semaphore_of k))
semaphores_are declared (written.Semaphore first maximum discipline) keeps =
    let parts = and_parts (is_between 1 MOST_SEMAPHORE_VALUE maximum) (value_at_most first maximum) keeps in
    let row : ℕ → ℕ → List SemaphoreRow = λ value most. record { value = value; maximum = most; discipline = discipline } ∷ [] in
    both row (most_is maximum MOST_SEMAPHORE_VALUE first parts.1 parts.0) (between_is 1 MOST_SEMAPHORE_VALUE maximum parts.0)
semaphores_are declared _ keeps = refl

buffers_are : (declared : List Entry) (k : written.Kind) → keeps_kind declared k ≡ true → buffers_made k ≡ Some (one_or_none (buffer_of k))
buffers_are declared (written.Buffer words messages discipline) keeps =
    let parts = and_parts (is_between 1 MOST_WORDS words) (is_between 1 MOST_DEPTH messages) keeps in
    let row : ℕ → ℕ → List BufferRow = λ size depth. record { words = size; depth = depth; discipline = discipline } ∷ [] in
    both row (between_is 1 MOST_WORDS words parts.0) (between_is 1 MOST_DEPTH messages parts.1)
buffers_are declared _ keeps = refl

blackboards_are : (declared : List Entry) (k : written.Kind) → keeps_kind declared k ≡ true → blackboards_made k ≡ Some (one_or_none (blackboard_of k))
blackboards_are declared (written.Blackboard words) keeps =
    let row : ℕ → List BlackboardRow = λ n. record { words = n } ∷ [] in
    ap (option_map row) (between_is 1 MOST_WORDS words keeps)
blackboards_are declared _ keeps = refl

words_are : (declared : List Entry) (c n : Counts) (k : written.Kind) → after c k ≡ Some n → keeps_kind declared k ≡ true → words_made k ≡ Some (words_of k)
words_are declared c n (written.Variable None) h keeps = refl
words_are declared c n (written.Variable (Some value)) h keeps = ap (option_map (λ (word : ℤ). word ∷ [])) (word_is value keeps)
words_are declared c n (written.Array None values) h keeps = absurd cc
words_are declared c n (written.Array (Some size) values) h keeps =
    let parts = and_parts (nat_le (length values) size) (list_all is_word values) keeps in
    let first = each_is signed_number signed_word is_word word_is values parts.1 in
    let test = parts.0 in
    rw (first, test) (ap (λ (s : ℕ). Some (array_words s values)) (size_is _ c.words size n h))
words_are declared c n _ h keeps = refl

-- the declarations after those that `c` counts: their meanings, how many are events, and the words of the data
record Declared (ports : List PortRow) (c : Counts) (ds : List written.Declaration) : Type 0 where
  entries : resolved_declarations ports c ds ≡ Some (declaration_entries ports c ds)
  events : c.events + count_by (λ (d : written.Declaration). is_event d.kind) ds ≡ (counts_of c ds).events
  words : each (λ (d : written.Declaration). words_made d.kind) ds ≡ Some (map (λ (d : written.Declaration). words_of d.kind) ds)

declarations_are : (ports : List PortRow) (declared : List Entry) (c : Counts) (ds : List written.Declaration) → length ports ≤ MOST_PORTS → keeps_counts c ds ≡ true → list_all (keeps_declaration declared) ds ≡ true → Declared ports c ds
declarations_are ports declared c [] few counts keeps = record { entries = refl; events = omega arith; words = refl }
declarations_are ports declared c (d ∷ ds) few counts keeps =
    let later = counts_next (after c d.kind) ds counts in
    let kept = and_parts (keeps_declaration declared d) (list_all (keeps_declaration declared) ds) keeps in
    let kind = and_parts (is_name d.name) (keeps_kind declared d.kind) kept.0 in
    let is : later.0 ≡ unwrap_or (after c d.kind) c = ap (λ (o : Option Counts). unwrap_or o c) (sym later.1) in
    let meaning = meaning_is ports declared c later.0 d.name d.kind few later.1 kind.1 in
    let counted = counts_are declared c later.0 d.kind later.1 kind.1 in
    let one = event_counted c later.0 d.kind counted in
    let all = sum_by-cons (λ (x : written.Declaration). cond (is_event x.kind) 1 0) d ds in
    let rest = declarations_are ports declared later.0 ds few later.2 kept.1 in
    let entries = rest.entries in
    let more = rest.events in
    let total : c.events + count_by (λ (x : written.Declaration). is_event x.kind) (d ∷ ds) ≡ (counts_of later.0 ds).events = omega arith in
    record {
      entries = rw (meaning, counted, entries) (ap (λ (n : Counts). Some (record { name = d.name; meaning = declared_meaning ports c d.name d.kind } ∷ declaration_entries ports n ds)) is);
      events = total ∙ ap (λ (n : Counts). (counts_of n ds).events) is;
      words = both (λ y ys. y ∷ ys) (words_are declared c later.0 d.kind later.1 kind.1) rest.words;
    }

-- ---- bodies

module _ (declared : List Entry) where
  statements_are : (returns : Bool) (parameters : List (List ℕ)) (b : written.Body) → length parameters ≤ MOST_PARAMETERS → kinds_hold_in_body declared returns parameters b ≡ true → keeps_body b ≡ true
      → resolved_statements declared parameters b ≡ Some (resolve_body_block declared parameters b)
  statements_are returns parameters b few kinds keeps =
      let own = parameters ++ b.locals in
      let locals = few_locals b keeps in
      let room : 0 + length own ≤ MOST_SLOTS = omega (arith, length-append parameters b.locals) in
      let kept = and_parts _ _ keeps in
      subst (λ (es : List Entry). resolved_block (scope_of es declared) b.block ≡ Some (resolve_body_block declared parameters b)) (sym (own_are 0 own room)) (block_is (scope_of (own_entries 0 own) declared) returns b.block kinds kept.1)

  body_is : (stack : Option ℕ) (b : written.Body) → kinds_hold_in_body declared false [] b ≡ true → keeps_stack_body declared stack b ≡ true → resolved_body declared stack b ≡ Some (resolve_body declared stack b)
  body_is stack b kinds keeps =
      let kept = and_parts _ _ keeps in
      let held = and_parts (is_between LEAST_STACK_WORDS MOST_STACK_WORDS stack) (fits_stack declared stack b) kept.0 in
      let made : ℕ → program.Block → program.Body = λ words block. record { stack = words; locals = length b.locals; block = block } in
      let is = count_is MOST_LOCALS (length b.locals) (few_locals b kept.1) in
      both made (between_is LEAST_STACK_WORDS MOST_STACK_WORDS stack held.0) (statements_are false [] b (omega arith) kinds kept.1)
      ∙ ap (λ (n : ℕ). Some (record { stack = within MOST_STACK_WORDS stack; locals = n; block = resolve_body_block declared [] b })) (sym is)

  handler_is : (h : Option written.StackBody) → holds_of_handler (kinds_hold_in_body declared) h ≡ true → keeps_handler declared h ≡ true → resolved_handler declared h ≡ Some (option_map (resolve_stack_body declared) h)
  handler_is None kinds keeps = refl
  handler_is (Some b) kinds keeps = ap (λ (o : Option program.Body). option_map Some o) (body_is b.stack b.body kinds keeps)

  process_is : (q : written.Process) → (keeps_process declared q && kinds_hold_in_body declared false [] q.body) ≡ true → resolved_process declared q ≡ Some (resolve_process declared q)
  process_is q h =
      let parts = and_parts (keeps_process declared q) _ h in
      let body = and_parts _ _ parts.0 in
      let capacity = and_parts _ _ body.0 in
      let period = and_parts _ _ capacity.0 in
      let priority = and_parts _ _ period.0 in
      let made : ℕ → Option ℕ → Option ℕ → program.Body → program.Process = λ priority period capacity body. record { name = q.name; priority = priority; period = period; capacity = capacity; body = body } in
      four made (between_is 1 GREATEST_PRIORITY q.priority priority.1) (time_is q.period period.1) (time_is q.capacity capacity.1) (body_is q.stack q.body parts.1 body.1)

  procedures_are : (k : written.Kind) → keeps_kind declared k ≡ true → holds_of_procedure (kinds_hold_in_body declared) k ≡ true → procedures_made declared k ≡ Some (one_or_none (procedure_of declared k))
  procedures_are (written.Procedure parameters b) keeps kinds =
      let kept = and_parts _ _ keeps in
      let body = and_parts _ _ kept.0 in
      let few = leb-true (length parameters) MOST_PARAMETERS (and_parts _ _ body.0).0 in
      let made : program.Block → List program.Procedure = λ block. record { parameters = length parameters; locals = length b.locals; block = block } ∷ [] in
      let many = count_is MOST_PARAMETERS (length parameters) few in
      let locals = count_is MOST_LOCALS (length b.locals) (few_locals b body.1) in
      ap (option_map made) (statements_are true parameters b few kinds body.1)
      ∙ ap (λ (n : ℕ). Some (record { parameters = n; locals = length b.locals; block = resolve_body_block declared parameters b } ∷ [])) (sym many)
      ∙ ap (λ (n : ℕ). Some (record { parameters = count_within MOST_PARAMETERS (length parameters); locals = n; block = resolve_body_block declared parameters b } ∷ [])) (sym locals)
  procedures_are _ keeps kinds = refl

-- ---- the program

all_both : {A : Type 0} (t u : A → Bool) (xs : List A) → list_all t xs ≡ true → list_all u xs ≡ true → list_all (λ x. t x && u x) xs ≡ true
all_both t u [] h k = refl
all_both t u (x ∷ xs) h k =
    let a = and_parts (t x) (list_all t xs) h in
    let b = and_parts (u x) (list_all u xs) k in
    rw (a.0, b.0) (all_both t u xs a.1 b.1)

program_is : (ports : List PortRow) (p : written.Program) → length ports ≤ MOST_PORTS → kinds_hold ports p ≡ true → limits_hold ports p ≡ true → resolved ports p ≡ Some (resolve ports p)
program_is ports p few kinds limits =
    let declared = declared_entries ports p in
    let ds = p.declarations in
    let l1 = and_parts _ _ limits in
    let l2 = and_parts _ _ l1.0 in
    let l3 = and_parts _ _ l2.0 in
    let l4 = and_parts _ _ l3.0 in
    let l5 = and_parts (keeps_counts no_counts ds) (list_all (keeps_declaration declared) ds) l4.0 in
    let kind : (d : written.Declaration) → keeps_declaration declared d ≡ true → keeps_kind declared d.kind ≡ true = λ d h. (and_parts (is_name d.name) (keeps_kind declared d.kind) h).1 in
    let made = declarations_are ports declared no_counts ds few l5.0 l5.1 in
    let entries = made.entries in
    let most = leb-true (length p.processes) MOST_PROCESSES l1.1 in
    let numbered = processes_are 0 p.processes (omega arith) in
    let k1 = and_parts _ _ kinds in
    let k2 = and_parts _ _ k1.0 in
    let k3 = and_parts _ _ k2.0 in
    let initial : joined (λ (d : written.Declaration). words_made d.kind) ds ≡ Some (flat_map (λ (d : written.Declaration). words_of d.kind) ds) =
    ap (option_map (flat_map (λ ys. ys))) made.words ∙ ap Some (flat (λ (d : written.Declaration). words_of d.kind) ds) in
    let semaphores = picked_is (λ (d : written.Declaration). semaphores_made d.kind) (λ (d : written.Declaration). semaphore_of d.kind) (keeps_declaration declared) (λ d h. semaphores_are declared d.kind (kind d h)) ds l5.1 in
    let buffers = picked_is (λ (d : written.Declaration). buffers_made d.kind) (λ (d : written.Declaration). buffer_of d.kind) (keeps_declaration declared) (λ d h. buffers_are declared d.kind (kind d h)) ds l5.1 in
    let blackboards = picked_is (λ (d : written.Declaration). blackboards_made d.kind) (λ (d : written.Declaration). blackboard_of d.kind) (keeps_declaration declared) (λ d h. blackboards_are declared d.kind (kind d h)) ds l5.1 in
    let calls = λ (d : written.Declaration). holds_of_procedure (kinds_hold_in_body declared) d.kind in
    let procedures = picked_is (λ (d : written.Declaration). procedures_made declared d.kind) (λ (d : written.Declaration). procedure_of declared d.kind) (λ d. keeps_declaration declared d && calls d)
    (λ d h. let parts = and_parts (keeps_declaration declared d) (calls d) h in procedures_are declared d.kind (kind d parts.0) parts.1) ds (all_both (keeps_declaration declared) calls ds l5.1 k1.1) in
    let init = body_is declared p.init.stack p.init.body k3.0 l4.1 in
    let handler = handler_is declared p.handler k3.1 l3.1 in
    let holds = λ (q : written.Process). kinds_hold_in_body declared false [] q.body in
    let processes = each_is (resolved_process declared) (resolve_process declared) (λ q. keeps_process declared q && holds q) (process_is declared) p.processes (all_both (keeps_process declared) holds p.processes l2.1 k2.1) in
    let events : count_by (λ (d : written.Declaration). is_event d.kind) ds ≡ (counts_of no_counts ds).events = omega (arith, made.events) in
    rw (entries, numbered, initial, semaphores, buffers, blackboards, procedures, init, handler, processes) (ap (λ (n : ℕ). Some (record (resolve ports p) { events = n })) events)

pub resolved_exactly : (ports : List PortRow) (period : ℕ) (p : written.Program) (r : program.Program) → length ports ≤ MOST_PORTS → verdict ports period p ≡ Ok r → resolved ports p ≡ Some r
resolved_exactly ports period p r few h = let a = accepted ports period p r h in program_is ports p few a.kinds a.limits ∙ ap Some a.is
