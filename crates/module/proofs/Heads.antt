-- The rows of each part of a partition, by their first keys.
use Rattle.std.proofs.Common.{◌≡◌, ◌||◌, ◌+◌, ℕ, zero, suc, ℤ, Bool, true, false, List, [], ◌∷◌, ◌++◌, Option, Some, None, refl, sym, ap, ◌∙◌, subst, append-nil, append_assoc, if◌then◌else◌, take, drop}
use Rattle.std.specs.Prelude.{codes, length}
use Rattle.std.specs.Int.{div_ceil}
use Rattle.std.specs.List.{filter}
use Rattle.std.specs.Str.{bytes_eq}
use Rattle.std.proofs.lemmas.List.Elements.{filter-append}
use Rattle.std.proofs.lemmas.Slice.Eq.{bytes_eq-Decides}
use Rattle.arrayvec.specs.ArrayVec.{ArrayVec}
use Rattle.apex_types.specs.Line.{subject_text}
use Rattle.apex_types.specs.declared.process.ProcessStatus.{ProcessStatus}
use Rattle.apex_types.specs.declared.process.Wait.{Wait}
use Rattle.apex_types.specs.declared.process.Wait.TheVariants as wait
use Rattle.apex_types.specs.declared.process.WaitingError.{WaitingError}
use Rattle.apex_types.specs.declared.row.PortKind.{PortKind}
use Rattle.apex_types.specs.declared.row.PortKind.TheVariants as kind
use Rattle.apex_types.specs.declared.identity.ListKey.{ListKey}
use Rattle.apex_types.specs.declared.identity.ListKey.TheVariants as key_of
use Rattle.kernel_meaning.specs.Kernel.{Kernel}
use Rattle.kernel_meaning.specs.Objects.{Objects, Semaphore, ApexEvent, Buffer, Blackboard, Port}
use Rattle.kernel_meaning.specs.Partition.{Member, control_at}
use Rattle.kernel_meaning.specs.Processes.{Processes}
use Rattle.kernel_meaning.specs.Sharing.{waiting, handed_by}
use Rattle.machine_meaning.specs.Image.{Item}
use Rattle.machine_meaning.specs.MachineControl.{MachineControl}
use Rattle.state_rows.specs.Rows.{Field, Row, Count}
use Rattle.state_rows.specs.States.{blackboard_rows, buffer_rows, control_rows_if, data_rows, eights, error_row, event_rows, field, kernel_rows, member_rows, message_row, message_rows, mode_row, number, object_rows, placed, placed_from, port_key, port_rows, process_rows, ready_row, row, runner_at, runner_rows, semaphore_rows, shown_messages, wait_rows, waiter_row, waiter_rows, word, word_rows}
use Rattle.state_view.specs.Parts.{member_part, part_with}
use Rattle.state_view.specs.declared.parts.Part.{Part}
use Rattle.state_view.specs.declared.parts.Part.TheVariants as parts
use Rattle.module.specs.Kinds.{AreOf, IsInItsPart, first_key, of_kind}

abbrev is_in : List (List ℕ) → List ℕ → Bool
is_in [] key = false
is_in (k ∷ ks) key = bytes_eq key k || is_in ks key

-- rows of a partition with one of these first keys
abbrev Heads : List ℕ → List (List ℕ) → List Row → Type 0
Heads p ks [] = Unit {0}
Heads p ks (r ∷ rs) = (r.partition ≡ Some p) × (is_in ks (first_key r.fields) ≡ true) × Heads p ks rs

both : (p : List ℕ) (ks : List (List ℕ)) (xs ys : List Row) → Heads p ks xs → Heads p ks ys → Heads p ks (xs ++ ys)
both p ks [] ys h g = g
both p ks (x ∷ xs) ys h g = (h.0, h.1, both p ks xs ys h.2 g)

each : {A : Type 0} (p : List ℕ) (ks : List (List ℕ)) (f : ℕ → A → List Row) → ((n : ℕ) (a : A) → Heads p ks (f n a)) → (n : ℕ) (xs : List A) → Heads p ks (placed_from f n xs)
each p ks f h n [] = tt
each p ks f h n (x ∷ xs) = both p ks (f n x) (placed_from f (n + 1) xs) (h n x) (each p ks f h (n + 1) xs)

-- ---- the keys of each part

abbrev mode_keys : List (List ℕ)
mode_keys = codes "mode" ∷ []

abbrev process_keys : List (List ℕ)
process_keys = codes "process" ∷ codes "waits" ∷ []

abbrev ready_keys : List (List ℕ)
ready_keys = codes "ready" ∷ []

abbrev object_keys : List (List ℕ)
object_keys = codes "semaphore" ∷ codes "event" ∷ codes "buffer" ∷ codes "blackboard" ∷ codes "message" ∷ codes "waiter" ∷ []

abbrev port_keys : List (List ℕ)
port_keys = codes "sampling" ∷ codes "queuing" ∷ codes "message" ∷ codes "waiter" ∷ []

abbrev error_keys : List (List ℕ)
error_keys = codes "error" ∷ []

abbrev data_keys : List (List ℕ)
data_keys = codes "data" ∷ []

abbrev runner_keys : List (List ℕ)
runner_keys = codes "runner" ∷ codes "stack" ∷ []

-- ---- the rows of each part

wait_heads : (p : List ℕ) (r : ProcessStatus) (m : ArrayVec ℤ) (w : Wait) → Heads p process_keys (wait_rows p r m w)
wait_heads p r m wait.Nothing = tt
wait_heads p r m (wait.NormalStart delay) = (refl, refl, tt)
wait_heads p r m wait.FirstRelease = (refl, refl, tt)
wait_heads p r m (wait.Service s) = (refl, refl, tt)
wait_heads p r m (wait.Object s array) = (refl, refl, tt)

process_heads : (p : List ℕ) (s : Processes) (n : ℕ) (r : ProcessStatus) → Heads p process_keys (process_rows p s n r)
process_heads p s n r = (refl, refl, wait_heads p r (handed_by s (runner_at n)) r.wait)

waiters : (p : List ℕ) (ks : List (List ℕ)) (s : Processes) (object : Field) (list : ListKey) → is_in ks (codes "waiter") ≡ true → Heads p ks (waiter_rows p s object list)
waiters p ks s object list known = each p ks (waiter_row p s object) (λ n e. (refl, known, tt)) 0 (waiting s list)

messages : (p : List ℕ) (ks : List (List ℕ)) (object : Field) (ms : List (ArrayVec ℤ)) → is_in ks (codes "message") ≡ true → Heads p ks (message_rows p object ms)
messages p ks object ms known = each p ks (message_row p object) (λ n m. (refl, known, tt)) 0 ms

semaphore_heads : (p : List ℕ) (s : Processes) (n : ℕ) (x : Semaphore) → Heads p object_keys (semaphore_rows p s n x)
semaphore_heads p s n x = (refl, refl, waiters p object_keys s (number (codes "semaphore") (n + 1)) (key_of.Semaphore n) refl)

event_heads : (p : List ℕ) (s : Processes) (n : ℕ) (x : ApexEvent) → Heads p object_keys (event_rows p s n x)
event_heads p s n x = (refl, refl, waiters p object_keys s (number (codes "event") (n + 1)) (key_of.Event n) refl)

buffer_heads : (p : List ℕ) (s : Processes) (n : ℕ) (x : Buffer) → Heads p object_keys (buffer_rows p s n x)
buffer_heads p s n x =
    let object : Field = number (codes "buffer") (n + 1) in
    (refl, refl, both p object_keys (message_rows p object x.messages) (waiter_rows p s object (key_of.Buffer n)) (messages p object_keys object x.messages refl) (waiters p object_keys s object (key_of.Buffer n) refl))

blackboard_heads : (p : List ℕ) (s : Processes) (n : ℕ) (x : Blackboard) → Heads p object_keys (blackboard_rows p s n x)
blackboard_heads p s n x =
    let object : Field = number (codes "blackboard") (n + 1) in
    (refl, refl, both p object_keys (message_rows p object (shown_messages x.shown)) (waiter_rows p s object (key_of.Blackboard n)) (messages p object_keys object (shown_messages x.shown) refl) (waiters p object_keys s object (key_of.Blackboard n) refl))

object_heads : (p : List ℕ) (s : Processes) (o : Objects) → Heads p object_keys (object_rows p s o)
object_heads p s o =
    let semaphores : List Row = placed (semaphore_rows p s) o.semaphores in
    let events : List Row = placed (event_rows p s) o.events in
    let buffers : List Row = placed (buffer_rows p s) o.buffers in
    let blackboards : List Row = placed (blackboard_rows p s) o.blackboards in
    let each_semaphore = each p object_keys (semaphore_rows p s) (semaphore_heads p s) 0 o.semaphores in
    let each_event = each p object_keys (event_rows p s) (event_heads p s) 0 o.events in
    let each_buffer = each p object_keys (buffer_rows p s) (buffer_heads p s) 0 o.buffers in
    let each_blackboard = each p object_keys (blackboard_rows p s) (blackboard_heads p s) 0 o.blackboards in
    both p object_keys (semaphores ++ events ++ buffers) blackboards (both p object_keys (semaphores ++ events) buffers (both p object_keys semaphores events each_semaphore each_event) each_buffer) each_blackboard

port_key_known : (k : PortKind) → is_in port_keys (port_key k) ≡ true
port_key_known (kind.Sampling refresh) = refl
port_key_known (kind.Queuing depth discipline) = refl

port_heads : (p : List ℕ) (s : Processes) (n : ℕ) (x : Port) → Heads p port_keys (port_rows p s n x)
port_heads p s n x =
    let object : Field = number (port_key x.row.kind) (n + 1) in
    (refl, port_key_known x.row.kind, both p port_keys (message_rows p object x.messages) (waiter_rows p s object (key_of.Port n)) (messages p port_keys object x.messages refl) (waiters p port_keys s object (key_of.Port n) refl))

word_heads : (p key : List ℕ) (ks : List (List ℕ)) (more : List Field) (words : List ℤ) (rows n : ℕ) → is_in ks key ≡ true → Heads p ks (eights p key more words rows n)
word_heads p key ks more words zero n known = tt
word_heads p key ks more words (suc rows) n known = (refl, known, word_heads p key ks more words rows (n + 8) known)

control_heads : (p : List ℕ) (code : List (List ℕ)) (who : List ℕ) (c : Option MachineControl) → Heads p runner_keys (control_rows_if p code who c)
control_heads p code who None = tt
control_heads p code who (Some c) =
    let words : List ℤ = take c.sp c.stack in
    (refl, refl, word_heads p (codes "stack") runner_keys (word (codes "process") who ∷ []) words (div_ceil (length words) 8) 0 refl)

-- ---- all parts

not_true : (b : Bool) → (b ≡ true → ⊥) → b ≡ false
not_true true h = absurd (h refl)
not_true false h = refl

none_of : (p key : List ℕ) (ks : List (List ℕ)) (rows : List Row) → Heads p ks rows → is_in ks key ≡ false → of_kind key rows ≡ []
none_of p key ks [] h out = refl
none_of p key ks (r ∷ rs) h out =
    let other : bytes_eq key (first_key r.fields) ≡ false = not_true (bytes_eq key (first_key r.fields)) (λ e. let k : true ≡ false = sym (ap (is_in ks) ((bytes_eq-Decides key (first_key r.fields)).0 e) ∙ h.1) ∙ out in cc) in
    ap (λ (b : Bool). if b then r ∷ of_kind key rs else of_kind key rs) other ∙ none_of p key ks rs h.2 out

-- ---- a partition

-- the rows of its parts, in their order
abbrev joined : (a b c d e f g h : List Row) → List Row
joined a b c d e f g h = a ++ (b ++ c ++ d ++ e ++ f) ++ g ++ h

join : (a b c d e f g h : List Row) {k l m n o p q r : List Row} → a ≡ k → b ≡ l → c ≡ m → d ≡ n → e ≡ o → f ≡ p → g ≡ q → h ≡ r → joined a b c d e f g h ≡ joined k l m n o p q r
join a b c d e f g h e1 e2 e3 e4 e5 e6 e7 e8 = rw e1 (rw e2 (rw e3 (rw e4 (rw e5 (rw e6 (rw e7 (rw e8 refl)))))))

-- with so many empty lists after it
abbrev pad : ℕ → List Row → List Row
pad zero rows = rows
pad (suc n) rows = pad n rows ++ []

padded : (n : ℕ) (rows : List Row) → pad n rows ≡ rows
padded zero rows = refl
padded (suc n) rows = append-nil (pad n rows) ∙ padded n rows

module _ (i : Item) (x : Member MachineControl) where
  abbrev p : List ℕ
  p = x.world.kernel.fixed.name

  abbrev s : Processes
  s = x.world.kernel.processes

  abbrev modes : List Row
  modes = mode_row p x.world.kernel ∷ []

  abbrev processes : List Row
  processes = placed (process_rows p s) s.rows

  abbrev readies : List Row
  readies = placed (ready_row p s) s.ready

  abbrev objects : List Row
  objects = object_rows p s x.world.kernel.objects

  abbrev ports : List Row
  ports = placed (port_rows p s) x.world.kernel.ports.ports

  abbrev errors : List Row
  errors = placed (error_row p s) x.world.kernel.errors.waiting

  abbrev datas : List Row
  datas = data_rows p x.world.words

  abbrev runners : List Row
  runners = placed (runner_rows p i.section.code x.world.controls) s.rows

  mode_are : Heads p mode_keys modes
  mode_are = (refl, refl, tt)

  processes_are : Heads p process_keys processes
  processes_are = each p process_keys (process_rows p s) (process_heads p s) 0 s.rows

  readies_are : Heads p ready_keys readies
  readies_are = each p ready_keys (ready_row p s) (λ n e. (refl, refl, tt)) 0 s.ready

  objects_are : Heads p object_keys objects
  objects_are = object_heads p s x.world.kernel.objects

  ports_are : Heads p port_keys ports
  ports_are = each p port_keys (port_rows p s) (port_heads p s) 0 x.world.kernel.ports.ports

  errors_are : Heads p error_keys errors
  errors_are = each p error_keys (error_row p s) (λ n e. (refl, refl, tt)) 0 x.world.kernel.errors.waiting

  datas_are : Heads p data_keys datas
  datas_are = word_heads p (codes "data") data_keys [] x.world.words (div_ceil (length x.world.words) 8) 0 refl

  runners_are : Heads p runner_keys runners
  runners_are = each p runner_keys (runner_rows p i.section.code x.world.controls) (λ n r. control_heads p i.section.code (subject_text r.who) (control_at x.world.controls n)) 0 s.rows

  -- the rows of a kind, part by part
  split : (key : List ℕ) → of_kind key (member_rows i x)
      ≡ joined (of_kind key modes) (of_kind key processes) (of_kind key readies) (of_kind key objects) (of_kind key ports) (of_kind key errors) (of_kind key datas) (of_kind key runners)
  split key =
      let test : Row → Bool = λ r. bytes_eq key (first_key r.fields) in
      let lists : List Row = processes ++ readies ++ objects ++ ports ++ errors in
      filter-append test (modes ++ lists ++ datas) runners
      ∙ ap (λ (rs : List Row). rs ++ of_kind key runners)
      (filter-append test (modes ++ lists) datas
      ∙ ap (λ (rs : List Row). rs ++ of_kind key datas)
      (filter-append test modes lists
      ∙ ap (λ (rs : List Row). of_kind key modes ++ rs)
      (filter-append test (processes ++ readies ++ objects ++ ports) errors
      ∙ ap (λ (rs : List Row). rs ++ of_kind key errors)
      (filter-append test (processes ++ readies ++ objects) ports
      ∙ ap (λ (rs : List Row). rs ++ of_kind key ports)
      (filter-append test (processes ++ readies) objects
      ∙ ap (λ (rs : List Row). rs ++ of_kind key objects) (filter-append test processes readies))))))

  no_mode : (key : List ℕ) → is_in mode_keys key ≡ false → of_kind key modes ≡ []
  no_mode key out = none_of p key mode_keys modes mode_are out

  no_process : (key : List ℕ) → is_in process_keys key ≡ false → of_kind key processes ≡ []
  no_process key out = none_of p key process_keys processes processes_are out

  no_ready : (key : List ℕ) → is_in ready_keys key ≡ false → of_kind key readies ≡ []
  no_ready key out = none_of p key ready_keys readies readies_are out

  no_object : (key : List ℕ) → is_in object_keys key ≡ false → of_kind key objects ≡ []
  no_object key out = none_of p key object_keys objects objects_are out

  no_port : (key : List ℕ) → is_in port_keys key ≡ false → of_kind key ports ≡ []
  no_port key out = none_of p key port_keys ports ports_are out

  no_error : (key : List ℕ) → is_in error_keys key ≡ false → of_kind key errors ≡ []
  no_error key out = none_of p key error_keys errors errors_are out

  no_data : (key : List ℕ) → is_in data_keys key ≡ false → of_kind key datas ≡ []
  no_data key out = none_of p key data_keys datas datas_are out

  no_runner : (key : List ℕ) → is_in runner_keys key ≡ false → of_kind key runners ≡ []
  no_runner key out = none_of p key runner_keys runners runners_are out

  parts_of : (key : List ℕ) {k l m n o q r t : List Row} → of_kind key modes ≡ k → of_kind key processes ≡ l → of_kind key readies ≡ m → of_kind key objects ≡ n → of_kind key ports ≡ o → of_kind key errors ≡ q → of_kind key datas ≡ r → of_kind key runners ≡ t
      → of_kind key (member_rows i x) ≡ joined k l m n o q r t
  parts_of key e1 e2 e3 e4 e5 e6 e7 e8 =
      split key ∙ join (of_kind key modes) (of_kind key processes) (of_kind key readies) (of_kind key objects) (of_kind key ports) (of_kind key errors) (of_kind key datas) (of_kind key runners) e1 e2 e3 e4 e5 e6 e7 e8

  in_mode : (key : List ℕ) → is_in process_keys key ≡ false → is_in ready_keys key ≡ false → is_in object_keys key ≡ false → is_in port_keys key ≡ false → is_in error_keys key ≡ false → is_in data_keys key ≡ false → is_in runner_keys key ≡ false
      → of_kind key modes ≡ of_kind key (member_rows i x)
  in_mode key h2 h3 h4 h5 h6 h7 h8 = sym (parts_of key refl (no_process key h2) (no_ready key h3) (no_object key h4) (no_port key h5) (no_error key h6) (no_data key h7) (no_runner key h8) ∙ padded 3 (of_kind key modes))

  in_processes : (key : List ℕ) → is_in mode_keys key ≡ false → is_in ready_keys key ≡ false → is_in object_keys key ≡ false → is_in port_keys key ≡ false → is_in error_keys key ≡ false → is_in data_keys key ≡ false → is_in runner_keys key ≡ false
      → of_kind key processes ≡ of_kind key (member_rows i x)
  in_processes key h1 h3 h4 h5 h6 h7 h8 = sym (parts_of key (no_mode key h1) refl (no_ready key h3) (no_object key h4) (no_port key h5) (no_error key h6) (no_data key h7) (no_runner key h8) ∙ padded 6 (of_kind key processes))

  in_ready : (key : List ℕ) → is_in mode_keys key ≡ false → is_in process_keys key ≡ false → is_in object_keys key ≡ false → is_in port_keys key ≡ false → is_in error_keys key ≡ false → is_in data_keys key ≡ false → is_in runner_keys key ≡ false
      → of_kind key readies ≡ of_kind key (member_rows i x)
  in_ready key h1 h2 h4 h5 h6 h7 h8 = sym (parts_of key (no_mode key h1) (no_process key h2) refl (no_object key h4) (no_port key h5) (no_error key h6) (no_data key h7) (no_runner key h8) ∙ padded 5 (of_kind key readies))

  in_objects : (key : List ℕ) → is_in mode_keys key ≡ false → is_in process_keys key ≡ false → is_in ready_keys key ≡ false → is_in port_keys key ≡ false → is_in error_keys key ≡ false → is_in data_keys key ≡ false → is_in runner_keys key ≡ false
      → of_kind key objects ≡ of_kind key (member_rows i x)
  in_objects key h1 h2 h3 h5 h6 h7 h8 = sym (parts_of key (no_mode key h1) (no_process key h2) (no_ready key h3) refl (no_port key h5) (no_error key h6) (no_data key h7) (no_runner key h8) ∙ padded 4 (of_kind key objects))

  in_ports : (key : List ℕ) → is_in mode_keys key ≡ false → is_in process_keys key ≡ false → is_in ready_keys key ≡ false → is_in object_keys key ≡ false → is_in error_keys key ≡ false → is_in data_keys key ≡ false → is_in runner_keys key ≡ false
      → of_kind key ports ≡ of_kind key (member_rows i x)
  in_ports key h1 h2 h3 h4 h6 h7 h8 = sym (parts_of key (no_mode key h1) (no_process key h2) (no_ready key h3) (no_object key h4) refl (no_error key h6) (no_data key h7) (no_runner key h8) ∙ padded 3 (of_kind key ports))

  in_both : (key : List ℕ) → is_in mode_keys key ≡ false → is_in process_keys key ≡ false → is_in ready_keys key ≡ false → is_in error_keys key ≡ false → is_in data_keys key ≡ false → is_in runner_keys key ≡ false
      → of_kind key (objects ++ ports) ≡ of_kind key (member_rows i x)
  in_both key h1 h2 h3 h6 h7 h8 =
      filter-append (λ r. bytes_eq key (first_key r.fields)) objects ports
      ∙ sym (parts_of key (no_mode key h1) (no_process key h2) (no_ready key h3) refl refl (no_error key h6) (no_data key h7) (no_runner key h8) ∙ padded 3 (of_kind key objects ++ of_kind key ports))

  in_errors : (key : List ℕ) → is_in mode_keys key ≡ false → is_in process_keys key ≡ false → is_in ready_keys key ≡ false → is_in object_keys key ≡ false → is_in port_keys key ≡ false → is_in data_keys key ≡ false → is_in runner_keys key ≡ false
      → of_kind key errors ≡ of_kind key (member_rows i x)
  in_errors key h1 h2 h3 h4 h5 h7 h8 = sym (parts_of key (no_mode key h1) (no_process key h2) (no_ready key h3) (no_object key h4) (no_port key h5) refl (no_data key h7) (no_runner key h8) ∙ padded 2 (of_kind key errors))

  in_data : (key : List ℕ) → is_in mode_keys key ≡ false → is_in process_keys key ≡ false → is_in ready_keys key ≡ false → is_in object_keys key ≡ false → is_in port_keys key ≡ false → is_in error_keys key ≡ false → is_in runner_keys key ≡ false
      → of_kind key datas ≡ of_kind key (member_rows i x)
  in_data key h1 h2 h3 h4 h5 h6 h8 = sym (parts_of key (no_mode key h1) (no_process key h2) (no_ready key h3) (no_object key h4) (no_port key h5) (no_error key h6) refl (no_runner key h8) ∙ padded 1 (of_kind key datas))

  in_runners : (key : List ℕ) → is_in mode_keys key ≡ false → is_in process_keys key ≡ false → is_in ready_keys key ≡ false → is_in object_keys key ≡ false → is_in port_keys key ≡ false → is_in error_keys key ≡ false → is_in data_keys key ≡ false
      → of_kind key runners ≡ of_kind key (member_rows i x)
  in_runners key h1 h2 h3 h4 h5 h6 h7 = sym (parts_of key (no_mode key h1) (no_process key h2) (no_ready key h3) (no_object key h4) (no_port key h5) (no_error key h6) (no_data key h7) refl)

  in_none : (key : List ℕ) → is_in mode_keys key ≡ false → is_in process_keys key ≡ false → is_in ready_keys key ≡ false → is_in object_keys key ≡ false → is_in port_keys key ≡ false → is_in error_keys key ≡ false → is_in data_keys key ≡ false → is_in runner_keys key ≡ false
      → [] ≡ of_kind key (member_rows i x)
  in_none key h1 h2 h3 h4 h5 h6 h7 h8 = sym (parts_of key (no_mode key h1) (no_process key h2) (no_ready key h3) (no_object key h4) (no_port key h5) (no_error key h6) (no_data key h7) (no_runner key h8))

-- ---- kind by kind

tested : (key kind : List ℕ) (P : Type 0) → (key ≡ kind → P) → (bytes_eq key kind ≡ false → P) → P
tested key kind P same other = by_test (bytes_eq key kind) refl where
  by_test : (b : Bool) → bytes_eq key kind ≡ b → P
  by_test true e = same ((bytes_eq-Decides key kind).0 e)
  by_test false e = other e

is_one : (key kind : List ℕ) → IsInItsPart kind → key ≡ kind → IsInItsPart key
is_one key kind h same = subst IsInItsPart (sym same) h

mode_kind : IsInItsPart (codes "mode")
mode_kind i x = in_mode i x (codes "mode") refl refl refl refl refl refl refl

process_kind : IsInItsPart (codes "process")
process_kind i x = in_processes i x (codes "process") refl refl refl refl refl refl refl

waits_kind : IsInItsPart (codes "waits")
waits_kind i x = in_processes i x (codes "waits") refl refl refl refl refl refl refl

ready_kind : IsInItsPart (codes "ready")
ready_kind i x = in_ready i x (codes "ready") refl refl refl refl refl refl refl

semaphore_kind : IsInItsPart (codes "semaphore")
semaphore_kind i x = in_objects i x (codes "semaphore") refl refl refl refl refl refl refl

event_kind : IsInItsPart (codes "event")
event_kind i x = in_objects i x (codes "event") refl refl refl refl refl refl refl

buffer_kind : IsInItsPart (codes "buffer")
buffer_kind i x = in_objects i x (codes "buffer") refl refl refl refl refl refl refl

blackboard_kind : IsInItsPart (codes "blackboard")
blackboard_kind i x = in_objects i x (codes "blackboard") refl refl refl refl refl refl refl

sampling_kind : IsInItsPart (codes "sampling")
sampling_kind i x = in_ports i x (codes "sampling") refl refl refl refl refl refl refl

queuing_kind : IsInItsPart (codes "queuing")
queuing_kind i x = in_ports i x (codes "queuing") refl refl refl refl refl refl refl

message_kind : IsInItsPart (codes "message")
message_kind i x = in_both i x (codes "message") refl refl refl refl refl refl

waiter_kind : IsInItsPart (codes "waiter")
waiter_kind i x = in_both i x (codes "waiter") refl refl refl refl refl refl

error_kind : IsInItsPart (codes "error")
error_kind i x = in_errors i x (codes "error") refl refl refl refl refl refl refl

data_kind : IsInItsPart (codes "data")
data_kind i x = in_data i x (codes "data") refl refl refl refl refl refl refl

runner_kind : IsInItsPart (codes "runner")
runner_kind i x = in_runners i x (codes "runner") refl refl refl refl refl refl refl

stack_kind : IsInItsPart (codes "stack")
stack_kind i x = in_runners i x (codes "stack") refl refl refl refl refl refl refl

no_kind : (key : List ℕ) → bytes_eq key (codes "mode") ≡ false → bytes_eq key (codes "process") ≡ false → bytes_eq key (codes "waits") ≡ false → bytes_eq key (codes "ready") ≡ false → bytes_eq key (codes "semaphore") ≡ false → bytes_eq key (codes "event") ≡ false
    → bytes_eq key (codes "buffer") ≡ false → bytes_eq key (codes "blackboard") ≡ false → bytes_eq key (codes "sampling") ≡ false → bytes_eq key (codes "queuing") ≡ false → bytes_eq key (codes "message") ≡ false → bytes_eq key (codes "waiter") ≡ false
    → bytes_eq key (codes "error") ≡ false → bytes_eq key (codes "data") ≡ false → bytes_eq key (codes "runner") ≡ false → bytes_eq key (codes "stack") ≡ false → IsInItsPart key
no_kind key n1 n2 n3 n4 n5 n6 n7 n8 n9 n10 n11 n12 n13 n14 n15 n16 i x =
    let none : part_with key ≡ parts.Nothing = rw n1 (rw n2 (rw n3 (rw n4 (rw n5 (rw n6 (rw n7 (rw n8 (rw n9 (rw n10 (rw n11 (rw n12 (rw n13 (rw n14 (rw n15 (rw n16 refl))))))))))))))) in
    let h1 : is_in mode_keys key ≡ false = rw n1 refl in
    let h2 : is_in process_keys key ≡ false = rw n2 (rw n3 refl) in
    let h3 : is_in ready_keys key ≡ false = rw n4 refl in
    let h4 : is_in object_keys key ≡ false = rw n5 (rw n6 (rw n7 (rw n8 (rw n11 (rw n12 refl))))) in
    let h5 : is_in port_keys key ≡ false = rw n9 (rw n10 (rw n11 (rw n12 refl))) in
    let h6 : is_in error_keys key ≡ false = rw n13 refl in
    let h7 : is_in data_keys key ≡ false = rw n14 refl in
    let h8 : is_in runner_keys key ≡ false = rw n15 (rw n16 refl) in
    ap (λ (part : Part). of_kind key (member_part part i x)) none ∙ in_none i x key h1 h2 h3 h4 h5 h6 h7 h8

pub in_its_part : (key : List ℕ) → IsInItsPart key
in_its_part key =
    let P = IsInItsPart key in
    tested key (codes "mode") P (is_one key _ mode_kind) (λ n1.
    tested key (codes "process") P (is_one key _ process_kind) (λ n2.
    tested key (codes "waits") P (is_one key _ waits_kind) (λ n3.
    tested key (codes "ready") P (is_one key _ ready_kind) (λ n4.
    tested key (codes "semaphore") P (is_one key _ semaphore_kind) (λ n5.
    tested key (codes "event") P (is_one key _ event_kind) (λ n6.
    tested key (codes "buffer") P (is_one key _ buffer_kind) (λ n7.
    tested key (codes "blackboard") P (is_one key _ blackboard_kind) (λ n8.
    tested key (codes "sampling") P (is_one key _ sampling_kind) (λ n9.
    tested key (codes "queuing") P (is_one key _ queuing_kind) (λ n10.
    tested key (codes "message") P (is_one key _ message_kind) (λ n11.
    tested key (codes "waiter") P (is_one key _ waiter_kind) (λ n12.
    tested key (codes "error") P (is_one key _ error_kind) (λ n13.
    tested key (codes "data") P (is_one key _ data_kind) (λ n14.
    tested key (codes "runner") P (is_one key _ runner_kind) (λ n15.
    tested key (codes "stack") P (is_one key _ stack_kind) (λ n16. no_kind key n1 n2 n3 n4 n5 n6 n7 n8 n9 n10 n11 n12 n13 n14 n15 n16))))))))))))))))

-- ---- the partition

of_heads : (p : List ℕ) (ks : List (List ℕ)) (rows : List Row) → Heads p ks rows → AreOf p rows
of_heads p ks [] h = tt
of_heads p ks (r ∷ rs) h = (h.0, of_heads p ks rs h.2)

of_both : (p : List ℕ) (xs ys : List Row) → AreOf p xs → AreOf p ys → AreOf p (xs ++ ys)
of_both p [] ys h g = g
of_both p (x ∷ xs) ys h g = (h.0, of_both p xs ys h.1 g)

pub are_of : (i : Item) (x : Member MachineControl) → AreOf x.world.kernel.fixed.name (member_rows i x)
are_of i x =
    let name = x.world.kernel.fixed.name in
    let lists : List Row = processes i x ++ readies i x ++ objects i x ++ ports i x ++ errors i x in
    of_both name (modes i x ++ lists ++ datas i x) (runners i x)
    (of_both name (modes i x ++ lists) (datas i x)
    (of_both name (modes i x) lists (of_heads name mode_keys (modes i x) (mode_are i x))
    (of_both name (processes i x ++ readies i x ++ objects i x ++ ports i x) (errors i x)
    (of_both name (processes i x ++ readies i x ++ objects i x) (ports i x)
    (of_both name (processes i x ++ readies i x) (objects i x)
    (of_both name (processes i x) (readies i x) (of_heads name process_keys (processes i x) (processes_are i x)) (of_heads name ready_keys (readies i x) (readies_are i x)))
    (of_heads name object_keys (objects i x) (objects_are i x)))
    (of_heads name port_keys (ports i x) (ports_are i x)))
    (of_heads name error_keys (errors i x) (errors_are i x))))
    (of_heads name data_keys (datas i x) (datas_are i x)))
    (of_heads name runner_keys (runners i x) (runners_are i x))
