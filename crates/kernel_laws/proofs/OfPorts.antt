-- The services on ports, arrivals and senders that enter continue the numbers.
use Rattle.kernel_laws.proofs.Prelude.{Bool, List, None, Option, Some, false, refl, subst, true, ℕ, ℤ, ◌∷◌, ◌≡◌, none-some, same_Some, not, pos, ArrayVec, Discipline, Mode, At, ListKey, Runner, Entry, ProcessStatus, ArrayPlace, is_duration, numbered_in, Ports, discipline_of, Port, is_full, is_sampling, port_at, numbered, row_of, Sharing, is_large_enough, is_length, has, refuses, Step, first_words, message, first_waiting, handed_by, waiting, PortsHaveDisciplines, May, may_by, itself}
use Rattle.std.proofs.Common.{[]}
use Rattle.std.specs.Prelude.{length}
use Rattle.apex_types.specs.declared.codes.ReturnCode.TheVariants as code
use Rattle.apex_types.specs.declared.identity.Runner.TheVariants as runner
use Rattle.apex_types.specs.declared.service.Call.TheVariants as call
use Rattle.apex_types.specs.declared.service.PortCall.{PortCall}
use Rattle.apex_types.specs.declared.service.PortCall.TheVariants as port
use Rattle.apex_types.specs.declared.service.Service.TheVariants as service
use Rattle.kernel_meaning.specs.PortServices.{admits, all_enter, arrived, arrives, arrives_at, arrives_queuing, enters_found, enters_port, is_lost}
use Rattle.kernel_meaning.specs.PortServices.{becomes_port, clear_queuing_port, clears_port, code_of_receive, create_queuing_port, create_sampling_port, creates, is_created, is_valid, list, read_sampling_message, reads_sample, receive_queuing_message, receiver, receives, send_queuing_message, sender, sends, serves_ports, validity_number, write_sampling_message, writes_sample}
use Rattle.kernel_meaning.specs.Objects.{if_sampling, is_source, put_port, queuing, sampling, those_queuing, those_sampling, unless_sampling, with_message, with_sample}
use Rattle.kernel_laws.proofs.Shares.{Shares, IsSet, of_shares, becomes_shares, nothing_shares, fills_shares, answers_shares, refuses_shares, either_shares, row_shares, after_shares, on_shares, create_shares, get_id_shares, get_status_shares, each_put, numbered_is}
use Rattle.kernel_laws.proofs.NumberSteps.{release_goes, gives_goes, blocks_goes, first_is_of, IsOf, row_is_of}

-- ---- the port found

sampling_of : (o : Option (ℕ × Port)) (f : ℕ × Port) → those_sampling o ≡ Some f → o ≡ Some f
sampling_of None f e = absurd (none-some f e)
sampling_of (Some g) f e = by_kind (is_sampling g.1) e
  where
    by_kind : (test : Bool) → if_sampling test g ≡ Some f → Some g ≡ Some f
    by_kind false q = absurd (none-some f q)
    by_kind true q = q

pub queuing_of : (o : Option (ℕ × Port)) (f : ℕ × Port) → those_queuing o ≡ Some f → o ≡ Some f
queuing_of None f e = absurd (none-some f e)
queuing_of (Some g) f e = by_kind (is_sampling g.1) e
  where
    by_kind : (test : Bool) → unless_sampling test g ≡ Some f → Some g ≡ Some f
    by_kind true q = absurd (none-some f q)
    by_kind false q = q

module _ (d : ListKey → Discipline) (names : List (List ℕ)) where
  abbrev Set : Sharing Ports → Type 0
  Set b = IsSet d names Ports (PortsHaveDisciplines d) b

  abbrev To : May → Sharing Ports → Step (Sharing Ports) → Type 0
  To may b t = Shares d names Ports (PortsHaveDisciplines d) may b t

  pub puts : (may : May) (b : Sharing Ports) (place : ℕ) (x : Port) → Set b → discipline_of x.row.kind ≡ d (list place) → To may b (becomes_port b place x)
  puts may b place x h k =
      becomes_shares d names Ports (PortsHaveDisciplines d) may b (put_port b.shared place x) h
      (each_put (λ place x. discipline_of x.row.kind ≡ d (list place)) b.shared.ports place x h.fit k)

  sampling_fits : (b : Sharing Ports) (id : ℤ) (f : ℕ × Port) → Set b → sampling b.shared id ≡ Some f → discipline_of f.1.row.kind ≡ d (list f.0)
  sampling_fits b id f h e = numbered_is (λ place x. discipline_of x.row.kind ≡ d (list place)) b.shared.ports id f h.fit (sampling_of (numbered_in b.shared.ports id) f e)

  pub queuing_fits : (b : Sharing Ports) (id : ℤ) (f : ℕ × Port) → Set b → queuing b.shared id ≡ Some f → discipline_of f.1.row.kind ≡ d (list f.0)
  queuing_fits b id f h e = numbered_is (λ place x. discipline_of x.row.kind ≡ d (list place)) b.shared.ports id f h.fit (queuing_of (numbered_in b.shared.ports id) f e)

  pub create_sampling_port_shares : (may : May) (m : Mode) (b : Sharing Ports) (p : Runner) (name : ℤ) → Set b → To may b (create_sampling_port m b p name)
  create_sampling_port_shares may m b p name h =
      create_shares d names Ports (PortsHaveDisciplines d) may m b p service.CreateSamplingPort name (sampling b.shared name) is_created (creates b) h
      (λ f e. puts may b f.0 (record f.1 { created = true }) h (sampling_fits b name f h e))

  pub create_queuing_port_shares : (may : May) (m : Mode) (b : Sharing Ports) (p : Runner) (name : ℤ) → Set b → To may b (create_queuing_port m b p name)
  create_queuing_port_shares may m b p name h =
      create_shares d names Ports (PortsHaveDisciplines d) may m b p service.CreateQueuingPort name (queuing b.shared name) is_created (creates b) h
      (λ f e. puts may b f.0 (record f.1 { created = true }) h (queuing_fits b name f h e))

  pub write_sampling_message_shares : (may : May) (b : Sharing Ports) (p : Runner) (id : ℤ) (array : ArrayPlace) (length : ℤ) (words : List ℤ) → Set b
      → To may b (write_sampling_message b p id array length words)
  write_sampling_message_shares may b p id array length words h =
      row_shares d names Ports (PortsHaveDisciplines d) may b (refuses b p service.WriteSamplingMessage)
      ((not (has (sampling b.shared id) is_created), code.InvalidParam) ∷ (not (has (sampling b.shared id) is_source), code.InvalidMode) ∷
      (not (has (sampling b.shared id) (λ x. is_length x.row.words array length)), code.InvalidParam) ∷ []) _
      (refuses_shares d names Ports (PortsHaveDisciplines d) may b p service.WriteSamplingMessage h)
      (on_shares d names Ports (PortsHaveDisciplines d) may b (sampling b.shared id) (writes_sample b p (message (first_words length words))) h
      (λ f e. after_shares d names Ports (PortsHaveDisciplines d) may b _ _ (answers_shares d names Ports (PortsHaveDisciplines d) may b p service.WriteSamplingMessage code.NoError [] h)
      (λ k. puts may b f.0 (with_sample f.1 (message (first_words length words))) k (sampling_fits b id f k e))))

  reads_shares : (may : May) (at : At) (b : Sharing Ports) (p : Runner) (array : ArrayPlace) (place : ℕ) (x : Port) (ms : List (ArrayVec ℤ)) → Set b
      → discipline_of x.row.kind ≡ d (list place) → To may b (reads_sample at b p array place x ms)
  reads_shares may at b p array place x [] h e = refuses_shares d names Ports (PortsHaveDisciplines d) may b p service.ReadSamplingMessage h code.NoAction
  reads_shares may at b p array place x (m ∷ rest) h e =
      after_shares d names Ports (PortsHaveDisciplines d) may b _ _ (answers_shares d names Ports (PortsHaveDisciplines d) may b p service.ReadSamplingMessage code.NoError
      (pos (length m.items) ∷ pos (validity_number (is_valid at x)) ∷ []) h) (λ k. after_shares d names Ports (PortsHaveDisciplines d) may b _ _
      (fills_shares d names Ports (PortsHaveDisciplines d) may b (Some array) m k) (λ g. puts may b place (record x { valid = is_valid at x }) g e))

  pub read_sampling_message_shares : (may : May) (at : At) (b : Sharing Ports) (p : Runner) (id : ℤ) (array : ArrayPlace) → Set b → To may b (read_sampling_message at b p id array)
  read_sampling_message_shares may at b p id array h =
      row_shares d names Ports (PortsHaveDisciplines d) may b (refuses b p service.ReadSamplingMessage)
      ((not (has (sampling b.shared id) is_created), code.InvalidParam) ∷ (has (sampling b.shared id) is_source, code.InvalidMode) ∷
      (not (has (sampling b.shared id) (λ x. is_large_enough x.row.words array)), code.InvalidParam) ∷ []) _
      (refuses_shares d names Ports (PortsHaveDisciplines d) may b p service.ReadSamplingMessage h)
      (on_shares d names Ports (PortsHaveDisciplines d) may b (sampling b.shared id) (λ place x. reads_sample at b p array place x x.messages) h
      (λ f e. reads_shares may at b p array f.0 f.1 f.1.messages h (sampling_fits b id f h e)))

  sends_shares : (may : May) (at : At) (b : Sharing Ports) (p : Runner) (limit : ℤ) (m : ArrayVec ℤ) (place : ℕ) (x : Port) → Set b → may.begin_to_wait ≡ itself p
      → discipline_of x.row.kind ≡ d (list place) → To may b (sends at b p limit m place x)
  sends_shares may at b p limit m place x h own e =
      either_shares d names Ports (PortsHaveDisciplines d) may b (is_full x) _ _ (of_shares d names Ports (PortsHaveDisciplines d) may b _ h
      (blocks_goes d names at may b.processes p limit (sender place x) m e own h.named))
      (after_shares d names Ports (PortsHaveDisciplines d) may b _ _ (answers_shares d names Ports (PortsHaveDisciplines d) may b p service.SendQueuingMessage code.NoError [] h)
      (λ k. puts may b place (with_message x m) k e))

  pub send_queuing_message_shares : (may : May) (at : At) (b : Sharing Ports) (p : Runner) (id : ℤ) (array : ArrayPlace) (length : ℤ) (limit : ℤ) (words : List ℤ) → Set b
      → may.begin_to_wait ≡ itself p → To may b (send_queuing_message at b p id array length limit words)
  send_queuing_message_shares may at b p id array length limit words h own =
      row_shares d names Ports (PortsHaveDisciplines d) may b (refuses b p service.SendQueuingMessage)
      ((not (has (queuing b.shared id) is_created), code.InvalidParam) ∷ (not (is_duration limit), code.InvalidParam) ∷ (not (has (queuing b.shared id) is_source), code.InvalidMode) ∷
      (not (has (queuing b.shared id) (λ x. is_length x.row.words array length)), code.InvalidParam) ∷ []) _
      (refuses_shares d names Ports (PortsHaveDisciplines d) may b p service.SendQueuingMessage h)
      (on_shares d names Ports (PortsHaveDisciplines d) may b (queuing b.shared id) (sends at b p limit (message (first_words length words))) h
      (λ f e. sends_shares may at b p limit (message (first_words length words)) f.0 f.1 h own (queuing_fits b id f h e)))

  receives_shares : (may : May) (at : At) (b : Sharing Ports) (p : Runner) (array : ArrayPlace) (limit : ℤ) (place : ℕ) (x : Port) (ms : List (ArrayVec ℤ)) → Set b
      → may.begin_to_wait ≡ itself p → discipline_of x.row.kind ≡ d (list place) → To may b (receives at b p array limit place x ms)
  receives_shares may at b p array limit place x [] h own e =
      of_shares d names Ports (PortsHaveDisciplines d) may b _ h (blocks_goes d names at may b.processes p limit (receiver place x array) (message []) e own h.named)
  receives_shares may at b p array limit place x (m ∷ rest) h own e =
      after_shares d names Ports (PortsHaveDisciplines d) may b _ _ (answers_shares d names Ports (PortsHaveDisciplines d) may b p service.ReceiveQueuingMessage
      (code_of_receive x.overflowed) (pos (length m.items) ∷ []) h) (λ k. after_shares d names Ports (PortsHaveDisciplines d) may b _ _
      (fills_shares d names Ports (PortsHaveDisciplines d) may b (Some array) m k) (λ g. puts may b place (record x { messages = rest; overflowed = false }) g e))

  pub receive_queuing_message_shares : (may : May) (at : At) (b : Sharing Ports) (p : Runner) (id : ℤ) (array : ArrayPlace) (limit : ℤ) → Set b → may.begin_to_wait ≡ itself p
      → To may b (receive_queuing_message at b p id array limit)
  receive_queuing_message_shares may at b p id array limit h own =
      row_shares d names Ports (PortsHaveDisciplines d) may b (refuses b p service.ReceiveQueuingMessage)
      ((not (has (queuing b.shared id) is_created), code.InvalidParam) ∷ (not (is_duration limit), code.InvalidParam) ∷ (has (queuing b.shared id) is_source, code.InvalidMode) ∷
      (not (has (queuing b.shared id) (λ x. is_large_enough x.row.words array)), code.InvalidParam) ∷ []) _
      (refuses_shares d names Ports (PortsHaveDisciplines d) may b p service.ReceiveQueuingMessage h)
      (on_shares d names Ports (PortsHaveDisciplines d) may b (queuing b.shared id) (λ place x. receives at b p array limit place x x.messages) h
      (λ f e. receives_shares may at b p array limit f.0 f.1 f.1.messages h own (queuing_fits b id f h e)))

  pub clear_queuing_port_shares : (may : May) (b : Sharing Ports) (p : Runner) (id : ℤ) → Set b → To may b (clear_queuing_port b p id)
  clear_queuing_port_shares may b p id h =
      row_shares d names Ports (PortsHaveDisciplines d) may b (refuses b p service.ClearQueuingPort)
      ((not (has (queuing b.shared id) is_created), code.InvalidParam) ∷ (has (queuing b.shared id) is_source, code.InvalidMode) ∷ []) _
      (refuses_shares d names Ports (PortsHaveDisciplines d) may b p service.ClearQueuingPort h)
      (on_shares d names Ports (PortsHaveDisciplines d) may b (queuing b.shared id) (clears_port b p) h
      (λ f e. after_shares d names Ports (PortsHaveDisciplines d) may b _ _ (answers_shares d names Ports (PortsHaveDisciplines d) may b p service.ClearQueuingPort code.NoError [] h)
      (λ k. puts may b f.0 (record f.1 { messages = []; overflowed = false }) k (queuing_fits b id f k e))))

  -- The last clause is for services that only write lines.
  pub serves_ports_shares : (m : Mode) (at : At) (b : Sharing Ports) (p : Runner) (c : PortCall) (words : List ℤ) → Set b → To (may_by p (call.Port c)) b (serves_ports m at b p c words)
  serves_ports_shares m at b p (port.CreateSamplingPort name) words h = create_sampling_port_shares (may_by p (call.Port (port.CreateSamplingPort name))) m b p name h
  serves_ports_shares m at b p (port.WriteSamplingMessage id array length) words h = write_sampling_message_shares (may_by p (call.Port (port.WriteSamplingMessage id array length))) b p id array length words h
  serves_ports_shares m at b p (port.ReadSamplingMessage id array) words h = read_sampling_message_shares (may_by p (call.Port (port.ReadSamplingMessage id array))) at b p id array h
  serves_ports_shares m at b p (port.CreateQueuingPort name) words h = create_queuing_port_shares (may_by p (call.Port (port.CreateQueuingPort name))) m b p name h
  serves_ports_shares m at b p (port.SendQueuingMessage id array length limit) words h = send_queuing_message_shares (may_by p (call.Port (port.SendQueuingMessage id array length limit))) at b p id array length limit words h refl
  serves_ports_shares m at b p (port.ReceiveQueuingMessage id array limit) words h = receive_queuing_message_shares (may_by p (call.Port (port.ReceiveQueuingMessage id array limit))) at b p id array limit h refl
  serves_ports_shares m at b p (port.ClearQueuingPort id) words h = clear_queuing_port_shares (may_by p (call.Port (port.ClearQueuingPort id))) b p id h
  serves_ports_shares m at b p c words h = search (get_id_shares, get_status_shares, nothing_shares)

  -- ---- arrival

  lines_share : (may : May) (b : Sharing Ports) (x : Port) (m : ArrayVec ℤ) → Set b → To may b (arrived b x m)
  lines_share may b x m h = record { goes = record { takings = []; follows = λ n o. o; named = h.named; told = refl; allowed = tt }; fit = h.fit }

  lost_shares : (may : May) (b : Sharing Ports) (place : ℕ) (x : Port) (m : ArrayVec ℤ) → Set b → discipline_of x.row.kind ≡ d (list place) → To may b (is_lost b place x m)
  lost_shares may b place x m h e =
      let t = puts may b place (record x { overflowed = true }) h e in
      record { goes = record { takings = []; follows = λ n o. o; named = h.named; told = refl; allowed = tt }; fit = t.fit }

  arrives_queuing_shares : (may : May) (b : Sharing Ports) (place : ℕ) (x : Port) (m : ArrayVec ℤ) → Set b → discipline_of x.row.kind ≡ d (list place) → (o : Option (Runner × ProcessStatus))
      → first_waiting b.processes (list place) ≡ o → To may b (arrives_queuing b place x m o)
  arrives_queuing_shares may b place x m h e None q =
      either_shares d names Ports (PortsHaveDisciplines d) may b (is_full x) _ _ (lost_shares may b place x m h e)
      (after_shares d names Ports (PortsHaveDisciplines d) may b _ _ (lines_share may b x m h) (λ k. puts may b place (with_message x m) k e))
  arrives_queuing_shares may b place x m h e (Some f) q =
      after_shares d names Ports (PortsHaveDisciplines d) may b _ _ (lines_share may b x m h)
      (λ k. of_shares d names Ports (PortsHaveDisciplines d) may b _ k (gives_goes d names may b.processes f.0 f.1 m k.named (first_is_of d names b.processes (list place) f k.named q)))

  arrives_shares_at : (may : May) (at : At) (b : Sharing Ports) (place : ℕ) (m : ArrayVec ℤ) → Set b → (o : Option Port) → port_at b.shared place ≡ o → To may b (arrives_at at b place m o)
  arrives_shares_at may at b place m h None q = nothing_shares d names Ports (PortsHaveDisciplines d) may b h
  arrives_shares_at may at b place m h (Some x) q =
      let e = h.fit place x q in
      either_shares d names Ports (PortsHaveDisciplines d) may b (is_sampling x) _ _ (after_shares d names Ports (PortsHaveDisciplines d) may b _ _ (lines_share may b x m h)
      (λ k. puts may b place (record (with_sample x m) { arrival = at.now }) k e)) (arrives_queuing_shares may b place x m h e (first_waiting b.processes (list place)) refl)

  pub arrives_shares : (may : May) (at : At) (b : Sharing Ports) (place : ℕ) (m : ArrayVec ℤ) → Set b → To may b (arrives at b place m)
  arrives_shares may at b place m h = arrives_shares_at may at b place m h (port_at b.shared place) refl

  -- ---- senders that enter

  found_of : (b : Sharing Ports) (e : Entry) (f : Runner × ProcessStatus) → Set b → (o : Option ProcessStatus) → row_of b.processes (runner.Process e.process) ≡ o
      → numbered e.process o ≡ Some f → IsOf d names f.0 f.1
  found_of b e f h None q g = absurd (none-some f g)
  found_of b e f h (Some r) q g =
      subst (λ (x : Runner × ProcessStatus). IsOf d names x.0 x.1) (same_Some (runner.Process e.process, r) f g) (row_is_of d names b.processes (runner.Process e.process) r h.named q)

  enters_found_shares : (may : May) (b : Sharing Ports) (place : ℕ) (x : Port) → Set b → discipline_of x.row.kind ≡ d (list place) → (o : Option (Runner × ProcessStatus))
      → ((f : Runner × ProcessStatus) → o ≡ Some f → IsOf d names f.0 f.1) → To may b (enters_found b place x o)
  enters_found_shares may b place x h e None g = nothing_shares d names Ports (PortsHaveDisciplines d) may b h
  enters_found_shares may b place x h e (Some f) g =
      after_shares d names Ports (PortsHaveDisciplines d) may b _ _ (puts may b place (with_message x (handed_by b.processes f.0)) h e)
      (λ k. of_shares d names Ports (PortsHaveDisciplines d) may _ _ k (release_goes d names may b.processes f.0 f.1 code.NoError h.named (g f refl)))

  enters_port_shares : (may : May) (b : Sharing Ports) (place : ℕ) (e : Entry) → Set b → (o : Option Port) → port_at b.shared place ≡ o → To may b (enters_port b place e o)
  enters_port_shares may b place e h None q = nothing_shares d names Ports (PortsHaveDisciplines d) may b h
  enters_port_shares may b place e h (Some x) q =
      either_shares d names Ports (PortsHaveDisciplines d) may b (is_full x) _ _ (nothing_shares d names Ports (PortsHaveDisciplines d) may b h)
      (enters_found_shares may b place x h (h.fit place x q) (numbered e.process (row_of b.processes (runner.Process e.process)))
      (λ f g. found_of b e f h (row_of b.processes (runner.Process e.process)) refl g))

  all_enter_shares : (may : May) (es : List Entry) (place : ℕ) (b : Sharing Ports) → Set b → To may b (all_enter es place b)
  all_enter_shares may [] place b h = nothing_shares d names Ports (PortsHaveDisciplines d) may b h
  all_enter_shares may (e ∷ es) place b h =
      after_shares d names Ports (PortsHaveDisciplines d) may b _ _ (enters_port_shares may b place e h (port_at b.shared place) refl) (λ k. all_enter_shares may es place _ k)

  pub admits_shares : (may : May) (b : Sharing Ports) (place : ℕ) → Set b → To may b (admits b place)
  admits_shares may b place h = all_enter_shares may (waiting b.processes (list place)) place b h
