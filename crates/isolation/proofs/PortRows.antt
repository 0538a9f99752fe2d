-- The services on ports keep the invariant of a partition.
use Rattle.isolation.proofs.Prelude.{◌≡◌, ℕ, zero, suc, ◌≤◌, ℤ, Bool, true, false, List, ◌∷◌, length, Option, Some, None, sym, ◌∙◌, pos, negsuc, not, if◌then◌else◌, slice_get, is_some, not-false, ArrayVec, MOST_WORDS, Mode, At, Runner, PortRow, ArrayPlace, Call, Service, is_duration, Calls, given, Port, Ports, is_sampling, is_source, is_source_direction, is_full, with_sample, with_message, becomes_port, is_normal, Sharing, on, is_length, Step, after, message, first_words, blocks}
use Rattle.std.proofs.Common.{[], refl, ap, subst}
use Rattle.apex_types.specs.declared.codes.ReturnCode.TheVariants as code
use Rattle.apex_types.specs.declared.service.Call.TheVariants as call
use Rattle.apex_types.specs.declared.service.PortCall.{PortCall}
use Rattle.apex_types.specs.declared.service.PortCall.TheVariants as port
use Rattle.apex_types.specs.declared.service.Service.TheVariants as service
use Rattle.kernel_meaning.specs.Objects.{numbered_in, placed}
use Rattle.kernel_meaning.specs.Objects.{sampling, queuing, those_sampling, those_queuing, if_sampling, unless_sampling}
use Rattle.kernel_meaning.specs.PortServices.{sender, sends, send_queuing_message, receiver, receives, receive_queuing_message, is_valid, writes_sample, write_sampling_message, is_created, creates, reads_sample, read_sampling_message, clear_queuing_port, clears_port, serves_ports}
use Rattle.kernel_meaning.specs.Sharing.{answers, has, create, get_id, get_status, is_large_enough, of_processes}
use Rattle.isolation.proofs.Handed.{Asks, blocks_sound}
use Rattle.isolation.proofs.HandedIn.{AsksWithin, handed_length}
use Rattle.isolation.proofs.Holding.{HasLength, IsHolding}
use Rattle.isolation.proofs.Sounds.{IsSoundSharing, holding_at, holding_put, more_messages}
use Rattle.isolation.proofs.Steps.{same_some}

-- the messages of all these ports are short
abbrev pub AreShort : List PortRow → Type 0
AreShort rows = (place : ℕ) (x : PortRow) → slice_get rows place ≡ Some x → x.words ≤ MOST_WORDS

module _ (rows : List PortRow) where
  abbrev Sound : Step (Sharing Ports) → Type 0
  Sound s = IsSoundSharing rows s.part

  -- a check that refuses, or that was passed
  passed : (b : Bool) (s t : Step (Sharing Ports)) → Sound s → (b ≡ false → Sound t) → Sound (if b then s else t)
  passed true s t h k = h
  passed false s t h k = k refl

  either : (b : Bool) (s t : Step (Sharing Ports)) → Sound s → Sound t → Sound (if b then s else t)
  either b s t h k = passed b s t h (λ e. k)

  module _ (b : Sharing Ports) (h : IsSoundSharing rows b) where
    -- a port with the same row, which holds what it allows
    put_sound : (k : ℕ) (z w : Port) → slice_get b.shared.ports k ≡ Some z → w.row ≡ z.row → (IsHolding z → IsHolding w) → Sound (becomes_port b k w)
    put_sound k z w e r g = record { holding = holding_put rows b.shared.ports k z w h.holding e r (g (holding_at rows b.shared.ports k z h.holding e).1); processes = h.processes }

    -- a port found by its number is at its place
    numbered_found : (id : ℤ) (f : ℕ × Port) → numbered_in b.shared.ports id ≡ Some f → slice_get b.shared.ports f.0 ≡ Some f.1
    numbered_found (pos zero) f e = absurd (cc)
    numbered_found (negsuc n) f e = absurd (cc)
    numbered_found (pos (suc n)) f e = there (slice_get b.shared.ports n) refl e
      where
        there : (o : Option Port) → slice_get b.shared.ports n ≡ o → placed n o ≡ Some f → slice_get b.shared.ports f.0 ≡ Some f.1
        there None k g = absurd (cc)
        there (Some z) k g = subst (λ (x : ℕ × Port). slice_get b.shared.ports x.0 ≡ Some x.1) (same_some (n, z) f g) k

    sampling_found : (id : ℤ) (f : ℕ × Port) → sampling b.shared id ≡ Some f → slice_get b.shared.ports f.0 ≡ Some f.1
    sampling_found id f e = there (numbered_in b.shared.ports id) refl e
      where
        is : (t : Bool) (g : ℕ × Port) → if_sampling t g ≡ Some f → g ≡ f
        is true g k = same_some g f k
        is false g k = absurd (cc)

        there : (o : Option (ℕ × Port)) → numbered_in b.shared.ports id ≡ o → those_sampling o ≡ Some f → slice_get b.shared.ports f.0 ≡ Some f.1
        there None k g = absurd (cc)
        there (Some x) k g = numbered_found id f (k ∙ ap (λ (y : ℕ × Port). Some y) (is (is_sampling x.1) x g))

    queuing_found : (id : ℤ) (f : ℕ × Port) → queuing b.shared id ≡ Some f → slice_get b.shared.ports f.0 ≡ Some f.1
    queuing_found id f e = there (numbered_in b.shared.ports id) refl e
      where
        is : (t : Bool) (g : ℕ × Port) → unless_sampling t g ≡ Some f → g ≡ f
        is true g k = absurd (cc)
        is false g k = same_some g f k

        there : (o : Option (ℕ × Port)) → numbered_in b.shared.ports id ≡ o → those_queuing o ≡ Some f → slice_get b.shared.ports f.0 ≡ Some f.1
        there None k g = absurd (cc)
        there (Some x) k g = numbered_found id f (k ∙ ap (λ (y : ℕ × Port). Some y) (is (is_sampling x.1) x g))

    -- a step for the port found
    on_sound : (o : Option (ℕ × Port)) (step : ℕ → Port → Step (Sharing Ports)) → ((f : ℕ × Port) → o ≡ Some f → slice_get b.shared.ports f.0 ≡ Some f.1)
        → ((k : ℕ) (z : Port) → o ≡ Some (k, z) → slice_get b.shared.ports k ≡ Some z → Sound (step k z)) → Sound (on o b step)
    on_sound None step found g = h
    on_sound (Some f) step found g = g f.0 f.1 refl (found f refl)

    -- ---- the rows that all kinds have
    create_sound : (m : Mode) (p : Runner) (v : Service) (name : ℤ) (o : Option (ℕ × Port)) → ((f : ℕ × Port) → o ≡ Some f → slice_get b.shared.ports f.0 ≡ Some f.1) → Sound (create m b p v name o is_created (creates b))
    create_sound m p v name o found = either (is_normal m) _ _ h (either (not (is_some o)) _ _ h (either (has o is_created) _ _ h (on_sound o (creates b) found (λ k z e f. put_sound k z (record z { created = true }) f refl (λ g. g)))))

    get_id_sound : (p : Runner) (v : Service) (name : ℤ) (o : Option (ℕ × Port)) → Sound (get_id b p v name o is_created)
    get_id_sound p v name o = either (not (has o is_created)) _ _ h h

    get_status_sound : (p : Runner) (v : Service) (o : Option (ℕ × Port)) (values : ℕ → Port → List ℤ) → Sound (get_status b p v o is_created values)
    get_status_sound p v o values = either (not (has o is_created)) _ _ h (told o)
      where
        told : (o : Option (ℕ × Port)) → Sound (on o b (λ place x. answers b p v code.NoError (values place x)))
        told None = h
        told (Some f) = h

    -- ---- the others
    read_sound : (at : At) (p : Runner) (id : ℤ) (array : ArrayPlace) → Sound (read_sampling_message at b p id array)
    read_sound at p id array =
        either (not (has (sampling b.shared id) is_created)) _ _ h (either (has (sampling b.shared id) is_source) _ _ h (either (not (has (sampling b.shared id) (λ x. is_large_enough x.row.words array))) _ _ h
        (on_sound (sampling b.shared id) (λ place x. reads_sample at b p array place x x.messages) (sampling_found id) (λ k z e f. reads k z f z.messages))))
      where
        reads : (k : ℕ) (z : Port) → slice_get b.shared.ports k ≡ Some z → (ms : List (ArrayVec ℤ)) → Sound (reads_sample at b p array k z ms)
        reads k z f [] = h
        reads k z f (m ∷ rest) = put_sound k z (record z { valid = is_valid at z }) f refl (λ g. g)

    clear_sound : (p : Runner) (id : ℤ) → Sound (clear_queuing_port b p id)
    clear_sound p id =
        either (not (has (queuing b.shared id) is_created)) _ _ h (either (has (queuing b.shared id) is_source) _ _ h
        (on_sound (queuing b.shared id) (clears_port b p) (queuing_found id) (λ k z e f. put_sound k z (record z { messages = []; overflowed = false }) f refl (λ g source. tt))))

    -- the row of a port that is there
    row_at : (k : ℕ) (z : Port) → slice_get b.shared.ports k ≡ Some z → slice_get rows k ≡ Some z.row
    row_at k z f = (holding_at rows b.shared.ports k z h.holding f).0

    -- the check of the length was passed
    long_enough : (o : Option (ℕ × Port)) (array : ArrayPlace) (size : ℤ) (k : ℕ) (z : Port) → o ≡ Some (k, z) → not (has o (λ x. is_length x.row.words array size)) ≡ false → is_length z.row.words array size ≡ true
    long_enough o array size k z f e = not-false (is_length z.row.words array size) (subst (λ (o : Option (ℕ × Port)). not (has o (λ x. is_length x.row.words array size)) ≡ false) f e)

    -- The message that a call hands in has a length that the port allows.
    write_sound : AreShort rows → (p : Runner) (id : ℤ) (array : ArrayPlace) (size : ℤ) (words : List ℤ) → ((most : ℕ) → most ≤ MOST_WORDS → is_length most array size ≡ true → HasLength most (first_words size words))
        → Sound (write_sampling_message b p id array size words)
    write_sound short p id array size words good =
        either (not (has (sampling b.shared id) is_created)) _ _ h (either (not (has (sampling b.shared id) is_source)) _ _ h (passed (not (has (sampling b.shared id) (λ x. is_length x.row.words array size))) _ _ h
        (λ e. on_sound (sampling b.shared id) (writes_sample b p (message (first_words size words))) (sampling_found id) (λ k z f g.
        put_sound k z (with_sample z (message (first_words size words))) g refl (λ holds source. (good z.row.words (short k z.row (row_at k z g)) (long_enough (sampling b.shared id) array size k z f e), tt))))))

    send_sound : AreShort rows → (at : At) (p : Runner) (id : ℤ) (array : ArrayPlace) (size limit : ℤ) (words : List ℤ) → ((most : ℕ) → most ≤ MOST_WORDS → is_length most array size ≡ true → HasLength most (first_words size words))
        → Sound (send_queuing_message at b p id array size limit words)
    send_sound short at p id array size limit words good =
        either (not (has (queuing b.shared id) is_created)) _ _ h (either (not (is_duration limit)) _ _ h (either (not (has (queuing b.shared id) is_source)) _ _ h (passed (not (has (queuing b.shared id) (λ x. is_length x.row.words array size))) _ _ h
        (λ e. on_sound (queuing b.shared id) (sends at b p limit (message (first_words size words))) (queuing_found id) (λ k z f g.
        one k z g (good z.row.words (short k z.row (row_at k z g)) (long_enough (queuing b.shared id) array size k z f e)) (is_full z))))))
      where
        asks : (k : ℕ) (z : Port) → slice_get b.shared.ports k ≡ Some z → HasLength z.row.words (first_words size words) → Asks rows k (message (first_words size words))
        asks k z f good x g source = subst (λ (y : PortRow). HasLength y.words (first_words size words)) (same_some z.row x (sym (row_at k z f) ∙ g)) good

        one : (k : ℕ) (z : Port) → slice_get b.shared.ports k ≡ Some z → HasLength z.row.words (first_words size words) → (t : Bool)
            → Sound (if t then of_processes b (blocks at b.processes p limit (sender k z) (message (first_words size words))) else after (answers b p service.SendQueuingMessage code.NoError []) (becomes_port b k (with_message z (message (first_words size words)))))
        one k z f good true = record { holding = h.holding; processes = blocks_sound rows at b.processes p limit (sender k z) (message (first_words size words)) (asks k z f good) h.processes }
        one k z f good false = put_sound k z (with_message z (message (first_words size words))) f refl (λ g source. more_messages (λ m. HasLength z.row.words m.items) z.messages (message (first_words size words)) (g source) good)

    receive_sound : (at : At) (p : Runner) (id : ℤ) (array : ArrayPlace) (limit : ℤ) → Sound (receive_queuing_message at b p id array limit)
    receive_sound at p id array limit =
        either (not (has (queuing b.shared id) is_created)) _ _ h (either (not (is_duration limit)) _ _ h (passed (has (queuing b.shared id) is_source) _ _ h (λ goes. either (not (has (queuing b.shared id) (λ x. is_large_enough x.row.words array))) _ _ h
        (on_sound (queuing b.shared id) (λ place x. receives at b p array limit place x x.messages) (queuing_found id) (λ k z f g. one k z g (subst (λ (o : Option (ℕ × Port)). has o is_source ≡ false) f goes) z.messages)))))
      where
        never : (z : Port) → is_source z ≡ false → is_source z ≡ true → ⊥
        never z a b = let t : false ≡ true = sym a ∙ b in cc

        asks : (k : ℕ) (z : Port) → slice_get b.shared.ports k ≡ Some z → is_source z ≡ false → Asks rows k (message [])
        asks k z f goes x g source = absurd (never z goes (ap is_source_direction (ap (λ (y : PortRow). y.direction) (same_some z.row x (sym (row_at k z f) ∙ g)) ∙ source)))

        one : (k : ℕ) (z : Port) → slice_get b.shared.ports k ≡ Some z → is_source z ≡ false → (ms : List (ArrayVec ℤ)) → Sound (receives at b p array limit k z ms)
        one k z f goes [] = record { holding = h.holding; processes = blocks_sound rows at b.processes p limit (receiver k z array) (message []) (asks k z f goes) h.processes }
        one k z f goes (m ∷ rest) = put_sound k z (record z { messages = rest; overflowed = false }) f refl (λ g source. absurd (never z goes source))

    -- Each service on ports, with what its call hands in out of data that its array is within.
    pub ports_sound : AreShort rows → (m : Mode) (at : At) (p : Runner) (c : PortCall) (words : List ℤ) → AsksWithin (length words) (Calls (call.Port c)) → Sound (serves_ports m at b p c (given (Calls (call.Port c)) words))
    ports_sound short m at p (port.CreateSamplingPort name) words within = create_sound m p service.CreateSamplingPort name (sampling b.shared name) (sampling_found name)
    ports_sound short m at p (port.WriteSamplingMessage id array size) words within = write_sound short p id array size _ (λ most few e. handed_length array size words most few within e)
    ports_sound short m at p (port.ReadSamplingMessage id array) words within = read_sound at p id array
    ports_sound short m at p (port.GetSamplingPortId name) words within = get_id_sound p service.GetSamplingPortId name (sampling b.shared name)
    ports_sound short m at p (port.GetSamplingPortStatus id) words within = get_status_sound p service.GetSamplingPortStatus (sampling b.shared id) _
    ports_sound short m at p (port.CreateQueuingPort name) words within = create_sound m p service.CreateQueuingPort name (queuing b.shared name) (queuing_found name)
    ports_sound short m at p (port.SendQueuingMessage id array size limit) words within = send_sound short at p id array size limit _ (λ most few e. handed_length array size words most few within e)
    ports_sound short m at p (port.ReceiveQueuingMessage id array limit) words within = receive_sound at p id array limit
    ports_sound short m at p (port.GetQueuingPortId name) words within = get_id_sound p service.GetQueuingPortId name (queuing b.shared name)
    ports_sound short m at p (port.GetQueuingPortStatus id) words within = get_status_sound p service.GetQueuingPortStatus (queuing b.shared id) _
    ports_sound short m at p (port.ClearQueuingPort id) words within = clear_sound p id
