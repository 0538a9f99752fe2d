-- The services on buffers continue the numbers.
use Rattle.kernel_laws.proofs.Prelude.{List, None, Option, Some, refl, true, ℕ, ℤ, ◌∷◌, ◌≡◌, not, pos, ArrayVec, Discipline, Mode, At, ListKey, Runner, ProcessStatus, ArrayPlace, is_duration, Objects, Buffer, Sharing, becomes, is_large_enough, is_length, has, refuses, Step, first_words, message, first_waiting, handed_by, HaveDisciplines, May, itself}
use Rattle.std.proofs.Common.{[]}
use Rattle.std.specs.Prelude.{length}
use Rattle.apex_types.specs.declared.codes.ReturnCode.TheVariants as code
use Rattle.apex_types.specs.declared.service.Service.TheVariants as service
use Rattle.kernel_meaning.specs.BufferServices.{admits, create_buffer, creates, is_created, is_full, list, receive_buffer, receiver, receives, send_buffer, sender, sends, takes_message, with_message}
use Rattle.kernel_meaning.specs.Objects.{buffer, put_buffer}
use Rattle.kernel_laws.proofs.Shares.{Shares, IsSet, of_shares, becomes_shares, fills_shares, answers_shares, refuses_shares, either_shares, row_shares, after_shares, on_shares, create_shares, each_put, numbered_is}
use Rattle.kernel_laws.proofs.NumberSteps.{release_goes, gives_goes, blocks_goes, first_is_of}

module _ (d : ListKey → Discipline) (names : List (List ℕ)) where
  abbrev Set : Sharing Objects → Type 0
  Set b = IsSet d names Objects (HaveDisciplines d) b

  abbrev To : May → Sharing Objects → Step (Sharing Objects) → Type 0
  To may b t = Shares d names Objects (HaveDisciplines d) may b t

  put_fits : (b : Sharing Objects) (place : ℕ) (x : Buffer) → Set b → x.row.discipline ≡ d (list place) → HaveDisciplines d (put_buffer b.shared place x)
  put_fits b place x h k = record {
    semaphores = h.fit.semaphores;
    events = h.fit.events;
    buffers = each_put (λ place x. x.row.discipline ≡ d (list place)) b.shared.buffers place x h.fit.buffers k;
    blackboards = h.fit.blackboards;
  }

  pub found_fits : (b : Sharing Objects) (id : ℤ) (f : ℕ × Buffer) → Set b → buffer b.shared id ≡ Some f → (λ (place : ℕ) (x : Buffer). x.row.discipline ≡ d (list place)) f.0 f.1
  found_fits b id f h e = numbered_is (λ place x. x.row.discipline ≡ d (list place)) b.shared.buffers id f h.fit.buffers e

  pub puts : (may : May) (b : Sharing Objects) (place : ℕ) (x : Buffer) → Set b → x.row.discipline ≡ d (list place) → To may b (becomes b (put_buffer b.shared place x))
  puts may b place x h k = becomes_shares d names Objects (HaveDisciplines d) may b (put_buffer b.shared place x) h (put_fits b place x h k)

  pub create_buffer_shares : (may : May) (m : Mode) (b : Sharing Objects) (p : Runner) (name : ℤ) → Set b → To may b (create_buffer m b p name)
  create_buffer_shares may m b p name h =
      create_shares d names Objects (HaveDisciplines d) may m b p service.CreateBuffer name (buffer b.shared name) is_created (creates b) h
      (λ f e. puts may b f.0 (record f.1 { created = true }) h (found_fits b name f h e))

  pub message_shares : (may : May) (b : Sharing Objects) (place : ℕ) (x : Buffer) (m : ArrayVec ℤ) → Set b → x.row.discipline ≡ d (list place) → (o : Option (Runner × ProcessStatus))
      → first_waiting b.processes (list place) ≡ o → To may b (takes_message b place x m o)
  message_shares may b place x m h e None q = puts may b place (with_message x m) h e
  message_shares may b place x m h e (Some f) q =
      of_shares d names Objects (HaveDisciplines d) may b _ h (gives_goes d names may b.processes f.0 f.1 m h.named (first_is_of d names b.processes (list place) f h.named q))

  sends_shares : (may : May) (at : At) (b : Sharing Objects) (p : Runner) (limit : ℤ) (m : ArrayVec ℤ) (place : ℕ) (x : Buffer) → Set b → may.begin_to_wait ≡ itself p
      → x.row.discipline ≡ d (list place) → To may b (sends at b p limit m place x)
  sends_shares may at b p limit m place x h own e =
      either_shares d names Objects (HaveDisciplines d) may b (is_full x) _ _ (of_shares d names Objects (HaveDisciplines d) may b _ h
      (blocks_goes d names at may b.processes p limit (sender place x) m e own h.named))
      (after_shares d names Objects (HaveDisciplines d) may b _ _ (answers_shares d names Objects (HaveDisciplines d) may b p service.SendBuffer code.NoError [] h)
      (λ k. message_shares may b place x m k e (first_waiting b.processes (list place)) refl))

  pub send_buffer_shares : (may : May) (at : At) (b : Sharing Objects) (p : Runner) (id : ℤ) (array : ArrayPlace) (length : ℤ) (limit : ℤ) (words : List ℤ) → Set b
      → may.begin_to_wait ≡ itself p → To may b (send_buffer at b p id array length limit words)
  send_buffer_shares may at b p id array length limit words h own =
      row_shares d names Objects (HaveDisciplines d) may b (refuses b p service.SendBuffer)
      ((not (has (buffer b.shared id) is_created), code.InvalidParam) ∷ (not (has (buffer b.shared id) (λ x. is_length x.row.words array length)), code.InvalidParam) ∷
      (not (is_duration limit), code.InvalidParam) ∷ []) _ (refuses_shares d names Objects (HaveDisciplines d) may b p service.SendBuffer h)
      (on_shares d names Objects (HaveDisciplines d) may b (buffer b.shared id) (sends at b p limit (message (first_words length words))) h
      (λ f e. sends_shares may at b p limit (message (first_words length words)) f.0 f.1 h own (found_fits b id f h e)))

  pub admits_shares : (may : May) (b : Sharing Objects) (place : ℕ) (x : Buffer) → Set b → x.row.discipline ≡ d (list place) → (o : Option (Runner × ProcessStatus))
      → first_waiting b.processes (list place) ≡ o → To may b (admits b place x o)
  admits_shares may b place x h e None q = puts may b place x h e
  admits_shares may b place x h e (Some f) q =
      after_shares d names Objects (HaveDisciplines d) may b _ _ (puts may b place (with_message x (handed_by b.processes f.0)) h e)
      (λ k. of_shares d names Objects (HaveDisciplines d) may _ _ k (release_goes d names may b.processes f.0 f.1 code.NoError h.named
      (first_is_of d names b.processes (list place) f h.named q)))

  receives_shares : (may : May) (at : At) (b : Sharing Objects) (p : Runner) (array : ArrayPlace) (limit : ℤ) (place : ℕ) (x : Buffer) (ms : List (ArrayVec ℤ)) → Set b
      → may.begin_to_wait ≡ itself p → x.row.discipline ≡ d (list place) → To may b (receives at b p array limit place x ms)
  receives_shares may at b p array limit place x [] h own e =
      of_shares d names Objects (HaveDisciplines d) may b _ h (blocks_goes d names at may b.processes p limit (receiver place x array) (message []) e own h.named)
  receives_shares may at b p array limit place x (m ∷ rest) h own e =
      after_shares d names Objects (HaveDisciplines d) may b _ _ (answers_shares d names Objects (HaveDisciplines d) may b p service.ReceiveBuffer code.NoError
      (pos (length m.items) ∷ []) h) (λ k. after_shares d names Objects (HaveDisciplines d) may b _ _ (fills_shares d names Objects (HaveDisciplines d) may b (Some array) m k)
      (λ g. admits_shares may b place (record x { messages = rest }) g e (first_waiting b.processes (list place)) refl))

  pub receive_buffer_shares : (may : May) (at : At) (b : Sharing Objects) (p : Runner) (id : ℤ) (array : ArrayPlace) (limit : ℤ) → Set b → may.begin_to_wait ≡ itself p
      → To may b (receive_buffer at b p id array limit)
  receive_buffer_shares may at b p id array limit h own =
      row_shares d names Objects (HaveDisciplines d) may b (refuses b p service.ReceiveBuffer)
      ((not (has (buffer b.shared id) is_created), code.InvalidParam) ∷ (not (has (buffer b.shared id) (λ x. is_large_enough x.row.words array)), code.InvalidParam) ∷
      (not (is_duration limit), code.InvalidParam) ∷ []) _ (refuses_shares d names Objects (HaveDisciplines d) may b p service.ReceiveBuffer h)
      (on_shares d names Objects (HaveDisciplines d) may b (buffer b.shared id) (λ place x. receives at b p array limit place x x.messages) h
      (λ f e. receives_shares may at b p array limit f.0 f.1 f.1.messages h own (found_fits b id f h e)))
