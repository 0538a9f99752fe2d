-- The services on semaphores continue the numbers.
use Rattle.kernel_laws.proofs.Prelude.{List, None, Option, Some, refl, true, ℕ, ℤ, ◌∷◌, ◌≡◌, not, nat_lt, Discipline, Mode, At, ListKey, Runner, ProcessStatus, is_duration, Objects, Semaphore, Sharing, becomes, has, refuses, Step, message, first_waiting, HaveDisciplines, May, itself}
use Rattle.std.proofs.Common.{[]}
use Rattle.std.specs.Prelude.{◌+◌, ◌-◌}
use Rattle.apex_types.specs.declared.codes.ReturnCode.TheVariants as code
use Rattle.apex_types.specs.declared.service.Service.TheVariants as service
use Rattle.kernel_meaning.specs.Objects.{put_semaphore, semaphore}
use Rattle.kernel_meaning.specs.SemaphoreServices.{create_semaphore, creates, is_at_maximum, is_created, list, signal_semaphore, signals, takes, wait_semaphore, waiting_for}
use Rattle.kernel_laws.proofs.Shares.{Shares, IsSet, of_shares, becomes_shares, answers_shares, refuses_shares, either_shares, row_shares, after_shares, on_shares, create_shares, each_put, numbered_is}
use Rattle.kernel_laws.proofs.NumberSteps.{release_goes, blocks_goes, first_is_of}

module _ (d : ListKey → Discipline) (names : List (List ℕ)) where
  abbrev Set : Sharing Objects → Type 0
  Set b = IsSet d names Objects (HaveDisciplines d) b

  abbrev To : May → Sharing Objects → Step (Sharing Objects) → Type 0
  To may b t = Shares d names Objects (HaveDisciplines d) may b t

  put_fits : (b : Sharing Objects) (place : ℕ) (x : Semaphore) → Set b → x.row.discipline ≡ d (list place) → HaveDisciplines d (put_semaphore b.shared place x)
  put_fits b place x h k = record {
    semaphores = each_put (λ place x. x.row.discipline ≡ d (list place)) b.shared.semaphores place x h.fit.semaphores k;
    events = h.fit.events;
    buffers = h.fit.buffers;
    blackboards = h.fit.blackboards;
  }

  pub found_fits : (b : Sharing Objects) (id : ℤ) (f : ℕ × Semaphore) → Set b → semaphore b.shared id ≡ Some f → (λ (place : ℕ) (x : Semaphore). x.row.discipline ≡ d (list place)) f.0 f.1
  found_fits b id f h e = numbered_is (λ place x. x.row.discipline ≡ d (list place)) b.shared.semaphores id f h.fit.semaphores e

  pub puts : (may : May) (b : Sharing Objects) (place : ℕ) (x : Semaphore) → Set b → x.row.discipline ≡ d (list place) → To may b (becomes b (put_semaphore b.shared place x))
  puts may b place x h k = becomes_shares d names Objects (HaveDisciplines d) may b (put_semaphore b.shared place x) h (put_fits b place x h k)

  pub create_semaphore_shares : (may : May) (m : Mode) (b : Sharing Objects) (p : Runner) (name : ℤ) → Set b → To may b (create_semaphore m b p name)
  create_semaphore_shares may m b p name h =
      create_shares d names Objects (HaveDisciplines d) may m b p service.CreateSemaphore name (semaphore b.shared name) is_created (creates b) h
      (λ f e. puts may b f.0 (record f.1 { created = true }) h (found_fits b name f h e))

  takes_shares : (may : May) (at : At) (b : Sharing Objects) (p : Runner) (limit : ℤ) (place : ℕ) (x : Semaphore) → Set b → may.begin_to_wait ≡ itself p → x.row.discipline ≡ d (list place)
      → To may b (takes at b p limit place x)
  takes_shares may at b p limit place x h own e =
      either_shares d names Objects (HaveDisciplines d) may b (nat_lt 0 x.value) _ _ (after_shares d names Objects (HaveDisciplines d) may b _ _
      (answers_shares d names Objects (HaveDisciplines d) may b p service.WaitSemaphore code.NoError [] h) (λ k. puts may b place (record x { value = x.value - 1 }) k e))
      (of_shares d names Objects (HaveDisciplines d) may b _ h (blocks_goes d names at may b.processes p limit (waiting_for place x) (message []) e own h.named))

  pub wait_semaphore_shares : (may : May) (at : At) (b : Sharing Objects) (p : Runner) (id : ℤ) (limit : ℤ) → Set b → may.begin_to_wait ≡ itself p → To may b (wait_semaphore at b p id limit)
  wait_semaphore_shares may at b p id limit h own =
      row_shares d names Objects (HaveDisciplines d) may b (refuses b p service.WaitSemaphore)
      ((not (has (semaphore b.shared id) is_created), code.InvalidParam) ∷ (not (is_duration limit), code.InvalidParam) ∷ []) _
      (refuses_shares d names Objects (HaveDisciplines d) may b p service.WaitSemaphore h)
      (on_shares d names Objects (HaveDisciplines d) may b (semaphore b.shared id) (takes at b p limit) h (λ f e. takes_shares may at b p limit f.0 f.1 h own (found_fits b id f h e)))

  signals_shares : (may : May) (b : Sharing Objects) (place : ℕ) (x : Semaphore) → Set b → x.row.discipline ≡ d (list place) → (o : Option (Runner × ProcessStatus))
      → first_waiting b.processes (list place) ≡ o → To may b (signals b place x o)
  signals_shares may b place x h e None q = puts may b place (record x { value = x.value + 1 }) h e
  signals_shares may b place x h e (Some f) q =
      of_shares d names Objects (HaveDisciplines d) may b _ h (release_goes d names may b.processes f.0 f.1 code.NoError h.named (first_is_of d names b.processes (list place) f h.named q))

  pub signal_semaphore_shares : (may : May) (b : Sharing Objects) (p : Runner) (id : ℤ) → Set b → To may b (signal_semaphore b p id)
  signal_semaphore_shares may b p id h =
      row_shares d names Objects (HaveDisciplines d) may b (refuses b p service.SignalSemaphore)
      ((not (has (semaphore b.shared id) is_created), code.InvalidParam) ∷ (has (semaphore b.shared id) is_at_maximum, code.NoAction) ∷ []) _
      (refuses_shares d names Objects (HaveDisciplines d) may b p service.SignalSemaphore h)
      (after_shares d names Objects (HaveDisciplines d) may b _ _ (answers_shares d names Objects (HaveDisciplines d) may b p service.SignalSemaphore code.NoError [] h)
      (λ k. on_shares d names Objects (HaveDisciplines d) may b (semaphore b.shared id) (λ place x. signals b place x (first_waiting b.processes (list place))) k
      (λ f e. signals_shares may b f.0 f.1 k (found_fits b id f k e) (first_waiting b.processes (list f.0)) refl)))
