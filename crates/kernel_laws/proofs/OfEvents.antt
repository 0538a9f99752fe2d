-- The services on events continue the numbers.
use Rattle.kernel_laws.proofs.Prelude.{List, Some, false, true, ℕ, ℤ, ◌∷◌, ◌≡◌, not, Discipline, Mode, At, ListKey, Runner, is_duration, Objects, ApexEvent, Sharing, becomes, has, refuses, Step, message, waiting, HaveDisciplines, May, itself}
use Rattle.std.proofs.Common.{[]}
use Rattle.apex_types.specs.declared.codes.Discipline.TheVariants as discipline
use Rattle.apex_types.specs.declared.codes.ReturnCode.TheVariants as code
use Rattle.apex_types.specs.declared.service.Service.TheVariants as service
use Rattle.kernel_meaning.specs.EventServices.{awaits, create_event, creates, is_created, list, raises, reset_event, set_event, sets, wait_event, waiting_for}
use Rattle.kernel_meaning.specs.Objects.{event, put_event}
use Rattle.kernel_laws.proofs.Shares.{Shares, IsSet, of_shares, becomes_shares, answers_shares, refuses_shares, either_shares, row_shares, after_shares, on_shares, create_shares, each_put, numbered_is}
use Rattle.kernel_laws.proofs.NumberSteps.{blocks_goes, releases_goes}

module _ (d : ListKey → Discipline) (names : List (List ℕ)) where
  abbrev Set : Sharing Objects → Type 0
  Set b = IsSet d names Objects (HaveDisciplines d) b

  abbrev To : May → Sharing Objects → Step (Sharing Objects) → Type 0
  To may b t = Shares d names Objects (HaveDisciplines d) may b t

  put_fits : (b : Sharing Objects) (place : ℕ) (x : ApexEvent) → Set b → discipline.Fifo ≡ d (list place) → HaveDisciplines d (put_event b.shared place x)
  put_fits b place x h k = record {
    semaphores = h.fit.semaphores;
    events = each_put (λ place x. discipline.Fifo ≡ d (list place)) b.shared.events place x h.fit.events k;
    buffers = h.fit.buffers;
    blackboards = h.fit.blackboards;
  }

  pub found_fits : (b : Sharing Objects) (id : ℤ) (f : ℕ × ApexEvent) → Set b → event b.shared id ≡ Some f → (λ (place : ℕ) (x : ApexEvent). discipline.Fifo ≡ d (list place)) f.0 f.1
  found_fits b id f h e = numbered_is (λ place x. discipline.Fifo ≡ d (list place)) b.shared.events id f h.fit.events e

  pub puts : (may : May) (b : Sharing Objects) (place : ℕ) (x : ApexEvent) → Set b → discipline.Fifo ≡ d (list place) → To may b (becomes b (put_event b.shared place x))
  puts may b place x h k = becomes_shares d names Objects (HaveDisciplines d) may b (put_event b.shared place x) h (put_fits b place x h k)

  pub create_event_shares : (may : May) (m : Mode) (b : Sharing Objects) (p : Runner) (name : ℤ) → Set b → To may b (create_event m b p name)
  create_event_shares may m b p name h =
      create_shares d names Objects (HaveDisciplines d) may m b p service.CreateEvent name (event b.shared name) is_created (creates b) h
      (λ f e. puts may b f.0 (record f.1 { created = true }) h (found_fits b name f h e))

  raises_shares : (may : May) (b : Sharing Objects) (place : ℕ) (x : ApexEvent) → Set b → discipline.Fifo ≡ d (list place) → To may b (raises b place x)
  raises_shares may b place x h e =
      after_shares d names Objects (HaveDisciplines d) may b (sets b true place x) _ (puts may b place (record x { up = true }) h e)
      (λ k. of_shares d names Objects (HaveDisciplines d) may _ _ k (releases_goes d names may (waiting b.processes (list place)) b.processes h.named))

  pub set_event_shares : (may : May) (b : Sharing Objects) (p : Runner) (id : ℤ) → Set b → To may b (set_event b p id)
  set_event_shares may b p id h =
      row_shares d names Objects (HaveDisciplines d) may b (refuses b p service.SetEvent) ((not (has (event b.shared id) is_created), code.InvalidParam) ∷ []) _
      (refuses_shares d names Objects (HaveDisciplines d) may b p service.SetEvent h) (after_shares d names Objects (HaveDisciplines d) may b _ _
      (answers_shares d names Objects (HaveDisciplines d) may b p service.SetEvent code.NoError [] h)
      (λ k. on_shares d names Objects (HaveDisciplines d) may b (event b.shared id) (raises b) k (λ f e. raises_shares may b f.0 f.1 k (found_fits b id f k e))))

  pub reset_event_shares : (may : May) (b : Sharing Objects) (p : Runner) (id : ℤ) → Set b → To may b (reset_event b p id)
  reset_event_shares may b p id h =
      row_shares d names Objects (HaveDisciplines d) may b (refuses b p service.ResetEvent) ((not (has (event b.shared id) is_created), code.InvalidParam) ∷ []) _
      (refuses_shares d names Objects (HaveDisciplines d) may b p service.ResetEvent h)
      (after_shares d names Objects (HaveDisciplines d) may b _ _ (answers_shares d names Objects (HaveDisciplines d) may b p service.ResetEvent code.NoError [] h)
      (λ k. on_shares d names Objects (HaveDisciplines d) may b (event b.shared id) (sets b false) k (λ f e. puts may b f.0 (record f.1 { up = false }) k (found_fits b id f k e))))

  awaits_shares : (may : May) (at : At) (b : Sharing Objects) (p : Runner) (limit : ℤ) (place : ℕ) (x : ApexEvent) → Set b → may.begin_to_wait ≡ itself p → discipline.Fifo ≡ d (list place)
      → To may b (awaits at b p limit place x)
  awaits_shares may at b p limit place x h own e =
      either_shares d names Objects (HaveDisciplines d) may b x.up _ _ (answers_shares d names Objects (HaveDisciplines d) may b p service.WaitEvent code.NoError [] h)
      (of_shares d names Objects (HaveDisciplines d) may b _ h (blocks_goes d names at may b.processes p limit (waiting_for place) (message []) e own h.named))

  pub wait_event_shares : (may : May) (at : At) (b : Sharing Objects) (p : Runner) (id : ℤ) (limit : ℤ) → Set b → may.begin_to_wait ≡ itself p → To may b (wait_event at b p id limit)
  wait_event_shares may at b p id limit h own =
      row_shares d names Objects (HaveDisciplines d) may b (refuses b p service.WaitEvent)
      ((not (has (event b.shared id) is_created), code.InvalidParam) ∷ (not (is_duration limit), code.InvalidParam) ∷ []) _
      (refuses_shares d names Objects (HaveDisciplines d) may b p service.WaitEvent h)
      (on_shares d names Objects (HaveDisciplines d) may b (event b.shared id) (awaits at b p limit) h (λ f e. awaits_shares may at b p limit f.0 f.1 h own (found_fits b id f h e)))
