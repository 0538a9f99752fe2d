-- The services on blackboards continue the numbers.
use Rattle.kernel_laws.proofs.Prelude.{List, None, Option, Some, true, ℕ, ℤ, ◌∷◌, ◌≡◌, not, pos, ArrayVec, Discipline, Mode, At, ListKey, Runner, ArrayPlace, is_duration, Objects, Blackboard, Sharing, becomes, is_large_enough, is_length, has, refuses, Step, first_words, message, waiting, HaveDisciplines, May, itself}
use Rattle.std.proofs.Common.{[]}
use Rattle.std.specs.Prelude.{length}
use Rattle.apex_types.specs.declared.codes.Discipline.TheVariants as discipline
use Rattle.apex_types.specs.declared.codes.ReturnCode.TheVariants as code
use Rattle.apex_types.specs.declared.service.Service.TheVariants as service
use Rattle.kernel_meaning.specs.BlackboardServices.{clear_blackboard, create_blackboard, creates, display_blackboard, displays, is_created, list, read_blackboard, reader, reads, shows}
use Rattle.kernel_meaning.specs.Objects.{blackboard, put_blackboard}
use Rattle.kernel_laws.proofs.Shares.{Shares, IsSet, of_shares, becomes_shares, fills_shares, answers_shares, refuses_shares, row_shares, after_shares, on_shares, create_shares, each_put, numbered_is}
use Rattle.kernel_laws.proofs.NumberSteps.{blocks_goes, give_all_goes}

module _ (d : ListKey → Discipline) (names : List (List ℕ)) where
  abbrev Set : Sharing Objects → Type 0
  Set b = IsSet d names Objects (HaveDisciplines d) b

  abbrev To : May → Sharing Objects → Step (Sharing Objects) → Type 0
  To may b t = Shares d names Objects (HaveDisciplines d) may b t

  put_fits : (b : Sharing Objects) (place : ℕ) (x : Blackboard) → Set b → discipline.Fifo ≡ d (list place) → HaveDisciplines d (put_blackboard b.shared place x)
  put_fits b place x h k = record {
    semaphores = h.fit.semaphores;
    events = h.fit.events;
    buffers = h.fit.buffers;
    blackboards = each_put (λ place x. discipline.Fifo ≡ d (list place)) b.shared.blackboards place x h.fit.blackboards k;
  }

  pub found_fits : (b : Sharing Objects) (id : ℤ) (f : ℕ × Blackboard) → Set b → blackboard b.shared id ≡ Some f → (λ (place : ℕ) (x : Blackboard). discipline.Fifo ≡ d (list place)) f.0 f.1
  found_fits b id f h e = numbered_is (λ place x. discipline.Fifo ≡ d (list place)) b.shared.blackboards id f h.fit.blackboards e

  pub puts : (may : May) (b : Sharing Objects) (place : ℕ) (x : Blackboard) → Set b → discipline.Fifo ≡ d (list place) → To may b (becomes b (put_blackboard b.shared place x))
  puts may b place x h k = becomes_shares d names Objects (HaveDisciplines d) may b (put_blackboard b.shared place x) h (put_fits b place x h k)

  pub create_blackboard_shares : (may : May) (m : Mode) (b : Sharing Objects) (p : Runner) (name : ℤ) → Set b → To may b (create_blackboard m b p name)
  create_blackboard_shares may m b p name h =
      create_shares d names Objects (HaveDisciplines d) may m b p service.CreateBlackboard name (blackboard b.shared name) is_created (creates b) h
      (λ f e. puts may b f.0 (record f.1 { created = true }) h (found_fits b name f h e))

  displays_shares : (may : May) (b : Sharing Objects) (m : ArrayVec ℤ) (place : ℕ) (x : Blackboard) → Set b → discipline.Fifo ≡ d (list place) → To may b (displays b m place x)
  displays_shares may b m place x h e =
      after_shares d names Objects (HaveDisciplines d) may b (shows b (Some m) place x) _ (puts may b place (record x { shown = Some m }) h e)
      (λ k. of_shares d names Objects (HaveDisciplines d) may _ _ k (give_all_goes d names may (waiting b.processes (list place)) m b.processes h.named))

  pub display_blackboard_shares : (may : May) (b : Sharing Objects) (p : Runner) (id : ℤ) (array : ArrayPlace) (length : ℤ) (words : List ℤ) → Set b
      → To may b (display_blackboard b p id array length words)
  display_blackboard_shares may b p id array length words h =
      row_shares d names Objects (HaveDisciplines d) may b (refuses b p service.DisplayBlackboard)
      ((not (has (blackboard b.shared id) is_created), code.InvalidParam) ∷ (not (has (blackboard b.shared id) (λ x. is_length x.row.words array length)), code.InvalidParam) ∷ []) _
      (refuses_shares d names Objects (HaveDisciplines d) may b p service.DisplayBlackboard h)
      (after_shares d names Objects (HaveDisciplines d) may b _ _ (answers_shares d names Objects (HaveDisciplines d) may b p service.DisplayBlackboard code.NoError [] h)
      (λ k. on_shares d names Objects (HaveDisciplines d) may b (blackboard b.shared id) (displays b (message (first_words length words))) k
      (λ f e. displays_shares may b (message (first_words length words)) f.0 f.1 k (found_fits b id f k e))))

  pub clear_blackboard_shares : (may : May) (b : Sharing Objects) (p : Runner) (id : ℤ) → Set b → To may b (clear_blackboard b p id)
  clear_blackboard_shares may b p id h =
      row_shares d names Objects (HaveDisciplines d) may b (refuses b p service.ClearBlackboard) ((not (has (blackboard b.shared id) is_created), code.InvalidParam) ∷ []) _
      (refuses_shares d names Objects (HaveDisciplines d) may b p service.ClearBlackboard h)
      (after_shares d names Objects (HaveDisciplines d) may b _ _ (answers_shares d names Objects (HaveDisciplines d) may b p service.ClearBlackboard code.NoError [] h)
      (λ k. on_shares d names Objects (HaveDisciplines d) may b (blackboard b.shared id) (shows b None) k (λ f e. puts may b f.0 (record f.1 { shown = None }) k (found_fits b id f k e))))

  reads_shares : (may : May) (at : At) (b : Sharing Objects) (p : Runner) (array : ArrayPlace) (limit : ℤ) (place : ℕ) (o : Option (ArrayVec ℤ)) → Set b → may.begin_to_wait ≡ itself p
      → discipline.Fifo ≡ d (list place) → To may b (reads at b p array limit place o)
  reads_shares may at b p array limit place None h own e =
      of_shares d names Objects (HaveDisciplines d) may b _ h (blocks_goes d names at may b.processes p limit (reader place array) (message []) e own h.named)
  reads_shares may at b p array limit place (Some m) h own e =
      after_shares d names Objects (HaveDisciplines d) may b _ _ (answers_shares d names Objects (HaveDisciplines d) may b p service.ReadBlackboard code.NoError
      (pos (length m.items) ∷ []) h) (λ k. fills_shares d names Objects (HaveDisciplines d) may b (Some array) m k)

  pub read_blackboard_shares : (may : May) (at : At) (b : Sharing Objects) (p : Runner) (id : ℤ) (array : ArrayPlace) (limit : ℤ) → Set b → may.begin_to_wait ≡ itself p
      → To may b (read_blackboard at b p id array limit)
  read_blackboard_shares may at b p id array limit h own =
      row_shares d names Objects (HaveDisciplines d) may b (refuses b p service.ReadBlackboard)
      ((not (has (blackboard b.shared id) is_created), code.InvalidParam) ∷ (not (has (blackboard b.shared id) (λ x. is_large_enough x.row.words array)), code.InvalidParam) ∷
      (not (is_duration limit), code.InvalidParam) ∷ []) _ (refuses_shares d names Objects (HaveDisciplines d) may b p service.ReadBlackboard h)
      (on_shares d names Objects (HaveDisciplines d) may b (blackboard b.shared id) (λ place x. reads at b p array limit place x.shown) h
      (λ f e. reads_shares may at b p array limit f.0 f.1.shown h own (found_fits b id f h e)))
