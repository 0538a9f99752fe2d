-- What RECEIVE_BUFFER does with the messages of a buffer.
use Rattle.std.proofs.Common.{◌≡◌, ℕ, zero, suc, ℤ, pos, List, [], ◌∷◌, length, drop, None, refl, ap, sym, rules}
use Rattle.std.specs.Prelude.{Option, Some, slice_get, slice_set}
use Rattle.arrayvec.specs.ArrayVec.{ArrayVec}
use Rattle.apex_types.specs.declared.codes.ReturnCode.TheVariants as code
use Rattle.apex_types.specs.declared.identity.At.{At}
use Rattle.apex_types.specs.declared.identity.Runner.{Runner}
use Rattle.apex_types.specs.declared.process.ProcessStatus.{ProcessStatus}
use Rattle.apex_types.specs.declared.service.ArrayPlace.{ArrayPlace}
use Rattle.apex_types.specs.declared.service.Service.TheVariants as service
use Rattle.kernel_meaning.specs.BufferServices.{receives, receiver, admits, list, with_message}
use Rattle.kernel_meaning.specs.Objects.{Objects, Buffer, put_buffer}
use Rattle.kernel_meaning.specs.Processes.{Processes, released}
use Rattle.kernel_meaning.specs.Sharing.{Sharing, of_processes, answers, becomes}
use Rattle.kernel_meaning.specs.Step.{after, message}
use Rattle.kernel_meaning.specs.Sharing.{blocks, fills, first_waiting, handed_by}
use Rattle.kernel_meaning.specs.Sharing.{both}
use Rattle.sync_objects.specs.Both.{delivers}

-- without a message
pub receives-none : (at : At) (b : Sharing Objects) (p : Runner) (array : ArrayPlace) (limit : ℤ) (place : ℕ) (x : Buffer) (ms : List (ArrayVec ℤ)) → slice_get ms 0 ≡ None → receives at b p array limit place x ms ≡ of_processes b (blocks at b.processes p limit (receiver place x array) (message []))
receives-none at b p array limit place x [] e = refl
receives-none at b p array limit place x (m ∷ ms) e = absurd (search rules)

-- with a message
pub receives-some : (at : At) (b : Sharing Objects) (p : Runner) (array : ArrayPlace) (limit : ℤ) (place : ℕ) (x : Buffer) (m : ArrayVec ℤ) (ms : List (ArrayVec ℤ)) → slice_get ms 0 ≡ Some m → receives at b p array limit place x ms ≡ after (answers b p service.ReceiveBuffer code.NoError (pos (length m.items) ∷ [])) (after (fills b (Some array) m) (admits b place (record x { messages = drop 1 ms }) (first_waiting b.processes (list place))))
receives-some at b p array limit place x m [] e = absurd (search rules)
receives-some at b p array limit place x m (n ∷ ms) e = search rules

set_twice : {X : Type 0} (xs : List X) (place : ℕ) (x y : X) → slice_set (slice_set xs place x) place y ≡ slice_set xs place y
set_twice [] zero x y = refl
set_twice [] (suc place) x y = refl
set_twice (z ∷ xs) zero x y = refl
set_twice (z ∷ xs) (suc place) x y = ap (λ rest. z ∷ rest) (set_twice xs place x y)

-- the buffer stored before makes no difference
pub admits-put : (s : Processes) (o : Objects) (place : ℕ) (x : Buffer) (first : Option (Runner × ProcessStatus)) → admits (both s (put_buffer o place x)) place x first ≡ admits (both s o) place x first
admits-put s o place x None = ap (λ bs. becomes (both s o) (record o { buffers = bs })) (set_twice o.buffers place x x)
admits-put s o place x (Some f) = ap (λ bs. let t = becomes (both s o) (record o { buffers = bs }) in after t (of_processes t.part (released s f.0 f.1 code.NoError))) (set_twice o.buffers place x (with_message x (handed_by s f.0)))

-- the message is taken first
pub receives-taken : (at : At) (s : Processes) (o : Objects) (p : Runner) (array : ArrayPlace) (limit : ℤ) (place : ℕ) (x : Buffer) (m : ArrayVec ℤ) (ms : List (ArrayVec ℤ)) → slice_get ms 0 ≡ Some m → receives at (both s o) p array limit place x ms ≡ delivers (both s (put_buffer o place (record x { messages = drop 1 ms }))) p array place (record x { messages = drop 1 ms }) m
receives-taken at s o p array limit place x m ms e =
    let y : Buffer = record x { messages = drop 1 ms } in
    rw (receives-some at (both s o) p array limit place x m ms e)
    (ap (λ rest. after (answers (both s o) p service.ReceiveBuffer code.NoError (pos (length m.items) ∷ [])) (after (fills (both s o) (Some array) m) rest)) (sym (admits-put s o place y (first_waiting s (list place)))))

pub ruleset receiving = (receives-none, receives-taken)
