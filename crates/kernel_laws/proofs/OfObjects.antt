-- The services on objects continue the numbers.
use Rattle.kernel_laws.proofs.Prelude.{List, ℕ, ℤ, refl, Discipline, Mode, At, ListKey, Runner, serves_objects, Objects, Sharing, HaveDisciplines, may_by}
use Rattle.apex_types.specs.declared.service.Call.TheVariants as call
use Rattle.apex_types.specs.declared.service.ObjectCall.{ObjectCall}
use Rattle.apex_types.specs.declared.service.ObjectCall.TheVariants as object
use Rattle.kernel_laws.proofs.OfBlackboards.{create_blackboard_shares, display_blackboard_shares, clear_blackboard_shares, read_blackboard_shares}
use Rattle.kernel_laws.proofs.OfBuffers.{create_buffer_shares, send_buffer_shares, receive_buffer_shares}
use Rattle.kernel_laws.proofs.OfEvents.{create_event_shares, set_event_shares, reset_event_shares, wait_event_shares}
use Rattle.kernel_laws.proofs.OfSemaphores.{create_semaphore_shares, wait_semaphore_shares, signal_semaphore_shares}
use Rattle.kernel_laws.proofs.Shares.{Shares, IsSet, get_id_shares, get_status_shares, nothing_shares}

module _ (d : ListKey → Discipline) (names : List (List ℕ)) where
  -- The last clause is for services that only write lines.
  pub serves_objects_shares : (m : Mode) (at : At) (b : Sharing Objects) (p : Runner) (c : ObjectCall) (words : List ℤ) → IsSet d names Objects (HaveDisciplines d) b
      → Shares d names Objects (HaveDisciplines d) (may_by p (call.Object c)) b (serves_objects m at b p c words)
  serves_objects_shares m at b p (object.CreateBuffer name) words h = create_buffer_shares d names (may_by p (call.Object (object.CreateBuffer name))) m b p name h
  serves_objects_shares m at b p (object.SendBuffer id array length limit) words h = send_buffer_shares d names (may_by p (call.Object (object.SendBuffer id array length limit))) at b p id array length limit words h refl
  serves_objects_shares m at b p (object.ReceiveBuffer id array limit) words h = receive_buffer_shares d names (may_by p (call.Object (object.ReceiveBuffer id array limit))) at b p id array limit h refl
  serves_objects_shares m at b p (object.CreateBlackboard name) words h = create_blackboard_shares d names (may_by p (call.Object (object.CreateBlackboard name))) m b p name h
  serves_objects_shares m at b p (object.DisplayBlackboard id array length) words h = display_blackboard_shares d names (may_by p (call.Object (object.DisplayBlackboard id array length))) b p id array length words h
  serves_objects_shares m at b p (object.ReadBlackboard id array limit) words h = read_blackboard_shares d names (may_by p (call.Object (object.ReadBlackboard id array limit))) at b p id array limit h refl
  serves_objects_shares m at b p (object.ClearBlackboard id) words h = clear_blackboard_shares d names (may_by p (call.Object (object.ClearBlackboard id))) b p id h
  serves_objects_shares m at b p (object.CreateSemaphore name) words h = create_semaphore_shares d names (may_by p (call.Object (object.CreateSemaphore name))) m b p name h
  serves_objects_shares m at b p (object.WaitSemaphore id limit) words h = wait_semaphore_shares d names (may_by p (call.Object (object.WaitSemaphore id limit))) at b p id limit h refl
  serves_objects_shares m at b p (object.SignalSemaphore id) words h = signal_semaphore_shares d names (may_by p (call.Object (object.SignalSemaphore id))) b p id h
  serves_objects_shares m at b p (object.CreateEvent name) words h = create_event_shares d names (may_by p (call.Object (object.CreateEvent name))) m b p name h
  serves_objects_shares m at b p (object.SetEvent id) words h = set_event_shares d names (may_by p (call.Object (object.SetEvent id))) b p id h
  serves_objects_shares m at b p (object.ResetEvent id) words h = reset_event_shares d names (may_by p (call.Object (object.ResetEvent id))) b p id h
  serves_objects_shares m at b p (object.WaitEvent id limit) words h = wait_event_shares d names (may_by p (call.Object (object.WaitEvent id limit))) at b p id limit h refl
  serves_objects_shares m at b p c words h = search (get_id_shares, get_status_shares, nothing_shares)
