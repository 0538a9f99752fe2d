-- A message leaves its port, and leaves the module if the port has a way out.
use Rattle.lone_partition.proofs.Prelude.{◌≡◌, ℕ, List, [], ◌∷◌, Option, Some, None, refl, sym, ap, subst, none-some, At, PortId, Member, leaving, moved, Surroundings, goes, goes_by_way, Sent, IsMade}
use Rattle.std.proofs.Common.{ℤ}
use Rattle.arrayvec.specs.ArrayVec.{ArrayVec}
use Rattle.kernel_meaning.specs.PortServices.{first_message, leaves_first, leaves_of}
use Rattle.kernel_meaning.specs.Kernel.{of_ports_alone}
use Rattle.kernel_meaning.specs.Partition.{Moved, leaves, place_of_port}
use Rattle.kernel_meaning.specs.Objects.{Port, Ports, port_at}
use Rattle.kernel_meaning.specs.Step.{Step, nothing}
use Rattle.isolation.specs.Alone.{sends_found, way_out}
use Rattle.lone_partition.proofs.Written.{then_made}

no_first : (o : Ports) (place : ℕ) (x : Port) (ms : List (ArrayVec ℤ)) → first_message (Some (record x { messages = ms })) ≡ None → leaves_first o place x ms ≡ nothing o
no_first o place x [] h = refl
no_first o place x (m ∷ rest) h = absurd (none-some m (sym h))

none_leaves : (o : Ports) (place : ℕ) (p : Option Port) → first_message p ≡ None → leaves_of o place p ≡ nothing o
none_leaves o place None h = refl
none_leaves o place (Some x) h = no_first o place x x.messages h

-- nothing leaves a port without a message
pub none_leave : {C : Type 0} (at : At) (port : PortId) (x : Member C) → leaving port x ≡ None → leaves at port x ≡ record { world = x.world; lines = [] }
none_leave at port x h = ap (λ (t : Step Ports). moved at x.engine (of_ports_alone x.world.kernel t) x.world) (none_leaves x.world.kernel.ports (place_of_port port) (port_at x.world.kernel.ports (place_of_port port)) h)

module _ {C : Type 0} (s : Surroundings) (at : At) (port : PortId) (x : Member C) where
  -- without a message
  pub none_sent : {now : Member C} {old new : Sent} → None ≡ leaving port x → IsMade (goes (leaves at port) x) now old new → IsMade (sends_found s at port x (leaving port x)) now old new
  none_sent {now = now} {old = old} {new = new} e h =
      subst (λ (o : Option (ArrayVec ℤ)). IsMade (sends_found s at port x o) now old new) e
      (subst (λ (m : Moved C). IsMade (goes (λ y. m) x) now old new) (none_leave at port x (sym e)) h)

  -- with a message, which goes its way
  pub one_sent : {now last : Member C} {old mid new : Sent} (m : ArrayVec ℤ) (way : Option (List ℕ)) → Some m ≡ leaving port x → way ≡ way_out s port
      → IsMade (goes (leaves at port) x) now old mid → IsMade (goes_by_way at m way now) last mid new
      → IsMade (sends_found s at port x (leaving port x)) last old new
  one_sent {now = now} {last = last} {old = old} {mid = mid} {new = new} m way e same h k =
      subst (λ (o : Option (ArrayVec ℤ)). IsMade (sends_found s at port x o) last old new) e
      (then_made (goes_by_way at m (way_out s port)) now refl h
      (subst (λ (w : Option (List ℕ)). IsMade (goes_by_way at m w now) last mid new) same k))
