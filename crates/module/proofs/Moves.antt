-- A message leaves its port, and goes by its channel.
use Rattle.module.proofs.Prelude.{◌≡◌, ℕ, ℤ, List, Option, Some, None, refl, sym, ap, ◌∙◌, ArrayVec, At, PartitionId, PortId, Channel, at_number, Stepped, still, steps, of_member, channel_from, Member, leaves, leaving, Sent, IsMade}
use Rattle.std.proofs.Common.{subst}
use Rattle.kernel_laws.proofs.Quiet.{steps_still}
use Rattle.module_meaning.specs.Module.{goes_by, moves_found}
use Rattle.lone_partition.proofs.Sent.{none_leave}
use Rattle.lone_partition.proofs.Written.{then_made}

-- nothing leaves a port without a message
all_stay : {C : Type 0} (at : At) (port : PortId) (ms : List (Member C)) (n : ℕ) → of_member None (leaving port) (at_number ms n) ≡ None → steps (leaves at port) ms n ≡ still ms
all_stay at port ms n h = steps_still (leaves at port) ms n (λ x e. none_leave at port x (ap (of_member None (leaving port)) (sym e) ∙ h))

module _ {C : Type 0} (channels : List Channel) (at : At) (p : PartitionId) (port : PortId) (ms : List (Member C)) where
  -- no message is there
  pub none_moved : {now : List (Member C)} {old new : Sent} → None ≡ of_member None (leaving port) (at_number ms p.0) → IsMade (steps (leaves at port) ms p.0) now old new
      → IsMade (moves_found channels at p port ms (of_member None (leaving port) (at_number ms p.0))) now old new
  none_moved {now = now} {old = old} {new = new} e h =
      subst (λ (o : Option (ArrayVec ℤ)). IsMade (moves_found channels at p port ms o) now old new) e
      (subst (λ (a : Stepped (List (Member C))). IsMade a now old new) (all_stay at port ms p.0 (sym e)) h)

  -- a message is there, and goes by its channel
  pub one_moved : {now members : List (Member C)} {old mid new : Sent} (m : ArrayVec ℤ) (channel : Option Channel)
      → Some m ≡ of_member None (leaving port) (at_number ms p.0) → channel ≡ channel_from channels p port
      → IsMade (steps (leaves at port) ms p.0) now old mid → IsMade (goes_by at m channel now) members mid new
      → IsMade (moves_found channels at p port ms (of_member None (leaving port) (at_number ms p.0))) members old new
  one_moved {now = now} {members = members} {old = old} {mid = mid} {new = new} m channel e same h k =
      subst (λ (o : Option (ArrayVec ℤ)). IsMade (moves_found channels at p port ms o) members old new) e
      (then_made (goes_by at m (channel_from channels p port)) now refl h
      (subst (λ (c : Option Channel). IsMade (goes_by at m c now) members mid new) same k))
