-- The inputs that the messages of an ended window bring, as they move: a twin of each definition of
-- the moves.
use Rattle.std.specs.Prelude.{ℕ, zero, suc, ◌+◌, ℤ, List, [], ◌++◌, Option, Some, None, length}
use Rattle.isolation.proofs.Prelude.{ArrayVec, At, PartitionId, PortId, Channel, at_number, of_member, channel_from, moves_message, moves_port, ports_from, Member, leaving, messages_to_move, Input, brought_by}

abbrev pub brought_found : List Channel → ℕ → PartitionId → PortId → Option (ArrayVec ℤ) → List Input
brought_found channels p q port None = []
brought_found channels p q port (Some m) = brought_by p m (channel_from channels q port)

abbrev pub brought_message : {C : Type 0} → List Channel → ℕ → PartitionId → PortId → List (Member C) → List Input
brought_message channels p q port members = brought_found channels p q port (of_member None (leaving port) (at_number members q.0))

abbrev pub brought_messages : {C : Type 0} → ℕ → List Channel → ℕ → At → PartitionId → PortId → List (Member C) → List Input
brought_messages zero channels p at q port members = []
brought_messages (suc n) channels p at q port members =
    brought_message channels p q port members ++ brought_messages n channels p at q port (moves_message channels at q port members).state

abbrev pub brought_so_many : {C : Type 0} → List Channel → ℕ → At → PartitionId → PortId → List (Member C) → Option ℕ → List Input
brought_so_many channels p at q port members None = []
brought_so_many channels p at q port members (Some n) = brought_messages n channels p at q port members

abbrev pub brought_port : {C : Type 0} → List Channel → ℕ → At → PartitionId → PortId → List (Member C) → List Input
brought_port channels p at q port members = brought_so_many channels p at q port members (messages_to_move (at_number (ports_from members q.0) port.0))

abbrev pub brought_ports : {C : Type 0} → ℕ → ℕ → List Channel → ℕ → At → PartitionId → List (Member C) → List Input
brought_ports zero number channels p at q members = []
brought_ports (suc n) number channels p at q members =
    brought_port channels p at q (record { 0 = number }) members
    ++ brought_ports n (number + 1) channels p at q (moves_port channels at q (record { 0 = number }) members).state

abbrev pub brought_ended : {C : Type 0} → List Channel → ℕ → At → List (Member C) → Option ℕ → List Input
brought_ended channels p at members None = []
brought_ended channels p at members (Some q) = brought_ports (length (ports_from members q)) 1 channels p at (record { 0 = q }) members
